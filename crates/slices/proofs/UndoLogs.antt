-- One group changes, with the rows of it.
use Rattle.std.proofs.Common.{◌≡◌, ◌≢◌, ℕ, ◌<◌, Bool, true, false, List, [], ◌∷◌, ◌++◌, length, get_or, set, map, refl, sym, ap, subst, ◌∙◌, arith, ⊎_elim, length-set}
use Rattle.std.specs.Prelude.{◌==◌, if◌then◌else◌}
use Rattle.std.proofs.lemmas.Bool.Decides.{eqb_tells}
use Rattle.std.proofs.lemmas.List.{get_or-map, get_or-set_same, get_or-set_other}
use Rattle.schema.specs.declared.scale.Scale.{Scale}
use Rattle.partitions.specs.Parts.{Part}
use Rattle.requests.specs.declared.group.Group.{Group}
use Rattle.groups.specs.Content.{Content, content}
use Rattle.groups.specs.Groups.{is_same, warehouse_of}
use Rattle.groups.proofs.SameGroups.{is_same-itself, is_same-other}
use Rattle.tickets.specs.Claims.{ClaimView}
use Rattle.tickets.specs.Places.{IsGroupOf, place_in_warehouse}
use Rattle.tickets.specs.Unset.{nothing}
use Rattle.local_locks.specs.Asking.{kept_after, left_after}
use Rattle.local_locks.specs.LockTableView.{AreStandsOf, Stand, back_in, left_in}
use Rattle.local_locks.proofs.Covering.{one_group}
use Rattle.slices.specs.declared.undo_record.UndoRecord.{UndoRecord}
use Rattle.slices.specs.UndoLogs.{UndoLogView, undo_log_view, IsUndoLogOf, AreUndoLogsOf}
use Rattle.slices.specs.Undo.{put_back_in, all_put_back_in, AreKept, ChangesGroup, IsStep}
use Rattle.slices.proofs.Homes.{place_known}
use Rattle.slices.proofs.Steps.{all_put_back_in-more, AreKept-more}

-- ---- the group of a place

-- the contents at a group's place are the group's
pub stand_at : (warehouses home : ℕ) (stands : List Stand) (group : Group) (place : ℕ) (d : Stand) → AreStandsOf warehouses home stands → IsGroupOf warehouses group → warehouse_of group ≡ home → place ≡ place_in_warehouse group
    → (place < 105) × ((get_or stands place d).group ≡ group)
stand_at warehouses home stands group place d are known near at =
    let small : place < 105 = omega (arith, place_known warehouses group known, at) in
    let is = are.each place d small in
    (small, one_group warehouses (get_or stands place d).group group is.known known (is.here ∙ sym near) (is.place ∙ at))

unset : Group → Stand
unset group = record { group = group; left = nothing; back = nothing }

-- the table has in a group what the rows have
pub left_content : (warehouses home : ℕ) (p : Part) (stands : List Stand) (undo_logs : List UndoLogView) (group : Group) → AreStandsOf warehouses home stands → AreUndoLogsOf p stands undo_logs → IsGroupOf warehouses group → warehouse_of group ≡ home
    → left_in stands group ≡ content p.tables group
unfolding unset
left_content warehouses home p stands undo_logs group are undo_logs_are known near =
    let place = place_in_warehouse group in
    let at = stand_at warehouses home stands group place (unset group) are known near refl in
    let own = undo_logs_are.each place (unset group) (undo_log_view [] 0) at.0 in
    own.left ∙ ap (content p.tables) at.1

-- and what is there again is what taking back all steps makes of that
pub back_content : (warehouses home : ℕ) (p : Part) (stands : List Stand) (undo_logs : List UndoLogView) (group : Group) (place : ℕ) (undo_log : UndoLogView) → AreStandsOf warehouses home stands → AreUndoLogsOf p stands undo_logs → IsGroupOf warehouses group
    → warehouse_of group ≡ home → place ≡ place_in_warehouse group → undo_log ≡ get_or undo_logs place undo_log → back_in stands group ≡ all_put_back_in undo_log.undo (content p.tables group)
unfolding unset
back_content warehouses home p stands undo_logs group place undo_log are undo_logs_are known near at is =
    let own_place = place_in_warehouse group in
    let there = stand_at warehouses home stands group own_place (unset group) are known near refl in
    let own = undo_logs_are.each own_place (unset group) undo_log there.0 in
    let same : get_or undo_logs own_place undo_log ≡ undo_log = ap (λ (n : ℕ). get_or undo_logs n undo_log) (sym at) ∙ sym is in
    own.back ∙ (λ i. all_put_back_in (same i).undo ((own.left ∙ ap (content p.tables) there.1) i))

-- ---- one undo log makes way for another

-- The rows of one group change, and with them its contents and its undo log; the rows of all other groups are
-- unchanged, and so are their contents and their undo logs.
pub one_undo_log : (warehouses home : ℕ) (p q : Part) (stands : List Stand) (undo_logs : List UndoLogView) (group : Group) (place : ℕ) (next : UndoLogView) (change : Content → Content) (stand_change : Stand → Stand)
    → AreStandsOf warehouses home stands → AreUndoLogsOf p stands undo_logs → IsGroupOf warehouses group → warehouse_of group ≡ home → place ≡ place_in_warehouse group → ChangesGroup group change p q
    → ((stand : Stand) → stand.group ≢ group → stand_change stand ≡ stand) → ((d : Stand) → IsUndoLogOf q (stand_change (get_or stands place d)) next)
    → AreUndoLogsOf q (map stand_change stands) (set undo_logs place next)
one_undo_log warehouses home p q stands undo_logs group place next change stand_change are undo_logs_are known near at changes others own = record {
  all_there = length-set undo_logs place next ∙ undo_logs_are.all_there;
  each = each;
}
  where
    stays : (stand : Stand) (g : UndoLogView) → stand.group ≢ group → IsUndoLogOf p stand g → IsUndoLogOf q stand g
    stays stand g apart h = record {
      left = h.left ∙ sym (changes.contents.elsewhere stand.group apart);
      back = h.back;
      kept = subst (λ (s : Scale). AreKept s stand.group g.undo stand.left) (sym changes.scale) h.kept;
    }

    each : (k : ℕ) (s : Stand) (d : UndoLogView) → k < 105 → IsUndoLogOf q (get_or (map stand_change stands) k s) (get_or (set undo_logs place next) k d)
    each k s d small =
        let inside : k < length stands = omega (arith, small, are.all_there) in
        let mapped : get_or (map stand_change stands) k s ≡ stand_change (get_or stands k s) = get_or-map stand_change stands k s s inside in
        ⊎_elim
        (λ (same : ((k == place) ≡ true) × (k ≡ place)).
        let here : place < length undo_logs = omega (arith, small, same.1, undo_logs_are.all_there) in
        let P : ℕ → Type 0 = λ j. IsUndoLogOf q (stand_change (get_or stands j s)) (get_or (set undo_logs place next) j d) in
        subst (λ (x : Stand). IsUndoLogOf q x (get_or (set undo_logs place next) k d)) (sym mapped)
        (subst P (sym same.1) (subst (IsUndoLogOf q (stand_change (get_or stands place s))) (sym (get_or-set_same undo_logs place next d here)) (own s))))
        (λ (other : ((k == place) ≡ false) × (k ≢ place)).
        let is = are.each k s small in
        let apart : (get_or stands k s).group ≢ group = λ e. other.1 (sym is.place ∙ ap place_in_warehouse e ∙ sym at) in
        let same : get_or (map stand_change stands) k s ≡ get_or stands k s = mapped ∙ others (get_or stands k s) apart in
        subst (λ (x : Stand). IsUndoLogOf q x (get_or (set undo_logs place next) k d)) (sym same)
        (subst (IsUndoLogOf q (get_or stands k s)) (sym (get_or-set_other undo_logs place k next d other.1)) (stays (get_or stands k s) (get_or undo_logs k d) apart (undo_logs_are.each k s d small))))
        (eqb_tells k place)

-- the same rows, and the same steps are to be taken back
pub same_undo_log : (p : Part) (stands : List Stand) (undo_logs : List UndoLogView) (place : ℕ) (undo_log next : UndoLogView) → AreUndoLogsOf p stands undo_logs → place < 105 → undo_log ≡ get_or undo_logs place undo_log → next.undo ≡ undo_log.undo
    → AreUndoLogsOf p stands (set undo_logs place next)
same_undo_log p stands undo_logs place undo_log next are here is same = record {
  all_there = length-set undo_logs place next ∙ are.all_there;
  each = each;
}
  where
    own : (s : Stand) → IsUndoLogOf p (get_or stands place s) next
    own s =
        let h : IsUndoLogOf p (get_or stands place s) undo_log = subst (IsUndoLogOf p (get_or stands place s)) (sym is) (are.each place s undo_log here) in
        let P : List UndoRecord → Type 0 = λ undo. IsUndoLogOf p (get_or stands place s) (undo_log_view undo next.room) in
        let again : P undo_log.undo = record { left = h.left; back = h.back; kept = h.kept } in
        subst P (sym same) again

    each : (k : ℕ) (s : Stand) (d : UndoLogView) → k < 105 → IsUndoLogOf p (get_or stands k s) (get_or (set undo_logs place next) k d)
    each k s d small =
        ⊎_elim
        (λ (same : ((k == place) ≡ true) × (k ≡ place)).
        let inside : place < length undo_logs = omega (arith, here, are.all_there) in
        let P : ℕ → Type 0 = λ j. IsUndoLogOf p (get_or stands j s) (get_or (set undo_logs place next) j d) in
        subst P (sym same.1) (subst (IsUndoLogOf p (get_or stands place s)) (sym (get_or-set_same undo_logs place next d inside)) (own s)))
        (λ (other : ((k == place) ≡ false) × (k ≢ place)). subst (IsUndoLogOf p (get_or stands k s)) (sym (get_or-set_other undo_logs place k next d other.1)) (are.each k s d small))
        (eqb_tells k place)

-- ---- the group's contents after that

-- something else is left
left_here : (group : Group) (left : Content) (stand : Stand) → stand.group ≡ group → left_after group left stand ≡ record { group = stand.group; left = left; back = stand.back }
left_here group left stand same =
    let test : is_same stand.group group ≡ true = ap (λ (g : Group). is_same g group) same ∙ is_same-itself group in
    ap (λ (b : Bool). record { group = stand.group; left = if b then left else stand.left; back = stand.back }) test

pub left_elsewhere : (group : Group) (left : Content) (stand : Stand) → stand.group ≢ group → left_after group left stand ≡ stand
left_elsewhere group left stand apart =
    let test : is_same stand.group group ≡ false = is_same-other stand.group group (λ e. apart (sym e)) in
    ap (λ (b : Bool). record { group = stand.group; left = if b then left else stand.left; back = stand.back }) test

-- a step was done under an exclusive claim, and what takes it back is kept
pub stepped : (p q : Part) (group : Group) (stand : Stand) (undo_log next : UndoLogView) (kept : UndoRecord) (change : Content → Content) (left : Content) → IsUndoLogOf p stand undo_log → stand.group ≡ group → IsStep group change kept p q
    → left ≡ content q.tables group → next.undo ≡ undo_log.undo ++ kept ∷ [] → IsUndoLogOf q (left_after group left stand) next
stepped p q group stand undo_log next kept change left own same step is undo =
    let step_here : IsStep stand.group change kept p q = subst (λ (g : Group). IsStep g change kept p q) (sym same) step in
    let now : Content = content q.tables stand.group in
    let again : stand.left ≡ put_back_in kept now = own.left ∙ sym step_here.back in
    let P : List UndoRecord → Type 0 = λ undo. IsUndoLogOf q (record { group = stand.group; left = now; back = stand.back }) (undo_log_view undo next.room) in
    let h : P (undo_log.undo ++ kept ∷ []) = record {
      left = refl;
      back = own.back ∙ ap (all_put_back_in undo_log.undo) again ∙ sym (all_put_back_in-more undo_log.undo kept now);
      kept = AreKept-more q.tables.scale stand.group undo_log.undo kept now step_here.own step_here.can
          (subst (λ (s : Scale). AreKept s stand.group undo_log.undo (put_back_in kept now)) (sym step_here.changes.scale) (subst (AreKept p.tables.scale stand.group undo_log.undo) again own.kept));
    } in
    let left_is : left ≡ now = is ∙ ap (content q.tables) (sym same) in
    subst (λ (x : Stand). IsUndoLogOf q x next) (sym (left_here group left stand same ∙ ap (λ (c : Content). record { group = stand.group; left = c; back = stand.back }) left_is)) (subst P (sym undo) h)

-- all steps are taken back
pub undone : (p q : Part) (group : Group) (stand : Stand) (undo_log next : UndoLogView) (left : Content) → IsUndoLogOf p stand undo_log → stand.group ≡ group → ChangesGroup group (all_put_back_in undo_log.undo) p q
    → left ≡ content q.tables group → left ≡ stand.back → next.undo ≡ [] → IsUndoLogOf q (left_after group left stand) next
undone p q group stand undo_log next left own same changes is back undo =
    let P : List UndoRecord → Type 0 = λ undo. IsUndoLogOf q (record { group = stand.group; left = left; back = stand.back }) (undo_log_view undo next.room) in
    let h : P [] = record { left = is ∙ ap (content q.tables) (sym same); back = sym back; kept = tt } in
    subst (λ (x : Stand). IsUndoLogOf q x next) (sym (left_here group left stand same)) (subst P (sym undo) h)

-- a claim is back
pub kept_elsewhere : (claim : ClaimView) (stand : Stand) → stand.group ≢ claim.group → kept_after claim stand ≡ stand
kept_elsewhere claim stand apart =
    let test : is_same stand.group claim.group ≡ false = is_same-other stand.group claim.group (λ e. apart (sym e)) in
    ap (λ (b : Bool). record { group = stand.group; left = stand.left; back = if b then stand.left else stand.back }) test

pub forgotten : (p : Part) (claim : ClaimView) (stand : Stand) (undo_log next : UndoLogView) → IsUndoLogOf p stand undo_log → stand.group ≡ claim.group → next.undo ≡ [] → IsUndoLogOf p (kept_after claim stand) next
forgotten p claim stand undo_log next own same undo =
    let test : is_same stand.group claim.group ≡ true = ap (λ (g : Group). is_same g claim.group) same ∙ is_same-itself claim.group in
    let P : List UndoRecord → Type 0 = λ undo. IsUndoLogOf p (record { group = stand.group; left = stand.left; back = stand.left }) (undo_log_view undo next.room) in
    let h : P [] = record { left = own.left; back = refl; kept = tt } in
    let is : kept_after claim stand ≡ record { group = stand.group; left = stand.left; back = stand.left } =
    ap (λ (b : Bool). record { group = stand.group; left = stand.left; back = if b then stand.left else stand.back }) test in
    subst (λ (x : Stand). IsUndoLogOf p x next) (sym is) (subst P (sym undo) h)
