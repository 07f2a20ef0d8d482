-- What each call of a slice keeps.
use Rattle.std.proofs.Common.{◌≡◌, ℕ, ◌<◌, List, [], ◌∷◌, ◌++◌, get_or, set, map, refl, sym, ap, subst, ◌∙◌, arith}
use Rattle.std.specs.Prelude.{Contains}
use Rattle.std.specs.List.Sorted.{IsPermutation}
use Rattle.std.proofs.lemmas.List.Elements.{All-cons, All-nil}
use Rattle.std.proofs.lemmas.List.Sorted.{Contains-permutation, IsPermutation-sym}
use Rattle.partitions.specs.Parts.{Part}
use Rattle.requests.specs.declared.group.Group.{Group}
use Rattle.groups.specs.Content.{Content, content}
use Rattle.groups.specs.Laws.{ChangesOneGroup}
use Rattle.groups.specs.Groups.{warehouse_of}
use Rattle.groups.specs.declared.group_wants.Mode.TheVariants.{Exclusive}
use Rattle.tickets.specs.Claims.{ClaimView, leaving}
use Rattle.tickets.specs.Laws.{IsWrite}
use Rattle.tickets.specs.Places.{IsGroupOf, place_in_warehouse}
use Rattle.tickets.proofs.Committed.{write_keeps}
use Rattle.local_locks.specs.Asking.{AreTogether, IsSettled, held_by, kept_after, left_after, leaving_in}
use Rattle.local_locks.specs.Laws.{NoneConflict}
use Rattle.local_locks.specs.LockTableView.{AreStandsOf, HeldClaim, LockTableView, Stand, back_in, left_in}
use Rattle.local_locks.proofs.Keeping.{returns_keep}
use Rattle.local_locks.proofs.Left.{others_left}
use Rattle.local_locks.proofs.Members.{contains_here}
use Rattle.slices.specs.declared.undo_record.UndoRecord.{UndoRecord}
use Rattle.slices.specs.UndoLogs.{UndoLogView, slice_view, AreUndoLogsOf, IsUndoLogOf, IsSlice}
use Rattle.slices.specs.SliceView.{at_home, free_at, standing, SliceKeeps}
use Rattle.slices.specs.Undo.{all_put_back_in, AreKept, ChangesGroup, IsStep}
use Rattle.slices.proofs.UndoLogs.{back_content, forgotten, kept_elsewhere, left_content, left_elsewhere, one_undo_log, same_undo_log, stand_at, stepped, undone}
use Rattle.slices.proofs.Homes.{place_known}
use Rattle.slices.proofs.Steps.{no_change}

-- ---- a write

-- the same claims are out, and the claim leaves what the group has now
wrote : (p q : Part) (table later : LockTableView) (was now : ClaimView) (left : Content) (change : Content → Content) → later.holdings ≡ table.holdings → later.waiters ≡ table.waiters
    → was.mode ≡ Exclusive → now ≡ leaving was left → left ≡ content q.tables was.group → ChangesGroup was.group change p q
    → SliceKeeps (was ∷ []) (slice_view p table) (now ∷ []) (slice_view q later)
wrote p q table later was now left change same_holdings same_waiters exclusive leaves own changes =
    let writes : IsWrite was now (standing (slice_view p table)) (standing (slice_view q later)) = record {
      exclusive = exclusive;
      claim = leaves ∙ ap (leaving was) (sym (ap (λ c. c.left) leaves));
      rows = sym own ∙ sym (ap (λ c. c.left) leaves);
      others = changes.contents.elsewhere;
      free = λ group. ap (λ (hs : List HeldClaim). free_at hs group) same_holdings;
    } in
    let held : map held_by (now ∷ []) ≡ map held_by (was ∷ []) = ap (λ (c : ClaimView). held_by c ∷ []) leaves in
    record {
      committed = write_keeps (at_home p.home) was now (standing (slice_view p table)) (standing (slice_view q later)) writes;
      holdings = λ others h. subst (λ (hs : List HeldClaim). IsPermutation hs (map held_by (now ∷ []) ++ others)) (sym same_holdings) (subst (λ (hs : List HeldClaim). IsPermutation table.holdings (hs ++ others)) (sym held) h);
      waiters = same_waiters;
      home = changes.home;
      scale = changes.scale;
      items = changes.items;
    }

-- what a step, or an undo, makes of the slice and of the claim
pub record IsWritten (warehouses : ℕ) (p q : Part) (table later : LockTableView) (undo_logs : List UndoLogView) (was now : ClaimView) (left : Content) : Type 0 where
  pub invariant : IsSlice warehouses q later undo_logs
  pub claim : now ≡ leaving was left
  pub keeps : SliceKeeps (was ∷ []) (slice_view p table) (now ∷ []) (slice_view q later)
  pub rows : ChangesOneGroup was.group (λ before. left) p.tables q.tables

-- the slice after the rows of a group changed, and its contents, and its undo log
still_slice : (warehouses : ℕ) (p q : Part) (table later : LockTableView) (undo_logs : List UndoLogView) (place : ℕ) (next : UndoLogView) (group : Group) (left : Content) (change : Content → Content) → IsSlice warehouses p table undo_logs
    → AreStandsOf warehouses table.w_id table.stands → IsGroupOf warehouses group → warehouse_of group ≡ p.home → place ≡ place_in_warehouse group → ChangesGroup group change p q → later ≡ leaving_in table group left
    → ((d : Stand) → IsUndoLogOf q (left_after group left (get_or table.stands place d)) next) → IsSlice warehouses q later (set undo_logs place next)
still_slice warehouses p q table later undo_logs place next group left change is stands known near at changes leaves own = record {
  many = ap (λ s. s.warehouses) changes.scale ∙ is.many;
  home = ap (λ (t : LockTableView). t.w_id) leaves ∙ is.home ∙ sym changes.home;
  undo_log_view = subst (λ (t : LockTableView). AreUndoLogsOf q t.stands (set undo_logs place next)) (sym leaves)
      (one_undo_log warehouses table.w_id p q table.stands undo_logs group place next change (left_after group left) stands is.undo_log_view known (near ∙ sym is.home) at changes (left_elsewhere group left) own);
}

-- a step under an exclusive claim, with what takes it back, once there was made room for it
pub put_keeps : (warehouses : ℕ) (p q : Part) (table later : LockTableView) (undo_logs : List UndoLogView) (place : ℕ) (undo_log roomy next : UndoLogView) (was now : ClaimView) (own : Group) (kept : UndoRecord) (change : Content → Content)
    → IsSlice warehouses p table undo_logs → AreStandsOf warehouses table.w_id table.stands → IsGroupOf warehouses was.group → warehouse_of was.group ≡ p.home → place ≡ place_in_warehouse was.group → undo_log ≡ get_or undo_logs place undo_log
    → roomy.undo ≡ undo_log.undo → IsStep was.group change kept p q → own ≡ was.group → was.mode ≡ Exclusive → was.left ≡ left_in table.stands was.group
    → now ≡ leaving was (content q.tables own) → later ≡ leaving_in table was.group (content q.tables own) → next.undo ≡ roomy.undo ++ kept ∷ [] → IsWritten warehouses p q table later (set undo_logs place next) was now (change was.left)
put_keeps warehouses p q table later undo_logs place undo_log roomy next was now own kept change is stands known near at found same_undo step same_group exclusive same_left leaves table_leaves undo =
    let home : warehouse_of was.group ≡ table.w_id = near ∙ sym is.home in
    let before : was.left ≡ content p.tables was.group = same_left ∙ left_content warehouses table.w_id p table.stands undo_logs was.group stands is.undo_log_view known home in
    let has : content q.tables own ≡ content q.tables was.group = ap (content q.tables) same_group in
    let small : place < 105 = omega (arith, place_known warehouses was.group known, at) in
    let next_here : (d : Stand) → IsUndoLogOf q (left_after was.group (content q.tables own) (get_or table.stands place d)) next = λ d.
    let stand = get_or table.stands place d in
    let there = stand_at warehouses table.w_id table.stands was.group place d stands known home at in
    let h : IsUndoLogOf p stand undo_log = subst (IsUndoLogOf p stand) (sym found) (is.undo_log_view.each place d undo_log small) in
    stepped p q was.group stand undo_log next kept change (content q.tables own) h there.1 step has (undo ∙ ap (λ u. u ++ kept ∷ []) same_undo) in
    record {
      invariant = still_slice warehouses p q table later undo_logs place next was.group (content q.tables own) change is stands known near at step.changes table_leaves next_here;
      claim = leaves ∙ ap (leaving was) (has ∙ step.changes.contents.here ∙ ap change (sym before));
      keeps = wrote p q table later was now (content q.tables own) change (ap (λ (t : LockTableView). t.holdings) table_leaves) (ap (λ (t : LockTableView). t.waiters) table_leaves) exclusive leaves has step.changes;
      rows = record { here = step.changes.contents.here ∙ ap change (sym before); elsewhere = step.changes.contents.elsewhere };
    }

-- only room was made
pub room_keeps : (warehouses : ℕ) (p : Part) (table : LockTableView) (undo_logs : List UndoLogView) (group : Group) (place : ℕ) (undo_log roomy : UndoLogView) → IsSlice warehouses p table undo_logs → IsGroupOf warehouses group → place ≡ place_in_warehouse group
    → undo_log ≡ get_or undo_logs place undo_log → roomy.undo ≡ undo_log.undo → IsSlice warehouses p table (set undo_logs place roomy)
room_keeps warehouses p table undo_logs group place undo_log roomy is known at found same =
    record { many = is.many; home = is.home; undo_log_view = same_undo_log p table.stands undo_logs place undo_log roomy is.undo_log_view (omega (arith, place_known warehouses group known, at)) found same }

-- the steps of a group can be taken back
pub kept_there : (warehouses : ℕ) (p : Part) (table : LockTableView) (undo_logs : List UndoLogView) (place : ℕ) (undo_log : UndoLogView) (group : Group) → IsSlice warehouses p table undo_logs → AreStandsOf warehouses table.w_id table.stands
    → IsGroupOf warehouses group → warehouse_of group ≡ p.home → place ≡ place_in_warehouse group → undo_log ≡ get_or undo_logs place undo_log → AreKept p.tables.scale group undo_log.undo (content p.tables group)
kept_there warehouses p table undo_logs place undo_log group is stands known near at found =
    let some : Stand = record { group = group; left = content p.tables group; back = content p.tables group } in
    let there = stand_at warehouses table.w_id table.stands group place some stands known (near ∙ sym is.home) at in
    let h : IsUndoLogOf p (get_or table.stands place some) undo_log = subst (IsUndoLogOf p (get_or table.stands place some)) (sym found) (is.undo_log_view.each place some undo_log there.0) in
    subst (λ (g : Group). AreKept p.tables.scale g undo_log.undo (content p.tables g)) there.1 (subst (AreKept p.tables.scale (get_or table.stands place some).group undo_log.undo) h.left h.kept)

-- all that was done under an exclusive claim is taken back
pub undo_keeps : (warehouses : ℕ) (p q : Part) (table later : LockTableView) (undo_logs : List UndoLogView) (place : ℕ) (undo_log next : UndoLogView) (was now : ClaimView) → IsSlice warehouses p table undo_logs → AreStandsOf warehouses table.w_id table.stands
    → IsGroupOf warehouses was.group → warehouse_of was.group ≡ p.home → place ≡ place_in_warehouse was.group → undo_log ≡ get_or undo_logs place undo_log → ChangesGroup was.group (all_put_back_in undo_log.undo) p q → was.mode ≡ Exclusive
    → was.back ≡ back_in table.stands was.group → now ≡ leaving was was.back → later ≡ leaving_in table was.group was.back → next.undo ≡ [] → IsWritten warehouses p q table later (set undo_logs place next) was now was.back
undo_keeps warehouses p q table later undo_logs place undo_log next was now is stands known near at found changes exclusive same leaves table_leaves undo =
    let home : warehouse_of was.group ≡ table.w_id = near ∙ sym is.home in
    let back = back_content warehouses table.w_id p table.stands undo_logs was.group place undo_log stands is.undo_log_view known home at found in
    let own : was.back ≡ content q.tables was.group = same ∙ back ∙ sym changes.contents.here in
    let small : place < 105 = omega (arith, place_known warehouses was.group known, at) in
    let next_here : (d : Stand) → IsUndoLogOf q (left_after was.group was.back (get_or table.stands place d)) next = λ d.
    let stand = get_or table.stands place d in
    let there = stand_at warehouses table.w_id table.stands was.group place d stands known home at in
    let h : IsUndoLogOf p stand undo_log = subst (IsUndoLogOf p stand) (sym found) (is.undo_log_view.each place d undo_log small) in
    let again : was.back ≡ stand.back = same ∙ back ∙ sym (h.back ∙ ap (all_put_back_in undo_log.undo) (h.left ∙ ap (content p.tables) there.1)) in
    undone p q was.group stand undo_log next was.back h there.1 changes own again undo in
    record {
      invariant = still_slice warehouses p q table later undo_logs place next was.group was.back (all_put_back_in undo_log.undo) is stands known near at changes table_leaves next_here;
      claim = leaves;
      keeps = wrote p q table later was now was.back (all_put_back_in undo_log.undo) (ap (λ (t : LockTableView). t.holdings) table_leaves) (ap (λ (t : LockTableView). t.waiters) table_leaves) exclusive leaves own changes;
      rows = record { here = sym own; elsewhere = changes.contents.elsewhere };
    }

-- ---- a claim is taken back

pub back_slice : (warehouses : ℕ) (p : Part) (table later : LockTableView) (undo_logs : List UndoLogView) (place : ℕ) (undo_log next : UndoLogView) (claim : ClaimView) → IsSlice warehouses p table undo_logs → AreStandsOf warehouses table.w_id table.stands
    → IsGroupOf warehouses claim.group → warehouse_of claim.group ≡ p.home → place ≡ place_in_warehouse claim.group → undo_log ≡ get_or undo_logs place undo_log → next.undo ≡ []
    → later.stands ≡ map (kept_after claim) table.stands → later.w_id ≡ table.w_id → IsSlice warehouses p later (set undo_logs place next)
back_slice warehouses p table later undo_logs place undo_log next claim is stands known near at found undo kept same =
    let home : warehouse_of claim.group ≡ table.w_id = near ∙ sym is.home in
    let small : place < 105 = omega (arith, place_known warehouses claim.group known, at) in
    let next_here : (d : Stand) → IsUndoLogOf p (kept_after claim (get_or table.stands place d)) next = λ d.
    let stand = get_or table.stands place d in
    let there = stand_at warehouses table.w_id table.stands claim.group place d stands known home at in
    let h : IsUndoLogOf p stand undo_log = subst (IsUndoLogOf p stand) (sym found) (is.undo_log_view.each place d undo_log small) in
    forgotten p claim stand undo_log next h there.1 undo in
    record {
      many = is.many;
      home = same ∙ is.home;
      undo_log_view = subst (λ (ss : List Stand). AreUndoLogsOf p ss (set undo_logs place next)) (sym kept)
          (one_undo_log warehouses table.w_id p p table.stands undo_logs claim.group place next (λ c. c) (kept_after claim) stands is.undo_log_view known home at (no_change claim.group p) (kept_elsewhere claim) next_here);
    }

pub back_keeps : (p : Part) (table later : LockTableView) (claim : ClaimView) → NoneConflict table.holdings → IsSettled claim → AreTogether table.holdings (held_by claim ∷ []) later.holdings
    → (Contains table.holdings (held_by claim) → IsPermutation table.holdings (held_by claim ∷ later.holdings)) → later.waiters ≡ table.waiters → SliceKeeps (claim ∷ []) (slice_view p table) [] (slice_view p later)
back_keeps p table later claim none settled together held same = record {
  committed = returns_keep (at_home p.home) (content p.tables) (claim ∷ []) table.holdings later.holdings together none (All-cons IsSettled claim [] settled (All-nil IsSettled));
  holdings = λ others h.
      let back = IsPermutation-sym table.holdings (held_by claim ∷ others) h in
      let out = Contains-permutation (held_by claim ∷ others) table.holdings (held_by claim) back (contains_here (held_by claim) others) in
      others_left table.holdings (held_by claim ∷ []) later.holdings others (held out) h;
  waiters = same;
  home = refl;
  scale = refl;
  items = refl;
}
