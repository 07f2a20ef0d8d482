-- A new slice, and what is opened for its groups.
use Rattle.std.proofs.Common.{◌≡◌, ℕ, ◌+◌, ◌*◌, ◌<◌, ◌≤◌, List, [], ◌∷◌, ◌++◌, length, get_or, map, refl, sym, ap, subst, ◌∙◌, arith, ⊎_elim, length-append}
use Rattle.std.specs.Prelude.{All}
use Rattle.std.proofs.Math.Nat.{eq-or-lt_of_le}
use Rattle.std.proofs.Math.Seq.{get_or-append_seam}
use Rattle.std.proofs.lemmas.List.{get_or_append_left, get_or-map, length-map}
use Rattle.std.proofs.lemmas.List.Elements.{All-nil, All-cons, All-append}
use Rattle.schema.specs.Database.{Database}
use Rattle.partitions.specs.Parts.{Part}
use Rattle.requests.specs.declared.group.Group.{Group}
use Rattle.groups.specs.Content.{content}
use Rattle.tickets.specs.Boxes.{TicketBoxView, sharing}
use Rattle.local_locks.specs.LockTableView.{AreBoxesOf, LockTableView, Stand, opened, stand_of}
use Rattle.tickets.specs.LogSeats.{CommittedGroup, committed}
use Rattle.tickets.specs.Openings.{OpenedGroup, box_beside}
use Rattle.tickets.specs.Places.{IsGroupOf, place_of}
use Rattle.tickets.specs.Unset.{no_table}
use Rattle.tickets.proofs.OnePlace.{place_injective, place_inside}
use Rattle.slices.specs.declared.undo_record.UndoRecord.{UndoRecord}
use Rattle.slices.specs.UndoLogs.{UndoLogView, undo_log_view, IsUndoLogOf, IsSlice}
use Rattle.slices.specs.Openings.{AreOpenedFor, IsBoxOf, AreHomeBoxesOf, OpenedGroupsHaveBoxes}

-- ---- the groups of a new slice

-- no step is to be taken back
abbrev pub IsIdle : UndoLogView → Type 0
IsIdle undo_log = undo_log.undo ≡ []

pub none_left : {X : Type 0} (xs : List X) → length xs ≡ 0 → xs ≡ []
none_left [] none = refl
none_left (x ∷ xs) none = absurd (omega (arith, none))

pub idle_more : (undo_logs later : List UndoLogView) (undo_log : UndoLogView) → All IsIdle undo_logs → IsIdle undo_log → later ≡ undo_logs ++ undo_log ∷ [] → All IsIdle later
idle_more undo_logs later undo_log all one longer = subst (All IsIdle) (sym longer) (All-append IsIdle undo_logs (undo_log ∷ []) all (All-cons IsIdle undo_log [] one (All-nil IsIdle)))

-- the boxes of the warehouse's groups are those that its lock table is opened with
pub boxes_at_home : (p : Part) (boxes : List TicketBoxView) → AreHomeBoxesOf p boxes → AreBoxesOf p.tables.scale.warehouses p.home boxes
boxes_at_home p boxes are = record {
  all_there = are.all_there;
  each = λ place d small.
      let is = are.each place d (omega (arith, small, are.all_there)) in
      record { known = is.known; here = is.here; place = is.place; idle = is.has ∙ ap (λ c. sharing (get_or boxes place d).group c 0) (sym (ap (λ b. b.left) is.has)) };
}

-- without steps to undo, the current contents of the groups are those of the rows
pub opened_slice : (warehouses : ℕ) (p : Part) (boxes : List TicketBoxView) (table : LockTableView) (undo_logs : List UndoLogView) → warehouses ≡ p.tables.scale.warehouses → AreHomeBoxesOf p boxes → table ≡ opened p.home boxes
    → length undo_logs ≡ 105 → All IsIdle undo_logs → IsSlice warehouses p table undo_logs
opened_slice warehouses p boxes table undo_logs many are is long idle =
    subst (λ (t : LockTableView). IsSlice warehouses p t undo_logs) (sym is) (record {
      many = sym many;
      home = refl;
      undo_log_view = record { all_there = long; each = each };
    })
  where
    each : (place : ℕ) (s : Stand) (d : UndoLogView) → place < 105 → IsUndoLogOf p (get_or (map stand_of boxes) place s) (get_or undo_logs place d)
    each place s d small =
        let b : TicketBoxView = sharing s.group s.left 0 in
        let inside : place < length boxes = omega (arith, small, are.all_there) in
        let has = (are.each place b inside).has in
        let stand : Stand = stand_of (get_or boxes place b) in
        let none : (get_or undo_logs place d).undo ≡ [] = idle place d (omega (arith, small, long)) in
        let P : List UndoRecord → Type 0 = λ undo. IsUndoLogOf p stand (undo_log_view undo (get_or undo_logs place d).room) in
        let h : P [] = record { left = ap (λ b. b.left) has; back = ap (λ b. b.back) has ∙ sym (ap (λ b. b.left) has); kept = tt } in
        subst (λ (x : Stand). IsUndoLogOf p x (get_or undo_logs place d)) (sym (get_or-map stand_of boxes place b s inside)) (subst P (sym none) h)

-- ---- what is opened

-- of each group whose place is reached, the content was opened
abbrev pub AreOpenedSoFar : Database → List OpenedGroup → Type 0
AreOpenedSoFar t openings = (group : Group) (d : OpenedGroup) → IsGroupOf t.scale.warehouses group → place_of group < length openings → (get_or openings (place_of group) d).content ≡ content t group

pub one_opening_more : (t : Database) (openings later : List OpenedGroup) (group : Group) (opening : OpenedGroup) → AreOpenedSoFar t openings → IsGroupOf t.scale.warehouses group → place_of group ≡ length openings
    → opening.content ≡ content t group → later ≡ openings ++ opening ∷ [] → AreOpenedSoFar t later
one_opening_more t openings later group opening so_far known at has longer = λ other d other_known small.
    let long : length later ≡ length openings + 1 = ap length longer ∙ length-append openings (opening ∷ []) in
    let at_most : place_of other ≤ length openings = omega (arith, small, long) in
    let P : List OpenedGroup → Type 0 = λ l. (get_or l (place_of other) d).content ≡ content t other in
    subst P (sym longer)
    (⊎_elim
    (λ (same : place_of other ≡ length openings).
    let one : group ≡ other = place_injective t.scale.warehouses group other known other_known (at ∙ sym same) in
    ap (λ j. (get_or (openings ++ opening ∷ []) j d).content) same ∙ ap (λ o. o.content) (get_or-append_seam openings opening [] d) ∙ has ∙ ap (content t) one)
    (λ (inside : place_of other < length openings).
    ap (λ o. o.content) (get_or_append_left openings (opening ∷ []) d (place_of other) inside) ∙ so_far other d other_known inside)
    (eq-or-lt_of_le at_most))

pub all_opened : (t : Database) (openings : List OpenedGroup) → length openings ≡ t.scale.warehouses * 105 → AreOpenedSoFar t openings → AreOpenedFor t openings
all_opened t openings long so_far = record {
  all_there = omega (arith, long);
  contents = λ group d known. so_far group d known (let inside = place_inside t.scale.warehouses group known in omega (arith, inside, long));
}

-- ---- the boxes beside the seats

pub opened_groups_have_boxes : OpenedGroupsHaveBoxes
opened_groups_have_boxes t openings seats opened in_place same = record {
  all_there = length-map seats box_beside ∙ in_place.all_there;
  each = each;
}
  where
    each : (place : ℕ) (d : TicketBoxView) → place < length (map box_beside seats) → IsBoxOf t place (get_or (map box_beside seats) place d)
    each place d small =
        let inside : place < length seats = omega (arith, small, length-map seats box_beside) in
        let opened_here : place < length openings = omega (arith, inside, in_place.all_there, opened.all_there) in
        let some : CommittedGroup = committed d.group d.left in
        let none : OpenedGroup = record { committed = no_table; work = no_table; content = d.left } in
        let seat : CommittedGroup = get_or seats place some in
        let known = in_place.at_places.groups place some inside in
        let at : place_of seat.group ≡ place = in_place.at_places.places place some inside in
        let has : seat.content ≡ content t seat.group =
        sym (get_or-map (λ (s : CommittedGroup). s.content) seats place some d.left inside) ∙ ap (λ l. get_or l place d.left) same
        ∙ get_or-map (λ (o : OpenedGroup). o.content) openings place none d.left opened_here
        ∙ ap (λ j. (get_or openings j none).content) (sym at) ∙ opened.contents seat.group none known in
        subst (IsBoxOf t place) (sym (get_or-map box_beside seats place some d inside))
        (record { known = known; place = at; has = ap (λ c. sharing seat.group c 0) has })
