-- What a slice answers, as its lock table does.
use Rattle.std.proofs.Common.{◌≡◌, ℕ, ◌≤◌, List, [], ◌∷◌, ◌++◌, get_or, map, refl, sym, ap, subst, ◌∙◌, arith}
use Rattle.std.specs.Prelude.{All}
use Rattle.std.specs.List.Sorted.{IsPermutation}
use Rattle.std.proofs.lemmas.List.{map-append}
use Rattle.std.proofs.lemmas.List.Elements.{All-head, All-map}
use Rattle.std.proofs.lemmas.List.Sorted.{All-permutation, IsPermutation-append_right, IsPermutation-map, IsPermutation-trans}
use Rattle.partitions.specs.Parts.{Part}
use Rattle.requests.specs.declared.group.Group.{Group}
use Rattle.requests.specs.declared.group.Group.TheVariants.{Warehouse}
use Rattle.groups.specs.Content.{content}
use Rattle.groups.specs.Groups.{warehouse_of}
use Rattle.groups.specs.declared.group_wants.Mode.{Mode}
use Rattle.groups.specs.declared.group_wants.GroupWant.{GroupWant}
use Rattle.groups.specs.declared.wants.Want.{Want}
use Rattle.tickets.specs.Claims.{ClaimView, fresh}
use Rattle.tickets.specs.Places.{IsGroupOf, place_in_warehouse}
use Rattle.tickets.specs.Unset.{nothing}
use Rattle.tickets.proofs.OnePlace.{home_known}
use Rattle.wait_die.specs.declared.deciding.Holder.{Holder}
use Rattle.local_locks.specs.declared.table.Asked.{Asked}
use Rattle.local_locks.specs.declared.table.Asked.TheVariants as asked
use Rattle.local_locks.specs.declared.table.Turn.{Turn}
use Rattle.local_locks.specs.declared.table.Turn.TheVariants as turn
use Rattle.local_locks.specs.Asking.{Answers, AreTogether, Grants, IsTurnOf, TakesTurn, claim_for, claimed, held_by, held_for, waiting}
use Rattle.local_locks.specs.Keeping.{IsNewOn}
use Rattle.local_locks.specs.Laws.{CouldAsk, NoneConflict}
use Rattle.local_locks.specs.LockTableView.{AreStandsOf, HeldClaim, LockTableView, Stand, WaitingAction}
use Rattle.local_locks.specs.Rulings.{Spot}
use Rattle.local_locks.specs.GroupWants.{CanAsk, group_wants}
use Rattle.local_locks.proofs.Covering.{group_wanted_same}
use Rattle.local_locks.proofs.Keeping.{grants_keep}
use Rattle.local_locks.proofs.Left.{granted_held}
use Rattle.slices.specs.Asked.{AnswersIn, GrantsIn, TakesTurnIn, claims_asked, claims_of_turn, granted_in, locking_in}
use Rattle.slices.specs.UndoLogs.{UndoLogView, slice_view, AreUndoLogsOf, IsSlice}
use Rattle.slices.specs.SliceView.{SliceKeeps, at_home, with_waiters}
use Rattle.slices.proofs.UndoLogs.{left_content, stand_at}

-- ---- one want after another

-- the group of a place
group_at : List Stand → ℕ → Group
group_at stands place = (get_or stands place (record { group = Warehouse 0; left = nothing; back = nothing })).group

-- what holds of each group of the warehouse alike, holds of all wants alike
group_wants_alike : {A : Type 0} (warehouses home : ℕ) (stands : List Stand) (wants : List Want) (F G : GroupWant → A) → AreStandsOf warehouses home stands → CanAsk warehouses home wants
    → ((group : Group) (mode : Mode) → IsGroupOf warehouses group → warehouse_of group ≡ home → F (record { group = group; mode = mode }) ≡ G (record { group = group; mode = mode }))
    → map F (group_wants wants) ≡ map G (group_wants wants)
unfolding group_at
group_wants_alike {A} warehouses home stands wants F G are can alike =
    let some : Stand = record { group = Warehouse 0; left = nothing; back = nothing } in
    let first = are.each 0 some (omega arith) in
    let known = home_known warehouses (get_or stands 0 some).group first.known in
    let there : (1 ≤ home) × (home ≤ warehouses) = (omega (arith, known, first.here), omega (arith, known, first.here)) in
    let at : Spot → A = λ s. G (record { group = group_at stands s.number; mode = s.mode }) in
    let named = λ (group : Group) (mode : Mode) (is : IsGroupOf warehouses group) (near : warehouse_of group ≡ home).
    ap (λ (g : Group). G (record { group = g; mode = mode })) (stand_at warehouses home stands group (place_in_warehouse group) some are is near refl).1 in
    sym (group_wanted_same warehouses home wants at F there can.own (λ group mode is near. named group mode is near ∙ sym (alike group mode is near)))
    ∙ group_wanted_same warehouses home wants at G there can.own named

-- ---- what is granted

module _ (warehouses : ℕ) (p : Part) (old new : LockTableView) (undo_logs : List UndoLogView) (is : IsSlice warehouses p old undo_logs) (stands : AreStandsOf warehouses old.w_id old.stands) (none : NoneConflict new.holdings) where
  granted_claims : (by : Holder) (wants : List Want) → CanAsk warehouses old.w_id wants → map (claim_for by old.stands) (group_wants wants) ≡ map (granted_in by (slice_view p old)) (group_wants wants)
  granted_claims by wants can =
      group_wants_alike warehouses old.w_id old.stands wants (claim_for by old.stands) (granted_in by (slice_view p old)) stands can
      (λ group mode known near. ap (fresh by group mode) (left_content warehouses old.w_id p old.stands undo_logs group stands is.undo_log_view known near))

  grants_in : (by : Holder) (wants : List Want) (granted : List ClaimView) → CanAsk warehouses old.w_id wants → Grants by wants old granted new → GrantsIn by wants (slice_view p old) granted (slice_view p new)
  grants_in by wants granted can grants =
      let held : map held_by granted ≡ map (held_for by) (group_wants wants) = ap (map held_by) grants.claims ∙ granted_held old.stands by (group_wants wants) in
      record {
        free = grants.free;
        claims = grants.claims ∙ granted_claims by wants can;
        holdings = subst (λ hs. IsPermutation new.holdings (hs ++ old.holdings)) (sym held) grants.holdings;
        home = refl;
        tables = refl;
      }

  -- what is granted keeps what is committed
  grants_keep_slice : (by : Holder) (wants : List Want) (granted : List ClaimView) → GrantsIn by wants (slice_view p old) granted (slice_view p new) → SliceKeeps [] (with_waiters new.waiters (slice_view p old)) granted (slice_view p new)
  grants_keep_slice by wants granted grants =
      let moved : IsPermutation (map claimed new.holdings) (map claimed (map held_by granted ++ old.holdings)) = IsPermutation-map claimed new.holdings (map held_by granted ++ old.holdings) grants.holdings in
      let together : AreTogether new.holdings (map held_by granted) old.holdings = subst (IsPermutation (map claimed new.holdings)) (map-append claimed (map held_by granted) old.holdings) moved in
      let bare : All (IsNewOn (content p.tables)) granted = subst (All (IsNewOn (content p.tables))) (sym grants.claims)
      (All-map (IsNewOn (content p.tables)) (granted_in by (slice_view p old)) (group_wants wants) (λ k d small. record { recorded = refl; left = refl })) in
      record {
        committed = grants_keep (at_home p.home) (content p.tables) granted old.holdings new.holdings together none bare;
        holdings = λ others h. IsPermutation-trans new.holdings (map held_by granted ++ old.holdings) (map held_by granted ++ others) grants.holdings (IsPermutation-append_right (map held_by granted) old.holdings others h);
        waiters = refl;
        home = refl;
        scale = refl;
        items = refl;
      }

  stays_slice : new.stands ≡ old.stands → new.w_id ≡ old.w_id → IsSlice warehouses p new undo_logs
  stays_slice same home = record {
    many = is.many;
    home = home ∙ is.home;
    undo_log_view = subst (λ (ss : List Stand). AreUndoLogsOf p ss undo_logs) (sym same) is.undo_log_view;
  }

  nothing_keeps : new.holdings ≡ old.holdings → SliceKeeps [] (with_waiters new.waiters (slice_view p old)) [] (slice_view p new)
  nothing_keeps same =
      let P : List HeldClaim → Type 0 = λ hs. SliceKeeps [] (with_waiters new.waiters (slice_view p old)) [] (record (slice_view p new) { holdings = hs }) in
      let h : P old.holdings = record { committed = λ tables others h. h; holdings = λ others h. h; waiters = refl; home = refl; scale = refl; items = refl } in
      subst P (sym same) h

  turn_in : (index : ℕ) (one : WaitingAction) → IsTurnOf index one old new → IsTurnOf index one (locking_in (slice_view p old)) (locking_in (slice_view p new))
  turn_in index one t = record { inside = t.inside; there = t.there; rest = t.rest; waiters = t.waiters; first = t.first }

  -- a grant to one who would not wait
  pub granted_at_once : (by : Holder) (wants : List Want) (claims : List ClaimView) → CanAsk warehouses old.w_id wants → Grants by wants old claims new → new.waiters ≡ old.waiters
      → GrantsIn by wants (slice_view p old) claims (slice_view p new) × SliceKeeps [] (slice_view p old) claims (slice_view p new) × IsSlice warehouses p new undo_logs
  granted_at_once by wants claims can grants same =
      let granted = grants_in by wants claims can grants in
      (granted, subst (λ ws. SliceKeeps [] (with_waiters ws (slice_view p old)) claims (slice_view p new)) same (grants_keep_slice by wants claims granted), stays_slice grants.stands grants.w_id)

  module _ {J : Type 0} where
    pub answered : (by : Holder) (wants : List Want) (result : Asked J) → CanAsk warehouses old.w_id wants → Answers by wants old result new
        → AnswersIn by wants (slice_view p old) result (slice_view p new) × SliceKeeps [] (with_waiters new.waiters (slice_view p old)) (claims_asked result) (slice_view p new) × IsSlice warehouses p new undo_logs
    answered by wants (asked.Granted claims) can answers =
        let grants = grants_in by wants claims.items can answers.0 in
        ((grants, answers.1), grants_keep_slice by wants claims.items grants, stays_slice answers.0.stands answers.0.w_id)
    answered by wants asked.Waits can answers = (
      (answers.0, ap (λ (t : LockTableView). slice_view p t) answers.1),
      nothing_keeps (ap (λ (t : LockTableView). t.holdings) answers.1),
      stays_slice (ap (λ (t : LockTableView). t.stands) answers.1) (ap (λ (t : LockTableView). t.w_id) answers.1),
    )
    answered by wants (asked.Dies group holder) can answers = (
      (answers.0, ap (λ (t : LockTableView). slice_view p t) answers.1),
      nothing_keeps (ap (λ (t : LockTableView). t.holdings) answers.1),
      stays_slice (ap (λ (t : LockTableView). t.stands) answers.1) (ap (λ (t : LockTableView). t.w_id) answers.1),
    )

    pub turned : (result : Turn J) → All (CouldAsk warehouses old.w_id) old.waiters → TakesTurn old result new
        → TakesTurnIn (slice_view p old) result (slice_view p new) × SliceKeeps [] (with_waiters new.waiters (slice_view p old)) (claims_of_turn result) (slice_view p new) × IsSlice warehouses p new undo_logs
    turned (turn.Granted index by claims) could takes =
        let wants = takes.0 in
        let can : CanAsk warehouses old.w_id wants =
        All-head (CouldAsk warehouses old.w_id) (waiting by wants) new.waiters (All-permutation (CouldAsk warehouses old.w_id) old.waiters (waiting by wants ∷ new.waiters) takes.1.waiters could) in
        let grants = grants_in by wants claims.items can takes.2 in
        ((wants, turn_in index (waiting by wants) takes.1, grants), grants_keep_slice by wants claims.items grants, stays_slice takes.2.stands takes.2.w_id)
    turned (turn.Dies index by group holder) could takes = (
      (takes.0, turn_in index (waiting by takes.0) takes.1, takes.2, ap (λ (t : LockTableView). slice_view p t) takes.3),
      nothing_keeps (ap (λ (t : LockTableView). t.holdings) takes.3),
      stays_slice (ap (λ (t : LockTableView). t.stands) takes.3) (ap (λ (t : LockTableView). t.w_id) takes.3),
    )
