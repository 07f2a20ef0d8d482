-- The tables that settled slices make are those that the log's transactions have left.
use Rattle.std.proofs.Common.{◌≡◌, ◌≢◌, ◌⊎◌, inl, inr, ⊎_elim, ℕ, zero, suc, ◌+◌, ◌-◌, ◌<◌, ◌≤◌, List, [], ◌∷◌, ◌++◌, length, map, get_or, Some, refl, sym, ap, subst, ◌∙◌, arith}
use Rattle.std.specs.Prelude.{All}
use Rattle.std.specs.List.{Contains, slice_get}
use Rattle.std.proofs.lemmas.List.{append-nil, length-map}
use Rattle.std.proofs.lemmas.Option.{slice_get-get_or}
use Rattle.std.proofs.lemmas.List.Elements.{All-contains, All-head, All-tail, All-weaker, Contains-get_or}
use Rattle.rows.specs.declared.limits.TheConstants.{STOCK_GROUPS}
use Rattle.schema.specs.Database.{Database, IsWithinScale}
use Rattle.schema.specs.declared.scale.Scale.{Scale}
use Rattle.partitions.specs.Parts.{IsPart, Part, SharedTables, shared_of}
use Rattle.requests.specs.declared.group.Group.{Group}
use Rattle.requests.specs.declared.group.Group.TheVariants as g
use Rattle.requests.specs.declared.request.Request.{Request}
use Rattle.requests.specs.Check.{IsAccepted}
use Rattle.groups.specs.Content.{content, IsNoneOf}
use Rattle.groups.specs.Footprint.{footprint, groups_of}
use Rattle.groups.specs.Groups.{warehouse_of}
use Rattle.groups.specs.declared.group_wants.Mode.TheVariants.{Exclusive}
use Rattle.groups.specs.declared.group_wants.GroupWant.{GroupWant}
use Rattle.groups.specs.declared.wants.Kind.{Kind}
use Rattle.groups.specs.declared.wants.Kind.TheVariants as kind
use Rattle.groups.proofs.RowsInGroups.{contents_make_tables}
use Rattle.machine.specs.Machine.{transaction, tables_after}
use Rattle.machine.proofs.RequestLaws.{tables_after-scale, tables_after-items, transaction_keeps_other_groups}
use Rattle.tickets.specs.Claims.{ClaimView, all_claims}
use Rattle.tickets.specs.Committed.{Records, RecordsContent}
use Rattle.tickets.specs.Places.{IsBetween, IsGroupOf}
use Rattle.wait_die.specs.declared.deciding.Holder.{Holder}
use Rattle.local_locks.specs.GroupWants.{numbered, groups_under, group_want_of, group_wants_in, group_wants}
use Rattle.local_locks.proofs.Members.{contains_cases, contains_here, contains_joined, contains_none, contains_there}
use Rattle.slices.specs.Asked.{granted_in}
use Rattle.slices.specs.SliceView.{SliceView, AreSlicesOf, joined, part_in}
use Rattle.slices.proofs.Alike.{content_alike}
use Rattle.slices.proofs.Joined.{parts_of_slices}
use Rattle.slices.proofs.Wholes.{whole_has_part}
use Rattle.transactions.proofs.Reached.{accepted_requests_have_their_groups}
use Rattle.engine.specs.Closing.{AreSettled, IsBackAt, IsSettledAt, want_of_kind, wants_of_all}
use Rattle.engine.proofs.Nowhere.{nothing_nowhere}
use Rattle.engine.proofs.Sessions.{each_pushed}
use Rattle.engine.proofs.Together.{reaches}

-- ---- all groups of a warehouse are wanted for

here_or_later : (first n : ℕ) → first ≤ n → (first ≡ n) ⊎ (suc first ≤ n)
here_or_later zero zero up = inl refl
here_or_later zero (suc n) up = inr (omega arith)
here_or_later (suc first) zero up = absurd (omega arith)
here_or_later (suc first) (suc n) up = ⊎_elim (λ (is : first ≡ n). inl (ap suc is)) (λ (later : suc first ≤ n). inr (omega arith)) (here_or_later first n (omega arith))

numbered_has : (group : ℕ → Group) (first count n : ℕ) → first ≤ n → n < first + count → Contains (numbered group first count) (group n)
unfolding numbered
numbered_has group first zero n from below = absurd (omega (arith, from, below))
numbered_has group first (suc count) n from below =
    ⊎_elim (λ (is : first ≡ n). subst (λ (m : ℕ). Contains (group first ∷ numbered group (suc first) count) (group m)) is (contains_here (group first) (numbered group (suc first) count)))
    (λ (later : suc first ≤ n). contains_there (group first) (numbered group (suc first) count) (group n) (numbered_has group (suc first) count n later (omega (arith, below))))
    (here_or_later first n from)

contains_map : {X Y : Type 0} (f : X → Y) (xs : List X) (x : X) → Contains xs x → Contains (map f xs) (f x)
contains_map f [] x c = contains_none x c
contains_map f (y ∷ ys) x c =
    ⊎_elim (λ (same : y ≡ x). subst (λ z. Contains (f y ∷ map f ys) (f z)) same (contains_here (f y) (map f ys)))
    (λ (rest : Contains ys x). contains_there (f y) (map f ys) (f x) (contains_map f ys x rest)) (contains_cases y ys x c)

abbrev kinds : List Kind
kinds = kind.Warehouse ∷ kind.District ∷ kind.Customers ∷ kind.Orders ∷ kind.History ∷ kind.Stock ∷ []

each_kind : (k : Kind) → Contains kinds k
each_kind kind.Warehouse = Contains-get_or kinds 0 kind.Warehouse (omega arith)
each_kind kind.District = Contains-get_or kinds 1 kind.Warehouse (omega arith)
each_kind kind.Customers = Contains-get_or kinds 2 kind.Warehouse (omega arith)
each_kind kind.Orders = Contains-get_or kinds 3 kind.Warehouse (omega arith)
each_kind kind.History = Contains-get_or kinds 4 kind.Warehouse (omega arith)
each_kind kind.Stock = Contains-get_or kinds 5 kind.Warehouse (omega arith)

-- a group is among those of its kind
under_kind : (warehouses : ℕ) (group : Group) → IsGroupOf warehouses group → (k : Kind) × Contains (groups_under k (warehouse_of group)) group
under_kind warehouses (g.Warehouse w_id) known = (kind.Warehouse, contains_here (g.Warehouse w_id) [])
under_kind warehouses (g.District w_id d_id) known = (kind.District, numbered_has (λ d. g.District w_id d) 1 10 d_id known.1.0 (let up = known.1.1 in omega arith))
under_kind warehouses (g.Customers w_id d_id) known = (kind.Customers, numbered_has (λ d. g.Customers w_id d) 1 10 d_id known.1.0 (let up = known.1.1 in omega arith))
under_kind warehouses (g.Orders w_id d_id) known = (kind.Orders, numbered_has (λ d. g.Orders w_id d) 1 10 d_id known.1.0 (let up = known.1.1 in omega arith))
under_kind warehouses (g.History w_id d_id) known = (kind.History, numbered_has (λ d. g.History w_id d) 1 10 d_id known.1.0 (let up = known.1.1 in omega arith))
under_kind warehouses (g.Stock w_id residue) known = (kind.Stock, numbered_has (λ r. g.Stock w_id r) 0 STOCK_GROUPS residue (omega arith) (let up = known.1 in omega arith))

group_wanted_for : (warehouses home : ℕ) (group : Group) → IsGroupOf warehouses group → warehouse_of group ≡ home → Contains (group_wants (wants_of_all home)) (record { group = group; mode = Exclusive })
group_wanted_for warehouses home group known at =
    let u = under_kind warehouses group known in
    let want = want_of_kind home u.0 in
    let own : Contains (groups_under u.0 home) group = subst (λ (w : ℕ). Contains (groups_under u.0 w) group) at u.1 in
    contains_joined group_wants_in (wants_of_all home) want (group_want_of want group) (contains_map (want_of_kind home) kinds u.0 (each_kind u.0)) (contains_map (group_want_of want) (groups_under u.0 home) group own)

-- ---- one slice

-- The claims on all groups of a slice record the slice's content, and so do the tables that the claims record.
pub slice_settled : (opening last : Database) (home : ℕ) (s : SliceView) (by : Holder) (claims : List ClaimView) (held : List (List ClaimView)) → IsBackAt opening home s
    → held ≡ claims ∷ [] → claims ≡ map (granted_in by s) (group_wants (wants_of_all home)) → Records (content last) (all_claims held) → IsSettledAt opening last home s
slice_settled opening last home s by claims held back held_is granted records = record {
  back = back;
  settled = λ group known at.
      let group_want : GroupWant = record { group = group; mode = Exclusive } in
      let recorded : Records (content last) (map (granted_in by s) (group_wants (wants_of_all home))) = subst (Records (content last)) (ap all_claims held_is ∙ append-nil claims ∙ granted) records in
      sym (All-contains (RecordsContent (content last)) (map (granted_in by s) (group_wants (wants_of_all home))) (granted_in by s group_want) recorded
      (contains_map (granted_in by s) (group_wants (wants_of_all home)) group_want (group_wanted_for opening.scale.warehouses home group known at)));
}

-- the slice is the same, but for the holders of its groups
pub settled_still : (opening last : Database) (home : ℕ) (old new : SliceView) → new.home ≡ old.home → new.tables ≡ old.tables → IsSettledAt opening last home old → IsSettledAt opening last home new
settled_still opening last home old new home_is tables_are h = record {
  back = record {
    home_is = home_is ∙ h.back.home_is;
    part = subst IsPart (sym (λ i. record { home = home_is i; tables = tables_are i })) h.back.part;
    shared_is = ap shared_of tables_are ∙ h.back.shared_is;
  };
  settled = λ group known at. ap (λ (t : Database). content t group) tables_are ∙ h.settled group known at;
}

-- ---- all slices

part_at : (slices : List SliceView) (place : ℕ) (s : SliceView) → slice_get slices place ≡ Some s → get_or (map part_in slices) place (part_in s) ≡ part_in s
part_at [] place s h = refl
part_at (x ∷ slices) zero s h = let is : x ≡ s = cc in ap part_in is
part_at (x ∷ slices) (suc place) s h = part_at slices place s h

pub settled_slices : (opening last : Database) (slices : List SliceView) → AreSettled opening last slices → AreSlicesOf (shared_of opening) slices
settled_slices opening last slices h = record {
  many = h.many;
  each = λ place d low.
      let s = h.each place (get_or slices place d) (slice_get-get_or slices place d low) in
      record { home = s.back.home_is; scale = ap (λ (c : SharedTables). c.scale) s.back.shared_is; items = ap (λ (c : SharedTables). c.items) s.back.shared_is };
}

-- one slice more is settled
pub settled_more : (opening last : Database) (slices after : List SliceView) (place : ℕ) (s : SliceView)
    → ((k : ℕ) (t : SliceView) → slice_get slices k ≡ Some t → IsSettledAt opening last (k + 1) t) → length slices ≡ place → IsSettledAt opening last (place + 1) s → after ≡ slices ++ s ∷ []
    → (k : ℕ) (t : SliceView) → slice_get after k ≡ Some t → IsSettledAt opening last (k + 1) t
settled_more opening last slices after place s before count here pushed =
    each_pushed slices after s place (λ k t. IsSettledAt opening last (k + 1) t) (sym count) pushed before here

-- ---- the groups that there are

order : (a b : ℕ) → (a ≤ b) ⊎ (b < a)
order zero b = inl (omega arith)
order (suc a) zero = inr (omega arith)
order (suc a) (suc b) = ⊎_elim (λ (low : a ≤ b). inl (omega arith)) (λ (high : b < a). inr (omega arith)) (order a b)

abbrev is_or_not : Type 0 → Type 0
is_or_not P = P ⊎ (P → ⊥)

both_or_not : (P Q : Type 0) → is_or_not P → is_or_not Q → is_or_not (P × Q)
both_or_not P Q (inl p) (inl q) = inl (p, q)
both_or_not P Q (inl p) (inr never) = inr (λ h. never h.1)
both_or_not P Q (inr never) q = inr (λ h. never h.0)

at_most : (a b : ℕ) → is_or_not (a ≤ b)
at_most a b = ⊎_elim (λ (low : a ≤ b). inl low) (λ (high : b < a). inr (λ low. absurd (omega (arith, low, high)))) (order a b)

between_or_not : (low high n : ℕ) → is_or_not (IsBetween low high n)
between_or_not low high n = both_or_not (low ≤ n) (n ≤ high) (at_most low n) (at_most n high)

below_or_not : (a b : ℕ) → is_or_not (a < b)
below_or_not a b = ⊎_elim (λ (high : b ≤ a). inr (λ low. absurd (omega (arith, low, high)))) (λ (low : a < b). inl low) (order b a)

group_or_not : (warehouses : ℕ) (group : Group) → is_or_not (IsGroupOf warehouses group)
group_or_not warehouses (g.Warehouse w_id) = between_or_not 1 warehouses w_id
group_or_not warehouses (g.District w_id d_id) = both_or_not (IsBetween 1 warehouses w_id) (IsBetween 1 10 d_id) (between_or_not 1 warehouses w_id) (between_or_not 1 10 d_id)
group_or_not warehouses (g.Customers w_id d_id) = both_or_not (IsBetween 1 warehouses w_id) (IsBetween 1 10 d_id) (between_or_not 1 warehouses w_id) (between_or_not 1 10 d_id)
group_or_not warehouses (g.Orders w_id d_id) = both_or_not (IsBetween 1 warehouses w_id) (IsBetween 1 10 d_id) (between_or_not 1 warehouses w_id) (between_or_not 1 10 d_id)
group_or_not warehouses (g.History w_id d_id) = both_or_not (IsBetween 1 warehouses w_id) (IsBetween 1 10 d_id) (between_or_not 1 warehouses w_id) (between_or_not 1 10 d_id)
group_or_not warehouses (g.Stock w_id residue) = both_or_not (IsBetween 1 warehouses w_id) (residue < STOCK_GROUPS) (between_or_not 1 warehouses w_id) (below_or_not residue STOCK_GROUPS)

home_between : (warehouses : ℕ) (group : Group) → IsGroupOf warehouses group → IsBetween 1 warehouses (warehouse_of group)
home_between warehouses (g.Warehouse w_id) known = known
home_between warehouses (g.District w_id d_id) known = known.0
home_between warehouses (g.Customers w_id d_id) known = known.0
home_between warehouses (g.Orders w_id d_id) known = known.0
home_between warehouses (g.History w_id d_id) known = known.0
home_between warehouses (g.Stock w_id residue) known = known.0

-- no accepted request changes what a group has that there isn't
outside : (t : Database) (requests : List Request) (group : Group) → All (IsAccepted t.scale) requests → (IsGroupOf t.scale.warehouses group → ⊥) → content (tables_after t requests) group ≡ content t group
outside t [] group accepted nowhere = refl
outside t (request ∷ requests) group accepted nowhere =
    let next = (transaction t request).tables in
    let scale_is : next.scale ≡ t.scale = tables_after-scale t (request ∷ []) in
    let own = groups_of (footprint request) in
    let none : IsNoneOf own group =
    All-weaker (IsGroupOf t.scale.warehouses) (λ (other : Group). group ≢ other) (λ other known is. nowhere (subst (IsGroupOf t.scale.warehouses) (sym is) known)) own
    (accepted_requests_have_their_groups t.scale request (All-head (IsAccepted t.scale) request requests accepted)) in
    outside next requests group (subst (λ (c : Scale). All (IsAccepted c) requests) (sym scale_is) (All-tail (IsAccepted t.scale) request requests accepted))
    (λ known. nowhere (subst (λ (c : Scale). IsGroupOf c.warehouses group) scale_is known))
    ∙ transaction_keeps_other_groups t request group none

-- ---- the tables

pub settled_tables : (opening : Database) (requests : List Request) (slices : List SliceView) → AreSettled opening (tables_after opening requests) slices → IsWithinScale opening
    → IsWithinScale (joined (shared_of opening) slices).tables → All (IsAccepted opening.scale) requests → (joined (shared_of opening) slices).tables ≡ tables_after opening requests
settled_tables opening requests slices h within_opening within_whole accepted =
    contents_make_tables whole last (sym (tables_after-scale opening requests)) (sym (tables_after-items opening requests))
    (λ group. ⊎_elim (there group) (λ (never : IsGroupOf opening.scale.warehouses group → ⊥).
    nothing_nowhere whole opening within_whole within_opening refl group never ∙ sym (outside opening requests group accepted never)) (group_or_not opening.scale.warehouses group))
  where
    last : Database
    last = tables_after opening requests

    whole : Database
    whole = (joined (shared_of opening) slices).tables

    are : AreSlicesOf (shared_of opening) slices
    are = settled_slices opening last slices h

    there : (group : Group) → IsGroupOf opening.scale.warehouses group → content whole group ≡ content last group
    there group known =
        let home = warehouse_of group in
        let inside = home_between opening.scale.warehouses group known in
        let place = home - 1 in
        let back : place + 1 ≡ home = omega (arith, inside.0) in
        let low : place < length slices = omega (arith, inside.0, inside.1, h.many) in
        let at = reaches slices place low in
        let s = h.each place at.0 at.1 in
        let alike = whole_has_part (shared_of opening) (map part_in slices) place (part_in at.0) (parts_of_slices (shared_of opening) slices are) (omega (arith, low, length-map slices part_in)) in
        content_alike (place + 1) whole (get_or (map part_in slices) place (part_in at.0)).tables alike group (sym back)
        ∙ ap (λ (p : Part). content p.tables group) (part_at slices place at.0 at.1)
        ∙ s.settled group known (sym back)
