-- Groups of one kind, warehouse and number are equal, and so their order is total and exact.
use Rattle.std.proofs.Common.{◌≡◌, ◌≢◌, ℕ, zero, suc, true, false, eqb, refl, sym, ap, ◌∙◌}
use Rattle.std.proofs.lemmas.Bool.{eqb-true, eq-eqb, and_from, and_parts, false_from_ne_true}
use Rattle.std.specs.Ordering.{nat_cmp}
use Rattle.std.specs.Cmp.{IsTotalOrder, nat_cmp_total}
use Rattle.std.specs.FinMap.{IsAntisymmetric}
use Rattle.std.proofs.lemmas.Cmp.{on_total, then_total}
use Rattle.std.proofs.lemmas.Map.Lookups.{exact_pairs, exact_unsigned}
use Rattle.requests.specs.declared.group.Group.{Group}
use Rattle.requests.specs.declared.group.Group.TheVariants.{Warehouse, District, Customers, Orders, History, Stock}
use Rattle.groups.specs.Groups.{kind_of, warehouse_of, number_of, is_same, group_cmp}

-- the group of a kind, a warehouse and a number
abbrev group_at : ℕ → ℕ → ℕ → Group
group_at zero w_id number = Warehouse w_id
group_at (suc zero) w_id number = District w_id number
group_at (suc (suc zero)) w_id number = Customers w_id number
group_at (suc (suc (suc zero))) w_id number = Orders w_id number
group_at (suc (suc (suc (suc zero)))) w_id number = History w_id number
group_at (suc (suc (suc (suc (suc kind))))) w_id number = Stock w_id number

group_at-parts : (group : Group) → group_at (kind_of group) (warehouse_of group) (number_of group) ≡ group
group_at-parts (Warehouse w_id) = refl
group_at-parts (District w_id d_id) = refl
group_at-parts (Customers w_id d_id) = refl
group_at-parts (Orders w_id d_id) = refl
group_at-parts (History w_id d_id) = refl
group_at-parts (Stock w_id residue) = refl

pub is_same-equal : (a b : Group) → is_same a b ≡ true → a ≡ b
is_same-equal a b same =
    let kind = and_parts (eqb (kind_of a) (kind_of b)) _ same in
    let place = and_parts (eqb (warehouse_of a) (warehouse_of b)) (eqb (number_of a) (number_of b)) kind.1 in
    let equal : group_at (kind_of a) (warehouse_of a) (number_of a) ≡ group_at (kind_of b) (warehouse_of b) (number_of b) =
    λ i. group_at (eqb-true _ _ kind.0 i) (eqb-true _ _ place.0 i) (eqb-true _ _ place.1 i) in
    sym (group_at-parts a) ∙ equal ∙ group_at-parts b

pub is_same-itself : (group : Group) → is_same group group ≡ true
is_same-itself group =
    let own : (n : ℕ) → eqb n n ≡ true = λ n. eq-eqb n n refl in
    and_from _ _ (own (kind_of group)) (and_from _ _ (own (warehouse_of group)) (own (number_of group)))

pub is_same-other : (a b : Group) → b ≢ a → is_same a b ≡ false
is_same-other a b apart = false_from_ne_true (is_same a b) (λ same. apart (sym (is_same-equal a b same)))

-- ---- the order of groups

pub groups_total : IsTotalOrder group_cmp
groups_total =
    then_total (on_total kind_of nat_cmp_total)
    (then_total (on_total warehouse_of nat_cmp_total) (on_total number_of nat_cmp_total))

pub groups_exact : IsAntisymmetric group_cmp
groups_exact a b tied =
    let parts = exact_pairs nat_cmp _ exact_unsigned (exact_pairs nat_cmp nat_cmp exact_unsigned exact_unsigned)
    (kind_of a, (warehouse_of a, number_of a)) (kind_of b, (warehouse_of b, number_of b)) tied in
    sym (group_at-parts a) ∙ ap (λ (p : ℕ × (ℕ × ℕ)). group_at p.0 p.1.0 p.1.1) parts ∙ group_at-parts b
