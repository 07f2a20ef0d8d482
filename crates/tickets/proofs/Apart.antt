-- The test of groups tells them apart, and a mode is one of two.
use Rattle.std.proofs.Common.{◌≡◌, ◌≢◌, ◌⊎◌, inl, inr, Bool, true, false, eqb, refl, sym, ◌∙◌}
use Rattle.std.proofs.lemmas.Bool.{eqb-true, and_parts}
use Rattle.std.proofs.lemmas.Cmp.{tied_itself}
use Rattle.std.specs.Ordering.{nat_cmp, ordering_then}
use Rattle.requests.specs.declared.group.Group.{Group}
use Rattle.groups.specs.Groups.{kind_of, warehouse_of, number_of, is_same, group_cmp}
use Rattle.groups.specs.declared.group_wants.Mode.{Mode}
use Rattle.groups.specs.declared.group_wants.Mode.TheVariants.{Shared, Exclusive}
use Rattle.groups.proofs.SameGroups.{is_same-itself, groups_total, groups_exact}

pub is_same-equal : (a b : Group) → is_same a b ≡ true → a ≡ b
is_same-equal a b same =
    let kind = and_parts (eqb (kind_of a) (kind_of b)) _ same in
    let place = and_parts (eqb (warehouse_of a) (warehouse_of b)) (eqb (number_of a) (number_of b)) kind.1 in
    let tied : group_cmp a b ≡ group_cmp a a =
    λ i. ordering_then (nat_cmp (kind_of a) (sym (eqb-true _ _ kind.0) i)) (ordering_then (nat_cmp (warehouse_of a) (sym (eqb-true _ _ place.0) i)) (nat_cmp (number_of a) (sym (eqb-true _ _ place.1) i))) in
    groups_exact a b (tied ∙ tied_itself groups_total a)

abbrev AreApart : Bool → Group → Group → Type 0
AreApart same a b = ((same ≡ true) × (a ≡ b)) ⊎ ((same ≡ false) × (a ≢ b))

by_test : (a b : Group) (same : Bool) → is_same a b ≡ same → AreApart (is_same a b) a b
by_test a b true is = inl (is, is_same-equal a b is)
by_test a b false is = inr (is, λ equal. unlike equal is)
  where
    unlike : a ≡ b → is_same a b ≡ false → ⊥
    unlike equal is = let same : is_same a b ≡ true = (λ i. is_same a (sym equal i)) ∙ is_same-itself a in cc

pub apart : (a b : Group) → AreApart (is_same a b) a b
apart a b = by_test a b (is_same a b) refl

pub by_bool : {P : Type 0} (b : Bool) → {c : Bool} → c ≡ b → (c ≡ true → P) → (c ≡ false → P) → P
by_bool true is first second = first is
by_bool false is first second = second is

pub by_mode : {P : Type 0} (m : Mode) → {c : Mode} → c ≡ m → (c ≡ Exclusive → P) → (c ≡ Shared → P) → P
by_mode Exclusive is first second = first is
by_mode Shared is first second = second is
