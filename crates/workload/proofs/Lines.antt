-- The lines of a New-Order that is drawn.
use Rattle.std.proofs.Common.{◌≡◌, ℕ, zero, suc, ◌+◌, ◌-◌, ◌≤◌, Bool, true, false, nat_eq, List, [], ◌∷◌, length, refl, sym, ap, ◌∙◌, inl, inr, arith}
use Rattle.std.specs.Prelude.{All, ◌&&◌}
use Rattle.std.specs.List.{list_all}
use Rattle.std.proofs.lemmas.Bool.Decides.{nat_tests}
use Rattle.std.proofs.lemmas.List.Elements.{All-nil, All-cons}
use Rattle.rand_pcg.specs.Lcg.{Lcg}
use Rattle.rows.specs.Ranged.{is_between}
use Rattle.schema.specs.Scale.{has_warehouse, has_item}
use Rattle.requests.specs.declared.new_order.OrderedLine.{OrderedLine}
use Rattle.workload.specs.declared.terminal.Terminal.{Terminal}
use Rattle.workload.specs.NewOrders.{item_drawn, line_drawn, lines_drawn}
use Rattle.workload.specs.Within.{IsNear, NameItems}
use Rattle.workload.proofs.Numbers.{random-between, nu_rand-between}
use Rattle.workload.proofs.OtherWarehouses.{IsDistrict, supplier-there, supplier-near}

line-quantity : (terminal : Terminal) (unused : Bool) (generator : Lcg) → is_between 1 10 (line_drawn terminal unused generator).0.quantity ≡ true
unfolding line_drawn
line-quantity terminal unused generator = random-between 1 10 _ (omega arith)

line-supplier : (terminal : Terminal) (unused : Bool) (generator : Lcg) → IsDistrict terminal terminal.home → has_warehouse terminal.scale (line_drawn terminal unused generator).0.supply_w_id ≡ true
unfolding line_drawn
line-supplier terminal unused generator there = supplier-there terminal _ there

line-near : (terminal : Terminal) (unused : Bool) (generator : Lcg) → IsNear terminal (line_drawn terminal unused generator).0.supply_w_id
unfolding line_drawn
line-near terminal unused generator none = supplier-near terminal _ none

line-unused : (terminal : Terminal) (generator : Lcg) → (line_drawn terminal true generator).0.i_id ≡ terminal.scale.items + 1
unfolding line_drawn item_drawn
line-unused terminal generator = refl

line-used : (terminal : Terminal) (generator : Lcg) → has_item terminal.scale (line_drawn terminal false generator).0.i_id ≡ true
unfolding line_drawn item_drawn
line-used terminal generator = nu_rand-between 8191 4000 1 terminal.scale.items generator (omega arith)

pub lines-count : (terminal : Terminal) (rolls_back : Bool) (count : ℕ) (generator : Lcg) → length (lines_drawn terminal rolls_back count generator).0 ≡ count
unfolding lines_drawn
lines-count terminal rolls_back zero generator = refl
lines-count terminal rolls_back (suc left) generator =
    let rest = lines-count terminal rolls_back left (line_drawn terminal (rolls_back && nat_eq left 0) generator).1 in ap suc rest

pub lines-quantities : (terminal : Terminal) (rolls_back : Bool) (count : ℕ) (generator : Lcg)
    → list_all (λ line. is_between 1 10 line.quantity) (lines_drawn terminal rolls_back count generator).0 ≡ true
unfolding lines_drawn
lines-quantities terminal rolls_back zero generator = refl
lines-quantities terminal rolls_back (suc left) generator =
    let unused = rolls_back && nat_eq left 0 in
    rw (line-quantity terminal unused generator) (lines-quantities terminal rolls_back left (line_drawn terminal unused generator).1)

pub lines-suppliers : (terminal : Terminal) (rolls_back : Bool) (count : ℕ) (generator : Lcg) → IsDistrict terminal terminal.home
    → list_all (λ line. has_warehouse terminal.scale line.supply_w_id) (lines_drawn terminal rolls_back count generator).0 ≡ true
unfolding lines_drawn
lines-suppliers terminal rolls_back zero generator there = refl
lines-suppliers terminal rolls_back (suc left) generator there =
    let unused = rolls_back && nat_eq left 0 in
    rw (line-supplier terminal unused generator there) (lines-suppliers terminal rolls_back left (line_drawn terminal unused generator).1 there)

pub lines-near : (terminal : Terminal) (rolls_back : Bool) (count : ℕ) (generator : Lcg) → All (λ line. IsNear terminal line.supply_w_id) (lines_drawn terminal rolls_back count generator).0
unfolding lines_drawn
lines-near terminal rolls_back zero generator = All-nil _
lines-near terminal rolls_back (suc left) generator =
    let unused = rolls_back && nat_eq left 0 in
    All-cons (λ (line : OrderedLine). IsNear terminal line.supply_w_id) _ _ (line-near terminal unused generator) (lines-near terminal rolls_back left (line_drawn terminal unused generator).1)

-- the last line, alone
last-items : (terminal : Terminal) (rolls_back : Bool) (generator : Lcg) → NameItems terminal.scale ((line_drawn terminal rolls_back generator).0 ∷ [])
unfolding NameItems
last-items terminal true generator = inr (line-unused terminal generator)
last-items terminal false generator = inl (line-used terminal generator)

-- of one line or more
pub lines-items : (terminal : Terminal) (rolls_back : Bool) (left : ℕ) (generator : Lcg) → NameItems terminal.scale (lines_drawn terminal rolls_back (suc left) generator).0
unfolding lines_drawn NameItems
lines-items terminal true zero generator = last-items terminal true generator
lines-items terminal false zero generator = last-items terminal false generator
lines-items terminal true (suc left) generator =
    let more : nat_eq (suc left) 0 ≡ false = grind (arith, nat_tests) in (
      ap (λ b. has_item terminal.scale (line_drawn terminal b generator).0.i_id) more ∙ line-used terminal generator,
      lines-items terminal true left (line_drawn terminal (nat_eq (suc left) 0) generator).1,
    )
lines-items terminal false (suc left) generator =
    (line-used terminal generator, lines-items terminal false left (line_drawn terminal false generator).1)

-- the first line, and the others
pub lines-first : (terminal : Terminal) (rolls_back : Bool) (count : ℕ) (generator : Lcg) (line : OrderedLine) (after : Lcg) → 1 ≤ count
    → (line, after) ≡ line_drawn terminal (rolls_back && nat_eq (count - 1) 0) generator
    → lines_drawn terminal rolls_back count generator ≡ (line ∷ (lines_drawn terminal rolls_back (count - 1) after).0, (lines_drawn terminal rolls_back (count - 1) after).1)
unfolding lines_drawn
lines-first terminal rolls_back zero generator line after h drawn = absurd (omega arith)
lines-first terminal rolls_back (suc left) generator line after h drawn =
    let same : suc left - 1 ≡ left = omega arith in
    let first : (line, after) ≡ line_drawn terminal (rolls_back && nat_eq left 0) generator = drawn ∙ ap (λ n. line_drawn terminal (rolls_back && nat_eq n 0) generator) same in
    let all : OrderedLine × Lcg → ℕ → List OrderedLine × Lcg = λ p n. (p.0 ∷ (lines_drawn terminal rolls_back n p.1).0, (lines_drawn terminal rolls_back n p.1).1) in
    ap (λ (p : OrderedLine × Lcg). all p left) (sym first) ∙ ap (all (line, after)) (sym same)

-- no line
pub lines-none : (terminal : Terminal) (rolls_back : Bool) (count : ℕ) (generator : Lcg) → count ≡ 0 → lines_drawn terminal rolls_back count generator ≡ ([], generator)
unfolding lines_drawn
lines-none terminal rolls_back zero generator h = refl
lines-none terminal rolls_back (suc left) generator h = absurd (omega arith)
