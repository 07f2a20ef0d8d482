-- A balance to which the lines of an order are added one after another.
use Rattle.std.proofs.Common.{◌≡◌, ℕ, ◌+◌, true, false, cond, List, [], ◌∷◌, Some, None, refl, sym, ap, ◌∙◌, arith}
use Rattle.std.specs.Prelude.{ℤ, pos, ◌+ℤ◌}
use Rattle.std.specs.List.{sum_by}
use Rattle.std.proofs.lemmas.Int.{ints}
use Rattle.std.proofs.lemmas.List.Sums.{sum_by-cons}
use Rattle.amounts.specs.Money.{IsMoney, is_money, money}
use Rattle.rows.specs.declared.keys.OrderLineKey.{OrderLineKey}
use Rattle.rows.specs.declared.records.OrderLine.{OrderLine}

-- what these lines come to
abbrev pub come_to : List (OrderLineKey × OrderLine) → ℕ
come_to rows = sum_by (λ line. line.1.amount) rows

come_to-first : (rows rest : List (OrderLineKey × OrderLine)) (e : OrderLineKey × OrderLine) → rows ≡ e ∷ rest → come_to rows ≡ e.1.amount + come_to rest
come_to-first rows rest e is = ap come_to is ∙ sum_by-cons (λ (line : OrderLineKey × OrderLine). line.1.amount) e rest

in_range_is : (z given : ℤ) → money z ≡ Some given → given ≡ z
in_range_is z given =
    elim (is_money z) as (λ b. cond b (Some z) None ≡ Some given → given ≡ z) [ true ↦ λ e. cc | false ↦ λ e. absurd cc ]

out_of_range : (z : ℤ) → money z ≡ None → is_money z ≡ false
out_of_range z =
    elim (is_money z) as (λ b. cond b (Some z) None ≡ None → b ≡ false) [ true ↦ λ e. absurd cc | false ↦ λ e. refl ]

-- what is above the range stays above it
still_out : (balance : ℤ) (amount rest : ℕ) → IsMoney balance → is_money (balance +ℤ pos amount) ≡ false → is_money ((balance +ℤ pos amount) +ℤ pos rest) ≡ false
still_out balance amount rest inside out = grind (arith, ints)

moved : (balance : ℤ) (amount rest all : ℕ) (last : ℤ) → all ≡ amount + rest → balance +ℤ pos all ≡ last → (balance +ℤ pos amount) +ℤ pos rest ≡ last
moved balance amount rest all last e h = omega (arith, ints, e, h)

-- a line more
pub one_line_more : (balance last : ℤ) (rows rest : List (OrderLineKey × OrderLine)) (e : OrderLineKey × OrderLine) (sum next : ℤ) → rows ≡ e ∷ rest
    → money sum ≡ Some next → sum ≡ balance +ℤ pos e.1.amount → balance +ℤ pos (come_to rows) ≡ last → next +ℤ pos (come_to rest) ≡ last
one_line_more balance last rows rest e sum next is made sum_is held =
    ap (λ z. z +ℤ pos (come_to rest)) (in_range_is sum next made ∙ sum_is)
    ∙ moved balance e.1.amount (come_to rest) (come_to rows) last (come_to-first rows rest e is) held

-- a line too many
pub one_line_too_many : (balance last : ℤ) (rows rest : List (OrderLineKey × OrderLine)) (e : OrderLineKey × OrderLine) (sum : ℤ) → rows ≡ e ∷ rest
    → money sum ≡ None → sum ≡ balance +ℤ pos e.1.amount → IsMoney balance → balance +ℤ pos (come_to rows) ≡ last → None ≡ money last
one_line_too_many balance last rows rest e sum is none sum_is inside held =
    let over : is_money (balance +ℤ pos e.1.amount) ≡ false = ap is_money (sym sum_is) ∙ out_of_range sum none in
    let last_is : (balance +ℤ pos e.1.amount) +ℤ pos (come_to rest) ≡ last = moved balance e.1.amount (come_to rest) (come_to rows) last (come_to-first rows rest e is) held in
    let out : is_money last ≡ false = ap is_money (sym last_is) ∙ still_out balance e.1.amount (come_to rest) inside over in
    sym (ap (λ b. cond b (Some last) None) out)

-- no line is left
pub no_line_more : (balance last : ℤ) (rows : List (OrderLineKey × OrderLine)) → rows ≡ [] → IsMoney balance → balance +ℤ pos (come_to rows) ≡ last → Some balance ≡ money last
no_line_more balance last rows is inside held =
    let nothing : come_to rows ≡ 0 = ap come_to is in
    let same : balance ≡ last = plus_nothing balance (come_to rows) nothing ∙ held in
    let fits : is_money balance ≡ true = grind (arith, ints) in
    sym (ap money (sym same) ∙ ap (λ b. cond b (Some balance) None) fits)
  where
    plus_nothing : (z : ℤ) (n : ℕ) → n ≡ 0 → z ≡ z +ℤ pos n
    plus_nothing z n e = omega (arith, ints, e)
