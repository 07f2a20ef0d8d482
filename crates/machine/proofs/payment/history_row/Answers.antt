use Rattle.std.proofs.Common.{◌≡◌, ℕ, ◌≤◌, ◌+◌, List, [], ◌++◌, codes, length, take, ap, ◌∙◌, arith, length-append}
use Rattle.std.proofs.lemmas.Int.{ints}
use Rattle.std.proofs.lemmas.List.{take_all}
use Rattle.std.specs.Prelude.{pos}
use Rattle.machine.proofs.payment.history_row.Goals as goal

-- a text that fits is appended whole
whole : (n : ℕ) (old new piece all : List ℕ) → old ≡ all → new ≡ take n (old ++ piece) → length all + length piece ≤ n → new ≡ all ++ piece
whole n old new piece all e f h =
    f ∙ ap (λ l. take n (l ++ piece)) e ∙ take_all n (all ++ piece) (omega (arith, length-append all piece))

pub returns : goal.returns
returns c =
    let warehouse = c.args.warehouse.now in
    let district = c.args.district.now in
    let short_warehouse : length warehouse ≤ 10 = c.as_str.ensures.is_text.fits in
    let short_district : length district ≤ 10 = c.as_str-2.ensures.is_text.fits in
    let first = whole 24 c.new-text.result c.push_fitting.new.self warehouse [] c.new-text.ensures
    (c.push_fitting.ensures ∙ ap (λ l. take 24 (c.new-text.result ++ l)) c.as_str.ensures.bytes) (omega arith) in
    let second = whole 24 c.push_fitting.new.self c.push_fitting-2.new.self (codes "    ") warehouse first c.push_fitting-2.ensures (omega arith) in
    let third = whole 24 c.push_fitting-2.new.self c.push_fitting-3.new.self district (warehouse ++ codes "    ") second
    (c.push_fitting-3.ensures ∙ ap (λ l. take 24 (c.push_fitting-2.new.self ++ l)) c.as_str-2.ensures.bytes)
    (omega (arith, length-append warehouse (codes "    "))) in
    let amount : c.new.result ≡ pos c.args.payment.now.amount = omega (arith, ints) in
    λ i. record { customer = c.args.key; date = c.args.payment.now.moment; amount = amount i; «data» = third i }
