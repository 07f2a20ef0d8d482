use Rattle.std.proofs.Common.{◌≡◌, ◌+◌, ◌++◌, ◌∷◌, [], ℕ, List, length, sym, ap, subst, ◌∙◌, arith, rules}
use Rattle.std.specs.List.Sorted.{IsStrictlySortedBy}
use Rattle.std.specs.Map.{keys_of}
use Rattle.std.specs.Ordering.{nat_cmp}
use Rattle.std.proofs.lemmas.List.{append-nil}
use Rattle.rows.specs.declared.records.OrderLine.{OrderLine}
use Rattle.schema.specs.PackedLines.{numbered_from}
use Rattle.schema.proofs.LinesPut.{one_more_numbered, counted_up, no_elements}
use Rattle.schema.proofs.numbered.Numbered.from_rows.Goals as goal

pub loop-row-init : goal.loop-row-init
loop-row-init c =
    let rest = c.into_iter-row-iterator.result.rest.items in
    let all : rest ≡ c.args.rows.items = search rules in
    record {
      can_next = tt;
      finite = tt;
      all = ap (λ ls. ls ++ numbered_from (length ls + 1) rest) c.in_ok-lines.ensures.items ∙ ap (numbered_from 1) all;
      many = omega (arith, ap length c.in_ok-lines.ensures.items, ap length all);
    }

pub loop-row-preserved : goal.loop-row-preserved
loop-row-preserved c =
    let lines = c.loop-row.lines.items in
    let rest = c.next.new.self.rest.items in
    let number = c.len-in-loop-row.result + 1 in
    let steps = c.in-Some.ensures.steps.0 in
    let is : number ≡ length lines + 1 = omega (arith, c.len-in-loop-row.ensures) in
    let so_far = ap (λ n. lines ++ numbered_from n (c.in-Some.row ∷ rest)) is ∙ sym (ap (λ rs. lines ++ numbered_from (length lines + 1) rs) steps) ∙ c.loop-row.invariant.all in
    record {
      can_next = tt;
      finite = tt;
      all = ap (λ ls. ls ++ numbered_from (length ls + 1) rest) c.in_ok-push.ensures.items ∙ one_more_numbered lines number c.in-Some.row rest c.args.rows.items so_far is;
      many = omega (arith, c.loop-row.invariant.many, ap (λ (rs : List OrderLine). length rs) steps, c.in_ok-push.ensures.len);
    }

-- the lines are all, once no row is left
all_numbered : (lines : List (ℕ × OrderLine)) (rest all : List OrderLine) → rest ≡ [] → lines ++ numbered_from (length lines + 1) rest ≡ numbered_from 1 all → lines ≡ numbered_from 1 all
all_numbered lines rest all none so_far = sym (ap (λ rs. lines ++ numbered_from (length lines + 1) rs) none ∙ append-nil lines) ∙ so_far

pub invariant_of-result : goal.invariant_of-result
invariant_of-result c =
    let none = no_elements c.loop-row.row-iterator.rest.items (omega (arith, c.loop-row.row-iterator.rest.ok, c.in-None.ensures.steps.0)) in
    subst (λ ls. IsStrictlySortedBy nat_cmp (keys_of ls)) (sym (all_numbered c.loop-row.lines.items c.loop-row.row-iterator.rest.items c.args.rows.items none c.loop-row.invariant.all)) (counted_up 1 c.args.rows.items)

pub returns : goal.returns
returns c =
    let none = no_elements c.loop-row.row-iterator.rest.items (omega (arith, c.loop-row.row-iterator.rest.ok, c.in-None.ensures.steps.0)) in
    all_numbered c.loop-row.lines.items c.loop-row.row-iterator.rest.items c.args.rows.items none c.loop-row.invariant.all
