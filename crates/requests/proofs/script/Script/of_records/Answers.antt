use Rattle.std.proofs.Common.{rules, ◌≡◌, ℕ, ◌+◌, ◌++◌, ◌∷◌, List, [], length, sym, ap, ◌∙◌, arith, append_assoc, append-nil}
use Rattle.requests.specs.declared.script.Part.{Part}
use Rattle.requests.specs.declared.terminal_request.TerminalRequest.{TerminalRequest}
use Rattle.requests.specs.Script.{parts_of, parts_from}
use Rattle.requests.proofs.script.Script.of_records.Goals as goal

-- the parts of one record more
next_parts : (before after : List Part) (number count more : ℕ) (asked : TerminalRequest) (left rest : List TerminalRequest) (all : List Part) → left ≡ asked ∷ rest → number ≡ count → more ≡ count + 1
    → after ≡ before ++ parts_of number asked → before ++ parts_from count left ≡ all → after ++ parts_from more rest ≡ all
next_parts before after number count more asked left rest all left_is number_is more_is pushed known =
    ap (λ (l : List Part). l ++ parts_from more rest) pushed
    ∙ append_assoc before (parts_of number asked) (parts_from more rest)
    ∙ ap (λ (n : ℕ). before ++ (parts_of n asked ++ parts_from more rest)) number_is
    ∙ ap (λ (n : ℕ). before ++ (parts_of count asked ++ parts_from n rest)) more_is
    ∙ ap (λ (l : List TerminalRequest). before ++ parts_from count l) (sym left_is)
    ∙ known

-- no record is left
all_parts : (parts all : List Part) (number : ℕ) (rest : List TerminalRequest) → length rest ≡ 0 → parts ++ parts_from number rest ≡ all → parts ≡ all
all_parts parts all number [] none known = sym (append-nil parts) ∙ known
all_parts parts all number (asked ∷ rest) none known = absurd (omega arith)

-- the parts of all records
first_parts : (parts : List Part) (number : ℕ) (rest records : List TerminalRequest) → parts ≡ [] → number ≡ 0 → rest ≡ records → parts ++ parts_from number rest ≡ parts_from 0 records
first_parts parts number rest records none first all =
    ap (λ (l : List Part). l ++ parts_from number rest) none ∙ ap (λ (n : ℕ). parts_from n rest) first ∙ ap (parts_from 0) all

pub loop-number-init : goal.loop-number-init
loop-number-init c =
    let first : c.into_iter-number-iterator.result.count ≡ 0 = cc (c.enumerate-number-items.ensures.count) in
    let all : c.into_iter-number-iterator.result.iter.rest.items ≡ c.args.records.items = cc (c.into_iter.ensures.rest) in
    record {
      can_next = search rules;
      finite = search rules;
      parts_are = first_parts c.new-parts.result.items c.into_iter-number-iterator.result.count c.into_iter-number-iterator.result.iter.rest.items c.args.records.items c.new-parts.ensures.items first all;
      all = omega (arith, first, ap length all);
      few = omega arith;
    }

pub loop-number-preserved : goal.loop-number-preserved
loop-number-preserved c =
    let known = c.loop-number.invariant in
    let next = c.in-Some.ensures.steps in
    let more = ap length next.0.0 in
    record {
      can_next = search rules;
      finite = search rules;
      parts_are = next_parts c.loop-number.parts.items c.push_parts.new.parts.items c.in-Some.number c.loop-number.number-iterator.count c.next.new.self.count c.in-Some.asked c.loop-number.number-iterator.iter.rest.items c.next.new.self.iter.rest.items _ next.0.0 next.1 next.2 c.in_ok-push_parts.ensures known.parts_are;
      all = omega (arith, known.all, more, next.2);
      few = known.few;
    }

pub returns-in-Some-checked_new : goal.returns-in-Some-checked_new
returns-in-Some-checked_new c =
    let known = c.loop-number.invariant in
    let next = c.in-None.ensures.steps in
    c.in-Some-checked_new.ensures.value
    ∙ all_parts c.loop-number.parts.items _ c.loop-number.number-iterator.count c.loop-number.number-iterator.iter.rest.items (omega (arith, next.0.0, c.loop-number.number-iterator.iter.rest.ok.0)) known.parts_are
