use Rattle.std.proofs.Common.{◌≡◌, ◌≤◌, ◌+◌, ◌++◌, ℕ, zero, suc, List, [], ◌∷◌, refl, sym, ap, ◌∙◌, arith, append-nil}
use Rattle.std.specs.List.{range_with_len}
use Rattle.requests.specs.Script.{part, parts_of}
use Rattle.requests.specs.TerminalRequest.{delivery_in}
use Rattle.requests.specs.declared.request.Request.TheVariants.{Delivery}
use Rattle.requests.specs.declared.script.Part.{Part}
use Rattle.requests.specs.declared.terminal_request.TerminalRequest.TheVariants as asked
use Rattle.requests.specs.declared.terminal_request.WarehouseDelivery.{WarehouseDelivery}
use Rattle.requests.proofs.ScriptParts.{deliveries_in, one_more}
use Rattle.requests.proofs.script.push_deliveries.Goals as goal

-- so many districts are left, and the parts so far
abbrev Left : List Part → List Part → ℕ → WarehouseDelivery → ℕ → Type 0
Left parts all number of d_id = (left : ℕ) × (d_id + left ≡ 11) × (parts ++ deliveries_in number of (range_with_len d_id left) ≡ all)

next_left : (before after all : List Part) (number : ℕ) (of : WarehouseDelivery) (d_id : ℕ) → after ≡ before ++ (part number (Delivery (delivery_in of d_id)) ∷ [])
    → (left : ℕ) → d_id + left ≡ 11 → suc d_id ≤ 11 → before ++ deliveries_in number of (range_with_len d_id left) ≡ all → Left after all number of (d_id + 1)
next_left before after all number of d_id pushed zero long inside known = absurd (omega arith)
next_left before after all number of d_id pushed (suc left) long inside known = (left, omega arith, one_more before after all number of d_id left pushed known)

none_left : (parts all : List Part) (number : ℕ) (of : WarehouseDelivery) (d_id left : ℕ) → left ≡ 0 → parts ++ deliveries_in number of (range_with_len d_id left) ≡ all → parts ≡ all
none_left parts all number of d_id zero none known = sym (append-nil parts) ∙ known
none_left parts all number of d_id (suc left) none known = absurd (omega arith)

pub loop-d_id-init : goal.loop-d_id-init
loop-d_id-init c = (10, omega arith, refl)

pub loop-d_id-preserved : goal.loop-d_id-preserved
loop-d_id-preserved c =
    let known = c.loop-d_id.invariant in
    let pushed = c.in_ok-push_part.ensures ∙ ap (λ d. c.loop-d_id.parts.items ++ (part c.args.number (Delivery d) ∷ [])) c.of_district-delivery.ensures in
    next_left c.loop-d_id.parts.items c.push_part.new.parts.items (c.args.parts.now.items ++ parts_of c.args.number (asked.Delivery c.args.asked.now)) c.args.number c.args.asked.now c.loop-d_id.d_id pushed known.0 known.1 (omega (arith, c.loop-d_id-test.true)) known.2

pub returns : goal.returns
returns c =
    let known = c.loop-d_id.invariant in
    none_left c.loop-d_id.parts.items _ c.args.number c.args.asked.now c.loop-d_id.d_id known.0 (omega (arith, known.1, c.loop-d_id-test.false)) known.2
