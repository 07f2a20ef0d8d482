-- The parts of a Delivery of a warehouse.
use Rattle.std.proofs.Common.{◌≡◌, ◌+◌, ◌++◌, ℕ, suc, List, [], ◌∷◌, map, ap, ◌∙◌, append_assoc}
use Rattle.std.specs.List.{range_with_len}
use Rattle.requests.specs.Script.{part}
use Rattle.requests.specs.TerminalRequest.{delivery_in}
use Rattle.requests.specs.declared.request.Request.TheVariants.{Delivery}
use Rattle.requests.specs.declared.script.Part.{Part}
use Rattle.requests.specs.declared.terminal_request.WarehouseDelivery.{WarehouseDelivery}

-- those of these districts
abbrev pub deliveries_in : ℕ → WarehouseDelivery → List ℕ → List Part
deliveries_in number asked ks = map (λ k. part number (Delivery (delivery_in asked k))) ks

-- one district more, when some are left
pub one_more : (before after all : List Part) (number : ℕ) (asked : WarehouseDelivery) (k left : ℕ) → after ≡ before ++ (part number (Delivery (delivery_in asked k)) ∷ [])
    → before ++ deliveries_in number asked (range_with_len k (suc left)) ≡ all → after ++ deliveries_in number asked (range_with_len (k + 1) left) ≡ all
one_more before after all number asked k left pushed known =
    let one = part number (Delivery (delivery_in asked k)) in
    ap (λ (l : List Part). l ++ deliveries_in number asked (range_with_len (k + 1) left)) pushed
    ∙ append_assoc before (one ∷ []) (deliveries_in number asked (range_with_len (k + 1) left))
    ∙ known
