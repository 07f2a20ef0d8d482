-- The parts of a script's records.
use Rattle.std.proofs.Common.{◌≤◌, ◌+◌, ℕ, List, [], ◌∷◌, ◌++◌, length, map, arith, length-append}
use Rattle.std.specs.List.{AllByRecursion}
use Rattle.requests.specs.Script.{part, parts_of, parts_from}
use Rattle.requests.specs.TerminalRequest.{requests_of}
use Rattle.requests.specs.declared.request.Request.{Request}
use Rattle.requests.specs.declared.script.Part.{Part}
use Rattle.requests.specs.declared.terminal_request.TerminalRequest.{TerminalRequest}
use Rattle.requests.specs.declared.terminal_request.TerminalRequest.TheVariants as asked

-- what is so of the parts of some requests, and of the parts behind them
each_of_part : (P : Request → Type 0) (number : ℕ) (requests : List Request) (more : List Part) → AllByRecursion (λ p. P p.request) (map (part number) requests ++ more)
    → AllByRecursion P requests × AllByRecursion (λ p. P p.request) more
each_of_part P number [] more all = (tt, all)
each_of_part P number (request ∷ requests) more all =
    let rest = each_of_part P number requests more all.1 in
    ((all.0, rest.0), rest.1)

-- what is so of each part's request is so of the requests of each record
pub each_of_records : (P : Request → Type 0) (number : ℕ) (records : List TerminalRequest) → AllByRecursion (λ p. P p.request) (parts_from number records)
    → AllByRecursion (λ r. AllByRecursion P (requests_of r)) records
each_of_records P number [] all = tt
each_of_records P number (one ∷ records) all =
    let both = each_of_part P number (requests_of one) (parts_from (number + 1) records) all in
    (both.0, each_of_records P (number + 1) records both.1)

-- each record has a part
some_part : (number : ℕ) (one : TerminalRequest) → 1 ≤ length (parts_of number one)
some_part number (asked.NewOrder n) = omega arith
some_part number (asked.Payment p) = omega arith
some_part number (asked.OrderStatus o) = omega arith
some_part number (asked.Delivery d) = omega arith
some_part number (asked.StockLevel s) = omega arith

-- so there are no more records than parts
pub fewer_records : (number : ℕ) (records : List TerminalRequest) → length records ≤ length (parts_from number records)
fewer_records number [] = omega arith
fewer_records number (one ∷ records) =
    let some = some_part number one in
    let rest = fewer_records (number + 1) records in
    let long = length-append (parts_of number one) (parts_from (number + 1) records) in
    omega (arith, some, rest, long)
