-- The parts of scripts.
use Rattle.std.specs.Prelude.{◌≡◌, ◌≢◌, ◌⊎◌, ℕ, ◌+◌, List, [], ◌∷◌, ◌++◌, Some, map}
use Rattle.std.specs.List.{slice_get}
use Rattle.requests.specs.TerminalRequest.{requests_of}
use Rattle.requests.specs.declared.request.Request.{Request}
use Rattle.requests.specs.declared.request.Request.TheVariants.{Delivery}
use Rattle.requests.specs.declared.script.Part.{Part}
use Rattle.requests.specs.declared.terminal_request.TerminalRequest.{TerminalRequest}

-- the part with this number and this request
abbrev pub part : ℕ → Request → Part
part number request = record { number = number; request = request }

-- the parts of the record with this number: the requests that it is carried out as, each with the number of the record
abbrev pub parts_of : ℕ → TerminalRequest → List Part
parts_of number asked = map (part number) (requests_of asked)

-- the parts of these records, in order; the first record has this number
abbrev pub parts_from : ℕ → List TerminalRequest → List Part
parts_from number [] = []
parts_from number (asked ∷ records) = parts_of number asked ++ parts_from (number + 1) records

-- both requests are Deliveries, of different districts
abbrev pub AreOfOtherDistricts : Request → Request → Type 0
AreOfOtherDistricts (Delivery one) (Delivery other) = one.home.d_id ≢ other.home.d_id
AreOfOtherDistricts _ _ = ⊥

-- any two parts differ: in their numbers, or in the districts of their Deliveries
abbrev pub AreDistinct : List Part → Type 0
AreDistinct parts = (place other : ℕ) (a b : Part) → place ≢ other → slice_get parts place ≡ Some a → slice_get parts other ≡ Some b
    → (a.number ≢ b.number) ⊎ AreOfOtherDistricts a.request b.request

-- the parts of a script made from records differ, whatever the records are
abbrev pub PartsOfRecordsDiffer : Type 0
PartsOfRecordsDiffer = (records : List TerminalRequest) → AreDistinct (parts_from 0 records)

-- the number of each part is its place
abbrev pub AreNumberedByPlace : List Part → Type 0
AreNumberedByPlace parts = (place : ℕ) (one : Part) → slice_get parts place ≡ Some one → one.number ≡ place
