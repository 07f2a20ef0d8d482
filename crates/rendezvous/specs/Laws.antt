-- Laws of the numbers of awaited places, for code that reports and code that counts on the awaited ones.
use Rattle.std.specs.Prelude.{◌≡◌, ◌↔◌, ◌≤◌, ℕ, ◌+◌, List, [], ◌∷◌, Option, Some, None, length, map, replicate, slice_get, slice_set}
use Rattle.std.specs.List.{Contains, range_with_len}
use Rattle.std.specs.List.Sorted.{IsPermutation}
use Rattle.rendezvous.specs.Awaited.{awaited_from}

-- If a place reports that had not, its number is no longer awaited, and the others are as before.
abbrev pub ReportTakesOneNumber : Type 0 → Type 0
ReportTakesOneNumber R = (n place : ℕ) (xs : List (Option R)) (r : R) → slice_get xs place ≡ Some None
    → IsPermutation (awaited_from n xs) ((n + place) ∷ awaited_from n (slice_set xs place (Some r)))

-- If all have reported, no place is awaited.
abbrev pub NoneAwaitedOfAllReported : Type 0 → Type 0
NoneAwaitedOfAllReported R = (n : ℕ) (xs : List (Option R)) (results : List R) → map Some results ≡ xs → awaited_from n xs ≡ []

-- No place is awaited exactly if all have reported.
abbrev pub NoneAwaitedExactlyOfAllReported : Type 0 → Type 0
NoneAwaitedExactlyOfAllReported R = (n : ℕ) (xs : List (Option R)) → (awaited_from n xs ≡ []) ↔ ((results : List R) × (map Some results ≡ xs))

-- There are at most as many awaited places as places.
abbrev pub AwaitedAreAtMostThePlaces : Type 0 → Type 0
AwaitedAreAtMostThePlaces R = (n : ℕ) (xs : List (Option R)) → length (awaited_from n xs) ≤ length xs

-- At first all places are awaited, in the order of their numbers.
abbrev pub AllAreAwaitedAtFirst : Type 0 → Type 0
AllAreAwaitedAtFirst R = (n count : ℕ) → awaited_from {R = R} n (replicate count None) ≡ range_with_len n count

-- Of the numbers from n on, exactly those of the places that have not reported are awaited.
abbrev pub AwaitedHaveNotReported : Type 0 → Type 0
AwaitedHaveNotReported R = (n number : ℕ) (xs : List (Option R)) → Contains (awaited_from n xs) number ↔ ((place : ℕ) × (number ≡ n + place) × (slice_get xs place ≡ Some None))
