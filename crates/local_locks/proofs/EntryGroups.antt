-- The groups of entries stay the same where only the contents of groups change.
use Rattle.std.proofs.Common.{◌≡◌, ℕ, List, [], ◌∷◌, map, refl, ap}
use Rattle.requests.specs.declared.group.Group.{Group}
use Rattle.local_locks.specs.LockTableView.{Stand, groups_of}
use Rattle.local_locks.specs.Locks.{group_at, groups_at}

pub groups_kept : (change : Stand → Stand) → ((s : Stand) → (change s).group ≡ s.group) → (stands : List Stand) → groups_of (map change stands) ≡ groups_of stands
groups_kept change same [] = refl
groups_kept change same (s ∷ stands) = let rest = groups_kept change same stands in λ i. same s i ∷ rest i

pub entries_kept : (change : Stand → Stand) → ((s : Stand) → (change s).group ≡ s.group) → (stands : List Stand) (places : List ℕ) → groups_at (map change stands) places ≡ groups_at stands places
entries_kept change same stands places = ap (λ (groups : List Group). map (group_at groups) places) (groups_kept change same stands)
