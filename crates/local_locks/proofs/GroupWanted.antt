-- A want has a want for each group that it covers.
use Rattle.std.proofs.Common.{◌≡◌, ◌⊎◌, ℕ, zero, suc, ◌+◌, ◌<◌, ◌≤◌, [], ◌∷◌, refl, sym, ap, subst, ◌∙◌, ⊎_elim, arith}
use Rattle.std.specs.Prelude.{Contains}
use Rattle.rows.specs.declared.limits.TheConstants.{STOCK_GROUPS}
use Rattle.requests.specs.declared.group.Group.{Group}
use Rattle.requests.specs.declared.group.Group.TheVariants as g
use Rattle.groups.specs.Groups.{kind_of, warehouse_of}
use Rattle.groups.specs.Wants.{IsIn, kind_number}
use Rattle.groups.specs.declared.group_wants.GroupWant.{GroupWant}
use Rattle.groups.specs.declared.wants.Kind.{Kind}
use Rattle.groups.specs.declared.wants.Kind.TheVariants as kind
use Rattle.groups.specs.declared.wants.Extent.{Extent}
use Rattle.groups.specs.declared.wants.Extent.TheVariants.{One, Every}
use Rattle.tickets.specs.Places.{IsGroupOf}
use Rattle.local_locks.specs.Laws.{EachCoveredGroupIsWanted}
use Rattle.local_locks.specs.GroupWants.{groups_in, groups_under, numbered, group_want_of}
use Rattle.local_locks.proofs.Members.{contains_cases, contains_here, contains_itself, contains_none, contains_one, contains_there}
use Rattle.local_locks.proofs.Views.{mapped, unmapped}

-- ---- the groups of some numbers

first_or_later : (a b : ℕ) → a ≤ b → (a ≡ b) ⊎ (suc a ≤ b)
first_or_later a b before = grind arith

numbered_contains : (group : ℕ → Group) (first count n : ℕ) → first ≤ n → n < first + count → Contains (numbered group first count) (group n)
unfolding numbered
numbered_contains group first zero n from below = absurd (omega (arith, from, below))
numbered_contains group first (suc count) n from below =
    ⊎_elim
    (λ (same : first ≡ n). subst (λ (m : ℕ). Contains (group first ∷ numbered group (suc first) count) (group m)) same (contains_here (group first) (numbered group (suc first) count)))
    (λ (later : suc first ≤ n). contains_there (group first) (numbered group (suc first) count) (group n) (numbered_contains group (suc first) count n later (omega (arith, below))))
    (first_or_later first n from)

contains_numbered : (group : ℕ → Group) (first count : ℕ) (x : Group) → Contains (numbered group first count) x → (n : ℕ) × (group n ≡ x)
unfolding numbered
contains_numbered group first zero x c = contains_none x c
contains_numbered group first (suc count) x c =
    ⊎_elim (λ (same : group first ≡ x). (first, same)) (λ (rest : Contains (numbered group (suc first) count) x). contains_numbered group (suc first) count x rest)
    (contains_cases (group first) (numbered group (suc first) count) x c)

-- ---- the groups of a kind

abbrev kind_named : ℕ → Kind
kind_named zero = kind.Warehouse
kind_named (suc zero) = kind.District
kind_named (suc (suc zero)) = kind.Customers
kind_named (suc (suc (suc zero))) = kind.Orders
kind_named (suc (suc (suc (suc zero)))) = kind.History
kind_named (suc (suc (suc (suc (suc n))))) = kind.Stock

named_itself : (k : Kind) → kind_named (kind_number k) ≡ k
named_itself kind.Warehouse = refl
named_itself kind.District = refl
named_itself kind.Customers = refl
named_itself kind.Orders = refl
named_itself kind.History = refl
named_itself kind.Stock = refl

among_own : (warehouses : ℕ) (group : Group) → IsGroupOf warehouses group → Contains (groups_under (kind_named (kind_of group)) (warehouse_of group)) group
among_own warehouses (g.Warehouse w_id) known = contains_itself (g.Warehouse w_id)
among_own warehouses (g.District w_id d_id) known = numbered_contains (λ n. g.District w_id n) 1 10 d_id known.1.0 (omega (arith, known.1.1))
among_own warehouses (g.Customers w_id d_id) known = numbered_contains (λ n. g.Customers w_id n) 1 10 d_id known.1.0 (omega (arith, known.1.1))
among_own warehouses (g.Orders w_id d_id) known = numbered_contains (λ n. g.Orders w_id n) 1 10 d_id known.1.0 (omega (arith, known.1.1))
among_own warehouses (g.History w_id d_id) known = numbered_contains (λ n. g.History w_id n) 1 10 d_id known.1.0 (omega (arith, known.1.1))
among_own warehouses (g.Stock w_id residue) known = numbered_contains (λ n. g.Stock w_id n) 0 STOCK_GROUPS residue (omega arith) known.1

under_among : (warehouses : ℕ) (k : Kind) (w_id : ℕ) (group : Group) → IsGroupOf warehouses group → kind_of group ≡ kind_number k → warehouse_of group ≡ w_id → Contains (groups_under k w_id) group
under_among warehouses k w_id group known same home =
    let named : kind_named (kind_of group) ≡ k = ap kind_named same ∙ named_itself k in
    subst (λ (j : Kind). Contains (groups_under j w_id) group) named (subst (λ (w : ℕ). Contains (groups_under (kind_named (kind_of group)) w) group) home (among_own warehouses group known))

among_under : (k : Kind) (w_id : ℕ) (group : Group) → Contains (groups_under k w_id) group → (kind_of group ≡ kind_number k) × (warehouse_of group ≡ w_id)
among_under kind.Warehouse w_id group c = let same = contains_one (g.Warehouse w_id) group c in (ap kind_of (sym same), ap warehouse_of (sym same))
among_under kind.District w_id group c = let found = contains_numbered (λ n. g.District w_id n) 1 10 group c in (ap kind_of (sym found.1), ap warehouse_of (sym found.1))
among_under kind.Customers w_id group c = let found = contains_numbered (λ n. g.Customers w_id n) 1 10 group c in (ap kind_of (sym found.1), ap warehouse_of (sym found.1))
among_under kind.Orders w_id group c = let found = contains_numbered (λ n. g.Orders w_id n) 1 10 group c in (ap kind_of (sym found.1), ap warehouse_of (sym found.1))
among_under kind.History w_id group c = let found = contains_numbered (λ n. g.History w_id n) 1 10 group c in (ap kind_of (sym found.1), ap warehouse_of (sym found.1))
among_under kind.Stock w_id group c = let found = contains_numbered (λ n. g.Stock w_id n) 0 STOCK_GROUPS group c in (ap kind_of (sym found.1), ap warehouse_of (sym found.1))

-- ---- what is wanted

covered_among : (warehouses : ℕ) (extent : Extent) (group : Group) → IsGroupOf warehouses group → IsIn extent group → Contains (groups_in extent) group
covered_among warehouses (One own) group known same = subst (Contains (own ∷ [])) same (contains_itself own)
covered_among warehouses (Every prefix) group known under = under_among warehouses prefix.kind prefix.w_id group known under.0 under.1

among_covered : (extent : Extent) (group : Group) → Contains (groups_in extent) group → IsIn extent group
among_covered (One own) group c = contains_one own group c
among_covered (Every prefix) group c = among_under prefix.kind prefix.w_id group c

pub each_covered_group_is_wanted : EachCoveredGroupIsWanted
each_covered_group_is_wanted warehouses want group known = (
  λ covered. mapped (group_want_of want) (groups_in want.extent) group (covered_among warehouses want.extent group known covered),
  λ c.
      let found = unmapped (group_want_of want) (groups_in want.extent) (group_want_of want group) c in
      among_covered want.extent group (subst (Contains (groups_in want.extent)) (ap (λ (w : GroupWant). w.group) found.2) found.1),
)
