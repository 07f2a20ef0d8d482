-- The committed contents of one warehouse depend only on its own current contents.
use Rattle.std.proofs.Common.{◌≡◌, ◌≢◌, ℕ, Bool, true, false, List, refl, sym, ◌∙◌, ⊎_elim}
use Rattle.std.specs.Prelude.{IsTrue, ◌==◌}
use Rattle.std.proofs.lemmas.Bool.Decides.{eqb_tells}
use Rattle.requests.specs.declared.group.Group.{Group}
use Rattle.groups.specs.Content.{Content}
use Rattle.groups.specs.Groups.{warehouse_of}
use Rattle.tickets.specs.Claims.{ClaimView}
use Rattle.tickets.specs.Committed.{GroupsOfSlice, AreCommitted}
use Rattle.tickets.proofs.Committed.{AreCommitted-same}
use Rattle.slices.specs.SliceView.{at_home}

-- ---- the groups of a warehouse

pub home_recorded : (home : ℕ) (group : Group) → IsTrue (at_home home group) → warehouse_of group ≡ home
home_recorded home group near = ⊎_elim
    (λ (same : ((warehouse_of group == home) ≡ true) × (warehouse_of group ≡ home)). same.1)
    (λ (other : ((warehouse_of group == home) ≡ false) × (warehouse_of group ≢ home)). let no : true ≡ false = sym near ∙ other.0 in cc)
    (eqb_tells (warehouse_of group) home)

pub home_records : (home : ℕ) (group : Group) → warehouse_of group ≡ home → at_home home group ≡ true
home_records home group at = ⊎_elim
    (λ (same : ((warehouse_of group == home) ≡ true) × (warehouse_of group ≡ home)). same.0)
    (λ (other : ((warehouse_of group == home) ≡ false) × (warehouse_of group ≢ home)). absurd (other.1 at))
    (eqb_tells (warehouse_of group) home)

pub not_home : (home : ℕ) (group : Group) → warehouse_of group ≢ home → at_home home group ≡ false
not_home home group apart = ⊎_elim
    (λ (same : ((warehouse_of group == home) ≡ true) × (warehouse_of group ≡ home)). absurd (apart same.1))
    (λ (other : ((warehouse_of group == home) ≡ false) × (warehouse_of group ≢ home)). other.0)
    (eqb_tells (warehouse_of group) home)

-- ---- the contents of some groups

-- these have the same where one looks
abbrev pub AreAlike : (Group → Bool) → GroupsOfSlice → GroupsOfSlice → Type 0
AreAlike here a b = (group : Group) → IsTrue (here group) → (b.rows group ≡ a.rows group) × (b.free group ≡ a.free group)

pub seen : (here : Group → Bool) (tables : Group → Content) (a b : GroupsOfSlice) (claims : List ClaimView) → AreAlike here a b → AreCommitted here tables a claims → AreCommitted here tables b claims
seen here tables a b claims same h = AreCommitted-same here tables tables a b claims (λ _ _. refl) (λ group near. (same group near).0) (λ group near. (same group near).1) h
