-- Claims that were granted for wants, and the facts of a request that holds none yet.
use Rattle.std.specs.Prelude.{◌≡◌, ◌≤◌, ℕ, Bool, List, [], ◌∷◌, All, count_by}
use Rattle.rows.specs.declared.keys.DistrictKey.{DistrictKey}
use Rattle.partitions.specs.Parts.{SharedTables}
use Rattle.requests.specs.declared.group.Group.{Group}
use Rattle.requests.specs.declared.group.Group.TheVariants as g
use Rattle.requests.specs.declared.request.Request.{Request}
use Rattle.requests.specs.Check.{IsAccepted}
use Rattle.groups.specs.declared.group_wants.Mode.TheVariants as m
use Rattle.groups.specs.declared.group_wants.GroupWant.{GroupWant}
use Rattle.groups.specs.Groups.{warehouse_of}
use Rattle.tickets.specs.Claims.{ClaimView, leaving}

-- this is the request, its check accepts it, and no action has claimed anything yet
pub record IsAsked (shared : SharedTables) (asked given : Request) (held : List (List ClaimView)) : Type 0 where
  pub is : asked ≡ given
  pub accepted : IsAccepted shared.scale asked
  pub none : held ≡ []

-- ---- the groups of a district

-- the customers of a district are one group
abbrev pub group_of_customers : DistrictKey → Group
group_of_customers home = g.Customers home.w_id home.d_id

-- the orders of a district, with their rows of NEW-ORDER and their lines, are one group
abbrev pub group_of_orders : DistrictKey → Group
group_of_orders home = g.Orders home.w_id home.d_id

-- ---- one claim

-- the claim is an exclusive one on this group
pub record IsExclusiveOn (own : Group) (claim : ClaimView) : Type 0 where
  pub group : claim.group ≡ own
  pub mode : claim.mode ≡ m.Exclusive

-- the claim is a shared one on this group
pub record IsSharedOn (own : Group) (claim : ClaimView) : Type 0 where
  pub group : claim.group ≡ own
  pub mode : claim.mode ≡ m.Shared

-- nothing was done under the claim
pub record IsFresh (claim : ClaimView) : Type 0 where
  pub left : claim.left ≡ claim.recorded
  pub back : claim.back ≡ claim.recorded

-- the claim was granted for this want, and nothing was done under it yet
pub record IsGrantedFor (group_want : GroupWant) (claim : ClaimView) : Type 0 where
  pub group : claim.group ≡ group_want.group
  pub mode : claim.mode ≡ group_want.mode
  pub fresh : IsFresh claim

-- the want of a claim
abbrev pub group_want_of : ClaimView → GroupWant
group_want_of claim = record { group = claim.group; mode = claim.mode }

-- ---- several

-- these wants are for groups of the warehouse
abbrev pub AreGroupWantsAt : ℕ → List GroupWant → Type 0
AreGroupWantsAt home group_wants = All (λ (group_want : GroupWant). warehouse_of group_want.group ≡ home) group_wants

-- Some of those wants: none is more often here than there.
abbrev pub AreSomeOf : List GroupWant → List GroupWant → Type 0
AreSomeOf some group_wants = (test : GroupWant → Bool) → count_by test some ≤ count_by test group_wants

-- the claims were granted for these wants, one for each in turn
abbrev pub AreGrantedFor : List GroupWant → List ClaimView → Type 0
AreGrantedFor [] [] = Unit {0}
AreGrantedFor (group_want ∷ group_wants) (claim ∷ claims) = IsGrantedFor group_want claim × AreGrantedFor group_wants claims
AreGrantedFor group_wants claims = ⊥

-- the same claims, whatever they left
abbrev pub AreLeft : List ClaimView → List ClaimView → Type 0
AreLeft [] [] = Unit {0}
AreLeft (old ∷ olds) (new ∷ news) = (new ≡ leaving old new.left) × AreLeft olds news
AreLeft olds news = ⊥
