-- A warehouse's customers, and claims on its groups.
use Rattle.std.proofs.Common.{◌≡◌, ℕ, ◌≤◌, true, List, [], ◌∷◌, IsTrue, sym, ap, subst, ◌∙◌, arith}
use Rattle.std.specs.Prelude.{All, length, map}
use Rattle.std.proofs.lemmas.Bool.{and_parts, and_from, eqb-true}
use Rattle.std.proofs.lemmas.List.Elements.{All-nil, All-cons, All-head, All-tail, All-map}
use Rattle.std.specs.FinMap as table
use Rattle.rows.specs.Keys.{district_of_customer}
use Rattle.rows.specs.Ranged.{is_between}
use Rattle.rows.specs.declared.keys.CustomerKey.{CustomerKey}
use Rattle.schema.specs.Scale.{has_warehouse, has_district, has_customer}
use Rattle.partitions.specs.Parts.{Part, IsPart, is_of, has_district_of}
use Rattle.groups.specs.Groups.{warehouse_of}
use Rattle.groups.specs.Footprint.{groups_of}
use Rattle.groups.specs.declared.group_wants.GroupWant.{GroupWant}
use Rattle.tickets.specs.Claims.{ClaimView}
use Rattle.slices.specs.SliceView.{IsClaimAt, AreOfOneHome}
use Rattle.transactions.specs.Granted.{AreGrantedFor, AreGroupWantsAt}

-- ---- the warehouse's customers

-- the scale has each of its customers
pub customer_known : (p : Part) (key : CustomerKey) → IsPart p → IsTrue (table.contains_key p.tables.customers key) → IsTrue (has_customer p.tables.scale key)
customer_known p key part there =
    let here = and_parts (has_district_of p.home (district_of_customer key)) (is_between 1 p.tables.scale.customers key.c_id) (sym (part.customers key) ∙ there) in
    let within = and_parts (is_of p.home key.w_id) (is_between 1 10 key.d_id) here.0 in
    let home : key.w_id ≡ p.home = eqb-true key.w_id p.home within.0 in
    let known : has_warehouse p.tables.scale key.w_id ≡ true = ap (has_warehouse p.tables.scale) home ∙ part.home in
    and_from (has_district p.tables.scale (district_of_customer key)) (is_between 1 p.tables.scale.customers key.c_id)
    (and_from (has_warehouse p.tables.scale key.w_id) (is_between 1 10 key.d_id) known within.1) here.1

-- ---- claims on groups of one warehouse

-- claims that were granted for wants are where the wants are
pub granted_each : (home : ℕ) (group_wants : List GroupWant) (claims : List ClaimView) → AreGrantedFor group_wants claims → AreGroupWantsAt home group_wants → All (IsClaimAt home) claims
granted_each home [] [] granted here = All-nil (IsClaimAt home)
granted_each home [] (claim ∷ claims) granted here = absurd granted
granted_each home (group_want ∷ group_wants) [] granted here = absurd granted
granted_each home (group_want ∷ group_wants) (claim ∷ claims) granted here =
    All-cons (IsClaimAt home) claim claims (ap warehouse_of granted.0.group ∙ All-head (λ (w : GroupWant). warehouse_of w.group ≡ home) group_want group_wants here)
    (granted_each home group_wants claims granted.1 (All-tail (λ (w : GroupWant). warehouse_of w.group ≡ home) group_want group_wants here))

-- claims are where their groups are
each_here : (home : ℕ) (claims : List ClaimView) → All (λ group. warehouse_of group ≡ home) (map (λ (claim : ClaimView). claim.group) claims) → All (IsClaimAt home) claims
each_here home [] here = All-nil (IsClaimAt home)
each_here home (claim ∷ claims) here =
    All-cons (IsClaimAt home) claim claims
    (All-head (λ group. warehouse_of group ≡ home) claim.group (map (λ (claim : ClaimView). claim.group) claims) here)
    (each_here home claims (All-tail (λ group. warehouse_of group ≡ home) claim.group (map (λ (claim : ClaimView). claim.group) claims) here))

-- so claims on the groups of wants are where the wants are
pub claims_here : (home : ℕ) (group_wants : List GroupWant) (claims : List ClaimView) → map (λ (claim : ClaimView). claim.group) claims ≡ groups_of group_wants → AreGroupWantsAt home group_wants
    → All (IsClaimAt home) claims
claims_here home group_wants claims on here =
    each_here home claims
    (subst (All (λ group. warehouse_of group ≡ home)) (sym on) (All-map (λ group. warehouse_of group ≡ home) (λ (group_want : GroupWant). group_want.group) group_wants here))

-- claims on groups of one warehouse, where there are some
pub of_one_home : (home : ℕ) (claims : List ClaimView) → 1 ≤ length claims → All (IsClaimAt home) claims → AreOfOneHome claims
of_one_home home [] some here = absurd (omega (arith, some))
of_one_home home (claim ∷ claims) some here =
    subst (λ h. All (IsClaimAt h) (claim ∷ claims)) (sym (All-head (IsClaimAt home) claim claims here)) here
