-- The warehouses that take part are there.
use Rattle.std.proofs.Common.{◌≡◌, ℕ, ◌+◌, ◌-◌, ◌≤◌, true, false, nat_eq, nat_lt, cond, refl, arith}
use Rattle.std.proofs.lemmas.Bool.Decides.{nat_tests}
use Rattle.rand_pcg.specs.Lcg.{Lcg}
use Rattle.rows.specs.declared.keys.DistrictKey.{DistrictKey}
use Rattle.rows.specs.Ranged.{is_between}
use Rattle.schema.specs.Scale.{has_warehouse}
use Rattle.number_draws.specs.Words.{word, beyond}
use Rattle.number_draws.specs.Draws.{random_of}
use Rattle.workload.specs.declared.terminal.Terminal.{Terminal}
use Rattle.workload.specs.Warehouses.{beside, other_drawn, supplier_drawn, other_district_drawn, customer_home_drawn}
use Rattle.workload.proofs.Numbers.{random-between, rest_between}

-- a district of a warehouse that is there
pub record IsDistrict (terminal : Terminal) (home : DistrictKey) : Type 0 where
  pub warehouse : has_warehouse terminal.scale home.w_id ≡ true
  pub district : is_between 1 10 home.d_id ≡ true

beside-between : (home place warehouses : ℕ) → is_between 1 warehouses home ≡ true → 1 ≤ place → place + 1 ≤ warehouses → is_between 1 warehouses (beside home place) ≡ true
beside-between home place warehouses h a b = grind (arith, nat_tests)

pub other-there : (terminal : Terminal) (generator : Lcg) → IsDistrict terminal terminal.home → has_warehouse terminal.scale (other_drawn terminal generator).0 ≡ true
unfolding other_drawn
other-there terminal generator there =
    let many = terminal.scale.warehouses in
    let home = terminal.home.w_id in
    elim (nat_eq many 1) as (λ b. nat_eq many 1 ≡ b → is_between 1 many (cond {A = ℕ × Lcg} b (home, generator) (beside home (random_of 1 (many - 1) generator), beyond 1 generator)).0 ≡ true) [
      | true ↦ λ one. there.warehouse
      | false ↦ λ more.
          let some : 1 ≤ many - 1 = grind (arith, nat_tests, there.warehouse, more) in
          let drawn = rest_between 1 (many - 1) (word generator) some in
          beside-between home (random_of 1 (many - 1) generator) many there.warehouse drawn.0 (omega arith)
    ] refl

pub supplier-there : (terminal : Terminal) (generator : Lcg) → IsDistrict terminal terminal.home → has_warehouse terminal.scale (supplier_drawn terminal generator).0 ≡ true
unfolding supplier_drawn
supplier-there terminal generator there =
    let home = terminal.home.w_id in
    let scale = terminal.scale in
    elim terminal.remote as (λ b. has_warehouse scale (cond {A = ℕ × Lcg} b (cond {A = ℕ × Lcg} (nat_eq (random_of 1 100 generator) 1) (other_drawn terminal (beyond 1 generator)) (home, beyond 1 generator)) (home, generator)).0 ≡ true) [
      | true ↦ elim (nat_eq (random_of 1 100 generator) 1) as (λ b. has_warehouse scale (cond {A = ℕ × Lcg} b (other_drawn terminal (beyond 1 generator)) (home, beyond 1 generator)).0 ≡ true) [
        | true ↦ other-there terminal (beyond 1 generator) there
        | false ↦ there.warehouse
      ]
      | false ↦ there.warehouse
    ]

pub supplier-near : (terminal : Terminal) (generator : Lcg) → terminal.remote ≡ false → (supplier_drawn terminal generator).0 ≡ terminal.home.w_id
unfolding supplier_drawn
supplier-near terminal generator none = rw none refl

pub customer_home-there : (terminal : Terminal) (home : DistrictKey) (generator : Lcg) → IsDistrict terminal terminal.home → IsDistrict terminal home → IsDistrict terminal (customer_home_drawn terminal home generator).0
unfolding customer_home_drawn other_district_drawn
customer_home-there terminal home generator there own =
    let far = beyond 1 generator in
    let other : IsDistrict terminal (other_district_drawn terminal far).0 = record {
      warehouse = other-there terminal (beyond 1 far) there;
      district = random-between 1 10 far (omega arith);
    } in
    elim terminal.remote as (λ b. IsDistrict terminal (cond {A = DistrictKey × Lcg} b (cond {A = DistrictKey × Lcg} (nat_lt 85 (random_of 1 100 generator)) (other_district_drawn terminal far) (home, far)) (home, generator)).0) [
      | true ↦ elim (nat_lt 85 (random_of 1 100 generator)) as (λ b. IsDistrict terminal (cond {A = DistrictKey × Lcg} b (other_district_drawn terminal far) (home, far)).0) [
        | true ↦ other
        | false ↦ own
      ]
      | false ↦ own
    ]

pub customer_home-near : (terminal : Terminal) (home : DistrictKey) (generator : Lcg) → terminal.remote ≡ false → (customer_home_drawn terminal home generator).0 ≡ home
unfolding customer_home_drawn
customer_home-near terminal home generator none = rw none refl
