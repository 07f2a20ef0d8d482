-- The places of customers, where those of the districts are known.
use Rattle.std.proofs.Common.{◌≡◌, ℕ, ◌+◌, ◌-◌, ◌*◌, ◌<◌, ◌≤◌, true, false, cond, nat_lt, Option, Some, None, is_some, refl, sym, ap, ◌∙◌, arith}
use Rattle.std.specs.Option.{option_map}
use Rattle.std.proofs.lemmas.Bool.Decides.{nat_tests}
use Rattle.std.proofs.lemmas.Nat.{same_from_place, mul-add-lt}
use Rattle.rows.specs.Keys.{district_of_customer}
use Rattle.rows.specs.Ranged.{is_between}
use Rattle.rows.specs.declared.keys.DistrictKey.{DistrictKey}
use Rattle.rows.specs.declared.keys.CustomerKey.{CustomerKey}
use Rattle.schema.specs.Scale.{customer_key}
use Rattle.partitions.specs.Slots.{Slots, AreApart, customer_slot_by}

module _ (slot : Slots) (customers : ℕ) where
  -- a customer who has a place is one of a district that has one
  pub place_is : (c : CustomerKey) (place : ℕ) → customer_slot_by slot customers c ≡ Some place
      → (district : ℕ) × (slot (district_of_customer c) ≡ Some district) × (is_between 1 customers c.c_id ≡ true) × (place ≡ district * customers + (c.c_id - 1))
  place_is c place is =
      elim (is_between 1 customers c.c_id) as (λ b. cond b (option_map (λ d. d * customers + (c.c_id - 1)) (slot (district_of_customer c))) None ≡ Some place
      → (district : ℕ) × (slot (district_of_customer c) ≡ Some district) × (b ≡ true) × (place ≡ district * customers + (c.c_id - 1))) [
        | true ↦ λ e. elim (slot (district_of_customer c)) as (λ r. option_map (λ d. d * customers + (c.c_id - 1)) r ≡ Some place → (district : ℕ) × (r ≡ Some district) × (true ≡ true) × (place ≡ district * customers + (c.c_id - 1))) [
          | Some d ↦ λ h. (d, refl, refl, cc)
          | None ↦ λ h. absurd cc
        ] e
        | false ↦ λ e. absurd cc
      ] is

  -- customers at one place are one
  pub place_exact : AreApart slot → (a b : CustomerKey) (place : ℕ) → customer_slot_by slot customers a ≡ Some place → customer_slot_by slot customers b ≡ Some place → a ≡ b
  place_exact apart a b place at_a at_b =
      let of_a = place_is a place at_a in
      let of_b = place_is b place at_b in
      let a_in = of_a.2 in
      let b_in = of_b.2 in
      let a_c : (1 ≤ a.c_id) × (a.c_id ≤ customers) = grind (arith, nat_tests) in
      let b_c : (1 ≤ b.c_id) × (b.c_id ≤ customers) = grind (arith, nat_tests) in
      let same = same_from_place of_a.0 (a.c_id - 1) of_b.0 (b.c_id - 1) customers (omega arith) (omega arith) (sym of_a.3 ∙ of_b.3) in
      let home : district_of_customer a ≡ district_of_customer b = apart (district_of_customer a) (district_of_customer b) of_b.0 (of_a.1 ∙ ap Some same.0) of_b.1 in
      let number : a.c_id ≡ b.c_id = omega (arith, same.1) in
      λ i. customer_key (home i) (number i)

  -- and it is one of so many as the districts have together
  pub place_within : (districts : ℕ) → ((home : DistrictKey) (place : ℕ) → slot home ≡ Some place → place < districts) → (c : CustomerKey) (place : ℕ) → customer_slot_by slot customers c ≡ Some place → place < districts * customers
  place_within districts within c place at =
      let of = place_is c place at in
      let inside = of.2 in
      let number : (1 ≤ c.c_id) × (c.c_id ≤ customers) = grind (arith, nat_tests) in
      let below = within (district_of_customer c) of.0 of.1 in
      let most = mul-add-lt of.0 customers (c.c_id - 1) districts below (omega arith) in
      omega (arith, most, of.3)

  -- a district that has a place has its customers by their numbers
  pub some_customer : (home : DistrictKey) (c : ℕ) → is_some (slot home) ≡ true → is_some (customer_slot_by slot customers (customer_key home (c + 1))) ≡ nat_lt c customers
  some_customer home c here =
      elim (is_between 1 customers (c + 1)) as (λ b. is_between 1 customers (c + 1) ≡ b → is_some (cond b (option_map (λ d. d * customers + (c + 1 - 1)) (slot home)) None) ≡ nat_lt c customers) [
        | true ↦ λ e.
            let below : nat_lt c customers ≡ true = grind (arith, nat_tests) in
            mapped (slot home) here ∙ sym below
        | false ↦ λ e.
            let past : nat_lt c customers ≡ false = grind (arith, nat_tests) in
            sym past
      ] refl
    where
      mapped : (r : Option ℕ) → is_some r ≡ true → is_some (option_map (λ d. d * customers + (c + 1 - 1)) r) ≡ true
      mapped (Some d) h = refl
      mapped None h = h

  -- one that has none has no customer
  pub no_customer : (c : CustomerKey) → slot (district_of_customer c) ≡ None → is_some (customer_slot_by slot customers c) ≡ false
  no_customer c none =
      elim (is_between 1 customers c.c_id) as (λ b. is_some (cond b (option_map (λ d. d * customers + (c.c_id - 1)) (slot (district_of_customer c))) None) ≡ false) [
        | true ↦ ap (λ r. is_some (option_map (λ (d : ℕ). d * customers + (c.c_id - 1)) r)) none
        | false ↦ refl
      ]

  -- number 0 is no customer's
  pub no_zero : (home : DistrictKey) → is_some (customer_slot_by slot customers (customer_key home 0)) ≡ false
  no_zero home =
      let out : is_between 1 customers 0 ≡ false = grind (arith, nat_tests) in
      rw out refl
