-- The chosen customer, from the index and the tables.
use Rattle.std.proofs.Common.{◌≡◌, ℕ, suc, ◌<◌, Bool, true, false, cond, List, [], ◌∷◌, length, Contains, Option, Some, None, MatchOption, sym, ap, ◌∙◌, arith}
use Rattle.std.specs.List.{find}
use Rattle.std.specs.Option.{option_map}
use Rattle.std.specs.FinMap as map
use Rattle.rows.specs.declared.keys.DistrictKey.{DistrictKey}
use Rattle.rows.specs.declared.keys.CustomerKey.{CustomerKey}
use Rattle.schema.specs.Scale.{customer_key}
use Rattle.indexes.specs.Namesakes.{Customers, Keyed, is_middle, middle, namesakes, IsMiddleOf}
use Rattle.indexes.proofs.Middles.{its_key, its_row, middle_found}
use Rattle.requests.specs.declared.request.Choice.{Choice}
use Rattle.requests.specs.declared.request.Choice.TheVariants.{Number, LastName}
use Rattle.machine.specs.Chosen.{chosen, keyed_at}

module _ (customers : Customers) (home : DistrictKey) (choice : Choice) where
  -- the index contains the number of a last name
  pub by_name : (last word : List ℕ) (number : Option ℕ) → word ≡ last → choice ≡ LastName last
      → MatchOption number (namesakes customers home word ≡ []) (IsMiddleOf customers home word)
      → MatchOption number (chosen customers home choice ≡ None) (λ n. keyed_at customers (customer_key home n) ≡ chosen customers home choice)
  by_name last word None same_name is nobody =
      ap (chosen customers home) is ∙ ap (λ w. middle (namesakes customers home w)) (sym same_name) ∙ ap middle nobody
  by_name last word (Some n) same_name is found =
      let there : map.get customers (customer_key home n) ≡ Some found.0 = its_row customers home word (customer_key home n, found.0) found.1.is_one in
      ap (option_map (λ row. (customer_key home n, row))) there
      ∙ sym (middle_found customers home word n found.0 there found)
      ∙ ap (λ w. middle (namesakes customers home w)) same_name
      ∙ ap (chosen customers home) (sym is)

-- ---- who was chosen is there

first_held : {X : Type 0} (p : X → Bool) (xs : List X) (x : X) → find p xs ≡ Some x → Contains xs x
first_held p [] x = λ e. absurd cc
first_held {X} p (y ∷ ys) x =
    elim (p y) as (λ b. cond b (Some y) (find p ys) ≡ Some x → Contains (y ∷ ys) x) [
      | true ↦ λ e. let same : y ≡ x = cc in (0, omega arith, same)
      | false ↦ λ e.
          let rest = first_held p ys x e in
          let inside : rest.0 < length ys = rest.1 in
          (suc rest.0, omega arith, rest.2)
    ]

-- a row at a key, with the key
keyed : {K X : Type 0} (key : K) (row : Option X) (e : K × X) → option_map (λ r. (key, r)) row ≡ Some e → (row ≡ Some e.1) × (e.0 ≡ key)
keyed key (Some r) e is = let same : (key, r) ≡ e = cc in (ap (λ (x : _ × _). Some x.1) same, ap (λ (x : _ × _). x.0) (sym same))
keyed key None e is = absurd cc

module _ (customers : Customers) (home : DistrictKey) where
  -- it is a customer of the district, whose row the table has
  pub chosen_there : (choice : Choice) (c : Keyed) → chosen customers home choice ≡ Some c → (map.get customers c.0 ≡ Some c.1) × (c.0 ≡ customer_key home c.0.c_id)
  chosen_there (Number n) c is =
      let at = keyed (customer_key home n) (map.get customers (customer_key home n)) c is in
      (ap (map.get customers) at.1 ∙ at.0, at.1 ∙ ap (λ (k : CustomerKey). customer_key home k.c_id) (sym at.1))
  chosen_there (LastName last) c is =
      let held = first_held (is_middle (namesakes customers home last)) (namesakes customers home last) c is in
      (its_row customers home last c held, its_key customers home last c held)
