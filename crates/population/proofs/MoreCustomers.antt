-- The customers of one district after another.
use Rattle.std.proofs.Common.{◌≡◌, ℕ, ◌+◌, ◌*◌, ◌%◌, ◌<◌, List, [], ◌∷◌, ◌++◌, length, refl, sym, ap, subst, ◌∙◌, arith, append_assoc, append-nil, length-append}
use Rattle.std.specs.List.{slice_get}
use Rattle.std.proofs.lemmas.List.{length_push}
use Rattle.std.proofs.lemmas.Nat.{mod-mul-add}
use Rattle.std.proofs.lemmas.Option.{slice_get_within}
use Rattle.rows.specs.declared.records.Customer.{Customer}
use Rattle.population.specs.Rows.{IsOpeningCustomer, AreOpeningCustomers, AddsCustomers}
use Rattle.population.proofs.Lists.{pushed_at, appended_at}

pub no_customers : (now : ℕ) (old : List Customer) → AddsCustomers now 0 old old
no_customers now old = record { rows = []; added = sym (append-nil old); rows_count = refl; each = λ place row found. absurd cc }

-- one customer more
pub customers_more : (now count : ℕ) (old before after : List Customer) (row : Customer) → after ≡ before ++ row ∷ [] → IsOpeningCustomer now (count + 1) row
    → AddsCustomers now count old before → AddsCustomers now (count + 1) old after
customers_more now count old before after row pushed is had = record {
  rows = had.rows ++ row ∷ [];
  added = pushed ∙ ap (λ l. l ++ row ∷ []) had.added ∙ append_assoc old had.rows (row ∷ []);
  rows_count = length_push had.rows row ∙ ap (λ n. n + 1) had.rows_count;
  each = pushed_at (λ place. IsOpeningCustomer now (place + 1)) had.rows row count (sym had.rows_count) is had.each;
}

pub customers_more_count : (now count : ℕ) (old new : List Customer) → AddsCustomers now count old new → length new ≡ length old + count
customers_more_count now count old new more = ap length more.added ∙ length-append old more.rows ∙ ap (λ n. length old + n) more.rows_count

-- one district more
pub district_more : (now customers count : ℕ) (old new : List Customer) → length old ≡ count * customers → AreOpeningCustomers now customers old
    → AddsCustomers now customers old new → AreOpeningCustomers now customers new
district_more now customers count old new many had more place row found =
    appended_at (λ n r. IsOpeningCustomer now (n % customers + 1) r) old more.rows had
    (λ n r there.
    let below : n < customers = omega (arith, slice_get_within more.rows n r there, more.rows_count) in
    let inner : (length old + n) % customers ≡ n = ap (λ l. (l + n) % customers) many ∙ mod-mul-add count customers n below in
    subst (λ m. IsOpeningCustomer now (m + 1) r) (sym inner) (more.each n r there))
    place row (ap (λ (l : List Customer). slice_get l place) (sym more.added) ∙ found)
