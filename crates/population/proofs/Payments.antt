-- The payments of one customer after another.
use Rattle.std.proofs.Common.{◌≡◌, ℕ, ◌+◌, List, [], ◌∷◌, ◌++◌, map, refl, sym, ap, ◌∙◌}
use Rattle.std.specs.Prelude.{pos}
use Rattle.std.specs.List.{range_with_len}
use Rattle.std.proofs.lemmas.List.{map-append}
use Rattle.std.proofs.lemmas.List.Elements.{All-push, All-nil}
use Rattle.rows.specs.declared.keys.DistrictKey.{DistrictKey}
use Rattle.rows.specs.declared.records.History.{History}
use Rattle.schema.specs.Scale.{customer_key}
use Rattle.population.specs.Rows.{IsDrawnText, AreOpeningPayments}
use Rattle.population.proofs.Ranges.{numbers_more}

pub no_payments : {now : ℕ} (home : DistrictKey) → AreOpeningPayments now home 0 []
no_payments {now} home = record { payers = refl; amounts = All-nil (λ (row : History). row.amount ≡ pos 1000); dates = All-nil (λ (row : History). row.date ≡ now); text = All-nil (λ (row : History). IsDrawnText 12 24 row.«data») }

pub payments_more : {now : ℕ} (home : DistrictKey) (count : ℕ) (payments : List History) (row : History) → row.customer ≡ customer_key home (count + 1) → row.amount ≡ pos 1000 → row.date ≡ now → IsDrawnText 12 24 row.«data»
    → AreOpeningPayments now home count payments → AreOpeningPayments now home (count + 1) (payments ++ row ∷ [])
payments_more {now} home count payments row customer amount date words h = record {
  payers =
      map-append (λ (row : History). row.customer) payments (row ∷ [])
      ∙ ap (λ l. l ++ row.customer ∷ []) h.payers
      ∙ ap (λ k. map (customer_key home) (range_with_len 1 count) ++ k ∷ []) customer
      ∙ sym (ap (map (customer_key home)) (numbers_more count) ∙ map-append (customer_key home) (range_with_len 1 count) ((count + 1) ∷ []));
  amounts = All-push (λ (row : History). row.amount ≡ pos 1000) payments row h.amounts amount;
  dates = All-push (λ (row : History). row.date ≡ now) payments row h.dates date;
  text = All-push (λ (row : History). IsDrawnText 12 24 row.«data») payments row h.text words;
}
