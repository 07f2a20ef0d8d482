-- The text of records that are sent to a sink, one record more at a time.
use Rattle.std.proofs.Common.{◌≡◌, ℕ, List, [], ◌∷◌, ◌++◌, Option, refl, sym, ap, subst, ◌∙◌, append_assoc}
use Rattle.std.proofs.lemmas.List.{append-nil}
use Rattle.std.specs.Io.KnownBytes.{Appends}
use Rattle.files.specs.Sending.{Begins, Sends}
use Rattle.files.specs.Written.{record_text, csv_text}
use Rattle.files.proofs.Sent.{all_sent, sends_none, sends_on}

pub csv_text-append : (rows more : List (List (List ℕ))) → csv_text (rows ++ more) ≡ csv_text rows ++ csv_text more
unfolding csv_text
csv_text-append [] more = refl
csv_text-append (fields ∷ rows) more =
    ap (λ l. record_text fields ++ l) (csv_text-append rows more) ∙ sym (append_assoc (record_text fields) (csv_text rows) (csv_text more))

pub csv_text-push : (rows : List (List (List ℕ))) (fields : List (List ℕ)) → csv_text (rows ++ (fields ∷ [])) ≡ csv_text rows ++ record_text fields
unfolding csv_text
csv_text-push rows fields = csv_text-append rows (fields ∷ []) ∙ ap (λ l. csv_text rows ++ l) (append-nil (record_text fields))

-- no record yet
pub sends-start : (sink : Option (List ℕ)) (left : List ℕ) → left ≡ [] → Sends sink sink (csv_text []) left
unfolding csv_text
sends-start sink left none = subst (Sends sink sink []) (sym none) (sends_none sink [])

module _ (before mid after : Option (List ℕ)) (rows : List (List (List ℕ))) (left : List ℕ) (sends : Sends before mid (csv_text rows) left) where
  -- a record more
  pub sends-push : (fields : List (List ℕ)) (last : List ℕ) → Sends mid after (left ++ record_text fields) last → Sends before after (csv_text (rows ++ (fields ∷ []))) last
  sends-push fields last one =
      subst (λ text. Sends before after text last) (sym (csv_text-push rows fields)) (sends_on before mid after (csv_text rows) left (record_text fields) last sends one)

  -- a beginning of a record more
  pub begins-push : (fields : List (List ℕ)) → Begins mid after (left ++ record_text fields) → Begins before after (csv_text (rows ++ (fields ∷ [])))
  begins-push fields begun = (begun.0, sends-push fields begun.0 begun.1)

  -- what was left of them
  pub sends-end : (last : List ℕ) → Sends mid after left last → Sends before after (csv_text rows) last
  sends-end last rest =
      subst (λ text. Sends before after text last) (append-nil (csv_text rows))
      (sends_on before mid after (csv_text rows) left [] last sends (subst (λ text. Sends mid after text last) (sym (append-nil left)) rest))

  -- all that was left
  pub sent-end : Sends mid after left [] → Appends before after (csv_text rows)
  sent-end rest = all_sent before after (csv_text rows) (sends-end [] rest)

  -- a beginning of what was left
  pub begins-end : Begins mid after left → Begins before after (csv_text rows)
  begins-end begun = (begun.0, sends-end begun.0 begun.1)
