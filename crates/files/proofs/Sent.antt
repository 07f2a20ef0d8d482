-- Of a text that is sent to a sink, one part after the other.
use Rattle.std.proofs.Common.{ℕ, List, [], ◌++◌, Option, Result, Ok, Err, OnErr, take, drop, refl, sym, ap, subst, ◌∙◌, append_assoc, take-append-drop}
use Rattle.std.proofs.lemmas.List.{append-nil}
use Rattle.std.specs.Io.KnownBytes.{Appends}
use Rattle.std.proofs.KnownBytes.{Appends-nil, Appends-trans}
use Rattle.files.specs.Sending.{Begins, Sends}

module _ (before after : Option (List ℕ)) where
  -- so many bytes of it
  pub begins : (text : List ℕ) (sent : ℕ) → Appends before after (take sent text) → Begins before after text
  begins text sent appended = (drop sent text, record { sent = take sent text; appended = appended; parts = sym (take-append-drop sent text) })

  -- all of it
  pub sends_all : (text : List ℕ) → Appends before after text → Sends before after text []
  sends_all text appended = record { sent = text; appended = appended; parts = sym (append-nil text) }

  pub all_sent : (text : List ℕ) → Sends before after text [] → Appends before after text
  all_sent text sends = subst (Appends before after) (sym (sends.parts ∙ append-nil sends.sent)) sends.appended

-- none of it
pub sends_none : (sink : Option (List ℕ)) (text : List ℕ) → Sends sink sink text text
sends_none sink text = record { sent = []; appended = Appends-nil sink; parts = refl }

-- what is left of it, and then more
pub sends_on : (before mid after : Option (List ℕ)) (text left more last : List ℕ) → Sends before mid text left → Sends mid after (left ++ more) last → Sends before after (text ++ more) last
sends_on before mid after text left more last first second = record {
  sent = first.sent ++ second.sent;
  appended = Appends-trans before mid after first.sent second.sent first.appended second.appended;
  parts = ap (λ l. l ++ more) first.parts ∙ append_assoc first.sent left more ∙ ap (λ l. first.sent ++ l) second.parts ∙ sym (append_assoc first.sent second.sent last);
}

-- a beginning of more, after what was sent
pub begins_after : (before mid after : Option (List ℕ)) (first more : List ℕ) → Appends before mid first → Begins mid after more → Begins before after (first ++ more)
begins_after before mid after first more appended begun =
    (begun.0, sends_on before mid after first [] more begun.0 (sends_all before mid first appended) begun.1)

-- a beginning of a text is one of it and more
pub begins_more : (before after : Option (List ℕ)) (text more : List ℕ) → Begins before after text → Begins before after (text ++ more)
begins_more before after text more begun = (
  begun.0 ++ more,
  record {
    sent = begun.1.sent;
    appended = begun.1.appended;
    parts = ap (λ l. l ++ more) begun.1.parts ∙ append_assoc begun.1.sent begun.0 more;
  },
)

-- a beginning with nothing in it
pub begins_none : (sink : Option (List ℕ)) (text : List ℕ) → Begins sink sink text
begins_none sink text = (text, sends_none sink text)

-- what is so is so where it fails
pub on_any_err : {T E P : Type 0} (r : Result T E) → P → OnErr r P
on_any_err (Ok t) p = tt
on_any_err (Err e) p = p
