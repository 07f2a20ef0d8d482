-- Replaying one entry more.
use Rattle.std.proofs.Common.{◌≡◌, ℕ, ◌+◌, ◌<◌, ◌≤◌, List, [], ◌∷◌, ◌++◌, length, take, Some, refl, sym, ap, subst, ◌∙◌, arith, ⊎_elim, zero, suc}
use Rattle.std.specs.List.{slice_get}
use Rattle.std.proofs.lemmas.List.{take_more}
use Rattle.std.proofs.lemmas.Option.{slice_get_within, get_or_from_slice_get}
use Rattle.std.proofs.Math.Nat.{eq-or-lt_of_le}
use Rattle.schema.specs.Database.{Database}
use Rattle.machine.specs.Machine.{transaction, tables_after}
use Rattle.commit_log.specs.declared.entry.Entry.{Entry}
use Rattle.commit_log.specs.declared.verdict.Replay.TheVariants.{Equal, Differs}
use Rattle.commit_log.specs.Log.{requests_of}
use Rattle.commit_log.specs.Replay.{IsReplied, tables_before, Stands, IsReplayOf}
use Rattle.commit_log.proofs.Legal.{tables_after-append, map_push}

-- the entries before this place repeat, and the engine has carried out their requests
pub record SoFar (opening : Database) (entries : List Entry) (place : ℕ) (tables : Database) : Type 0 where
  pub left : tables ≡ tables_before opening entries place
  pub stood : (before : ℕ) → before < place → Stands opening entries before

pub none_so_far : (opening : Database) (entries : List Entry) (tables : Database) → tables ≡ opening → SoFar opening entries 0 tables
none_so_far opening entries tables is = record { left = is; stood = λ before below. absurd (omega (arith, below)) }

some_is : {X : Type 0} (a b : X) → Some a ≡ Some b → a ≡ b
some_is a b h = cc

take_one_more : {X : Type 0} (xs : List X) (k : ℕ) (x : X) → slice_get xs k ≡ Some x → take (k + 1) xs ≡ take k xs ++ x ∷ []
take_one_more xs k x h = take_more xs k x (slice_get_within xs k x h) ∙ ap (λ y. take k xs ++ y ∷ []) (get_or_from_slice_get xs k x x h)

pub one_more_so_far : (opening : Database) (entries : List Entry) (place : ℕ) (tables next : Database) (entry : Entry)
    → slice_get entries place ≡ Some entry → SoFar opening entries place tables → IsReplied tables entry → next ≡ (transaction tables entry.request).tables
    → SoFar opening entries (place + 1) next
one_more_so_far opening entries place tables next entry here h replied next_is =
    let before = tables_before opening entries place in
    record {
      left =
          next_is ∙ ap (λ (t : Database). (transaction t entry.request).tables) h.left
          ∙ sym (tables_after-append opening (requests_of (take place entries)) entry.request)
          ∙ ap (tables_after opening) (sym (map_push (λ (e : Entry). e.request) (take place entries) entry) ∙ ap requests_of (sym (take_one_more entries place entry here)));
      stood = λ k below. ⊎_elim
          (λ (now : k ≡ place). subst (Stands opening entries) (sym now) (entry, (here, subst (λ (t : Database). IsReplied t entry) h.left replied)))
          (λ (earlier : k < place). h.stood k earlier)
          (eq-or-lt_of_le (omega (arith, below)));
    }

-- the whole log was replayed
pub all_stand : (opening : Database) (entries : List Entry) (place : ℕ) (tables last : Database) → length entries ≤ place → SoFar opening entries place tables → last ≡ tables
    → IsReplayOf opening entries (Equal last)
all_stand opening entries place tables last whole h is = (
  λ k below. h.stood k (omega (arith, below, whole)),
  is ∙ h.left ∙ ap (λ (l : List Entry). tables_after opening (requests_of l)) (take_all entries place whole),
)
  where
    take_all : {X : Type 0} (xs : List X) (n : ℕ) → length xs ≤ n → take n xs ≡ xs
    take_all [] zero h = refl
    take_all [] (suc n) h = refl
    take_all (x ∷ xs) zero h = absurd (omega (arith, h))
    take_all (x ∷ xs) (suc n) h = ap (λ l. x ∷ l) (take_all xs n (omega (arith, h)))

-- an entry that doesn't repeat is the first one
pub differs_here : (opening : Database) (entries : List Entry) (place : ℕ) (tables : Database) (entry : Entry)
    → slice_get entries place ≡ Some entry → place < length entries → SoFar opening entries place tables → (IsReplied tables entry → ⊥)
    → IsReplayOf opening entries (Differs place)
differs_here opening entries place tables entry here below h no' =
    (below, (h.stood, λ stands. no' (subst (λ (t : Database). IsReplied t entry) (sym h.left) (subst (λ (e : Entry). IsReplied (tables_before opening entries place) e) (some_is stands.0 entry (sym stands.1.0 ∙ here)) stands.1.1))))
