-- The executors have ended: the outcome follows from the log, the sessions and the slices.
use Rattle.std.proofs.Common.{◌≡◌, ℕ, zero, suc, ◌<◌, ◌≤◌, List, [], ◌∷◌, length, Some, Result, sym, ap, subst, ◌∙◌}
use Rattle.std.specs.List.{slice_get, slice_index_or, All}
use Rattle.std.proofs.lemmas.List.Elements.{All-map}
use Rattle.std.proofs.lemmas.Option.{slice_get_within}
use Rattle.rows.specs.declared.limits.TheConstants.{SESSIONS}
use Rattle.schema.specs.Database.{Database, IsWithinScale}
use Rattle.partitions.specs.Parts.{SharedTables, shared_of}
use Rattle.requests.specs.declared.script.Part.{Part}
use Rattle.requests.specs.declared.refusal.Refusal.{Refusal}
use Rattle.requests.specs.Check.{IsAccepted}
use Rattle.machine.specs.Machine.{replies, tables_after}
use Rattle.commit_log.specs.declared.entry.Entry.{Entry}
use Rattle.commit_log.specs.Items.{items_of}
use Rattle.commit_log.specs.Log.{replies_of, requests_of}
use Rattle.slices.specs.SliceView.{SliceView, joined}
use Rattle.engine.specs.Rules.{rules_of}
use Rattle.engine.specs.Closing.{AreSettled}
use Rattle.engine.specs.Outcome.{IsOutcome}
use Rattle.engine.specs.Served.{ServedEach}
use Rattle.engine.proofs.Settled.{settled_tables}
use Rattle.engine.proofs.Together.{together}

-- the item at a place has what all items have
of_all : {X : Type 0} (P : X → Type 0) (xs : List X) (n : ℕ) (x : X) → All P xs → slice_get xs n ≡ Some x → P x
of_all P xs n x all at = subst P (stands_at xs n x at) (all n x (slice_get_within xs n x at))
  where
    stands_at : {Y : Type 0} (ys : List Y) (k : ℕ) (y : Y) → slice_get ys k ≡ Some y → slice_index_or ys k y ≡ y
    stands_at [] k y h = absurd cc
    stands_at (z ∷ ys) zero y h = cc
    stands_at (z ∷ ys) (suc k) y h = stands_at ys k y h

-- The log is as it was when the executors had ended, however often it was looked at since.
pub closed : (opening : Database) (most : ℕ) (scripts : List (List Part)) (answers : List (List (Result ℕ Refusal))) (ended served idle settled entries : List Entry) (catalog : SharedTables) (slices : List SliceView) (tables : Database)
    → catalog ≡ shared_of opening → IsWithinScale opening
    → served ≡ ended → idle ≡ served → settled ≡ idle → entries ≡ settled
    → length answers ≡ length scripts → ServedEach (rules_of opening most) scripts ended answers
    → ((s : ℕ) → length scripts ≤ s → s < SESSIONS → items_of s served ≡ [])
    → AreSettled opening (tables_after opening (requests_of idle)) slices → tables ≡ (joined catalog slices).tables → IsWithinScale tables
    → replies_of settled ≡ replies opening (requests_of settled) → All (λ (e : Entry). IsAccepted opening.scale e.request) settled → All (λ (e : Entry). e.session < SESSIONS) settled → length settled ≤ most
    → IsOutcome opening most scripts entries tables answers
closed opening most scripts answers ended served idle settled entries catalog slices tables catalog_is within_opening same_served same_idle same_settled entries_are count each none set made within_tables replied accepted sessions few =
    let back : ended ≡ settled = sym (same_settled ∙ same_idle ∙ same_served) in
    let whole_is : tables ≡ (joined (shared_of opening) slices).tables = made ∙ ap (λ (c : SharedTables). (joined c slices).tables) catalog_is in
    let set_now : AreSettled opening (tables_after opening (requests_of settled)) slices = subst (λ (l : List Entry). AreSettled opening (tables_after opening (requests_of l)) slices) (sym same_settled) set in
    let asked : All (IsAccepted opening.scale) (requests_of settled) = All-map (IsAccepted opening.scale) (λ (e : Entry). e.request) settled accepted in
    let last : tables ≡ tables_after opening (requests_of settled) =
    whole_is ∙ settled_tables opening (requests_of settled) slices set_now within_opening (subst IsWithinScale whole_is within_tables) asked in
    let each_now : ServedEach (rules_of opening most) scripts settled answers = subst (λ (l : List Entry). ServedEach (rules_of opening most) scripts l answers) back each in
    let none_now : (s : ℕ) → length scripts ≤ s → s < SESSIONS → items_of s settled ≡ [] =
    subst (λ (l : List Entry). (s : ℕ) → length scripts ≤ s → s < SESSIONS → items_of s l ≡ []) (sym (same_settled ∙ same_idle)) none in
    let known : (place : ℕ) (e : Entry) → slice_get settled place ≡ Some e → e.session < SESSIONS = λ place e at. of_all (λ (f : Entry). f.session < SESSIONS) settled place e sessions at in
    subst (λ (l : List Entry). IsOutcome opening most scripts l tables answers) (sym entries_are)
    (together opening most scripts settled tables answers (record { replied = replied; left = last }) few count known each_now none_now)
