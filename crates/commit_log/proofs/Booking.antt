-- One entry more keeps what a log's book keeps.
use Rattle.std.proofs.Common.{◌≡◌, ◌≢◌, ℕ, ◌+◌, ◌<◌, ◌==◌, Bool, List, [], ◌∷◌, ◌++◌, if◌then◌else◌, length, set, get_or, refl, sym, ap, ◌∙◌, ⊎_elim, arith, append_assoc, append-nil, length-append, length-set, eq-eqb, ne_eqb}
use Rattle.std.proofs.lemmas.List.Elements.{All-nil, All-cons, All-append}
use Rattle.rows.specs.declared.limits.TheConstants.{SESSIONS}
use mathlib.Core.Option.{some}
use lib.ListN.{get_elem?}
use Rattle.atomic_table.proofs.Lists.{at_set, at_index}
use Rattle.agreement.specs.SeatView.{SeatView}
use Rattle.length_word.specs.LengthView.{LengthView, length_view}
use Rattle.commit_log.specs.declared.entry.Entry.{Entry}
use Rattle.commit_log.specs.declared.mine.Item.{Item}
use Rattle.commit_log.specs.declared.mine.Mine.{Mine}
use Rattle.commit_log.specs.Items.{item, items_from, items_of, mine_of}
use Rattle.commit_log.specs.Kept.{seat_at, BookNames, IsBookOf}

-- the items of a session that an entry at this place makes: one or none
abbrev items_at : ℕ → ℕ → Entry → List Item
items_at session place entry = if session == entry.session then item place entry.number entry.request entry.reply ∷ [] else []

items_from-append : (session place : ℕ) (entries : List Entry) (entry : Entry) → items_from session place (entries ++ entry ∷ []) ≡ items_from session place entries ++ items_at session (place + length entries) entry
items_from-append session place [] entry = append-nil (items_at session place entry) ∙ ap (λ n. items_at session n entry) (omega arith)
items_from-append session place (first ∷ entries) entry =
    let here = items_at session place first in
    ap (λ l. here ++ l) (items_from-append session (place + 1) entries entry)
    ∙ sym (append_assoc here (items_from session (place + 1) entries) (items_at session (place + 1 + length entries) entry))
    ∙ ap (λ n. (here ++ items_from session (place + 1) entries) ++ items_at session n entry) (omega arith)

-- the session that asked has logged one item more
items_of-own : (entries : List Entry) (entry : Entry) → items_of entry.session (entries ++ entry ∷ []) ≡ items_of entry.session entries ++ item (length entries) entry.number entry.request entry.reply ∷ []
items_of-own entries entry =
    let before = items_of entry.session entries in
    items_from-append entry.session 0 entries entry
    ∙ ap (λ (b : Bool). before ++ (if b then item (0 + length entries) entry.number entry.request entry.reply ∷ [] else [])) (eq-eqb entry.session entry.session refl)
    ∙ ap (λ n. before ++ item n entry.number entry.request entry.reply ∷ []) (omega arith)

-- any other has logged what it had
items_of-other : (session : ℕ) (entries : List Entry) (entry : Entry) → session ≢ entry.session → items_of session (entries ++ entry ∷ []) ≡ items_of session entries
items_of-other session entries entry apart =
    let before = items_of session entries in
    items_from-append session 0 entries entry
    ∙ ap (λ (b : Bool). before ++ (if b then item (0 + length entries) entry.number entry.request entry.reply ∷ [] else [])) (ne_eqb session entry.session apart)
    ∙ append-nil before

pub book_more : (names : BookNames) (most : ℕ) (entries : List Entry) (word : LengthView) (seats : List (SeatView Mine)) → IsBookOf names most entries word seats
    → (entry : Entry) (seat : SeatView Mine) (longer : LengthView)
    → entry.session < SESSIONS
    → length entries < most
    → longer ≡ length_view names.length_table (length entries + 1)
    → seat ≡ seat_at (names.mine_tables entry.session) (mine_of (items_of entry.session entries ++ item (length entries) entry.number entry.request entry.reply ∷ []))
    → IsBookOf names most (entries ++ entry ∷ []) longer (set seats entry.session seat)
book_more names most entries word seats book entry seat longer small room grown recorded =
    let long = length-append entries (entry ∷ []) in record {
      limit = book.limit;
      in_range = book.in_range;
      recorded_length = grown ∙ ap (length_view names.length_table) (omega arith);
      few = omega arith;
      sessions = All-append (λ (e : Entry). e.session < SESSIONS) entries (entry ∷ []) book.sessions (All-cons (λ (e : Entry). e.session < SESSIONS) entry [] small (All-nil (λ (e : Entry). e.session < SESSIONS)));
      seat_each = length-set seats entry.session seat ∙ book.seat_each;
      each_records = λ session other at.
          ⊎_elim
          (λ (x : (session ≡ entry.session) × (seat ≡ other)).
          sym x.1 ∙ recorded
          ∙ ap (λ items. seat_at (names.mine_tables entry.session) (mine_of items)) (sym (items_of-own entries entry))
          ∙ ap (λ s. seat_at (names.mine_tables s) (mine_of (items_of s (entries ++ entry ∷ [])))) (sym x.0))
          (λ (x : (session ≢ entry.session) × (get_elem? seats session ≡ some other)).
          book.each_records session other x.1 ∙ ap (λ items. seat_at (names.mine_tables session) (mine_of items)) (sym (items_of-other session entries entry x.0)))
          (at_set seats entry.session session seat other at);
    }

-- the value of the log's seat of a session
pub recorded : (names : BookNames) (most : ℕ) (entries : List Entry) (word : LengthView) (seats : List (SeatView Mine)) → IsBookOf names most entries word seats
    → (session : ℕ) (seat : SeatView Mine) → session < SESSIONS → seat ≡ get_or seats session seat → seat ≡ seat_at (names.mine_tables session) (mine_of (items_of session entries))
recorded names most entries word seats book session seat small at = let many = book.seat_each in book.each_records session seat (at_index seats session seat (omega arith) at)
