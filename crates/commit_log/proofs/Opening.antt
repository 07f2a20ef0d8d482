-- The loops that make the seats of a log, and its passes.
use Rattle.std.proofs.Common.{◌≡◌, ℕ, zero, suc, ◌+◌, ◌<◌, List, [], ◌∷◌, ◌++◌, length, map, refl, sym, ap, ◌∙◌, subst, arith, ◌≤◌, zero-le, length-append, below_more}
use Rattle.std.proofs.lemmas.List.{length-map}
use Rattle.std.specs.Prelude.{All, Some, slice_get}
use Rattle.std.proofs.lemmas.List.Elements.{All-nil, All-cons, All-append}
use mathlib.Core.Option.{some, some-ne-none, some-injective}
use lib.ListN.{get_elem?}
use Rattle.rows.specs.declared.limits.TheConstants.{MOST_ENTRIES, SESSIONS}
use Rattle.atomic_table.specs.Seated.{TableId}
use Rattle.agreement.specs.SeatView.{SeatView}
use Rattle.length_word.specs.LengthView.{LengthView, length_view}
use Rattle.commit_log.specs.declared.unnamed_log.Lane.{Lane}
use Rattle.commit_log.specs.declared.mine.Mine.{Mine}
use Rattle.commit_log.specs.Asks.{nothing_asked}
use Rattle.commit_log.specs.Items.{mine_of}
use Rattle.commit_log.specs.declared.entry.Entry.{Entry}
use Rattle.commit_log.specs.Kept.{seat_at, IsPair, BookNames, EachRecords, IsBookOf}
use Rattle.commit_log.specs.Lanes.{mine_table, asks_table, IsLaneOf, IsNewLane, AreLanes}
use Rattle.commit_log.specs.LogTables.{table_of}
use Rattle.commit_log.specs.PassView.{PassView, pass_view, SessionSeatView, session_seat_view, new_pass, new_seat}

map_push : {X Y : Type 0} (f : X → Y) (xs : List X) (x : X) → map f (xs ++ x ∷ []) ≡ map f xs ++ f x ∷ []
map_push f [] x = refl
map_push f (y ∷ ys) x = ap (λ l. f y ∷ l) (map_push f ys x)

-- no lanes yet
pub no_lanes : (word : LengthView) → word.entries ≡ 0 → AreLanes 0 word [] []
no_lanes word empty = record { empty = empty; many = refl; seats_of_log = refl; new = All-nil (IsNewLane word.table) }

-- what a session has with a new mark, and a seat of each pair
pub new_lane : (word : LengthView) (lane : Lane) (log_mine : SeatView Mine) → word.entries ≡ 0 → lane.mark ≡ word → IsPair (mine_of []) lane.mine log_mine → IsPair nothing_asked lane.asks lane.asked → IsNewLane word.table lane
new_lane word lane log_mine empty mark mine asks = record {
  mark = mark ∙ ap (length_view word.table) empty;
  mine = mine.0;
  asks = asks.0;
  asked = asks.1 ∙ asks.0;
}

-- one lane more
pub lane_more : (n : ℕ) (word : LengthView) (seats : List (SeatView Mine)) (lanes : List Lane) (lane : Lane) (log_mine : SeatView Mine) → AreLanes n word seats lanes → log_mine ≡ lane.mine → IsNewLane word.table lane → AreLanes (n + 1) word (seats ++ log_mine ∷ []) (lanes ++ lane ∷ [])
lane_more n word seats lanes lane log_mine so_far same new = record {
  empty = so_far.empty;
  many = omega (arith, length-append lanes (lane ∷ []), so_far.many);
  seats_of_log = ap (λ l. l ++ log_mine ∷ []) so_far.seats_of_log ∙ ap (λ s. map (λ (x : Lane). x.mine) lanes ++ s ∷ []) same ∙ sym (map_push (λ (x : Lane). x.mine) lanes lane);
  new = All-append (IsNewLane word.table) lanes (lane ∷ []) so_far.new (All-cons (IsNewLane word.table) lane [] new (All-nil (IsNewLane word.table)));
}

-- the lanes of the sessions from this one on, at these tables
abbrev pub LanesFrom : TableId → (ℕ → TableId) → (ℕ → TableId) → ℕ → List Lane → Type 0
LanesFrom length_table mine asks first [] = Unit {0}
LanesFrom length_table mine asks first (lane ∷ lanes) = IsLaneOf length_table (mine first) (asks first) lane × LanesFrom length_table mine asks (first + 1) lanes

All-head : (P : Lane → Type 0) (x : Lane) (xs : List Lane) → All P (x ∷ xs) → P x
All-head P x xs all = all 0 x (omega arith)

All-tail : (P : Lane → Type 0) (x : Lane) (xs : List Lane) → All P (x ∷ xs) → All P xs
All-tail P x xs all k d h = all (suc k) d (omega arith)

-- the lanes under their names
lanes_from : (length_table : TableId) (mine asks : ℕ → TableId) (first : ℕ) (lanes : List Lane) → All (IsNewLane length_table) lanes
    → ((k : ℕ) → k < length lanes → mine (first + k) ≡ table_of (map mine_table lanes) k)
    → ((k : ℕ) → k < length lanes → asks (first + k) ≡ table_of (map asks_table lanes) k)
    → LanesFrom length_table mine asks first lanes
lanes_from length_table mine asks first [] new mine_is asks_is = tt
lanes_from length_table mine asks first (lane ∷ lanes) new mine_is asks_is =
    let head = All-head (IsNewLane length_table) lane lanes new in
    let mine_here : mine_table lane ≡ mine first = sym (mine_is 0 (omega arith)) ∙ ap mine (omega arith) in
    let asks_here : asks_table lane ≡ asks first = sym (asks_is 0 (omega arith)) ∙ ap asks (omega arith) in (
      record {
        mark = head.mark;
        mine = head.mine ∙ ap (λ t. seat_at t (mine_of [])) mine_here;
        asks = head.asks ∙ ap (λ t. seat_at t nothing_asked) asks_here;
        asked = head.asked ∙ ap (λ t. seat_at t nothing_asked) asks_here;
      },
      lanes_from length_table mine asks (first + 1) lanes (All-tail (IsNewLane length_table) lane lanes new)
          (λ k h. ap mine (omega arith) ∙ mine_is (suc k) (omega arith))
          (λ k h. ap asks (omega arith) ∙ asks_is (suc k) (omega arith)),
    )

pub lanes_named : (word : LengthView) (seats : List (SeatView Mine)) (lanes : List Lane) → AreLanes SESSIONS word seats lanes → (length_table : TableId) (mine asks : ℕ → TableId)
    → length_table ≡ word.table
    → ((k : ℕ) → k < SESSIONS → mine k ≡ table_of (map mine_table lanes) k)
    → ((k : ℕ) → k < SESSIONS → asks k ≡ table_of (map asks_table lanes) k)
    → LanesFrom length_table mine asks 0 lanes
lanes_named word seats lanes all length_table mine asks same mine_is asks_is =
    lanes_from length_table mine asks 0 lanes (subst (λ t. All (IsNewLane t) lanes) (sym same) all.new)
    (λ k h. let many = all.many in ap mine (omega arith) ∙ mine_is k (omega arith))
    (λ k h. let many = all.many in ap asks (omega arith) ∙ asks_is k (omega arith))

-- the log's seats under their names
seats_from : (length_table : TableId) (mine asks : ℕ → TableId) (first : ℕ) (lanes : List Lane) → LanesFrom length_table mine asks first lanes
    → (k : ℕ) (seat : SeatView Mine) → get_elem? (map (λ (x : Lane). x.mine) lanes) k ≡ some seat → seat ≡ seat_at (mine (first + k)) (mine_of [])
seats_from length_table mine asks first [] all k seat e = absurd (some-ne-none seat (sym e))
seats_from length_table mine asks first (lane ∷ lanes) all zero seat e = sym (some-injective _ _ e) ∙ all.0.mine ∙ ap (λ n. seat_at (mine n) (mine_of [])) (omega arith)
seats_from length_table mine asks first (lane ∷ lanes) all (suc k) seat e = seats_from length_table mine asks (first + 1) lanes all.1 k seat e ∙ ap (λ n. seat_at (mine n) (mine_of [])) (omega arith)

seats_named : (length_table : TableId) (mine asks : ℕ → TableId) (seats : List (SeatView Mine)) (lanes : List Lane) → LanesFrom length_table mine asks 0 lanes → seats ≡ map (λ (x : Lane). x.mine) lanes → EachRecords mine [] seats
seats_named length_table mine asks seats lanes all same k seat e =
    seats_from length_table mine asks 0 lanes all k seat (subst (λ l. get_elem? l k ≡ some seat) same e) ∙ ap (λ n. seat_at (mine n) (mine_of [])) (omega arith)

-- a book without entries, under its names
pub book_new : (word : LengthView) (seats : List (SeatView Mine)) (lanes : List Lane) → AreLanes SESSIONS word seats lanes → (names : BookNames) (most : ℕ) (asks : ℕ → TableId)
    → most ≡ names.most → most ≤ MOST_ENTRIES → names.length_table ≡ word.table → LanesFrom names.length_table names.mine_tables asks 0 lanes → IsBookOf names most [] word seats
book_new word seats lanes all names most asks limit in_range same named = record {
  limit = limit;
  in_range = in_range;
  recorded_length = λ i. length_view (sym same i) (all.empty i);
  few = zero-le;
  sessions = All-nil (λ (e : Entry). e.session < SESSIONS);
  seat_each = ap (λ (l : List (SeatView Mine)). length l) all.seats_of_log ∙ length-map lanes (λ (x : Lane). x.mine) ∙ all.many;
  each_records = seats_named names.length_table names.mine_tables asks seats lanes named all.seats_of_log;
}

-- the pass and the seat of a session, as they are made of a lane
abbrev made_of : ℕ → Lane → PassView × SessionSeatView
made_of session lane = (pass_view session 0 lane.mark.entries lane.mine.value.items lane.asks.value, session_seat_view session lane.asked.value)

abbrev pub new_session : ℕ → PassView × SessionSeatView
new_session session = (new_pass session, new_seat session)

-- they have seen, logged and asked nothing
pub made_is_new : (length_table mine asks : TableId) (session : ℕ) (lane : Lane) → IsLaneOf length_table mine asks lane → made_of session lane ≡ new_session session
made_is_new length_table mine asks session lane h =
    λ i. (pass_view session 0 (h.mark i).entries (h.mine i).value.items (h.asks i).value, session_seat_view session (h.asked i).value)

-- the passes and seats of the sessions so far
abbrev pub AreNew : List (PassView × SessionSeatView) → Type 0
AreNew sessions = (k : ℕ) → k < length sessions → slice_get sessions k ≡ Some (new_session k)

get_before : {X : Type 0} (xs : List X) (x : X) (k : ℕ) → k < length xs → slice_get (xs ++ x ∷ []) k ≡ slice_get xs k
get_before [] x k h = absurd (omega arith)
get_before (y ∷ ys) x zero h = refl
get_before (y ∷ ys) x (suc k) h = get_before ys x k (omega arith)

get_last : {X : Type 0} (xs : List X) (x : X) → slice_get (xs ++ x ∷ []) (length xs) ≡ Some x
get_last [] x = refl
get_last (y ∷ ys) x = get_last ys x

-- the pass and the seat of the next session too
pub one_session_more : (sessions : List (PassView × SessionSeatView)) (session : ℕ) (made : PassView × SessionSeatView) → AreNew sessions → session ≡ length sessions → made ≡ new_session session → AreNew (sessions ++ made ∷ [])
one_session_more sessions session made new is made_is k below =
    below_more (λ n. slice_get (sessions ++ made ∷ []) n ≡ Some (new_session n)) (length sessions)
    (λ n h. get_before sessions made n h ∙ new n h)
    (get_last sessions made ∙ ap Some made_is ∙ ap (λ n. Some (new_session n)) is)
    k (omega (arith, length-append sessions (made ∷ [])))
