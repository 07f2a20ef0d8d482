-- A message is pushed, or a report comes to where its phase meets.
use Rattle.std.proofs.Common.{ℕ, ◌+◌, List, [], ◌∷◌, ◌++◌, ◌∙◌, ap, subst}
use Rattle.std.specs.Prelude.{count_by, cond}
use Rattle.std.specs.List.Sorted.{IsPermutation}
use Rattle.std.proofs.lemmas.List.Elements.{All-push}
use Rattle.std.proofs.lemmas.List.Sorted.{sum_by-IsPermutation, length_permutation}
use Rattle.partitions.specs.Parts.{SharedTables}
use Rattle.schema.specs.Database.{Database}
use Rattle.history.specs.History.{Step, UnansweredTransaction, is_of}
use Rattle.world.specs.declared.desk.Desk.{Desk}
use Rattle.world.specs.declared.flight.Message.{Message}
use Rattle.world.specs.declared.flight.Item.{Item}
use Rattle.world.specs.declared.world.Parts.{Parts}
use Rattle.world.specs.Parted.{joined_in}
use Rattle.world.specs.Flights.{nothing, join, part_message, part_item}
use Rattle.world.specs.Sound.{IsSoundWith, IsSoundMessage, IsSoundItem, flight, is_here}
use Rattle.world.specs.Worlds.{FitsPart, Fits}
use Rattle.world.proofs.Joins.{IsSame, same-sym, join-nothing}
use Rattle.world.proofs.Balances.{message_put, items_put, balanced_same, held_same}
use Rattle.world.proofs.Fitting.{fits_same}
use Rattle.world.proofs.Puts.{AreServed}

module _ {J : Type 0} where
  -- ---- what holds in any order

  pub served_same : (desk : Desk J) (us vs : List UnansweredTransaction) → IsPermutation us vs → AreServed desk us → AreServed desk vs
  served_same desk us vs same h = record {
    alone = λ number session there. ap (λ (n : ℕ). n + cond (is_here session) 1 0) (sum_by-IsPermutation (λ u. cond (is_of number u) 1 0) us vs same) ∙ h.alone number session there;
    many = ap (λ (n : ℕ). n + count_by is_here desk.sessions.items) (length_permutation us vs same) ∙ h.many;
  }

  -- ---- a push

  pub pushes_sound : (shared : SharedTables) (mid : Parts J) (message : Message J)
      → (h : IsSoundWith shared (part_message message) mid) → IsSoundMessage shared h.in_flight message
      → IsSoundWith shared nothing (record mid { inbox = mid.inbox ++ message ∷ [] })
  pushes_sound shared mid message h fine =
      let next : Parts J = record mid { inbox = mid.inbox ++ message ∷ [] } in
      record {
        shared_is = h.shared_is;
        slices = h.slices;
        in_flight = h.in_flight;
        inbox = All-push (IsSoundMessage shared h.in_flight) mid.inbox message h.inbox fine;
        outbox = h.outbox;
        slots = h.slots;
        active = h.active;
        ages = h.ages;
        seats = h.seats;
        sessions = h.sessions;
        balance = balanced_same mid.desk (join (part_message message) (flight mid)) (flight next) (same-sym _ _ (message_put mid message)) h.balance;
        held = held_same (joined_in mid) (join (part_message message) (flight mid)) (flight next) (same-sym _ _ (message_put mid message)) h.held;
      }

  pub pushes_fits : (opening : Database) (history : List Step) (mid : Parts J) (message : Message J)
      → FitsPart opening history mid.log (joined_in mid) mid.desk.admitted (join (part_message message) (flight mid)) → Fits opening history (record mid { inbox = mid.inbox ++ message ∷ [] })
  pushes_fits opening history mid message f =
      fits_same opening history mid.log (joined_in mid) mid.desk.admitted (join (part_message message) (flight mid)) (flight (record mid { inbox = mid.inbox ++ message ∷ [] }))
      (same-sym _ _ (message_put mid message)) f

  -- the item, put back
  item_back : (mid : Parts J) (item : Item J) → IsSame (join (part_item item) (flight mid)) (flight (record mid { outbox = mid.outbox ++ item ∷ [] }))
  item_back mid item =
      subst (λ p. IsSame (join p (flight mid)) (flight (record mid { outbox = mid.outbox ++ item ∷ [] }))) (join-nothing (part_item item)) (same-sym _ _ (items_put mid (item ∷ [])))

  pub put_back_sound : (shared : SharedTables) (mid : Parts J) (item : Item J)
      → (h : IsSoundWith shared (part_item item) mid) → IsSoundItem shared h.in_flight item
      → IsSoundWith shared nothing (record mid { outbox = mid.outbox ++ item ∷ [] })
  put_back_sound shared mid item h fine = record {
    shared_is = h.shared_is;
    slices = h.slices;
    in_flight = h.in_flight;
    inbox = h.inbox;
    outbox = All-push (IsSoundItem shared h.in_flight) mid.outbox item h.outbox fine;
    slots = h.slots;
    active = h.active;
    ages = h.ages;
    seats = h.seats;
    sessions = h.sessions;
    balance = balanced_same mid.desk (join (part_item item) (flight mid)) (flight (record mid { outbox = mid.outbox ++ item ∷ [] })) (item_back mid item) h.balance;
    held = held_same (joined_in mid) (join (part_item item) (flight mid)) (flight (record mid { outbox = mid.outbox ++ item ∷ [] })) (item_back mid item) h.held;
  }

  pub put_back_fits : (opening : Database) (history : List Step) (mid : Parts J) (item : Item J)
      → FitsPart opening history mid.log (joined_in mid) mid.desk.admitted (join (part_item item) (flight mid)) → Fits opening history (record mid { outbox = mid.outbox ++ item ∷ [] })
  put_back_fits opening history mid item f =
      fits_same opening history mid.log (joined_in mid) mid.desk.admitted (join (part_item item) (flight mid)) (flight (record mid { outbox = mid.outbox ++ item ∷ [] })) (item_back mid item) f
