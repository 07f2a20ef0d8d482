-- What opening an envelope appends to an executor's outbox.
use Rattle.std.proofs.Common.{◌≡◌, ◌⊎◌, inl, inr, ℕ, ◌<◌, Bool, true, false, List, [], ◌∷◌, ◌++◌, length, map, refl, sym, ◌∙◌, ap, subst, append-nil}
use Rattle.std.specs.Prelude.{All, Contains}
use Rattle.std.proofs.lemmas.List.{get_or-set_same}
use Rattle.std.proofs.lemmas.List.Elements.{All-cons, All-nil, All-weaker, Contains-append_right, Contains-get_or}
use Rattle.local_locks.proofs.Members.{contains_joined, joined_contains}
use Rattle.range_moves.specs.declared.placement.Found.{Found}
use Rattle.range_moves.specs.declared.placement.Found.TheVariants.{Here, Went, Unknown}
use Rattle.range_moves.specs.declared.order.Moving.{Moving}
use Rattle.range_moves.specs.declared.order.Moving.TheVariants as moving
use Rattle.range_moves.specs.Placements.{found_by}
use Rattle.range_moves.specs.Orders.{size_of}
use Rattle.world.specs.declared.flight.Item.{Item}
use Rattle.world.specs.declared.flight.Item.TheVariants as item
use Rattle.world.specs.declared.flight.Load.{Load}
use Rattle.world.specs.declared.flight.Load.TheVariants.{Work, Move}
use Rattle.world.specs.declared.flight.Message.{Message}
use Rattle.world.specs.declared.flight.Outgoing.{Outgoing}
use Rattle.world.specs.declared.flight.Outgoing.TheVariants as outgoing
use Rattle.world.specs.declared.world.Core.{Core}
use Rattle.world.specs.Happening.{FindsSlice, Opens, WorksIfHere, WorksOn, moves, posting, posts_begun}
use Rattle.world.specs.Envelopes.{home_of_message, is_for_slice, items_in, items_of, envelope, parked_for, to_itself}
use Rattle.world.specs.Queues.{all_of, queue_of}
use Rattle.world.specs.Together.{together}
use Rattle.world.proofs.Moves.{begun_items, itself_items}

module _ {J : Type 0} where
  -- it is a push
  abbrev pub IsPush : Item J → Type 0
  IsPush (item.Push m) = Unit {0}
  IsPush (item.Report r) = ⊥
  IsPush (item.Ended slot) = ⊥
  IsPush (item.Commit commit) = ⊥
  IsPush (item.Reply recorded) = ⊥

  -- what is so of each push is so of these
  pub pushes_all : (P : Item J → Type 0) → ((m : Message J) → P (item.Push m)) → (items : List (Item J)) → All IsPush items → All P items
  pushes_all P each items all = All-weaker IsPush P one items all
    where
      one : (i : Item J) → IsPush i → P i
      one (item.Push m) is = each m
      one (item.Report r) is = absurd is
      one (item.Ended slot) is = absurd is
      one (item.Commit commit) is = absurd is
      one (item.Reply recorded) is = absurd is

  all_pushes : (ms : List (Message J)) → All IsPush (map item.Push ms)
  all_pushes [] = All-nil IsPush
  all_pushes (m ∷ ms) = All-cons IsPush (item.Push m) (map item.Push ms) tt (all_pushes ms)

  -- only pushes, and nothing else of a transaction, are added there
  pub record PutsPushes (executor : ℕ) (old new : Core J) : Type 0 where
    pub posts : List (Outgoing J)
    pub stands : queue_of executor new.outboxes ≡ queue_of executor old.outboxes ++ posts
    pub pushes : All IsPush (items_in posts)

  -- what was appended is there
  pub put_stands : (executor : ℕ) (more : List (Outgoing J)) (w : Core J) → executor < length w.outboxes → queue_of executor (posting executor more w).outboxes ≡ queue_of executor w.outboxes ++ more
  put_stands executor more w there = get_or-set_same w.outboxes executor (queue_of executor w.outboxes ++ more) [] there

  puts : (executor : ℕ) (more : List (Outgoing J)) (w old new : Core J) → w.outboxes ≡ old.outboxes → executor < length w.outboxes → new ≡ posting executor more w → All IsPush (items_in more) → PutsPushes executor old new
  puts executor more w old new same there is pushes = record {
    posts = more;
    stands = ap (λ (v : Core J). queue_of executor v.outboxes) is ∙ put_stands executor more w there ∙ ap (λ (qs : List (List (Outgoing J))). queue_of executor qs ++ more) same;
    pushes = pushes;
  }

  moves_put : (executor : ℕ) (m : Moving) (old new : Core J) → executor < length old.outboxes → new ≡ moves executor m old → PutsPushes executor old new
  moves_put executor (moving.Order order) old new there is =
      puts executor (posts_begun (size_of order) order.lo order.to old.placements) _ old new refl there is
      (subst (λ (is : List (Item J)). All IsPush is) (sym (begun_items (size_of order) order.lo order.to old.placements)) (All-nil IsPush))
  moves_put executor (moving.Fetch w_id to) old new there is =
      puts executor (outgoing.Envelope (envelope to (Move (moving.Parcel w_id))) ∷ []) _ old new refl there is (All-nil IsPush)
  moves_put executor (moving.Parcel w_id) old new there is =
      puts executor (outgoing.Arrived ∷ to_itself executor (parked_for w_id old.parked)) _ old new refl there is
      (subst (λ (is : List (Item J)). All IsPush is) (sym (itself_items executor (parked_for w_id old.parked))) (all_pushes (parked_for w_id old.parked)))

  -- Whatever an envelope brings: it is worked on, or pushes alone are put.
  pub opens_put : (executor : ℕ) (load : Load J) (old new : Core J) → executor < length old.outboxes → Opens executor load old new → ((m : Message J) × ((load ≡ Work m) × WorksOn executor m old new)) ⊎ PutsPushes executor old new
  opens_put executor (Move m) old new there is = inr (moves_put executor m old new there is)
  opens_put executor (Work m) old new there said = by (is_for_slice m) said
    where
      finds : (found : Found) → FindsSlice found executor m old new → ((n : Message J) × ((Work m ≡ Work n) × WorksOn executor n old new)) ⊎ PutsPushes executor old new
      finds Here works = inl (m, (refl, works))
      finds (Went to) is = inr (puts executor (outgoing.Envelope (envelope to (Work m)) ∷ []) old old new refl there is (All-cons IsPush (item.Push m) [] tt (All-nil IsPush)))
      finds Unknown is = inr (record {
        posts = [];
        stands = ap (λ (v : Core J). queue_of executor v.outboxes) is ∙ sym (append-nil (queue_of executor old.outboxes));
        pushes = All-nil IsPush;
      })

      by : (slice : Bool) → WorksIfHere slice executor m old new → ((n : Message J) × ((Work m ≡ Work n) × WorksOn executor n old new)) ⊎ PutsPushes executor old new
      by false works = inl (m, (refl, works))
      by true found = finds (found_by old.placements executor (home_of_message m)) found

  -- the items of an executor's outbox are in flight
  pub among_all : (w : Core J) (executor : ℕ) (before posts : List (Outgoing J)) → executor < length w.outboxes → queue_of executor w.outboxes ≡ before ++ posts → (i : Item J) → Contains (items_in posts) i → Contains (together w).outbox i
  among_all w executor before posts there is i own =
      let one = joined_contains items_of posts i own in
      let queue : Contains w.outboxes (queue_of executor w.outboxes) = Contains-get_or w.outboxes executor [] there in
      let stands : Contains (queue_of executor w.outboxes) one.0 = subst (λ (q : List (Outgoing J)). Contains q one.0) (sym is) (Contains-append_right before posts one.0 one.1) in
      contains_joined items_of (all_of w.outboxes) one.0 i (contains_joined (λ q. q) w.outboxes (queue_of executor w.outboxes) one.0 queue stands) one.2
