-- How the queues are as what is in hand, or parked, is gone through one by one.
use Rattle.std.proofs.Common.{◌≡◌, ℕ, ◌+◌, ◌<◌, ◌≤◌, zero, suc, Bool, true, false, cond, List, [], ◌∷◌, ◌++◌, length, map, refl, sym, ◌∙◌, ap, subst, append_assoc, append-nil, arith, length-append}
use Rattle.std.specs.Prelude.{All, slice_set}
use Rattle.std.proofs.lemmas.List.{get_or-set_same, map-append}
use Rattle.std.proofs.lemmas.List.Elements.{All-head, filter-append}
use Rattle.range_moves.specs.Placements.{fetched_from, placement_installed, placement_moved, placement_of, place_of, with_placement}
use Rattle.world.specs.declared.flight.Item.{Item}
use Rattle.world.specs.declared.flight.Load.TheVariants.{Work}
use Rattle.world.specs.declared.flight.Message.{Message}
use Rattle.world.specs.declared.flight.Outgoing.{Outgoing}
use Rattle.world.specs.declared.flight.Outgoing.TheVariants as outgoing
use Rattle.world.specs.declared.world.Core.{Core}
use Rattle.world.specs.Happening.{bringing, placements_begun, outgoing_for, posting, posts_begun}
use Rattle.world.specs.Envelopes.{is_at_home, envelope, outgoing_by, parked_else, parked_for, to_itself}
use Rattle.world.specs.Queues.{put_into, queue_of}
use Rattle.world.proofs.Steps.{back}

-- an element that is set twice has the second value
set_twice : {X : Type 0} (xs : List X) (place : ℕ) (x y : X) → slice_set (slice_set xs place x) place y ≡ slice_set xs place y
set_twice [] place x y = refl
set_twice (z ∷ zs) zero x y = refl
set_twice (z ∷ zs) (suc n) x y = ap (λ ws. z ∷ ws) (set_twice zs n x y)

put_twice : {X : Type 0} (place : ℕ) (some more : List X) (queues : List (List X)) → place < length queues → put_into place more (put_into place some queues) ≡ put_into place (some ++ more) queues
put_twice place some more queues there =
    set_twice queues place (queue_of place queues ++ some) (queue_of place (put_into place some queues) ++ more)
    ∙ ap (λ q. slice_set queues place (q ++ more)) (get_or-set_same queues place (queue_of place queues ++ some) [] there)
    ∙ ap (λ q. slice_set queues place q) (append_assoc (queue_of place queues) some more)

-- the first of those that are left, which come first
first_left : {X : Type 0} (left others : List X) (m : X) (rest : List X) → 1 ≤ length left → left ++ others ≡ m ∷ rest → (more : List X) × ((left ≡ m ∷ more) × (more ++ others ≡ rest))
first_left [] others m rest some is = absurd (omega (arith, some))
first_left (x ∷ left) others m rest some is =
    let head : x ≡ m = cc in
    let tail : left ++ others ≡ rest = cc in
    (left, ((λ k. head k ∷ left), tail))

module _ {J : Type 0} where
  -- appending to an outbox twice is appending both together
  outgoing_twice : (executor : ℕ) (some more : List (Outgoing J)) (w : Core J) → executor < length w.outboxes → posting executor more (posting executor some w) ≡ posting executor (some ++ more) w
  outgoing_twice executor some more w there = ap (λ (qs : List (List (Outgoing J))). record w { outboxes = qs }) (put_twice executor some more w.outboxes there)

  -- ---- those that were parked for a slice that has come

  -- Some of these have been looked at: those for the slice are in the outbox, and the others come after those that are left.
  abbrev pub installing : ℕ → ℕ → List (Message J) → List (Message J) → Core J → Core J
  installing executor w_id done left w =
      posting executor (outgoing.Arrived ∷ to_itself executor (parked_for w_id done))
      (record w { placements = with_placement w.placements w_id (placement_installed (placement_of w.placements w_id) executor); parked = left ++ parked_else w_id done })

  one_for : (w_id : ℕ) (done : List (Message J)) (m : Message J) (home : Bool) → is_at_home w_id m ≡ home → parked_for w_id (done ++ m ∷ []) ≡ parked_for w_id done ++ cond home (m ∷ []) []
  one_for w_id done m home is = filter-append (is_at_home w_id) done (m ∷ []) ∙ ap (λ b. parked_for w_id done ++ cond b (m ∷ []) []) is

  one_else : (w_id : ℕ) (done : List (Message J)) (m : Message J) (home : Bool) → is_at_home w_id m ≡ home → parked_else w_id (done ++ m ∷ []) ≡ parked_else w_id done ++ cond home [] (m ∷ [])
  one_else w_id done m home is =
      filter-append (λ (m : Message J). cond (is_at_home w_id m) false true) done (m ∷ [])
      ∙ ap (λ b. parked_else w_id done ++ cond (cond b false true) (m ∷ []) []) is ∙ by home
    where
      by : (b : Bool) → parked_else w_id done ++ cond (cond b false true) (m ∷ []) [] ≡ parked_else w_id done ++ cond b [] (m ∷ [])
      by true = refl
      by false = refl

  -- one that is for the slice goes to its executor
  round_for : (executor w_id : ℕ) (done left : List (Message J)) (m : Message J) (w : Core J) → executor < length w.outboxes → is_at_home w_id m ≡ true
      → posting executor (outgoing.Envelope (envelope executor (Work m)) ∷ []) (record (installing executor w_id done (m ∷ left) w) { parked = left ++ parked_else w_id done }) ≡ installing executor w_id (done ++ m ∷ []) left w
  round_for executor w_id done left m w there is =
      let some : List (Outgoing J) = outgoing.Arrived ∷ to_itself executor (parked_for w_id done) in
      let more : List (Outgoing J) = outgoing.Envelope (envelope executor (Work m)) ∷ [] in
      let placements = with_placement w.placements w_id (placement_installed (placement_of w.placements w_id) executor) in
      let posts : some ++ more ≡ outgoing.Arrived ∷ to_itself executor (parked_for w_id (done ++ m ∷ [])) =
      ap (λ (ps : List (Outgoing J)). outgoing.Arrived ∷ ps)
      (sym (map-append (λ (m : Message J). outgoing.Envelope (envelope executor (Work m))) (parked_for w_id done) (m ∷ [])) ∙ ap (to_itself executor) (sym (one_for w_id done m true is))) in
      let others : parked_else w_id done ≡ parked_else w_id (done ++ m ∷ []) = sym (one_else w_id done m true is ∙ append-nil (parked_else w_id done)) in
      outgoing_twice executor some more (record w { placements = placements; parked = left ++ parked_else w_id done }) there
      ∙ (λ k. posting executor (posts k) (record w { placements = placements; parked = left ++ others k }))

  -- another goes behind those that are parked
  round_else : (executor w_id : ℕ) (done left : List (Message J)) (m : Message J) (w : Core J) → is_at_home w_id m ≡ false
      → record (installing executor w_id done (m ∷ left) w) { parked = (left ++ parked_else w_id done) ++ m ∷ [] } ≡ installing executor w_id (done ++ m ∷ []) left w
  round_else executor w_id done left m w is =
      let placements = with_placement w.placements w_id (placement_installed (placement_of w.placements w_id) executor) in
      let same : parked_for w_id done ≡ parked_for w_id (done ++ m ∷ []) = sym (one_for w_id done m false is ∙ append-nil (parked_for w_id done)) in
      let others : (left ++ parked_else w_id done) ++ m ∷ [] ≡ left ++ parked_else w_id (done ++ m ∷ []) =
      append_assoc left (parked_else w_id done) (m ∷ []) ∙ ap (λ (q : List (Message J)). left ++ q) (sym (one_else w_id done m false is)) in
      λ k. posting executor (outgoing.Arrived ∷ to_itself executor (same k)) (record w { placements = placements; parked = others k })

  -- ---- what is in hand

  -- what was in hand is in the outbox, in order
  pub bring_one : (executor : ℕ) (i : Item J) (rest : List (Item J)) (w : Core J) → executor < length w.outboxes → w.parts.outbox ≡ i ∷ rest
      → bringing executor (record w.parts { outbox = rest }) (posting executor (outgoing_by w.placements i ∷ []) (record w { parts = record w.parts { outbox = rest } })) ≡ bringing executor w.parts w
  bring_one executor i rest w there is =
      outgoing_twice executor (outgoing_by w.placements i ∷ []) (map (outgoing_by w.placements) rest) (record w { parts = record w.parts { outbox = [] } }) there
      ∙ ap (λ (items : List (Item J)). posting executor (map (outgoing_by w.placements) items) (record w { parts = record w.parts { outbox = [] } })) (sym is)

  -- ---- a move begins

  -- one warehouse more begins
  pub begin_one : (executor n v to : ℕ) (w : Core J) → executor < length w.outboxes
      → posting executor (posts_begun n (v + 1) to (with_placement w.placements v (placement_moved (placement_of w.placements v) to)))
      (record (posting executor (outgoing_for (fetched_from (place_of w.placements v) to) v to ∷ []) w) { placements = placements_begun n (v + 1) to (with_placement w.placements v (placement_moved (placement_of w.placements v) to)) })
      ≡ posting executor (posts_begun (suc n) v to w.placements) (record w { placements = placements_begun (suc n) v to w.placements })
  begin_one executor n v to w there =
      let next = with_placement w.placements v (placement_moved (placement_of w.placements v) to) in
      outgoing_twice executor (outgoing_for (fetched_from (place_of w.placements v) to) v to ∷ []) (posts_begun n (v + 1) to next) (record w { placements = placements_begun n (v + 1) to next }) there

  -- ---- the round of those that are parked

  -- So many of them have been looked at.
  abbrev pub Round : ℕ → ℕ → ℕ → Core J → Core J → Type 0
  Round executor w_id count w now =
      (done : List (Message J)) × ((left : List (Message J)) × ((done ++ left ≡ w.parked) × ((length done ≡ count) × (now ≡ installing executor w_id done left w))))

  pub some_left : (executor w_id count : ℕ) (w now : Core J) → Round executor w_id count w now → count < length w.parked → 1 ≤ length now.parked
  some_left executor w_id count w now round below =
      let done = round.0 in
      let left = round.1.0 in
      omega (
        arith,
        below,
        round.1.1.1.0,
        length-append done left,
        ap (λ (ms : List (Message J)). length ms) round.1.1.0,
        ap (λ (v : Core J). length v.parked) round.1.1.1.1,
        length-append left (parked_else w_id done),
      )

  -- one more is looked at
  looked_at : (executor w_id count : ℕ) (w now : Core J) (m : Message J) (rest : List (Message J)) (round : Round executor w_id count w now) → count < length w.parked → now.parked ≡ m ∷ rest
      → (more : List (Message J)) × ((round.1.0 ≡ m ∷ more) × (more ++ parked_else w_id round.0 ≡ rest))
  looked_at executor w_id count w now m rest round below first =
      let done = round.0 in
      let left = round.1.0 in
      first_left left (parked_else w_id done) m rest (omega (arith, below, round.1.1.1.0, length-append done left, ap (λ (ms : List (Message J)). length ms) round.1.1.0))
      (sym (ap (λ (v : Core J). v.parked) round.1.1.1.1) ∙ first)

  -- what all are that were parked, is the one that is looked at
  pub round_first : (P : Message J → Type 0) (executor w_id count : ℕ) (w now : Core J) (m : Message J) (rest : List (Message J)) → Round executor w_id count w now → count < length w.parked → now.parked ≡ m ∷ rest → All P w.parked → P m
  round_first P executor w_id count w now m rest round below first all =
      let at = looked_at executor w_id count w now m rest round below first in
      let left : All P (m ∷ at.0) = subst (λ (ms : List (Message J)). All P ms) at.1.0 (back P round.0 round.1.0 (subst (λ (ms : List (Message J)). All P ms) (sym round.1.1.0) all)) in
      All-head P m at.0 left

  next_round : (done left more all : List (Message J)) (m : Message J) (count : ℕ) → left ≡ m ∷ more → done ++ left ≡ all → length done ≡ count → ((done ++ m ∷ []) ++ more ≡ all) × (length (done ++ m ∷ []) ≡ count + 1)
  next_round done left more all m count is whole counted =
      (append_assoc done (m ∷ []) more ∙ ap (λ (ms : List (Message J)). done ++ ms) (sym is) ∙ whole, omega (arith, counted, length-append done (m ∷ [])))

  pub round_goes : (executor w_id count : ℕ) (w now new : Core J) (m : Message J) (rest : List (Message J)) (round : Round executor w_id count w now) → executor < length w.outboxes → count < length w.parked → now.parked ≡ m ∷ rest
      → is_at_home w_id m ≡ true → new ≡ posting executor (outgoing.Envelope (envelope executor (Work m)) ∷ []) (record now { parked = rest }) → Round executor w_id (count + 1) w new
  round_goes executor w_id count w now new m rest round there below first home is =
      let done = round.0 in
      let at = looked_at executor w_id count w now m rest round below first in
      let next = next_round done round.1.0 at.0 w.parked m count at.1.0 round.1.1.0 round.1.1.1.0 in
      let was : now ≡ installing executor w_id done (m ∷ at.0) w = round.1.1.1.1 ∙ ap (λ (ms : List (Message J)). installing executor w_id done ms w) at.1.0 in (
        done ++ m ∷ [],
        (
          at.0,
          (
            next.0,
            (
              next.1,
              is ∙ (λ k. posting executor (outgoing.Envelope (envelope executor (Work m)) ∷ []) (record (was k) { parked = sym at.1.1 k })) ∙ round_for executor w_id done at.0 m w there home,
            ),
          ),
        ),
      )

  pub round_stays : (executor w_id count : ℕ) (w now new : Core J) (m : Message J) (rest : List (Message J)) (round : Round executor w_id count w now) → count < length w.parked → now.parked ≡ m ∷ rest
      → is_at_home w_id m ≡ false → new ≡ record now { parked = rest ++ m ∷ [] } → Round executor w_id (count + 1) w new
  round_stays executor w_id count w now new m rest round below first home is =
      let done = round.0 in
      let at = looked_at executor w_id count w now m rest round below first in
      let next = next_round done round.1.0 at.0 w.parked m count at.1.0 round.1.1.0 round.1.1.1.0 in
      let was : now ≡ installing executor w_id done (m ∷ at.0) w = round.1.1.1.1 ∙ ap (λ (ms : List (Message J)). installing executor w_id done ms w) at.1.0 in (
        done ++ m ∷ [],
        (at.0, (next.0, (next.1, is ∙ (λ k. record (was k) { parked = sym at.1.1 k ++ m ∷ [] }) ∙ round_else executor w_id done at.0 m w home))),
      )
