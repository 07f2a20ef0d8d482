-- The actions that wait at a shard have their turns, one after another.
use Rattle.transactions.specs.Works.{home_of, home_of_claims}
use Rattle.transactions.specs.declared.shard.Parked.{Parked}
use Rattle.transactions.specs.declared.shard.Acted.{Acted}
use Rattle.world.specs.declared.flight.Act.{Act as AnyAct}
use Rattle.std.proofs.lemmas.Option.{slice_get_within}
use Rattle.transactions.specs.declared.laws.TheConstants.{MOST_ACTIONS}
use Rattle.std.proofs.Common.{◌≡◌, ℕ, ◌+◌, ◌-◌, ◌<◌, ◌≤◌, List, [], ◌∷◌, ◌++◌, Some, length, refl, sym, ap, subst, ◌∙◌, length-append, arith}
use Rattle.std.specs.Prelude.{All, Vec, slice_set}
use Rattle.std.specs.List.{slice_get, sum_by}
use Rattle.std.specs.declared.alloc.Global.{Global}
use Rattle.std.proofs.lemmas.List.Edits.{length-remove}
use Rattle.std.proofs.lemmas.List.Elements.{All-nil}
use Rattle.tickets.specs.Claims.{ClaimView}
use Rattle.slices.specs.SliceView.{AreSlicesOf, IsClaimAt, with_waiters, SliceKeeps}
use Rattle.transactions.specs.declared.shard.Turned.{Turned}
use Rattle.transactions.specs.Acting.{claims_of_ran}
use Rattle.transactions.specs.Shards.{OneTurn, ShardView, ActsAs, parked}
use Rattle.world.specs.declared.flight.Carried.{Carried}
use Rattle.world.specs.declared.flight.Item.{Item}
use Rattle.world.specs.declared.flight.Item.TheVariants as item
use Rattle.transactions.specs.declared.shard.Acted.TheVariants as acted
use Rattle.world.specs.declared.world.Parts.{Parts}
use Rattle.world.specs.Events.{AllTurns, AtShard, Stays, TakesTurn, TurnsFollow, report_of, Asks, GivesBack, carried_by, holder_of, put_for}
use Rattle.world.specs.Shards.{HasRoomFor, HaveToWait, slices_in, waiting_in}
use Rattle.world.proofs.OneSlot.{got_set}
use Rattle.world.proofs.Parted.{ran_at_home}
use Rattle.world.proofs.Placed.{waits_among}
use Rattle.world.proofs.Sessions.{sum_set}
use Rattle.world.proofs.ShardView.{keeps_on, stays_on}
use Rattle.world.proofs.Taking.{put_again}

module _ {J : Type 0} where
  -- nothing changes
  stays_so : (w : Parts J) → Stays w w
  stays_so w = record { shards = refl; rest = refl }

  stays_then : (old mid new : Parts J) → Stays old mid → Stays mid new → Stays old new
  stays_then old mid new a b = record { shards = b.shards ∙ a.shards; rest = b.rest ∙ (λ i. record (a.rest i) { shards = new.shards }) }

  -- what happens at a shard of the same world, happens at the shard of this
  at_same : (home : ℕ) (items : List (Item J)) (of : ShardView (Carried J) → ShardView (Carried J) → Type 0) (old mid new : Parts J) → Stays old mid → AtShard home items of mid new → AtShard home items of old new
  at_same home items of old mid new same at = record {
    was = at.was;
    now = at.now;
    home_is = at.home_is;
    there = ap (λ (l : List (ShardView (Carried J))). slice_get l (home - 1)) (sym same.shards) ∙ at.there;
    shards = at.shards ∙ ap (λ (l : List (ShardView (Carried J))). slice_set l (home - 1) at.now) same.shards;
    rest = at.rest ∙ (λ i. record (same.rest i) { shards = new.shards; outbox = (same.rest i).outbox ++ items });
    happened = at.happened;
  }

  -- one turn more
  pub one_turn_more : (home : ℕ) (turned : List (Turned J (Carried J))) (one : Turned J (Carried J)) (old mid new : Parts J) → TurnsFollow home turned old mid → TakesTurn home one mid new → TurnsFollow home (turned ++ one ∷ []) old new
  one_turn_more home [] one old mid new same turn =
      (new, (at_same home (report_of one.by.place one.carried one.ran ∷ []) (λ was now. OneTurn was one now) old mid new same turn, stays_so new))
  one_turn_more home (first ∷ turned) one old mid new follow turn = (follow.0, (follow.1.0, one_turn_more home turned one follow.0 mid new follow.1.1 turn))

  -- and none more
  pub no_turn_more : (home : ℕ) (turned : List (Turned J (Carried J))) (old mid new : Parts J) → TurnsFollow home turned old mid → Stays mid new → TurnsFollow home turned old new
  no_turn_more home [] old mid new same stays = stays_then old mid new same stays
  no_turn_more home (first ∷ turned) old mid new follow stays = (follow.0, (follow.1.0, no_turn_more home turned follow.0 mid new follow.1.1 stays))

  -- ---- one turn

  module _ (old new : Parts J) (are : AreSlicesOf old.catalog (slices_in old)) (home : ℕ) (turned : Turned J (Carried J)) (turn : TakesTurn home turned old new) where
    abbrev items : List (Item J)
    items = report_of turned.by.place turned.carried turned.ran ∷ []

    abbrev Of : ShardView (Carried J) → ShardView (Carried J) → Type 0
    Of was now = OneTurn was turned now

    pub turn_catalog : new.catalog ≡ old.catalog
    turn_catalog = ap (λ (w : Parts J). w.catalog) turn.rest

    -- the slices are still those of all warehouses
    pub turn_slices : AreSlicesOf new.catalog (slices_in new)
    turn_slices =
        let one = turn.happened in
        let at_home : All (IsClaimAt home) (claims_of_ran turned.ran) =
        subst (λ n. All (IsClaimAt n) (claims_of_ran turned.ran)) (one.here ∙ turn.home_is)
        (ran_at_home turned.by (with_waiters turn.now.slice.waiters turn.was.slice) turn.now.slice one.work turned.ran one.ran) in
        let both = keeps_on old new are home items Of turn turn.now.slice.waiters [] (claims_of_ran turned.ran) (All-nil (IsClaimAt home)) at_home one.kept in
        subst (λ c. AreSlicesOf c (slices_in new)) (sym turn_catalog) both.0

    -- one fewer waits
    fewer : length turn.now.parked + 1 ≡ length turn.was.parked
    fewer = omega (arith, ap length turn.happened.rest, length-remove turn.was.parked turn.happened.index turn.happened.inside)

    pub turn_smaller : sum_by (λ (s : ShardView (Carried J)). length s.parked) new.shards.items < sum_by (λ (s : ShardView (Carried J)). length s.parked) old.shards.items
    turn_smaller =
        let waiting : ShardView (Carried J) → ℕ = λ s. length s.parked in
        omega (
          arith,
          fewer,
          ap (λ (l : List (ShardView (Carried J))). sum_by waiting l) turn.shards,
          sum_set waiting old.shards.items (home - 1) turn.was turn.now turn.there,
        )

    pub turn_room : home - 1 < length old.shards.items → HasRoomFor home old → HasRoomFor home new
    turn_room below room = λ s is.
        let there : slice_get new.shards.items (home - 1) ≡ Some turn.now = ap (λ (l : List (ShardView (Carried J))). slice_get l (home - 1)) turn.shards ∙ got_set old.shards.items (home - 1) turn.now below in
        let same : turn.now ≡ s = cc in
        omega (
          arith,
          fewer,
          room turn.was turn.there,
          ap (λ (w : Parts J). length w.outbox) turn.rest,
          length-append old.outbox items,
          ap (λ (t : ShardView (Carried J)). length t.parked) same,
        )

  -- ---- the last one

  -- if no action has a turn any more, all have to wait
  module _ (home : ℕ) (old mid : Parts J) (turned : List (Turned J (Carried J))) (follow : TurnsFollow home turned old mid) (was now : ShardView (Carried J)) (there : slice_get mid.shards.items (home - 1) ≡ Some was)
      (same : now ≡ was) (wait : HaveToWait was) (below : home - 1 < length mid.shards.items) where
    pub set_again : slice_set mid.shards.items (home - 1) now ≡ mid.shards.items
    set_again = ap (slice_set mid.shards.items (home - 1)) same ∙ put_again mid.shards.items (home - 1) was there

    pub all_turned : (shards : Vec (ShardView (Carried J)) Global) → shards.items ≡ slice_set mid.shards.items (home - 1) now → AllTurns home old (record mid { shards = shards })
    all_turned shards set = record {
      turned = turned;
      follow = no_turn_more home turned old mid (record mid { shards = shards }) follow (record { shards = set ∙ set_again; rest = refl });
      over = λ s is.
          let here : slice_get shards.items (home - 1) ≡ Some now = ap (λ (l : List (ShardView (Carried J))). slice_get l (home - 1)) set ∙ got_set mid.shards.items (home - 1) now below in
          let is_now : now ≡ s = cc in
          subst HaveToWait (sym same ∙ is_now) wait;
    }

module _ {J : Type 0} where
  -- ---- before the turns

  -- there is room for the reports of all waiting actions, if at most one more waits or one more item was put
  pub room_then : (home : ℕ) (items : List (Item J)) (of : ShardView (Carried J) → ShardView (Carried J) → Type 0) (old new : Parts J) (at : AtShard home items of old new) → length items + length at.now.parked ≤ length at.was.parked + 1
      → length old.outbox + MOST_ACTIONS + length (waiting_in old) < 4096 → HasRoomFor home new
  room_then home items of old new at few room = λ s is.
      let below = slice_get_within old.shards.items (home - 1) at.was at.there in
      let there : slice_get new.shards.items (home - 1) ≡ Some at.now = ap (λ (l : List (ShardView (Carried J))). slice_get l (home - 1)) at.shards ∙ got_set old.shards.items (home - 1) at.now below in
      let same : at.now ≡ s = cc in
      omega (
        arith,
        few,
        room,
        waits_among old (home - 1) at.was at.there,
        ap (λ (w : Parts J). length w.outbox) at.rest,
        length-append old.outbox items,
        ap (λ (t : ShardView (Carried J)). length t.parked) same,
      )

  asks_few : (act : AnyAct J) (a : Acted J (Carried J)) (was now : ShardView (Carried J)) → ActsAs (holder_of act) act.work (carried_by act) was a now → length (put_for act.place a) + length now.parked ≤ length was.parked + 1
  asks_few act (acted.Ran one recorded) was now happened = omega (arith, ap (λ (ps : List (Parked (Carried J))). length ps) happened.3)
  asks_few act acted.Waits was now happened =
      omega (arith, ap (λ (s : ShardView (Carried J)). length s.parked) happened.1, length-append was.parked (parked (holder_of act) act.work (carried_by act) ∷ []))

  module _ (old new : Parts J) (are : AreSlicesOf old.catalog (slices_in old)) (act : AnyAct J) where
    pub asks_room : Asks act old new → length old.outbox + MOST_ACTIONS + length (waiting_in old) < 4096 → HasRoomFor (home_of act.work) new
    asks_room asks room =
        room_then (home_of act.work) (put_for act.place asks.0) (λ was now. ActsAs (holder_of act) act.work (carried_by act) was asks.0 now) old new asks.1 (asks_few act asks.0 asks.1.was asks.1.now asks.1.happened) room

    asks_slices_at : (a : Acted J (Carried J)) → AtShard (home_of act.work) (put_for act.place a) (λ was now. ActsAs (holder_of act) act.work (carried_by act) was a now) old new → AreSlicesOf old.catalog (slices_in new)
    asks_slices_at (acted.Ran one recorded) at =
        let home = home_of act.work in
        (keeps_on old new are home (put_for act.place (acted.Ran one recorded)) (λ was now. ActsAs (holder_of act) act.work (carried_by act) was (acted.Ran one recorded) now) at at.was.slice.waiters [] (claims_of_ran one)
        (All-nil (IsClaimAt home)) (ran_at_home (holder_of act) at.was.slice at.now.slice act.work one at.happened.1) at.happened.2).0
    asks_slices_at acted.Waits at =
        (stays_on old new are (home_of act.work) [] (λ was now. ActsAs {J = J} (holder_of act) act.work (carried_by act) was acted.Waits now) at _ (ap (λ (s : ShardView (Carried J)). s.slice) at.happened.1)).0

    pub asks_catalog : Asks act old new → new.catalog ≡ old.catalog
    asks_catalog asks = ap (λ (w : Parts J). w.catalog) asks.1.rest

    pub asks_slices : Asks act old new → AreSlicesOf new.catalog (slices_in new)
    asks_slices asks = subst (λ c. AreSlicesOf c (slices_in new)) (sym (asks_catalog asks)) (asks_slices_at asks.0 asks.1)

  -- claims were given back
  module _ (old new : Parts J) (are : AreSlicesOf old.catalog (slices_in old)) (home slot : ℕ) (claims : List ClaimView)
      (at : AtShard home (item.Ended slot ∷ []) (λ was now. SliceKeeps claims was.slice [] now.slice × (now.parked ≡ was.parked)) old new) where
    pub gives_room : length old.outbox + MOST_ACTIONS + length (waiting_in old) < 4096 → HasRoomFor home new
    gives_room room =
        room_then home (item.Ended slot ∷ []) (λ was now. SliceKeeps claims was.slice [] now.slice × (now.parked ≡ was.parked)) old new at
        (omega (arith, ap (λ (ps : List (Parked (Carried J))). length ps) at.happened.1)) room

    pub gives_slices : All (IsClaimAt home) claims → AreSlicesOf old.catalog (slices_in new)
    gives_slices here =
        (keeps_on old new are home (item.Ended slot ∷ []) (λ was now. SliceKeeps claims was.slice [] now.slice × (now.parked ≡ was.parked)) at at.was.slice.waiters claims [] here (All-nil (IsClaimAt home)) at.happened.0).0

  -- and then come the turns
  pub gives_turns : (home slot : ℕ) (claims : List ClaimView) (old mid new : Parts J) → home ≡ home_of_claims claims
      → AtShard home (item.Ended slot ∷ []) (λ was now. SliceKeeps claims was.slice [] now.slice × (now.parked ≡ was.parked)) old mid → AllTurns home mid new
      → (m : Parts J) × (GivesBack slot claims old m × AllTurns (home_of_claims claims) m new)
  gives_turns home slot claims old mid new is at turns =
      (mid, (subst (λ n. AtShard n (item.Ended slot ∷ []) (λ was now. SliceKeeps claims was.slice [] now.slice × (now.parked ≡ was.parked)) old mid) is at, subst (λ n. AllTurns n mid new) is turns))
