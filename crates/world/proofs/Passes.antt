-- Messages and items change places: what is in flight stays as it is.
use Rattle.std.proofs.Common.{◌≡◌, List, [], ◌∷◌, ◌++◌, refl, subst}
use Rattle.partitions.specs.Parts.{SharedTables}
use Rattle.transactions.specs.Laws.{TransactionsClaimEachGroupOnce}
use Rattle.world.specs.declared.flight.Item.{Item}
use Rattle.world.specs.declared.flight.Item.TheVariants as item
use Rattle.world.specs.declared.flight.Message.{Message}
use Rattle.world.specs.declared.world.Parts.{Parts}
use Rattle.world.specs.Events.{TakesMessage}
use Rattle.world.specs.Flights.{InFlight, nothing, part_item, part_message}
use Rattle.world.specs.Parted.{joined_in}
use Rattle.world.specs.Sound.{IsSoundWith}
use Rattle.world.specs.Shards.{waiting_in}
use Rattle.world.specs.Worlds.{Fits, FitsPart}
use Rattle.world.proofs.Balances.{message_taken}
use Rattle.world.proofs.Puts.{GoesOn, fits_in_hand, item_in_hand}
use Rattle.world.proofs.Reordered.{Reordered, fits_in_order, queued, reordered-append, reordered-behind, reordered-refl, reordered-swap, reordered-trans, sound_in_order}
use Rattle.world.proofs.Reporting.{pushes_fits, pushes_sound, put_back_fits, put_back_sound}
use Rattle.world.proofs.Shuffles.{Shuffle, same, swap, both, then}
use Rattle.world.proofs.Taking.{message_in_hand, seen, takes_on}

-- the same in another order has the same with it
reordered : {X : Type 0} (f : X → InFlight) (xs ys : List X) → Shuffle xs ys → Reordered f xs ys
reordered f _ _ (same xs) = reordered-refl f xs
reordered f _ _ (swap xs ys) = reordered-swap f xs ys
reordered f _ _ (both xs ys us vs a b) =
    reordered-trans f (xs ++ us) (ys ++ us) (ys ++ vs) (reordered-behind f us xs ys (reordered f xs ys a)) (reordered-append f ys us vs (reordered f us vs b))
reordered f _ _ (then xs ys zs a b) = reordered-trans f xs ys zs (reordered f xs ys a) (reordered f ys zs b)

module _ {J : Type 0} where
  -- if it was sound it is sound, and what fitted fits
  abbrev pub Passes : SharedTables → Parts J → Parts J → Type 0
  Passes shared old new = IsSoundWith shared nothing old → GoesOn shared nothing old new

  pub passes-trans : (shared : SharedTables) (a b c : Parts J) → Passes shared a b → Passes shared b c → Passes shared a c
  passes-trans shared a b c p q = λ h.
      let first = p h in
      let second = q first.sound in
      record { sound = second.sound; fits = λ opening history f. second.fits opening history (first.fits opening history f) }

  pub passes-is : (shared : SharedTables) (a b : Parts J) → a ≡ b → Passes shared a b
  passes-is shared a b e = λ h. record {
    sound = subst (λ w. IsSoundWith shared nothing w) e h;
    fits = λ opening history f. subst (λ w. Fits opening history w) e f;
  }

  -- in another order
  pub passes_shuffled : (shared : SharedTables) (w : Parts J) (ms ns : List (Message J)) (is js : List (Item J)) → Shuffle ms ns → Shuffle is js → Passes shared (queued w ms is) (queued w ns js)
  passes_shuffled shared w ms ns is js messages items = λ h.
      let a = reordered part_message ms ns messages in
      let b = reordered part_item is js items in
      record { sound = sound_in_order w ms ns is js a b shared nothing h; fits = λ opening history f. fits_in_order w ms ns is js a b opening history f }

  -- a message that has come is to be pushed
  pub passes_on : (shared : SharedTables) (w : Parts J) (m : Message J) (ms : List (Message J)) (is : List (Item J)) → Passes shared (queued w (m ∷ ms) is) (queued w ms (is ++ item.Push m ∷ []))
  passes_on shared w m ms is = λ h.
      let old = queued w (m ∷ ms) is in
      let mid = queued w ms is in
      let hand = message_in_hand shared old m ms refl h in
      record {
        sound = put_back_sound shared mid (item.Push m) hand.0 hand.1;
        fits = λ opening history f.
            put_back_fits opening history mid (item.Push m) (subst (λ q. FitsPart opening history w.log (joined_in w) w.desk.admitted q) (message_taken old m ms refl) f);
      }

  -- a message that was to be pushed has come
  pub passes_in : (shared : SharedTables) (w : Parts J) (m : Message J) (ms : List (Message J)) (is : List (Item J)) → Passes shared (queued w ms (item.Push m ∷ is)) (queued w (ms ++ m ∷ []) is)
  passes_in shared w m ms is = λ h.
      let old = queued w ms (item.Push m ∷ is) in
      let mid = queued w ms is in
      let hand = item_in_hand shared old (item.Push m) is refl h in
      record {
        sound = pushes_sound shared mid m hand.0 hand.1;
        fits = λ opening history f. pushes_fits opening history mid m (fits_in_hand opening history old (item.Push m) is refl f);
      }

  -- a message is worked on
  pub passes_work : TransactionsClaimEachGroupOnce → (shared : SharedTables) (m : Message J) (old new : Parts J) (ms : List (Message J)) (is : List (Item J)) → TakesMessage m old new
      → Passes shared (queued old (m ∷ (waiting_in old ++ ms)) (is ++ old.outbox)) (seen new ms is)
  passes_work once shared m old new ms is said = λ h.
      let first = queued old (m ∷ (waiting_in old ++ ms)) (is ++ old.outbox) in
      let rest = waiting_in old ++ ms in
      let hand = message_in_hand shared first m rest refl h in
      let goes = takes_on once shared ms is m old new hand.0 hand.1 said in
      record {
        sound = goes.sound;
        fits = λ opening history f.
            goes.fits opening history (subst (λ q. FitsPart opening history old.log (joined_in old) old.desk.admitted q) (message_taken first m rest refl) f);
      }
