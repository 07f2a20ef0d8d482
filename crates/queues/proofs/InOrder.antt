-- Each step keeps the rule of an inbox's queue.
use Rattle.std.proofs.Common.{◌≡◌, ◌≢◌, ℕ, zero, suc, ◌+◌, ◌≤◌, ◌⊎◌, true, true≢false, List, [], ◌∷◌, ◌++◌, length, set, refl, sym, ap, ◌∙◌, subst, inl, inr, ⊎_elim, append_assoc, eq-eqb, ne_eqb, arith}
use Rattle.std.specs.Prelude.{◌<◌, ◌==◌, if◌then◌else◌}
use mathlib.Core.Option.{some, some-ne-none, some-injective}
use lib.ListN.{get_elem?}
use Rattle.crossbeam_queue.specs.Fifo.{Pushes, Pops, Forks, Merges, Learns}
use Rattle.crossbeam_queue.proofs.Lists.{at_set, set_else}
use Rattle.queues.specs.declared.sent.Sent.{Sent}
use Rattle.queues.specs.declared.rule.View.{View}
use Rattle.queues.specs.Order.{of}
use Rattle.queues.specs.Rule.{taker_view, sender_view, both_views, spent_view, inbox_history, IsInOrder, AreInOrder, IsCompared}
use Rattle.queues.proofs.Order.{of-append, of-own, of-other, of-none}

-- the seat of one number is at this place
abbrev moved : (ℕ → ℕ) → ℕ → ℕ → ℕ → ℕ
moved seat number place n = if n == number then place else seat n

moved_here : (seat : ℕ → ℕ) (number place : ℕ) → moved seat number place number ≡ place
moved_here seat number place = ap (λ b. if b then place else seat number) (eq-eqb number number refl)

moved_else : (seat : ℕ → ℕ) (number place n : ℕ) → n ≢ number → moved seat number place n ≡ seat n
moved_else seat number place n other = ap (λ b. if b then place else seat n) (ne_eqb n number other)

module _ {T : Type 0} where
  -- all views are in order
  abbrev All : (ℕ → View T → Type 0) → List (View T) → Type 0
  All F vs = (place : ℕ) (v : View T) → get_elem? vs place ≡ some v → F place v

  -- the others meet it, and so does the view that is written
  all_set : (F : ℕ → View T → Type 0) (vs : List (View T)) (i : ℕ) (w : View T) → ((j : ℕ) (u : View T) → j ≢ i → get_elem? vs j ≡ some u → F j u) → F i w → All F (set vs i w)
  all_set F vs i w others mine j u e =
      ⊎_elim (λ (t : (j ≡ i) × (w ≡ u)). subst (λ (y : ℕ × View T). F y.0 y.1) (λ k. (sym t.0 k, t.1 k)) mine) (λ (t : (j ≢ i) × (get_elem? vs j ≡ some u)). others j u t.0 t.1) (at_set vs i j w u e)

  -- the element at a place of a list with one more at its end
  at_snoc : (vs : List (View T)) (a b : View T) (j : ℕ) → get_elem? (vs ++ a ∷ []) j ≡ some b → (get_elem? vs j ≡ some b) ⊎ ((length vs ≡ j) × (a ≡ b))
  at_snoc [] a b zero e = inr (refl, some-injective a b e)
  at_snoc [] a b (suc j) e = absurd (some-ne-none b (sym e))
  at_snoc (x ∷ xs) a b zero e = inl e
  at_snoc (x ∷ xs) a b (suc j) e = ⊎_elim (λ t. inl t) (λ (t : (length xs ≡ j) × (a ≡ b)). inr (ap suc t.0, t.1)) (at_snoc xs a b j e)

  -- the view that is added meets it too
  all_snoc : (F : ℕ → View T → Type 0) (vs : List (View T)) (w : View T) → All F vs → F (length vs) w → All F (vs ++ w ∷ [])
  all_snoc F vs w all mine j u e =
      ⊎_elim (all j u) (λ (t : (length vs ≡ j) × (w ≡ u)). subst (λ (y : ℕ × View T). F y.0 y.1) (λ k. (t.0 k, t.1 k)) mine) (at_snoc vs w u j e)

  -- of a place that neither puts nor takes nothing is asked
  in_order_spent : (taker senders : ℕ) (seat : ℕ → ℕ) (all got : List (Sent T)) (place : ℕ) → IsInOrder (inbox_history taker senders seat all got) place spent_view
  in_order_spent taker senders seat all got place = record { as_sender = λ e. absurd (true≢false (sym e)); as_taker = λ e. absurd (true≢false (sym e)) }

  pub begins : AreInOrder {T = T} [] (taker_view 0 [] ∷ [])
  begins = record { taker = 0; senders = 0; seat = λ n. 0; all = []; got = []; one_order = refl; no_other = λ n h. refl; each = one }
    where
      one : All (IsInOrder (inbox_history 0 0 (λ n. 0) [] [])) (taker_view 0 [] ∷ [])
      one zero v e = subst (IsInOrder (inbox_history 0 0 (λ n. 0) [] []) 0) (some-injective _ _ e) (record { as_sender = λ h. absurd (true≢false (sym h)); as_taker = λ _. (refl, refl, refl) })
      one (suc j) v e = absurd (some-ne-none v (sym e))

  -- a sender may put a message of its number
  pub puts : (n id : ℕ) (v : View T) (s : Sent T) → v.sends ≡ true → s.sender ≡ v.number → Pushes AreInOrder n id v s (λ w. w ≡ sender_view v.number (v.put ++ s.message ∷ []))
  puts n id v s sends own standing views room holds at =
      let w = sender_view v.number (v.put ++ s.message ∷ []) in
      let mine = (holds.each id v at).as_sender sends in
      let all = holds.all ++ s ∷ [] in (
        w,
        record {
          taker = holds.taker;
          senders = holds.senders;
          seat = holds.seat;
          all = all;
          got = holds.got;
          one_order = ap (λ l. l ++ s ∷ []) holds.one_order ∙ append_assoc holds.got standing (s ∷ []);
          no_other = λ number high. of-other number holds.all s (λ same. let low : v.number < holds.senders = mine.0 in let e = sym own ∙ same in omega arith) ∙ holds.no_other number high;
          each = all_set (IsInOrder (inbox_history holds.taker holds.senders holds.seat all holds.got)) views id w
              (λ j u apart e.
              let theirs = holds.each j u e in
              record {
                as_sender = λ h.
                    let their = theirs.as_sender h in (
                      their.0,
                      their.1,
                      their.2 ∙ sym (of-other u.number holds.all s (λ same. apart (sym their.1 ∙ ap holds.seat (sym same ∙ own) ∙ mine.1))),
                    );
                as_taker = theirs.as_taker;
              })
              (record {
                as_sender = λ _. (mine.0, mine.1, ap (λ l. l ++ s.message ∷ []) mine.2 ∙ sym (of-own v.number holds.all s own));
                as_taker = λ h. absurd (true≢false (sym h));
              });
        },
        refl,
      )

  -- the taker may take the first message
  pub takes : (id : ℕ) (v : View T) → v.takes ≡ true → Pops AreInOrder id v (λ s w. w ≡ taker_view v.senders (v.got ++ s ∷ []))
  takes id v may s standing views holds at =
      let w = taker_view v.senders (v.got ++ s ∷ []) in
      let mine = (holds.each id v at).as_taker may in
      let got = holds.got ++ s ∷ [] in (
        w,
        record {
          taker = holds.taker;
          senders = holds.senders;
          seat = holds.seat;
          all = holds.all;
          got = got;
          one_order = holds.one_order ∙ sym (append_assoc holds.got (s ∷ []) standing);
          no_other = holds.no_other;
          each = all_set (IsInOrder (inbox_history holds.taker holds.senders holds.seat holds.all got)) views id w
              (λ j u apart e. let theirs = holds.each j u e in record { as_sender = theirs.as_sender; as_taker = λ h. absurd (apart ((theirs.as_taker h).0 ∙ sym mine.0)) })
              (record { as_sender = λ h. absurd (true≢false (sym h)); as_taker = λ _. (mine.0, mine.1, ap (λ l. l ++ s ∷ []) mine.2) });
        },
        refl,
      )

  -- the taker may make a sender with the next number
  pub makes : (id : ℕ) (v : View T) → v.takes ≡ true → Forks AreInOrder id v (taker_view (v.senders + 1) v.got) (sender_view v.senders [])
  makes id v may standing views holds at =
      let left = taker_view (v.senders + 1) v.got in
      let right = sender_view v.senders [] in
      let mine = (holds.each id v at).as_taker may in
      let known : v.senders ≡ holds.senders = mine.1 in
      let vs : List (View T) = set views id left in
      let seat = moved holds.seat v.senders (length vs) in
      let F = IsInOrder (inbox_history holds.taker (v.senders + 1) seat holds.all holds.got) in
      record {
        taker = holds.taker;
        senders = v.senders + 1;
        seat = seat;
        all = holds.all;
        got = holds.got;
        one_order = holds.one_order;
        no_other = λ number high. holds.no_other number (omega arith);
        each = all_snoc F vs right
            (all_set F views id left
            (λ j u apart e.
            let theirs = holds.each j u e in
            record {
              as_sender = λ h. let their = theirs.as_sender h in let low : u.number < holds.senders = their.0 in let below : u.number < v.senders + 1 = omega arith in (below, moved_else holds.seat v.senders (length vs) u.number (λ same. omega arith) ∙ their.1, their.2);
              as_taker = λ h. absurd (apart ((theirs.as_taker h).0 ∙ sym mine.0));
            })
            (record { as_sender = λ h. absurd (true≢false (sym h)); as_taker = λ _. (mine.0, refl, mine.2) }))
            (record {
              as_sender = λ _. let next : v.senders < v.senders + 1 = omega arith in (next, moved_here holds.seat v.senders (length vs), sym (holds.no_other v.senders (omega arith)));
              as_taker = λ h. absurd (true≢false (sym h));
            });
      }

  -- any place may make a place that may do nothing
  pub spares : (id : ℕ) (v : View T) → Forks AreInOrder id v v spent_view
  spares id v standing views holds at =
      let F = IsInOrder (inbox_history holds.taker holds.senders holds.seat holds.all holds.got) in
      record {
        taker = holds.taker;
        senders = holds.senders;
        seat = holds.seat;
        all = holds.all;
        got = holds.got;
        one_order = holds.one_order;
        no_other = holds.no_other;
        each = all_snoc F (set views id v) spent_view (all_set F views id v (λ j u _ e. holds.each j u e) (holds.each id v at))
            (in_order_spent holds.taker holds.senders holds.seat holds.all holds.got (length (set views id v)));
      }

  -- the taker may take in a sender, whose place is spent then
  pub takes_in : (id : ℕ) (v : View T) (other : ℕ) (w : View T) → v.takes ≡ true → w.sends ≡ true → Merges AreInOrder id v other w (both_views v w) spent_view
  takes_in id v other w may sends standing views holds at apart there =
      let both = both_views v w in
      let was = sym (set_else views id other both apart) ∙ there in
      let mine = (holds.each id v at).as_taker may in
      let theirs = (holds.each other w was).as_sender sends in
      let seat = moved holds.seat w.number id in
      let F = IsInOrder (inbox_history holds.taker holds.senders seat holds.all holds.got) in
      let F' : ℕ → View T → Type 0 = λ j u. j ≢ other → F j u in
      let now : All F' (set views id both) =
      all_set F' views id both
      (λ j u here e elsewhere.
      let third = holds.each j u e in
      record {
        as_sender = λ h. let their = third.as_sender h in (their.0, moved_else holds.seat w.number id u.number (λ same. elsewhere (sym their.1 ∙ ap holds.seat same ∙ theirs.1)) ∙ their.1, their.2);
        as_taker = third.as_taker;
      })
      (λ _. record { as_sender = λ _. (theirs.0, moved_here holds.seat w.number id, theirs.2); as_taker = λ _. mine }) in
      record {
        taker = holds.taker;
        senders = holds.senders;
        seat = seat;
        all = holds.all;
        got = holds.got;
        one_order = holds.one_order;
        no_other = holds.no_other;
        each = all_set F (set views id both) other spent_view (λ j u elsewhere e. now j u e elsewhere)
            (in_order_spent holds.taker holds.senders seat holds.all holds.got other);
      }

  -- a place that is both taker and sender may hand the sender back
  pub hands_back : (id : ℕ) (v : View T) → v.takes ≡ true → v.sends ≡ true → Forks AreInOrder id v (taker_view v.senders v.got) (sender_view v.number v.put)
  hands_back id v may sends standing views holds at =
      let left = taker_view v.senders v.got in
      let right = sender_view v.number v.put in
      let mine = (holds.each id v at).as_taker may in
      let own = (holds.each id v at).as_sender sends in
      let vs : List (View T) = set views id left in
      let seat = moved holds.seat v.number (length vs) in
      let F = IsInOrder (inbox_history holds.taker holds.senders seat holds.all holds.got) in
      record {
        taker = holds.taker;
        senders = holds.senders;
        seat = seat;
        all = holds.all;
        got = holds.got;
        one_order = holds.one_order;
        no_other = holds.no_other;
        each = all_snoc F vs right
            (all_set F views id left
            (λ j u apart e.
            let third = holds.each j u e in
            record {
              as_sender = λ h. let their = third.as_sender h in (their.0, moved_else holds.seat v.number (length vs) u.number (λ same. apart (sym their.1 ∙ ap holds.seat same ∙ own.1)) ∙ their.1, their.2);
              as_taker = third.as_taker;
            })
            (record { as_sender = λ h. absurd (true≢false (sym h)); as_taker = λ _. mine }))
            (record { as_sender = λ _. (own.0, moved_here holds.seat v.number (length vs), own.2); as_taker = λ h. absurd (true≢false (sym h)) });
      }

  -- a place that is both taker and sender learns the queue's messages of the sender
  pub compares : (id : ℕ) (v : View T) → v.takes ≡ true → v.sends ≡ true → Learns AreInOrder id v (IsCompared v)
  compares id v may sends standing views holds at =
      let mine = (holds.each id v at).as_taker may in
      let own = (holds.each id v at).as_sender sends in
      let known : v.senders ≡ holds.senders = mine.1 in
      let low : v.number < holds.senders = own.0 in
      let all : holds.all ≡ v.got ++ standing = holds.one_order ∙ ap (λ l. l ++ standing) (sym mine.2) in
      record {
        put = own.2 ∙ ap (of v.number) all ∙ of-append v.number v.got standing;
        given_out = omega arith;
        no_other = λ number high. ap (of number) (sym all) ∙ holds.no_other number (omega arith);
      }

  -- none of what was got has a number that was not given out
  pub none_else : (v : View T) (standing got : List (Sent T)) (senders : ℕ) → v.got ≡ got → v.senders ≡ senders → IsCompared v standing → (number : ℕ) → senders ≤ number → of number got ≡ []
  none_else v standing got senders same given compared number high =
      ap (of number) (sym same) ∙ of-none number v.got standing (compared.no_other number (omega arith))
