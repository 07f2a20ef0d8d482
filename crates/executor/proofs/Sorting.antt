-- The results of a phase's actions are sorted out, one after another.
use Rattle.std.proofs.Common.{◌≡◌, ◌+◌, ◌≤◌, ℕ, List, [], ◌∷◌, ◌++◌, length, Option, None, sym, ◌∙◌, ap, arith, append-nil, append_assoc}
use Rattle.std.proofs.lemmas.List.{length-append}
use Rattle.requests.specs.declared.refusal.Refusal.{Refusal}
use Rattle.tickets.specs.Claims.{ClaimView}
use Rattle.transactions.specs.declared.laws.TheConstants.{MOST_ACTIONS}
use Rattle.transactions.specs.declared.acting.Ran.{Ran}
use Rattle.transactions.specs.declared.work.Found.{Found}
use Rattle.transactions.specs.SortedOut.{found_by, found_in, held_by, held_in, refusal_of, refused_by}
use Rattle.transactions.proofs.SortedOut.{not_refused, one_finds, one_holds, was_none}

module _ {J : Type 0} where
  -- ---- one result more

  module _ (r : Ran J) (rest rans : List (Ran J)) (is : rans ≡ r ∷ rest) where
    pub held_more : (held new all : List (List ClaimView)) → new ≡ held ++ held_by r → held ++ held_in rans ≡ all → new ++ held_in rest ≡ all
    held_more held new all put before =
        ap (λ hs. hs ++ held_in rest) put ∙ append_assoc held (held_by r) (held_in rest) ∙ ap (λ rs. held ++ held_in rs) (sym is) ∙ before

    pub room_more : (held new : List (List ClaimView)) → new ≡ held ++ held_by r → length held + length rans ≤ MOST_ACTIONS → length new + length rest ≤ MOST_ACTIONS
    room_more held new put room = omega (arith, room, ap (λ rs. length rs) is, ap (λ hs. length hs) put, length-append held (held_by r), one_holds r)

    pub refusal_more : (why next last : Option Refusal) → next ≡ refused_by why r → refusal_of why rans ≡ last → refusal_of next rest ≡ last
    refusal_more why next last recorded before = ap (λ o. refusal_of o rest) recorded ∙ ap (λ rs. refusal_of why rs) (sym is) ∙ before

    pub found_more : (why next : Option Refusal) (found new all : List Found) → next ≡ refused_by why r → (next ≡ None → new ≡ found ++ found_by r)
        → (why ≡ None → found ++ found_in rans ≡ all) → next ≡ None → new ++ found_in rest ≡ all
    found_more why next found new all recorded put before none =
        ap (λ fs. fs ++ found_in rest) (put none) ∙ append_assoc found (found_by r) (found_in rest) ∙ ap (λ rs. found ++ found_in rs) (sym is)
        ∙ before (was_none why r (sym recorded ∙ none))

    pub found_room_more : (why next : Option Refusal) (found new : List Found) (capacity now : ℕ) → next ≡ refused_by why r → (next ≡ None → new ≡ found ++ found_by r)
        → (next ≡ None → now ≡ capacity) → (why ≡ None → length found + length rans ≤ capacity) → next ≡ None → length new + length rest ≤ now
    found_room_more why next found new capacity now recorded put same room none =
        omega (
          arith,
          room (was_none why r (sym recorded ∙ none)),
          ap (λ rs. length rs) is,
          ap (λ fs. length fs) (put none),
          length-append found (found_by r),
          one_finds r,
          same none,
        )

  -- ---- all results

  -- none is left, so what is held is what all hold
  pub held_all : (first : Ran J) (rest left : List (Ran J)) (held one now : List (List ClaimView)) → left ≡ [] → one ≡ held ++ held_by first → now ++ held_in left ≡ one ++ held_in rest
      → now ≡ held ++ held_in (first ∷ rest)
  held_all first rest left held one now empty put end =
      sym (append-nil now) ∙ ap (λ rs. now ++ held_in rs) (sym empty) ∙ end ∙ ap (λ hs. hs ++ held_in rest) put ∙ append_assoc held (held_by first) (held_in rest)

  -- the refusal is that of all
  pub refusal_all : (first : Ran J) (rest left : List (Ran J)) (why one last : Option Refusal) → left ≡ [] → one ≡ refused_by why first → refusal_of last left ≡ refusal_of one rest
      → last ≡ refusal_of why (first ∷ rest)
  refusal_all first rest left why one last empty recorded end = ap (λ rs. refusal_of last rs) (sym empty) ∙ end ∙ ap (λ o. refusal_of o rest) recorded

  -- and where there is none, what was found is what all found
  pub found_all : (first : Ran J) (rest left : List (Ran J)) (why one last : Option Refusal) (given put found : List Found) → left ≡ [] → one ≡ refused_by why first → refusal_of last left ≡ refusal_of one rest
      → (why ≡ None → given ≡ []) → (one ≡ None → put ≡ given ++ found_by first) → (last ≡ None → found ++ found_in left ≡ put ++ found_in rest) → last ≡ None → found ≡ found_in (first ∷ rest)
  found_all first rest left why one last given put found empty recorded end start once more none =
      let one_none : one ≡ None = not_refused one rest (sym end ∙ ap (λ rs. refusal_of last rs) empty ∙ none) in
      let why_none : why ≡ None = was_none why first (sym recorded ∙ one_none) in
      sym (append-nil found) ∙ ap (λ rs. found ++ found_in rs) (sym empty) ∙ more none
      ∙ ap (λ fs. fs ++ found_in rest) (once one_none ∙ ap (λ fs. fs ++ found_by first) (start why_none))
