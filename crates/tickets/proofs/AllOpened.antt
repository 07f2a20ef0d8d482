-- The seats and boxes of all groups are made from what was opened for them, one after another.
use Rattle.std.proofs.Common.{◌≡◌, ℕ, ◌+◌, ◌<◌, List, [], ◌∷◌, ◌++◌, length, get_or, take, drop, sym, ap, ◌∙◌, subst, arith, add-one, length-append, length-drop, drop-cons}
use Rattle.std.proofs.lemmas.List.{map-append, take_more}
use Rattle.atomic_table.specs.Seated.{TableId}
use Rattle.requests.specs.declared.group.Group.{Group}
use Rattle.tickets.specs.Boxes.{TicketBoxView, sharing}
use Rattle.tickets.specs.LogSeats.{CommittedGroup, committed}
use Rattle.tickets.specs.Openings.{OpenedGroup, AreNamed, contents_opened, contents_committed, box_beside, boxes_beside}
use Rattle.tickets.specs.Places.{IsGroupOf, place_of, AreAtPlaces}
use Rattle.tickets.proofs.OnePlace.{places_push}

-- the next opening is the one at its place
pub next_opening : (openings rest : List OpenedGroup) (n : ℕ) (x : OpenedGroup) → drop n openings ≡ x ∷ rest
    → (n < length openings) × ((d : OpenedGroup) → get_or openings n d ≡ x) × (rest ≡ drop (n + 1) openings)
next_opening openings rest n x is =
    let long : length (drop n openings) ≡ length rest + 1 = ap length is ∙ omega arith in
    let inside : n < length openings = omega (arith, long, length-drop n openings) in
    let parts : (d : OpenedGroup) → (get_or openings n d ∷ drop (n + 1) openings) ≡ x ∷ rest = λ d. sym (ap (λ k. get_or openings n d ∷ drop k openings) (sym (add-one n))) ∙ sym (drop-cons openings n d inside) ∙ is in
    (inside, (λ d. let e = parts d in cc), (let e = parts x in cc))

pub named_at : (warehouses : ℕ) (committed_names work_names : Group → TableId) (openings : List OpenedGroup) (group : Group) (n : ℕ) (x : OpenedGroup) → AreNamed warehouses committed_names work_names openings → IsGroupOf warehouses group → place_of group ≡ n
    → ((d : OpenedGroup) → get_or openings n d ≡ x) → (committed_names group ≡ x.committed) × (work_names group ≡ x.work)
named_at warehouses committed_names work_names openings group n x names known place at =
    let found : get_or openings (place_of group) x ≡ x = ap (λ k. get_or openings k x) place ∙ at x in
    let own = names group x known in
    (own.0 ∙ ap (λ o. o.committed) found, own.1 ∙ ap (λ o. o.work) found)

pub pushed : {X : Type 0} (xs ys : List X) (x y : X) → ys ≡ xs ++ x ∷ [] → x ≡ y → ys ≡ xs ++ y ∷ []
pushed xs ys x y is same = is ∙ ap (λ z. xs ++ z ∷ []) same

-- one seat and one box more
pub one_more : (warehouses : ℕ) (openings rest : List OpenedGroup) (seats more : List CommittedGroup) (boxes more_boxes : List TicketBoxView) (x : OpenedGroup) (group : Group) → drop (length seats) openings ≡ x ∷ rest
    → AreAtPlaces warehouses seats → contents_committed seats ≡ contents_opened (take (length seats) openings) → boxes ≡ boxes_beside seats → IsGroupOf warehouses group → place_of group ≡ length seats
    → more ≡ seats ++ committed group x.content ∷ [] → more_boxes ≡ boxes ++ sharing group x.content 0 ∷ []
    → (rest ≡ drop (length more) openings) × AreAtPlaces warehouses more × (contents_committed more ≡ contents_opened (take (length more) openings)) × (more_boxes ≡ boxes_beside more)
one_more warehouses openings rest seats more boxes more_boxes x group is at_places contents beside known place are_more are_boxes =
    let next = next_opening openings rest (length seats) x is in
    let seat = committed group x.content in
    let long : length seats + 1 ≡ length more = omega (arith, ap length are_more, length-append seats (seat ∷ [])) in (
      next.2 ∙ ap (λ n. drop n openings) long,
      subst (AreAtPlaces warehouses) (sym are_more) (places_push warehouses seats seat at_places known place),
      ap contents_committed are_more ∙ map-append (λ (s : CommittedGroup). s.content) seats (seat ∷ []) ∙ ap (λ cs. cs ++ x.content ∷ []) contents
          ∙ sym (map-append (λ (o : OpenedGroup). o.content) (take (length seats) openings) (x ∷ []))
          ∙ ap contents_opened (ap (λ o. take (length seats) openings ++ o ∷ []) (sym (next.1 x)) ∙ sym (take_more openings (length seats) x next.0) ∙ ap (λ n. take n openings) long),
      are_boxes ∙ ap (λ bs. bs ++ box_beside seat ∷ []) beside ∙ sym (map-append box_beside seats (seat ∷ [])) ∙ ap boxes_beside (sym are_more),
    )
