-- An engine is opened: the log's seats record the content of the tables, the slices that were cut have no waiting actions.
use Rattle.std.proofs.Common.{◌≡◌, ℕ, suc, ◌+◌, ◌<◌, List, [], ◌∷◌, length, map, get_or, refl, sym, ap, subst, ◌∙◌, arith}
use Rattle.std.specs.Prelude.{All}
use Rattle.std.proofs.lemmas.List.{get_or-map, get_or_default, length-map}
use Rattle.std.proofs.lemmas.List.Elements.{All-cons, All-nil}
use Rattle.schema.specs.Database.{Database}
use Rattle.partitions.specs.Parts.{part_of}
use Rattle.groups.specs.Content.{content}
use Rattle.tickets.specs.Boxes.{TicketBoxView}
use Rattle.tickets.specs.LogSeats.{CommittedGroup}
use Rattle.tickets.specs.Openings.{OpenedGroup, AreNamed, box_beside, contents_committed, contents_opened}
use Rattle.tickets.specs.Places.{AreInPlace, place_of}
use Rattle.tickets.proofs.OnePlace.{place_inside}
use Rattle.slices.specs.Openings.{AreOpenedFor, IsBoxOf}
use Rattle.slices.specs.SliceView.{at_rest}
use Rattle.slices.proofs.Opened.{opened_groups_have_boxes}
use Rattle.engine.specs.Opening.{IsToOpen}

-- the log's seats record the content of the tables
pub seats_record : (t : Database) (openings : List OpenedGroup) (seats : List CommittedGroup) → AreOpenedFor t openings → AreInPlace t.scale.warehouses seats → contents_committed seats ≡ contents_opened openings
    → (place : ℕ) (d : CommittedGroup) → place < length seats → content t (get_or seats place d).group ≡ (get_or seats place d).content
seats_record t openings seats opened in_place same place d small =
    let boxes = opened_groups_have_boxes t openings seats opened in_place same in
    let long : length (map box_beside seats) ≡ length seats = length-map seats box_beside in
    let is : IsBoxOf t place (get_or (map box_beside seats) place (box_beside d)) = boxes.each place (box_beside d) (omega (arith, small, long)) in
    let here : IsBoxOf t place (box_beside (get_or seats place d)) = subst (IsBoxOf t place) (get_or-map box_beside seats place d (box_beside d) small) is in
    sym (ap (λ (b : TicketBoxView). b.left) here.has)

-- slices that were just cut have the shared tables, and no waiting actions
pub cut_to_open : (t : Database) (ids : List ℕ) → All (IsToOpen t) (map at_rest (map (part_of t) ids))
cut_to_open t [] = All-nil (IsToOpen t)
cut_to_open t (id ∷ ids) = All-cons (IsToOpen t) (at_rest (part_of t id)) (map at_rest (map (part_of t) ids)) (record { shared_is = refl; nobody = refl }) (cut_to_open t ids)

-- the type parameter identifies the agreements that were opened for the groups' places
pub agreements_named : (t : Database) (openings : List OpenedGroup) (d : OpenedGroup) → AreOpenedFor t openings
    → AreNamed t.scale.warehouses (λ group. (get_or openings (place_of group) d).committed) (λ group. (get_or openings (place_of group) d).work) openings
agreements_named t openings d opened = λ group e known.
    let inside : place_of group < length openings = omega (arith, place_inside t.scale.warehouses group known, opened.all_there) in
    let same : get_or openings (place_of group) d ≡ get_or openings (place_of group) e = get_or_default openings (place_of group) d e inside in
    (ap (λ (o : OpenedGroup). o.committed) same, ap (λ (o : OpenedGroup). o.work) same)
