use Rattle.std.proofs.Common.{sym, subst}
use Rattle.std.specs.Prelude.{All}
use Rattle.schema.specs.Database.{Database}
use Rattle.schema.specs.Scale.{warehouse_ids}
use Rattle.groups.specs.Content.{content}
use Rattle.tickets.specs.LogSeats.{SeatsRecord}
use Rattle.tickets.specs.Places.{AreInPlace}
use Rattle.slices.specs.Openings.{AreBoxesOf}
use Rattle.slices.proofs.Opened.{opened_groups_have_boxes}
use Rattle.engine.specs.Opening.{IsToOpen}
use Rattle.engine.proofs.AtOpening.{cut_to_open, seats_record}
use Rattle.engine.proofs.Sessions.{all_new}
use Rattle.engine.proofs.opening.open.Goals as goal

pub cut-requires-clause-boxes : goal.cut-requires-clause-boxes
cut-requires-clause-boxes g c =
    let boxed = c.in_ok-boxes.ensures in
    let in_place : AreInPlace c.args.opening.tables.scale.warehouses c.in_ok-boxes.seats = subst (λ s. AreInPlace s.warehouses c.in_ok-boxes.seats) c.scale-scale.ensures.value boxed.places in
    subst (AreBoxesOf c.args.opening.tables) (sym boxed.boxes) (opened_groups_have_boxes c.args.opening.tables c.args.opening.groups.items c.in_ok-boxes.seats c.requires.named.opened in_place boxed.contents)

pub new-log-requires-clause-opening : goal.new-log-requires-clause-opening
new-log-requires-clause-opening g c =
    let boxed = c.in_ok-boxes.ensures in
    let in_place : AreInPlace c.args.opening.tables.scale.warehouses c.in_ok-boxes.seats = subst (λ s. AreInPlace s.warehouses c.in_ok-boxes.seats) c.scale-scale.ensures.value boxed.places in
    subst (λ (t : Database). SeatsRecord (content t) c.in_ok-boxes.seats) (sym c.requires.named.tables_are)
    (seats_record c.args.opening.tables c.args.opening.groups.items c.in_ok-boxes.seats c.requires.named.opened in_place boxed.contents)

pub open_shards-requires : goal.open_shards-requires
open_shards-requires g c =
    let slices = c.in_ok-catalog.slices.items in
    subst (λ (t : Database). All (IsToOpen t) slices) (sym c.requires.named.tables_are)
    (subst (All (IsToOpen c.args.opening.tables)) (sym c.in_ok-catalog.ensures.slices) (cut_to_open c.args.opening.tables (warehouse_ids c.args.opening.tables.scale)))

pub open_places-requires-clause-new : goal.open_places-requires-clause-new
open_places-requires-clause-new g c = all_new c.in_ok-book.lanes.items c.in_ok-book.ensures.sessions
