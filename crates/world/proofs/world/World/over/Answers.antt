use Rattle.std.proofs.Common.{refl, sym, ap, subst, ◌∙◌, arith, ◌≡◌, ℕ, List, [], map}
use Rattle.slices.specs.SliceView.{JoinedSlices, SliceView, holdings_in}
use Rattle.std.specs.Prelude.{All}
use Rattle.schema.specs.Database.{Database}
use Rattle.schema.specs.declared.scale.Scale.{Scale}
use Rattle.partitions.specs.Parts.{shared_of, parts_of}
use Rattle.groups.specs.Content.{content}
use Rattle.tickets.specs.LogSeats.{SeatsRecord}
use Rattle.tickets.specs.Places.{AreInPlace}
use Rattle.slices.specs.Openings.{AreBoxesOf}
use Rattle.slices.proofs.Opened.{opened_groups_have_boxes}
use Rattle.world.specs.declared.world.Core.{Core}
use Rattle.world.specs.Shards.{HaveToWait, IsShardOf, NobodyWaitsIn, slice_of, shard_of}
use Rattle.range_moves.specs.Placements.{IsOpenedBy}
use Rattle.world.proofs.Opened.{cut_slices, cut_waits, have_not_to_wait, opened_core, opened_fits, opened_new, opened_shards, seats_record}
use Rattle.world.proofs.world.World.over.Goals as goal

pub cut-requires-clause-boxes : goal.cut-requires-clause-boxes
cut-requires-clause-boxes g c =
    let boxed = c.in_ok-boxes.ensures in
    let in_place : AreInPlace c.args.tables.scale.warehouses c.in_ok-boxes.seats = subst (λ s. AreInPlace s.warehouses c.in_ok-boxes.seats) c.scale-scale.ensures.value boxed.places in
    subst (AreBoxesOf c.args.tables) (sym boxed.boxes) (opened_groups_have_boxes c.args.tables c.args.opening.groups.items c.in_ok-boxes.seats c.requires.named.opened in_place boxed.contents)

pub new-requires-clause-opening : goal.new-requires-clause-opening
new-requires-clause-opening g c =
    let boxed = c.in_ok-boxes.ensures in
    let in_place : AreInPlace c.args.tables.scale.warehouses c.in_ok-boxes.seats = subst (λ s. AreInPlace s.warehouses c.in_ok-boxes.seats) c.scale-scale.ensures.value boxed.places in
    subst (λ (t : Database). SeatsRecord (content t) c.in_ok-boxes.seats) (sym c.requires.named.tables_are)
    (seats_record c.args.tables c.args.opening.groups.items c.in_ok-boxes.seats c.requires.named.opened in_place boxed.contents)

pub invariant_of-result : goal.invariant_of-result
invariant_of-result g c =
    let cut = c.in_ok-catalog in
    let scale = ap (λ (t : Database). t.scale) c.requires.named.tables_are in
    let slices = cut_slices c.args.tables cut.catalog cut.slices.items c.scale-scale.ensures.within cut.ensures.catalog cut.ensures.slices in
    let set = opened_shards c.args.tables cut.catalog cut.slices.items c.in_ok-shards.shards.items slices c.in_ok-shards.ensures.made in
    let wait = subst (All HaveToWait) (sym c.in_ok-shards.ensures.made) (have_not_to_wait cut.slices.items (subst (All NobodyWaitsIn) (sym cut.ensures.slices) (cut_waits (parts_of c.args.tables)))) in
    let none : (w_id : ℕ) → holdings_in (map slice_of c.in_ok-shards.shards.items) w_id ≡ [] = λ w_id. ap (λ (j : JoinedSlices). j.holdings w_id) set.1.1 in (
      opened_core (shared_of g.J.LogNames.opening) c.args.setup.now.executors c.in_ok-book.lanes.items _ (record { many = omega (arith, c.in_ok-book.lanes.ok.0, c.in_ok-book.ensures.count); each = c.in_ok-book.ensures.sessions })
          (cut.ensures.catalog ∙ ap shared_of (sym c.requires.named.tables_are)) set.0 none set.1.0
          (subst (λ n. All (IsShardOf n) c.in_ok-shards.shards.items) (c.requires.named.warehouses ∙ sym (ap (λ s. s.warehouses) scale)) c.in_ok-shards.ensures.shards) wait (subst (λ (s : Scale). IsOpenedBy (record { warehouses = s.warehouses; executors = c.args.setup.now.executors }) c.in_ok-placements.placements) (c.scale-scale.ensures.value ∙ sym scale) (subst (λ r. IsOpenedBy r c.in_ok-placements.placements) c.opening.ensures c.in_ok-placements.ensures))
          c.in_ok-parked.ensures c.in_ok-inboxes.ensures c.in_ok-outboxes.ensures c.in_ok-inbox.ensures c.in_ok-outbox.ensures c.in_ok-active.ensures c.in_ok-sessions.ensures,
      c.requires.named.warehouses ∙ sym (ap (λ s. s.warehouses) scale),
      c.requires.log.1 ∙ sym c.requires.named.most,
    )

pub returns-clause-fits : goal.returns-clause-fits
returns-clause-fits g c =
    let cut = c.in_ok-catalog in
    let slices = cut_slices c.args.tables cut.catalog cut.slices.items c.scale-scale.ensures.within cut.ensures.catalog cut.ensures.slices in
    let core : Core g.row.J.Denot = record {
      parts = record {
        catalog = cut.catalog;
        shards = c.in_ok-shards.shards;
        inbox = c.in_ok-inbox.inbox;
        outbox = c.in_ok-outbox.outbox;
        desk = record { admitted = 0; sessions = c.in_ok-sessions.sessions; active = c.in_ok-active.active };
        log = c.new.result;
      };
      placements = c.in_ok-placements.placements;
      parked = c.in_ok-parked.parked;
      log_limit = c.args.limits.0;
      inbox_limit = c.args.limits.1;
      inboxes = c.in_ok-inboxes.inboxes;
      outboxes = c.in_ok-outboxes.outboxes;
    } in
    let set = opened_shards c.args.tables cut.catalog cut.slices.items c.in_ok-shards.shards.items slices c.in_ok-shards.ensures.made in
    opened_fits c.args.tables c.requires.consistent c.args.setup.now.executors core set.1.0 set.1.1 c.new.ensures c.in_ok-parked.ensures c.in_ok-inboxes.ensures c.in_ok-outboxes.ensures c.in_ok-active.ensures refl

pub returns-clause-new : goal.returns-clause-new
returns-clause-new g c =
    let cut = c.in_ok-catalog in
    let slices = cut_slices c.args.tables cut.catalog cut.slices.items c.scale-scale.ensures.within cut.ensures.catalog cut.ensures.slices in
    let core : Core g.row.J.Denot = record {
      parts = record {
        catalog = cut.catalog;
        shards = c.in_ok-shards.shards;
        inbox = c.in_ok-inbox.inbox;
        outbox = c.in_ok-outbox.outbox;
        desk = record { admitted = 0; sessions = c.in_ok-sessions.sessions; active = c.in_ok-active.active };
        log = c.new.result;
      };
      placements = c.in_ok-placements.placements;
      parked = c.in_ok-parked.parked;
      log_limit = c.args.limits.0;
      inbox_limit = c.args.limits.1;
      inboxes = c.in_ok-inboxes.inboxes;
      outboxes = c.in_ok-outboxes.outboxes;
    } in
    let set = opened_shards c.args.tables cut.catalog cut.slices.items c.in_ok-shards.shards.items slices c.in_ok-shards.ensures.made in
    opened_new c.args.tables c.args.setup.now c.in_ok-book.lanes.items core
    (record { many = omega (arith, c.in_ok-book.lanes.ok.0, c.in_ok-book.ensures.count); each = c.in_ok-book.ensures.sessions })
    cut.ensures.catalog (c.in_ok-shards.ensures.made ∙ ap (λ (l : List SliceView). map shard_of l) cut.ensures.slices) set.0 set.1.0 set.1.1 (subst (λ (s : Scale). IsOpenedBy (record { warehouses = s.warehouses; executors = c.args.setup.now.executors }) c.in_ok-placements.placements) c.scale-scale.ensures.value (subst (λ r. IsOpenedBy r c.in_ok-placements.placements) c.opening.ensures c.in_ok-placements.ensures))
    c.in_ok-parked.ensures c.requires.log.0 c.requires.inbox c.in_ok-inboxes.ensures c.in_ok-outboxes.ensures c.in_ok-inbox.ensures c.in_ok-outbox.ensures c.new.ensures refl c.in_ok-active.ensures c.in_ok-sessions.ensures

pub open_shards-requires : goal.open_shards-requires
open_shards-requires g c = subst (All NobodyWaitsIn) (sym c.in_ok-catalog.ensures.slices) (cut_waits (parts_of c.args.tables))
