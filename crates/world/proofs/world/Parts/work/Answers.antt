use Rattle.std.proofs.Common.{◌≡◌, ◌≤◌, ◌-◌, [], ◌∷◌, sym, subst, ap, refl, arith}
use Rattle.std.specs.Prelude.{All}
use Rattle.std.specs.Vec.{with_item}
use Rattle.slices.specs.SliceView.{IsClaimAt, SliceKeeps}
use Rattle.transactions.specs.Works.{CanDo}
use Rattle.transactions.specs.Acting.{CanAllBeSettled, CanAllBeUndone}
use Rattle.transactions.proofs.ClaimHomes.{home_is, some_claims}
use Rattle.world.specs.declared.flight.Item.TheVariants as item
use Rattle.world.specs.declared.flight.Message.{Message}
use Rattle.world.specs.Events.{AllTurns, CanWork, TakesMessage}
use Rattle.world.specs.Shards.{HasRoomFor}
use Rattle.world.proofs.Parted.{claims_at_home, work_within}
use Rattle.world.proofs.Placed.{home_there, place_within, placed_with, shards_set}
use Rattle.world.proofs.Turning.{asks_catalog, asks_room, asks_slices, gives_room, gives_slices, gives_turns}
use Rattle.world.proofs.world.Parts.work.Given as given
use Rattle.world.proofs.world.Parts.work.Goals as goal
use Rattle.world.proofs.world.Parts.work.Goals.{After-ask}

-- ---- an action

can_do : (g : given.Over) (c : After-ask g) → CanDo c.args.self.now.catalog c.in-Act.act.work
can_do g c = subst (λ (m : Message g.row.J.Denot). CanWork c.args.self.now.catalog m) c.in-Act.is c.requires.can

within : (g : given.Over) (c : After-ask g) → (1 ≤ c.home-home.result) × (c.home-home.result ≤ c.args.self.now.catalog.scale.warehouses)
within g c = work_within c.args.self.now.catalog c.in-Act.act.work c.home-home.result c.home-home.ensures (can_do g c)

pub take_turns-requires-clause-home : goal.take_turns-requires-clause-home
take_turns-requires-clause-home g c = (within g (goal.at.take_turns-requires-clause-home g c).After-ask).0

pub take_turns-requires-clause-warehouses : goal.take_turns-requires-clause-warehouses
take_turns-requires-clause-warehouses g c =
    omega (arith, (within g (goal.at.take_turns-requires-clause-warehouses g c).After-ask).1, ap (λ s. s.scale.warehouses) (asks_catalog c.args.self.now c.ask.new.self c.requires.slices c.in-Act.act c.ask.ensures.asks))

pub take_turns-requires-clause-slices : goal.take_turns-requires-clause-slices
take_turns-requires-clause-slices g c = asks_slices c.args.self.now c.ask.new.self c.requires.slices c.in-Act.act c.ask.ensures.asks

pub take_turns-requires-clause-room : goal.take_turns-requires-clause-room
take_turns-requires-clause-room g c =
    subst (λ n. HasRoomFor n c.ask.new.self) (sym c.home-home.ensures) (asks_room c.args.self.now c.ask.new.self c.requires.slices c.in-Act.act c.ask.ensures.asks c.requires.room)

pub returns-in-Act-clause-takes : goal.returns-in-Act-clause-takes
returns-in-Act-clause-takes g c =
    subst (λ (m : Message g.row.J.Denot). TakesMessage m c.args.self.now c.take_turns.new.self) (sym c.in-Act.is)
    (c.ask.new.self, (c.ask.ensures.asks, subst (λ n. AllTurns n c.ask.new.self c.take_turns.new.self) c.home-home.ensures c.take_turns.ensures.turns))

-- ---- claims that are settled

pub settle-requires-clause-home : goal.settle-requires-clause-home
settle-requires-clause-home g c =
    let old = c.args.self.now in
    let home = c.home-home-in-Settle.result in
    let can : CanAllBeSettled c.in-Settle.claims = subst (λ (m : Message g.row.J.Denot). CanWork old.catalog m) c.in-Settle.is c.requires.can in
    let last : home ≤ old.catalog.scale.warehouses = subst (λ n. home ≤ n) c.requires.warehouses c.home-home-in-Settle.ensures.known.1 in
    subst (λ n. All (IsClaimAt n) c.in-Settle.claims) (sym (home_there old c.requires.slices home c.home-home-in-Settle.ensures.known.0 last c.index_mut.result.now c.index_mut.ensures.value))
    (claims_at_home c.in-Settle.claims home c.home-home-in-Settle.ensures.home can.1)

pub take_turns-requires-in-Settle-clause-slices : goal.take_turns-requires-in-Settle-clause-slices
take_turns-requires-in-Settle-clause-slices g c =
    let old = c.args.self.now in
    let home = c.home-home-in-Settle.result in
    let claims = c.in-Settle.claims in
    let can : CanAllBeSettled claims = subst (λ (m : Message g.row.J.Denot). CanWork old.catalog m) c.in-Settle.is c.requires.can in
    let last : home ≤ old.catalog.scale.warehouses = subst (λ n. home ≤ n) c.requires.warehouses c.home-home-in-Settle.ensures.known.1 in
    gives_slices old _ c.requires.slices home c.in-Settle.slot claims
    (placed_with old c.requires.slices home c.home-home-in-Settle.ensures.known.0 last c.index_mut.result.now c.index_mut.ensures.value home refl c.settle.new.self (with_item old.shards (home - 1) c.settle.new.self) (item.Ended c.in-Settle.slot ∷ []) c.put.new.self
    (λ was now. SliceKeeps claims was.slice [] now.slice × (now.parked ≡ was.parked)) refl c.put.ensures (c.settle.ensures.kept, c.settle.ensures.parked))
    (claims_at_home claims home c.home-home-in-Settle.ensures.home can.1)

pub take_turns-requires-in-Settle-clause-shards : goal.take_turns-requires-in-Settle-clause-shards
take_turns-requires-in-Settle-clause-shards g c =
    let old = c.args.self.now in
    let home = c.home-home-in-Settle.result in
    let last : home ≤ old.catalog.scale.warehouses = subst (λ n. home ≤ n) c.requires.warehouses c.home-home-in-Settle.ensures.known.1 in
    shards_set g.J.GroupNames.warehouses old.shards.items (home - 1) c.settle.new.self c.index.result.now (place_within old c.requires.slices home c.home-home-in-Settle.ensures.known.0 last) c.requires.shards c.index.ensures c.slice.ensures.shard

pub take_turns-requires-in-Settle-clause-room : goal.take_turns-requires-in-Settle-clause-room
take_turns-requires-in-Settle-clause-room g c =
    let old = c.args.self.now in
    let home = c.home-home-in-Settle.result in
    let claims = c.in-Settle.claims in
    let last : home ≤ old.catalog.scale.warehouses = subst (λ n. home ≤ n) c.requires.warehouses c.home-home-in-Settle.ensures.known.1 in
    gives_room old _ c.requires.slices home c.in-Settle.slot claims
    (placed_with old c.requires.slices home c.home-home-in-Settle.ensures.known.0 last c.index_mut.result.now c.index_mut.ensures.value home refl c.settle.new.self (with_item old.shards (home - 1) c.settle.new.self) (item.Ended c.in-Settle.slot ∷ []) c.put.new.self
    (λ was now. SliceKeeps claims was.slice [] now.slice × (now.parked ≡ was.parked)) refl c.put.ensures (c.settle.ensures.kept, c.settle.ensures.parked))
    c.requires.room

pub returns-in-Settle-clause-takes : goal.returns-in-Settle-clause-takes
returns-in-Settle-clause-takes g c =
    let old = c.args.self.now in
    let home = c.home-home-in-Settle.result in
    let claims = c.in-Settle.claims in
    let can : CanAllBeSettled claims = subst (λ (m : Message g.row.J.Denot). CanWork old.catalog m) c.in-Settle.is c.requires.can in
    let last : home ≤ old.catalog.scale.warehouses = subst (λ n. home ≤ n) c.requires.warehouses c.home-home-in-Settle.ensures.known.1 in
    subst (λ (m : Message g.row.J.Denot). TakesMessage m old c.take_turns-in-Settle.new.self) (sym c.in-Settle.is)
    (gives_turns home c.in-Settle.slot claims old _ c.take_turns-in-Settle.new.self (home_is claims home (some_claims claims can.1) c.home-home-in-Settle.ensures.home)
    (placed_with old c.requires.slices home c.home-home-in-Settle.ensures.known.0 last c.index_mut.result.now c.index_mut.ensures.value home refl c.settle.new.self (with_item old.shards (home - 1) c.settle.new.self) (item.Ended c.in-Settle.slot ∷ []) c.put.new.self
    (λ was now. SliceKeeps claims was.slice [] now.slice × (now.parked ≡ was.parked)) refl c.put.ensures (c.settle.ensures.kept, c.settle.ensures.parked))
    c.take_turns-in-Settle.ensures.turns)

-- ---- claims whose work is taken back

pub undo-requires-clause-home : goal.undo-requires-clause-home
undo-requires-clause-home g c =
    let old = c.args.self.now in
    let home = c.home-home-in-Undo.result in
    let can : CanAllBeUndone c.in-Undo.claims = subst (λ (m : Message g.row.J.Denot). CanWork old.catalog m) c.in-Undo.is c.requires.can in
    let last : home ≤ old.catalog.scale.warehouses = subst (λ n. home ≤ n) c.requires.warehouses c.home-home-in-Undo.ensures.known.1 in
    subst (λ n. All (IsClaimAt n) c.in-Undo.claims) (sym (home_there old c.requires.slices home c.home-home-in-Undo.ensures.known.0 last c.index_mut-in-Undo.result.now c.index_mut-in-Undo.ensures.value))
    (claims_at_home c.in-Undo.claims home c.home-home-in-Undo.ensures.home can.1)

pub take_turns-requires-in-Undo-clause-slices : goal.take_turns-requires-in-Undo-clause-slices
take_turns-requires-in-Undo-clause-slices g c =
    let old = c.args.self.now in
    let home = c.home-home-in-Undo.result in
    let claims = c.in-Undo.claims in
    let can : CanAllBeUndone claims = subst (λ (m : Message g.row.J.Denot). CanWork old.catalog m) c.in-Undo.is c.requires.can in
    let last : home ≤ old.catalog.scale.warehouses = subst (λ n. home ≤ n) c.requires.warehouses c.home-home-in-Undo.ensures.known.1 in
    gives_slices old _ c.requires.slices home c.in-Undo.slot claims
    (placed_with old c.requires.slices home c.home-home-in-Undo.ensures.known.0 last c.index_mut-in-Undo.result.now c.index_mut-in-Undo.ensures.value home refl c.undo.new.self (with_item old.shards (home - 1) c.undo.new.self) (item.Ended c.in-Undo.slot ∷ []) c.put-in-Undo.new.self
    (λ was now. SliceKeeps claims was.slice [] now.slice × (now.parked ≡ was.parked)) refl c.put-in-Undo.ensures (c.undo.ensures.kept, c.undo.ensures.parked))
    (claims_at_home claims home c.home-home-in-Undo.ensures.home can.1)

pub take_turns-requires-in-Undo-clause-shards : goal.take_turns-requires-in-Undo-clause-shards
take_turns-requires-in-Undo-clause-shards g c =
    let old = c.args.self.now in
    let home = c.home-home-in-Undo.result in
    let last : home ≤ old.catalog.scale.warehouses = subst (λ n. home ≤ n) c.requires.warehouses c.home-home-in-Undo.ensures.known.1 in
    shards_set g.J.GroupNames.warehouses old.shards.items (home - 1) c.undo.new.self c.index-in-Undo.result.now (place_within old c.requires.slices home c.home-home-in-Undo.ensures.known.0 last) c.requires.shards c.index-in-Undo.ensures c.slice-in-Undo.ensures.shard

pub take_turns-requires-in-Undo-clause-room : goal.take_turns-requires-in-Undo-clause-room
take_turns-requires-in-Undo-clause-room g c =
    let old = c.args.self.now in
    let home = c.home-home-in-Undo.result in
    let claims = c.in-Undo.claims in
    let last : home ≤ old.catalog.scale.warehouses = subst (λ n. home ≤ n) c.requires.warehouses c.home-home-in-Undo.ensures.known.1 in
    gives_room old _ c.requires.slices home c.in-Undo.slot claims
    (placed_with old c.requires.slices home c.home-home-in-Undo.ensures.known.0 last c.index_mut-in-Undo.result.now c.index_mut-in-Undo.ensures.value home refl c.undo.new.self (with_item old.shards (home - 1) c.undo.new.self) (item.Ended c.in-Undo.slot ∷ []) c.put-in-Undo.new.self
    (λ was now. SliceKeeps claims was.slice [] now.slice × (now.parked ≡ was.parked)) refl c.put-in-Undo.ensures (c.undo.ensures.kept, c.undo.ensures.parked))
    c.requires.room

pub returns-in-Undo-clause-takes : goal.returns-in-Undo-clause-takes
returns-in-Undo-clause-takes g c =
    let old = c.args.self.now in
    let home = c.home-home-in-Undo.result in
    let claims = c.in-Undo.claims in
    let can : CanAllBeUndone claims = subst (λ (m : Message g.row.J.Denot). CanWork old.catalog m) c.in-Undo.is c.requires.can in
    let last : home ≤ old.catalog.scale.warehouses = subst (λ n. home ≤ n) c.requires.warehouses c.home-home-in-Undo.ensures.known.1 in
    subst (λ (m : Message g.row.J.Denot). TakesMessage m old c.take_turns-in-Undo.new.self) (sym c.in-Undo.is)
    (gives_turns home c.in-Undo.slot claims old _ c.take_turns-in-Undo.new.self (home_is claims home (some_claims claims can.1) c.home-home-in-Undo.ensures.home)
    (placed_with old c.requires.slices home c.home-home-in-Undo.ensures.known.0 last c.index_mut-in-Undo.result.now c.index_mut-in-Undo.ensures.value home refl c.undo.new.self (with_item old.shards (home - 1) c.undo.new.self) (item.Ended c.in-Undo.slot ∷ []) c.put-in-Undo.new.self
    (λ was now. SliceKeeps claims was.slice [] now.slice × (now.parked ≡ was.parked)) refl c.put-in-Undo.ensures (c.undo.ensures.kept, c.undo.ensures.parked))
    c.take_turns-in-Undo.ensures.turns)
