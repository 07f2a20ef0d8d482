use Rattle.std.proofs.Common.{◌≡◌, ◌≢◌, Bool, false, ℕ, ◌≤◌, zero, suc, List, Ok, Err, inl, inr, refl, sym, ◌∙◌, ap, subst, arith, map}
use Rattle.std.specs.Prelude.{IsTrue}
use Rattle.world.specs.Shards.{slice_of}
use Rattle.world.specs.declared.flight.Carried.{Carried}
use Rattle.transactions.specs.Shards.{ShardView}
use Rattle.partitions.specs.Parts.{SharedTables, shared_of}
use Rattle.schema.specs.Database.{Database}
use Rattle.slices.specs.SliceView.{SliceView, joined}
use Rattle.world.specs.declared.world.GatherFault.TheVariants as gather
use Rattle.world.specs.declared.world.Core.{Core}
use Rattle.world.specs.Openings.{IsGathered}
use Rattle.world.specs.Parted.{joined_in}
use Rattle.world.specs.Slots.{count_active}
use Rattle.world.specs.Together.{together}
use Rattle.world.specs.Worlds.{Fits, count_busy, tables_now}
use Rattle.world.proofs.NeverStuck.{never_stuck_seen, rests_idle}
use Rattle.world.proofs.Quiet.{idle_tables}
use Rattle.world.proofs.world.World.close.Goals as goal

-- nothing is gathered while a transaction is active
not_idle : (active : ℕ) (tables : Database) → 1 ≤ active → IsGathered active tables (Err gather.NotIdle)
not_idle zero tables some = absurd (omega (arith, some))
not_idle (suc n) tables some = refl

-- what is false is not so
not_true : (b : Bool) → b ≡ false → IsTrue b → ⊥
not_true b is so = absurd (cc)

pub returns-then-not-is_idle-clause-never_stuck : goal.returns-then-not-is_idle-clause-never_stuck
returns-then-not-is_idle-clause-never_stuck g c = never_stuck_seen (shared_of g.J.LogNames.opening) c.self.inside.core c.args.self c.self.view_is c.self.invariant.0

pub returns-in_default-clause-never_stuck : goal.returns-in_default-clause-never_stuck
returns-in_default-clause-never_stuck g c = never_stuck_seen (shared_of g.J.LogNames.opening) c.self.inside.core c.args.self c.self.view_is c.self.invariant.0

pub returns-in-Ok-whole-clause-never_stuck : goal.returns-in-Ok-whole-clause-never_stuck
returns-in-Ok-whole-clause-never_stuck g c = never_stuck_seen (shared_of g.J.LogNames.opening) c.self.inside.core c.args.self c.self.view_is c.self.invariant.0

pub returns-clause-never_stuck : goal.returns-clause-never_stuck
returns-clause-never_stuck g c = never_stuck_seen (shared_of g.J.LogNames.opening) c.self.inside.core c.args.self c.self.view_is c.self.invariant.0

pub returns-then-not-is_idle-clause-at_rest : goal.returns-then-not-is_idle-clause-at_rest
returns-then-not-is_idle-clause-at_rest g c = rests_idle (shared_of g.J.LogNames.opening) c.self.inside.core c.args.self c.self.view_is c.self.invariant.0

pub returns-in_default-clause-at_rest : goal.returns-in_default-clause-at_rest
returns-in_default-clause-at_rest g c = rests_idle (shared_of g.J.LogNames.opening) c.self.inside.core c.args.self c.self.view_is c.self.invariant.0

pub returns-in-Ok-whole-clause-at_rest : goal.returns-in-Ok-whole-clause-at_rest
returns-in-Ok-whole-clause-at_rest g c = rests_idle (shared_of g.J.LogNames.opening) c.self.inside.core c.args.self c.self.view_is c.self.invariant.0

pub returns-clause-at_rest : goal.returns-clause-at_rest
returns-clause-at_rest g c = rests_idle (shared_of g.J.LogNames.opening) c.self.inside.core c.args.self c.self.view_is c.self.invariant.0

pub returns-in-Ok-whole-clause-tables : goal.returns-in-Ok-whole-clause-tables
returns-in-Ok-whole-clause-tables g c opening history f =
    let w = together c.self.inside.core in
    let left = c.into_log_and_shards-entries in
    let slices = c.in-Ok.slices.items in
    let idle : count_busy c.self.inside.core ≡ 0 = c.is_idle-is_idle.ensures.0 c.if-not-is_idle.false in
    let none : count_active w.desk.active ≡ 0 = omega (arith, idle) in
    let moved : (joined left.result.1 slices).tables ≡ (joined_in w).tables =
    ap (λ (s : SharedTables). (joined s slices).tables) left.ensures.catalog ∙ ap (λ (l : List SliceView). (joined w.catalog l).tables) (c.in-Ok.ensures ∙ ap (λ (l : List (ShardView (Carried g.row.J.Denot))). map slice_of l) left.ensures.shards) in
    let is = idle_tables (shared_of g.J.LogNames.opening) w c.self.invariant.0.all none opening history (subst (λ (v : Core g.row.J.Denot). Fits opening history (together v)) (sym c.self.view_is) f) in
    subst (λ (v : Core g.row.J.Denot). IsGathered (count_busy v) (tables_now opening v.parts.log) (Ok c.in-Ok-whole.tables)) c.self.view_is
    (subst (λ n. IsGathered n (tables_now opening w.log) (Ok c.in-Ok-whole.tables)) (sym idle) (inl (ap Ok (c.in-Ok-whole.ensures ∙ moved ∙ is))))

pub returns-in_default-clause-tables : goal.returns-in_default-clause-tables
returns-in_default-clause-tables g c opening history f =
    let w = together c.self.inside.core in
    let idle : count_busy c.self.inside.core ≡ 0 = c.is_idle-is_idle.ensures.0 c.if-not-is_idle.false in
    subst (λ (v : Core g.row.J.Denot). IsGathered (count_busy v) (tables_now opening v.parts.log) (Err gather.NoMemory)) c.self.view_is
    (subst (λ n. IsGathered n (tables_now opening w.log) (Err gather.NoMemory)) (sym idle) (inr refl))

pub returns-clause-tables : goal.returns-clause-tables
returns-clause-tables g c opening history f =
    let w = together c.self.inside.core in
    let idle : count_busy c.self.inside.core ≡ 0 = c.is_idle-is_idle.ensures.0 c.if-not-is_idle.false in
    subst (λ (v : Core g.row.J.Denot). IsGathered (count_busy v) (tables_now opening v.parts.log) (Err gather.NoMemory)) c.self.view_is
    (subst (λ n. IsGathered n (tables_now opening w.log) (Err gather.NoMemory)) (sym idle) (inr refl))

pub returns-then-not-is_idle-clause-tables : goal.returns-then-not-is_idle-clause-tables
returns-then-not-is_idle-clause-tables g c opening history f =
    let w = together c.self.inside.core in
    let busy : count_busy c.self.inside.core ≢ 0 = λ idle. not_true c.is_idle-is_idle.result c.if-not-is_idle.true (c.is_idle-is_idle.ensures.1 idle) in
    let some : 1 ≤ count_busy c.self.inside.core = omega (arith, busy) in
    subst (λ (v : Core g.row.J.Denot). IsGathered (count_busy v) (tables_now opening v.parts.log) (Err gather.NotIdle)) c.self.view_is
    (not_idle (count_busy c.self.inside.core) (tables_now opening w.log) some)
