use Rattle.std.proofs.Common.{◌≡◌, [], ◌++◌, ◌∷◌, List, sym, ap, subst, ◌∙◌}
use Rattle.groups.specs.declared.wants.Want.{Want}
use Rattle.partitions.specs.Parts.{shared_of}
use Rattle.local_locks.specs.declared.table.Asked.{Asked}
use Rattle.local_locks.specs.Asking.{waiting}
use Rattle.local_locks.specs.Conflicts.{MustDie}
use Rattle.local_locks.specs.GroupWants.{CanAsk}
use Rattle.slices.specs.Asked.{AnswersIn, GrantsIn, claims_asked}
use Rattle.slices.specs.SliceView.{SliceKeeps, SliceView, with_waiters}
use Rattle.transactions.specs.declared.acting.Ran.TheVariants.{Died}
use Rattle.transactions.specs.declared.shard.Acted.TheVariants as acted
use Rattle.transactions.specs.declared.shard.Parked.{Parked}
use Rattle.transactions.specs.Shards.{ActsAs, IsShard, ShardView, parked, shard_view}
use Rattle.transactions.specs.Works.{CanDo, wants_of}
use Rattle.transactions.proofs.Shards.{acts_and_dies, acts_at_once, one_more}
use Rattle.transactions.proofs.Wanted.{can_ask, granted_for}
use Rattle.transactions.proofs.shard.Shard.try_action.Goals as goal

pub ask-requires : goal.ask-requires
ask-requires g c =
    let slice = c.self.inside.slice in
    let at = c.self.view_is in
    subst (λ (ws : List Want). CanAsk g.J.GroupNames.warehouses slice.home ws) (sym (c.deref.ensures.value ∙ c.in-Ok.ensures))
    (can_ask g.J.GroupNames.warehouses slice.tables slice.home c.args.work c.self.invariant.warehouses_are
    (subst (λ (s : ShardView g.row.T.Denot). CanDo (shared_of s.slice.tables) c.args.work) (sym at) c.requires.can)
    (c.requires.home ∙ ap (λ (s : ShardView g.row.T.Denot). s.slice.home) (sym at)))

pub run_under-requires-clause-granted : goal.run_under-requires-clause-granted
run_under-requires-clause-granted g c =
    let slice = c.self.inside.slice in
    let answers = subst (λ (a : Asked g.row.J.Denot). AnswersIn c.args.by c.deref.result.now slice a c.ask.new.self) c.in-Ok-Granted.field-0-is c.in-Ok-Granted.ensures.answers in
    let grants = subst (λ (ws : List Want). GrantsIn c.args.by ws slice c.in-Ok-Granted.claims.items c.ask.new.self) (c.deref.ensures.value ∙ c.in-Ok.ensures) answers.0 in
    granted_for c.args.by c.args.work slice c.ask.new.self c.in-Ok-Granted.claims.items grants

pub invariant_of-self-in-Ok-Waits : goal.invariant_of-self-in-Ok-Waits
invariant_of-self-in-Ok-Waits g c =
    let slice = c.self.inside.slice in
    let at = c.self.view_is in
    let all = c.self.inside.parked.items in
    let answers = subst (λ (a : Asked g.row.J.Denot). AnswersIn c.args.by c.deref.result.now slice a c.ask.new.self) c.in-Ok-Waits.field-0-is c.in-Ok-Waits.ensures.answers in
    let waits : c.ask.new.self ≡ with_waiters (slice.waiters ++ waiting c.args.by (wants_of c.args.work) ∷ []) slice =
    answers.1 ∙ ap (λ (ws : List Want). with_waiters (slice.waiters ++ waiting c.args.by ws ∷ []) slice) (c.deref.ensures.value ∙ c.in-Ok.ensures) in
    let more : c.push_reserved.new.self.items ≡ all ++ parked c.args.by c.args.work c.args.carried ∷ [] =
    c.push_reserved.ensures.items ∙ ap (λ (ps : List (Parked g.row.T.Denot)). ps ++ parked c.args.by c.args.work c.args.carried ∷ []) c.reserve.ensures.items in
    let there = one_more g.J.GroupNames.warehouses slice all c.args.by c.args.work c.args.carried c.self.invariant
    (subst (λ (s : ShardView g.row.T.Denot). CanDo (shared_of s.slice.tables) c.args.work) (sym at) c.requires.can)
    (c.requires.home ∙ ap (λ (s : ShardView g.row.T.Denot). s.slice.home) (sym at)) in
    subst (λ (s : SliceView). IsShard g.J.GroupNames.warehouses s c.push_reserved.new.self.items) (sym waits)
    (subst (λ (ps : List (Parked g.row.T.Denot)). IsShard g.J.GroupNames.warehouses (with_waiters (slice.waiters ++ waiting c.args.by (wants_of c.args.work) ∷ []) slice) ps) (sym more) there)

pub returns-in-Ok-Granted : goal.returns-in-Ok-Granted
returns-in-Ok-Granted g c =
    let slice = c.self.inside.slice in
    let old = shard_view slice c.self.inside.parked.items in
    let claims = c.in-Ok-Granted.claims.items in
    let answers = subst (λ (a : Asked g.row.J.Denot). AnswersIn c.args.by c.deref.result.now slice a c.ask.new.self) c.in-Ok-Granted.field-0-is c.in-Ok-Granted.ensures.answers in
    let first = subst (λ (a : Asked g.row.J.Denot). SliceKeeps [] (with_waiters c.ask.new.self.waiters slice) (claims_asked a) c.ask.new.self) c.in-Ok-Granted.field-0-is c.in-Ok-Granted.ensures.kept in
    let grants = subst (λ (ws : List Want). GrantsIn c.args.by ws slice claims c.ask.new.self) (c.deref.ensures.value ∙ c.in-Ok.ensures) answers.0 in
    subst (λ (s : ShardView g.row.T.Denot). ActsAs c.args.by c.args.work c.args.carried s (acted.Ran c.run_under.result c.args.carried) (shard_view c.run_under.new.slice c.reserve.new.self.items)) c.self.view_is
    (acts_at_once c.args.by c.args.work c.args.carried old c.reserve.new.self.items c.reserve.ensures.items c.run_under.result claims c.ask.new.self c.run_under.new.slice grants answers.1 first
    c.run_under.ensures.done c.run_under.ensures.kept)

pub returns-in-Ok-Dies : goal.returns-in-Ok-Dies
returns-in-Ok-Dies g c =
    let slice = c.self.inside.slice in
    let old = shard_view slice c.self.inside.parked.items in
    let answers = subst (λ (a : Asked g.row.J.Denot). AnswersIn c.args.by c.deref.result.now slice a c.ask.new.self) c.in-Ok-Dies.field-0-is c.in-Ok-Dies.ensures.answers in
    let death = subst (λ (ws : List Want). MustDie slice.holdings c.args.by.age ws c.in-Ok-Dies.group c.in-Ok-Dies.holder) (c.deref.ensures.value ∙ c.in-Ok.ensures) answers.0 in
    subst (λ (s : ShardView g.row.T.Denot). ActsAs {J = g.row.J.Denot} c.args.by c.args.work c.args.carried s (acted.Ran (Died c.in-Ok-Dies.group c.in-Ok-Dies.holder) c.args.carried) (shard_view c.ask.new.self c.reserve.new.self.items)) c.self.view_is
    (acts_and_dies c.args.by c.args.work c.args.carried old c.reserve.new.self.items c.reserve.ensures.items g.row.J.Denot c.in-Ok-Dies.group c.in-Ok-Dies.holder c.ask.new.self death answers.1)
