use Rattle.std.proofs.Common.{rules, tests, ◌≡◌, ℕ, ◌+◌, ◌-◌, ◌/◌, ◌<◌, ◌≤◌, true, false, List, length, get_or, refl, sym, ap, subst, ◌∙◌, arith}
use Rattle.std.specs.Ordering.{is_lt, is_le}
use Rattle.std.specs.List.Sorted.{IsPartitionPoint}
use Rattle.std.proofs.lemmas.List.{get_or_default}
use Rattle.std.proofs.lemmas.List.Sorted.{IsPartitionPoint-from_clause}
use Rattle.rows.specs.declared.records.Customer.{Customer}
use Rattle.indexes.specs.Namesakes.{text_cmp}
use Rattle.indexes.specs.NameOrder.{last_at, first_at, IsNameRun, IsMiddleAmong}
use Rattle.indexes.proofs.Runs.{parted_lt, parted_le, no_namesakes, the_middle}
use Rattle.indexes.proofs.name_run.NameRun.middle.Goals as goal

abbrev StartsAt : List Customer → List ℕ → List ℕ → ℕ → Type 0
StartsAt rows last run from = IsPartitionPoint (λ p. is_lt (text_cmp (last_at rows p) last) ≡ true) (λ p. is_lt (text_cmp (last_at rows p) last) ≡ false) run from

abbrev EndsAt : List Customer → List ℕ → List ℕ → ℕ → Type 0
EndsAt rows last run to = IsPartitionPoint (λ p. is_le (text_cmp (last_at rows p) last) ≡ true) (λ p. is_le (text_cmp (last_at rows p) last) ≡ false) run to

pub returns-then-from-to : goal.returns-then-from-to
returns-then-from-to c =
    let rows = c.args.rows.now in
    let last = c.args.last.now in
    let run = c.args.self.now in
    let from = c.partition_point-from.result in
    let to = c.partition_point-to.result in
    let middle : ℕ = from + (to - from - 1) / 2 in
    let items : c.self.inside.places.items ≡ run = c.self.view_is in
    let one : c.deref.result.now ≡ run = c.deref.ensures.value ∙ items in
    let two : c.deref-2.result.now ≡ run = c.deref-2.ensures.value ∙ items in
    let is_run : IsNameRun (last_at rows) (first_at rows) (length rows) run = c.requires in
    let parted_one = subst (λ (l : List ℕ). IsNameRun (last_at rows) (first_at rows) (length rows) l) (sym one) is_run in
    let parted_two = subst (λ (l : List ℕ). IsNameRun (last_at rows) (first_at rows) (length rows) l) (sym two) is_run in
    let low : StartsAt rows last run from = subst (λ (l : List ℕ). StartsAt rows last l from) one
    (IsPartitionPoint-from_clause (λ p. is_lt (text_cmp (last_at rows p) last)) _ _ c.partition_point-from.ensures.partitioned (parted_lt (last_at rows) (first_at rows) (length rows) c.deref.result.now parted_one last) (λ a r q k. search (rules, tests))) in
    let high : EndsAt rows last run to = subst (λ (l : List ℕ). EndsAt rows last l to) two
    (IsPartitionPoint-from_clause (λ p. is_le (text_cmp (last_at rows p) last)) _ _ c.partition_point-to.ensures.partitioned (parted_le (last_at rows) (first_at rows) (length rows) c.deref-2.result.now parted_two last) (λ a r q k. search (rules, tests))) in
    let within : to ≤ length run = omega (arith, c.partition_point-to.ensures.bound, ap length two) in
    let below : middle < length run = omega arith in
    let read : c.from.result ≡ get_or run middle 0 =
    c.from.ensures ∙ c.index.ensures ∙ ap (λ (l : List ℕ). get_or l middle c.index.result.now) items ∙ get_or_default run middle c.index.result.now 0 below in
    λ home. subst (λ p. IsMiddleAmong rows home last (p + 1)) (sym read) (the_middle rows home last run is_run from to low high within middle c.if-from-to.true refl)

pub returns-else-from-to : goal.returns-else-from-to
returns-else-from-to c =
    let rows = c.args.rows.now in
    let last = c.args.last.now in
    let run = c.args.self.now in
    let from = c.partition_point-from.result in
    let to = c.partition_point-to.result in
    let items : c.self.inside.places.items ≡ run = c.self.view_is in
    let one : c.deref.result.now ≡ run = c.deref.ensures.value ∙ items in
    let two : c.deref-2.result.now ≡ run = c.deref-2.ensures.value ∙ items in
    let is_run : IsNameRun (last_at rows) (first_at rows) (length rows) run = c.requires in
    let parted_one = subst (λ (l : List ℕ). IsNameRun (last_at rows) (first_at rows) (length rows) l) (sym one) is_run in
    let parted_two = subst (λ (l : List ℕ). IsNameRun (last_at rows) (first_at rows) (length rows) l) (sym two) is_run in
    let low : StartsAt rows last run from = subst (λ (l : List ℕ). StartsAt rows last l from) one
    (IsPartitionPoint-from_clause (λ p. is_lt (text_cmp (last_at rows p) last)) _ _ c.partition_point-from.ensures.partitioned (parted_lt (last_at rows) (first_at rows) (length rows) c.deref.result.now parted_one last) (λ a r q k. search (rules, tests))) in
    let high : EndsAt rows last run to = subst (λ (l : List ℕ). EndsAt rows last l to) two
    (IsPartitionPoint-from_clause (λ p. is_le (text_cmp (last_at rows p) last)) _ _ c.partition_point-to.ensures.partitioned (parted_le (last_at rows) (first_at rows) (length rows) c.deref-2.result.now parted_two last) (λ a r q k. search (rules, tests))) in
    let within : to ≤ length run = omega (arith, c.partition_point-to.ensures.bound, ap length two) in
    λ home. no_namesakes rows home last run is_run from to low high within c.if-from-to.false
