-- What was done and is taken back leaves a slice as it was.
use Rattle.std.proofs.Common.{◌≡◌, ◌≢◌, Bool, true, false, [], ◌∷◌, refl, sym, ap, ◌∙◌}
use Rattle.schema.specs.Database.{Database}
use Rattle.requests.specs.declared.group.Group.{Group}
use Rattle.groups.specs.Content.{Content, content}
use Rattle.groups.specs.Groups.{is_same}
use Rattle.groups.specs.Laws.{ChangesOneGroup}
use Rattle.groups.proofs.RowsInGroups.{contents_make_tables}
use Rattle.groups.proofs.SameGroups.{is_same-itself}
use Rattle.tickets.specs.Claims.{ClaimView}
use Rattle.tickets.proofs.Apart.{is_same-equal}
use Rattle.slices.specs.SliceView.{SliceView, HasLocksOf, SliceKeeps}

-- ---- rows

-- with the same in its own group, and in all others, the tables have the same everywhere
same_everywhere : (own : Group) (s t : Database) → content s own ≡ content t own → ((other : Group) → other ≢ own → content s other ≡ content t other) → (group : Group) → content s group ≡ content t group
same_everywhere own s t here elsewhere group =
    elim (is_same group own) as (λ (b : Bool). is_same group own ≡ b → content s group ≡ content t group) [
      | true ↦ λ e. let one = is_same-equal group own e in ap (content s) one ∙ here ∙ sym (ap (content t) one)
      | false ↦ λ e. elsewhere group (λ same. let yes : is_same group own ≡ true = ap (λ g. is_same g own) same ∙ is_same-itself own in cc)
    ] refl

-- rows that were put in one group, and are taken back, leave the slice as it was
pub put_back : (own : Group) (was : Content) (start still new : SliceView) (done : Database) (put undone : ClaimView)
    → still ≡ record start { tables = done } → done.scale ≡ start.tables.scale → done.items ≡ start.tables.items
    → ((other : Group) → other ≢ own → content done other ≡ content start.tables other) → content start.tables own ≡ was
    → SliceKeeps (put ∷ []) still (undone ∷ []) new → ChangesOneGroup own (λ before. was) still.tables new.tables → HasLocksOf still new → new ≡ start
put_back own was start still new done put undone is scale items elsewhere own_was kept changes locks =
    let then : still.tables ≡ done = ap (λ (s : SliceView). s.tables) is in
    let same = same_everywhere own new.tables start.tables (changes.here ∙ sym own_was) (λ other apart. changes.elsewhere other apart ∙ ap (λ (t : Database). content t other) then ∙ elsewhere other apart) in
    let tables = contents_make_tables new.tables start.tables
    (kept.scale ∙ ap (λ (t : Database). t.scale) then ∙ scale) (kept.items ∙ ap (λ (t : Database). t.items) then ∙ items) same in
    let home : new.home ≡ start.home = kept.home ∙ ap (λ (s : SliceView). s.home) is in
    let held : new.holdings ≡ start.holdings = locks.holdings ∙ ap (λ (s : SliceView). s.holdings) is in
    let wait : new.waiters ≡ start.waiters = locks.waiters ∙ ap (λ (s : SliceView). s.waiters) is in
    λ i. record { home = home i; tables = tables i; holdings = held i; waiters = wait i }
