use Rattle.std.proofs.Common.{ℕ, List, [], ◌∷◌, ◌++◌, ◌≤◌, length, drop, refl, ap, ◌∙◌, rules, arith}
use Rattle.csv.specs.declared.parser.State.TheVariants as st
use Rattle.files.specs.Source.{ahead, at_hand}
use Rattle.files.proofs.Progress.{next_plain}
use Rattle.files.proofs.NextRecord.{open_too_long, reads_last, last_size, not_full}
use Rattle.files.proofs.records.Records.cut_last.Goals as goal

pub returns-then-is_full-clause-too_long : goal.returns-then-is_full-clause-too_long
returns-then-is_full-clause-too_long g c = λ _.
    let r = c.args.self.now in
    open_too_long (at_hand r.source) (g.R.Input.remaining r.source.reader) r.spans.items c.args.from c.requires.«open» (c.is_full.ensures.0 (search rules))

pub returns-clause-next : goal.returns-clause-next
returns-clause-next g c =
    let r = c.args.self.now in
    let hand = at_hand r.source in
    let read = c.at_hand-count.ensures in
    let most : length hand ≤ 65536 = rw read.value at read.fits in
    let room = not_full c.is_full.result (length hand) c.if-is_full.false c.is_full.ensures.1 most in
    let known = g.R.Input.remaining r.source.reader in
    let spans = r.spans.items ++ (record { from = c.args.from; to = length hand } ∷ []) in
    next_plain g.R.Input.remaining (ahead g.R.Input.remaining r.source) _ st.StartRecord hand (drop (length hand) hand) spans c.requires.begun c.requires.plain refl
    (ap (λ (h : List ℕ). drop (length h) hand) read.value)
    (c.in_ok-add.ensures ∙ ap (λ (h : List ℕ). r.spans.items ++ (record { from = c.args.from; to = length h } ∷ [])) read.value)
    (λ text. refl)
    (reads_last hand known r.spans.items c.args.from c.requires.«open» (c.requires.ended room))
    (let size = last_size hand r.spans.items c.args.from c.requires.«open» in omega (arith, size, room))
