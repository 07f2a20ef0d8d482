use Rattle.std.proofs.Common.{◌≡◌, ◌+◌, ◌∷◌, ℕ, List, Option, Some, sym, ap, ◌∙◌, subst}
use lib.ListN.{get_elem?}
use Rattle.atomic_table.specs.Table.{Me, rest}
use Rattle.rendezvous.specs.Picks.{offset_of}
use Rattle.rendezvous.specs.Stages.{RoundView}
use Rattle.rendezvous.specs.Rule.{IsReported}
use Rattle.rendezvous.proofs.Keeping.{reports}
use Rattle.rendezvous.proofs.steps.tell.Goals as goal

pub fetch_sub-requires : goal.fetch_sub-requires
fetch_sub-requires g c =
    let at : c.exchange.new.seat.table_id ≡ c.args.seat.now.table_id = c.exchange.ensures.0 in
    let me = c.exchange.ensures.3 in (
      at ∙ c.requires.seat.at_table,
      c.requires.seat.some_word,
      reports _ _ _ c.exchange.new.seat.me (offset_of g.J.Picked.offset) c.args.slot c.args.own
          (ap (λ (m : Me (Option g.row.R.Denot) (RoundView g.row.T.Denot g.row.R.Denot)). get_elem? m.0.stages (offset_of g.J.Picked.offset)) me ∙ c.requires.sits)
          (c.requires.slot ∙ sym (ap (λ (m : Me (Option g.row.R.Denot) (RoundView g.row.T.Denot g.row.R.Denot)). m.0.from + offset_of g.J.Picked.offset) me))
          (ap (λ (m : Me (Option g.row.R.Denot) (RoundView g.row.T.Denot g.row.R.Denot)). m.1) me ∙ ap (λ (l : List (ℕ × Option g.row.R.Denot)). (c.args.slot, Some c.args.own) ∷ rest l) c.requires.empty)
          (λ topic is. c.requires.suits topic (sym (ap (λ (m : Me (Option g.row.R.Denot) (RoundView g.row.T.Denot g.row.R.Denot)). m.0.topic) me) ∙ is)),
    )

pub returns-clause-reported : goal.returns-clause-reported
returns-clause-reported g c =
    let me = c.exchange.ensures.3 in
    let was = c.fetch_sub.ensures.2 c.args.slot c.args.own
    (ap (λ (m : Me (Option g.row.R.Denot) (RoundView g.row.T.Denot g.row.R.Denot)). m.1) me ∙ ap (λ (l : List (ℕ × Option g.row.R.Denot)). (c.args.slot, Some c.args.own) ∷ rest l) c.requires.empty) in
    subst (λ (m : Me (Option g.row.R.Denot) (RoundView g.row.T.Denot g.row.R.Denot)). IsReported g.T.Topic.suits (offset_of g.J.Picked.offset) c.args.own m.0 c.fetch_sub.result c.fetch_sub.new.seat.me) me was
