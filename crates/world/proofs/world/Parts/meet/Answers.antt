use Rattle.std.proofs.Common.{◌≡◌, ◌≤◌, ◌-◌, ◌∙◌, ℕ, List, [], ◌∷◌, length, inl, inr, Option, Some, None, refl, sym, ap, subst, arith}
use Rattle.std.specs.Prelude.{slice_set}
use Rattle.world.specs.declared.desk.Active.{Active}
use Rattle.world.specs.declared.desk.Active.TheVariants.{Acting}
use Rattle.world.specs.declared.flight.Report.{Report}
use Rattle.rendezvous.specs.Awaited.{awaited_from}
use Rattle.world.specs.Events.{MeetsAs}
use Rattle.world.specs.Following.{CarriesFirst, with_active}
use Rattle.world.proofs.Sorting.{meets_active, put_twice}
use Rattle.world.proofs.world.Parts.meet.Goals as goal

pub returns-in-Last : goal.returns-in-Last
returns-in-Last g c =
    let J = g.row.J.Denot in
    let old = c.args.self.now in
    let slot = c.args.report.slot in
    let there = c.take.ensures.out ∙ ap (λ (a : Option (Active J)). Some a) (c.in-Some.is ∙ ap (λ (a : Active J). Some a) c.meeting_of-first.ensures) in
    let asked = c.requires.awaited.1 in
    let at = asked.1.1.0 in
    let first : asked.0 ≡ c.meeting_of-first.result.0 = cc in
    let reports : asked.1.0 ≡ c.meeting_of-first.result.1 = cc in
    let met = c.in-Last.ensures.results ∙ ap (λ (l : List (Option (Report J))). slice_set l (c.args.report.place - c.meeting_of-first.result.0) (Some c.args.report)) c.meeting.view_is in
    let all = met ∙ (λ i. slice_set (sym reports i) (c.args.report.place - sym first i) (Some c.args.report)) in
    let own : CarriesFirst c.in-Last.results (λ f. f.transaction.slot ≡ slot) = (asked.1.1.1.1.1 c.in-Last.results all).1 in
    let follows = subst (λ (l : List (Option (Active J))). MeetsAs c.in-Last.results (record old { desk = record old.desk { active = l } }) c.follow.new.self) c.take.ensures.free c.follow.ensures in (
      c.meeting_of-first.result.0,
      (
        c.meeting_of-first.result.1,
        (there, inr (c.in-Last.results, (met, meets_active c.in-Last.results slot None old c.follow.new.self own follows))),
      ),
    )

some_left : (ns : List ℕ) → (ns ≡ [] → ⊥) → 1 ≤ length ns
some_left [] none = absurd (none refl)
some_left (n ∷ ns) none = omega arith

pub returns-in-NotLast : goal.returns-in-NotLast
returns-in-NotLast g c =
    let J = g.row.J.Denot in
    let old = c.args.self.now in
    let slot = c.args.report.slot in
    let same = ap (λ (l : List (Option (Report J))). slice_set l (c.args.report.place - c.meeting_of-first.result.0) (Some c.args.report)) c.meeting.view_is in
    let there = c.take.ensures.out ∙ ap (λ (a : Option (Active J)). Some a) (c.in-Some.is ∙ ap (λ (a : Active J). Some a) c.meeting_of-first.ensures) in (
      c.meeting_of-first.result.0,
      (
        c.meeting_of-first.result.1,
        (
          there,
          inl (
            some_left _ (λ none. c.in-NotLast.ensures.last.1 (ap (λ (l : List (Option (Report J))). awaited_from 0 l) same ∙ none)),
            ap (λ (l : List (Option (Active J))). record old { desk = record old.desk { active = l } })
                (put_twice old.desk.active c.take.new.self c.put.new.self slot _ c.take.ensures.free c.put.ensures)
                ∙ ap (λ m. with_active slot (Some (Acting c.meeting_of-first.result.0 m)) old) (c.in-NotLast.ensures.meeting ∙ same),
          ),
        ),
      ),
    )
