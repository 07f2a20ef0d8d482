use Rattle.std.proofs.Common.{List, Option, Some, refl, ◌∙◌, ap}
use Rattle.world.specs.declared.desk.Active.{Active}
use Rattle.world.specs.Following.{with_active}
use Rattle.world.proofs.Sorting.{put_twice}
use Rattle.world.proofs.world.Parts.end.Goals as goal

pub returns : goal.returns
returns g c =
    let J = g.row.J.Denot in
    let old = c.args.self.now in
    let slot = c.args.slot in
    let left = c.in-Some-Ending.completion in (
      refl,
      (
        left,
        (
          c.in-Some-Ending.ensures.out ∙ ap (λ (a : Active J). Some (Some a)) c.in-Some-Ending.field-0-is,
          ap (λ (l : List (Option (Active J))). record old { desk = record old.desk { active = l } }) (put_twice old.desk.active c.take.new.self c.put.new.self slot c.report.result c.in-Some-Ending.ensures.free c.put.ensures)
              ∙ ap (λ (a : Option (Active J)). with_active slot a old) c.report.ensures,
        ),
      ),
    )
