use Rattle.std.proofs.Common.{◌≡◌, ◌&&◌, Bool, true, false, Option, Some, None, is_some, not, refl, sym, ap, ◌∙◌}
use Rattle.files.specs.declared.fault.FaultKind.{FaultKind}
use Rattle.files.specs.declared.fault.FaultKind.TheVariants.{OutOfOrder}
use Rattle.files.specs.Taken.{fields_left, fault_of, with_fault}
use Rattle.files.proofs.ColumnsRead.{ended}
use Rattle.dataset.specs.Columns.{or_order}
use Rattle.dataset.specs.Order.{follows}
use Rattle.dataset.proofs.loader.Loader.stand_in_order.Goals.{then-is_none+then-not-follows, then-lines_ascend, else-lines_ascend, else-is_none, else-is_none-via-then-is_none+else-not-follows, else-is_none-via-else-is_none}
use Rattle.dataset.proofs.loader.Loader.stand_in_order.Goals as goal

faultless : (fault : Option FaultKind) → is_some fault ≡ false → fault ≡ None
faultless None h = refl
faultless (Some kind) h = absurd cc

-- a fault that is noted stays
kept : (fault : Option FaultKind) (in_order : Bool) → is_some fault ≡ true → fault ≡ or_order fault in_order
kept None in_order h = absurd cc
kept (Some kind) in_order h = refl

pub returns-clause-fault : goal.returns-clause-fault
returns-clause-fault c =
    let found = fault_of c.finish.new.self in
    let in_order : Bool = c.args.lines_ascend && follows c.args.place c.args.self.now.last in
    let ending = ended (fields_left c.args.fields.now) (fault_of c.args.fields.now) found c.finish.ensures.none_left c.finish.ensures.some_left in
    let some : is_some found ≡ not c.is_none.result = ap is_some (sym c.finish.ensures.fault) ∙ c.is_none.ensures in
    let noted : fault_of c.if-is_none.fields ≡ or_order found in_order = elim c.if-is_none.branch [
      | then-is_none+then-not-follows w ↦
          let both : w.if-lines_ascend.value ≡ in_order = elim w.if-lines_ascend.branch [
            | then-lines_ascend v ↦ v.value-is ∙ v.follows.ensures ∙ sym (ap (λ (b : Bool). b && follows c.args.place c.args.self.now.last) v.if-lines_ascend.true)
            | else-lines_ascend v ↦ v.value-is ∙ v.if-lines_ascend.false ∙ sym (ap (λ (b : Bool). b && follows c.args.place c.args.self.now.last) v.if-lines_ascend.false)
          ] in
          let free = faultless found (some ∙ ap not w.if-is_none.true) in
          let out : in_order ≡ false = sym both ∙ w.if-not-follows.true in
          ap fault_of w.fields-is ∙ w.note.ensures.fault ∙ ap (λ (f : Option FaultKind). Some (with_fault f OutOfOrder)) free ∙ sym (λ i. or_order (free i) (out i))
      | else-is_none w ↦ elim w.else-is_none.branch [
        | else-is_none-via-then-is_none+else-not-follows v ↦
            let both : v.if-lines_ascend.value ≡ in_order = elim v.if-lines_ascend.branch [
              | then-lines_ascend u ↦ u.value-is ∙ u.follows.ensures ∙ sym (ap (λ (b : Bool). b && follows c.args.place c.args.self.now.last) u.if-lines_ascend.true)
              | else-lines_ascend u ↦ u.value-is ∙ u.if-lines_ascend.false ∙ sym (ap (λ (b : Bool). b && follows c.args.place c.args.self.now.last) u.if-lines_ascend.false)
            ] in
            let free = faultless found (some ∙ ap not v.if-is_none.true) in
            let good : in_order ≡ true = sym both ∙ v.if-not-follows.false in
            ap fault_of w.fields-is ∙ free ∙ sym (λ i. or_order (free i) (good i))
        | else-is_none-via-else-is_none v ↦ ap fault_of w.fields-is ∙ kept found in_order (some ∙ ap not v.if-is_none.false)
      ]
    ] in
    noted ∙ ap (λ (f : Option FaultKind). or_order f in_order) ending
