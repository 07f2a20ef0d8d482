use Rattle.std.proofs.Common.{◌≡◌, ◌+◌, ℕ, List, [], ◌∷◌, ◌++◌, Bool, true, false, length, None, rules, sym, ap, refl, subst, ◌∙◌, zero-add, arith}
use Rattle.std.specs.Result.{is_ok}
use Rattle.std.proofs.lemmas.List.{length-append}
use Rattle.std.proofs.lemmas.Result.{err_from_is_err_and}
use Rattle.files.specs.declared.fault.FaultKind.TheVariants.{NoEnd}
use Rattle.files.specs.Place.{HasReadOn, file_fault, record_fields, record_number}
use Rattle.terminals.specs.FirstFault.{fields_fault, is_end}
use Rattle.terminals.specs.Listing.{end_fields}
use Rattle.terminals.specs.Numbered.{AreNumbered}
use Rattle.terminals.proofs.FirstFaults.{GoesOnAt, at_record, end_at, fault_advancing, fault_at_last, fault_at_record, next_at}
use Rattle.terminals.proofs.Numbered.{numbered-none, numbered-push}
use Rattle.terminals.proofs.listing.read_items.Goals.{else-loop-test, then-loop-test+in_ok-advance+then-not-branch}
use Rattle.terminals.proofs.listing.read_items.Goals as goal

pub loop-init : goal.loop-init
loop-init g c = (
  λ text h.
      let are = subst (λ items. AreNumbered g.T.Listed.is_record 0 items []) (sym c.new-items.ensures.items) (numbered-none g.T.Listed.is_record 0) in
      ([], are, h),
  λ rows few number left.
      subst (λ items. GoesOnAt g.R.Input.remaining g.T.Listed.after rows (length items) c.args.records.now 0) (sym c.new-items.ensures.items)
      (record { left = rows; number = number; has_left = left; fault = refl; long = zero-add (length rows); counted = omega arith }),
  λ fine. fine,
)

pub returns-in-None-clause-listed : goal.returns-in-None-clause-listed
returns-in-None-clause-listed g c = λ text h.
    let inv = c.loop.invariant.0 text h in
    let found : c.in_ok-advance.field-0 ≡ true = search rules in
    let P : Bool → Type 0 = λ b. HasReadOn g.R.Input.remaining text inv.0 b c.advance.new.self in
    let on = subst P found (c.in_ok-advance.ensures.reads text inv.0 inv.2) in
    let said = rw c.in-None.is at c.in_ok-item.ensures.end in
    let count : c.len.result ≡ length c.loop.items.items = search rules in
    let end : record_fields c.advance.new.self ≡ end_fields (length c.loop.items.items) = said ∙ ap end_fields count in
    (inv.0 ++ (record_fields c.advance.new.self ∷ []), on, (inv.0, inv.1, ap (λ (fields : List (List ℕ)). inv.0 ++ (fields ∷ [])) end))

pub loop-preserved : goal.loop-preserved
loop-preserved g c =
    let found : c.in_ok-advance.field-0 ≡ true = search rules in
    let fields = record_fields c.advance.new.self in
    let count : c.len.result ≡ length c.loop.items.items = search rules in
    let good : is_ok c.push.result ≡ true = search rules in
    let more : c.push.new.self.items ≡ c.loop.items.items ++ (c.in-Some.item ∷ []) = rw good at c.push.ensures.items in (
      λ text h.
          let inv = c.loop.invariant.0 text h in
          let P : Bool → Type 0 = λ b. HasReadOn g.R.Input.remaining text inv.0 b c.advance.new.self in
          let on = subst P found (c.in_ok-advance.ensures.reads text inv.0 inv.2) in
          let said = rw c.in-Some.is at c.in_ok-item.ensures.item in
          let is_record : ℕ → Type 0 = λ place. g.T.Listed.is_record place c.in-Some.item fields in
          let one = subst is_record (count ∙ sym (zero-add (length c.loop.items.items))) said in
          let rows = inv.0 ++ (fields ∷ []) in
          let all = numbered-push g.T.Listed.is_record 0 c.loop.items.items inv.0 c.in-Some.item fields inv.1 one in
          (rows, subst (λ items. AreNumbered g.T.Listed.is_record 0 items rows) (sym more) all, on),
      λ rows few number left.
          let a = at_record g.R.Input.remaining g.T.Listed.after rows (length c.loop.items.items) c.loop.records c.advance.new.self c.loop.counter few c.advance.ensures.number (c.loop.invariant.1 rows few number left) c.in_ok-advance.field-0 found c.in_ok-advance.ensures.reads_next in
          let read = rw c.in-Some.is at c.in_ok-item.ensures.exact in
          let well = subst (λ n. (fields_fault g.T.Listed.after n fields ≡ None) × (is_end fields ≡ false)) count read in
          let next = next_at g.R.Input.remaining g.T.Listed.after rows (length c.loop.items.items) c.advance.new.self c.loop.counter a (c.in_ok-advance.ensures.kept found) well in
          subst (λ n. GoesOnAt g.R.Input.remaining g.T.Listed.after rows n c.advance.new.self (c.loop.counter + 1)) (sym (ap length more ∙ length-append c.loop.items.items (c.in-Some.item ∷ []))) next,
      λ fine. c.in_ok-advance.ensures.lasts (c.loop.invariant.2 fine),
    )

pub returns-in-None-clause-first : goal.returns-in-None-clause-first
returns-in-None-clause-first g c = λ rows few number left.
    let found : c.in_ok-advance.field-0 ≡ true = search rules in
    let fields = record_fields c.advance.new.self in
    let count : c.len.result ≡ length c.loop.items.items = search rules in
    let a = at_record g.R.Input.remaining g.T.Listed.after rows (length c.loop.items.items) c.loop.records c.advance.new.self c.loop.counter few c.advance.ensures.number (c.loop.invariant.1 rows few number left) c.in_ok-advance.field-0 found c.in_ok-advance.ensures.reads_next in
    let read = rw c.in-None.is at c.in_ok-item.ensures.exact in
    let well = subst (λ n. (fields_fault g.T.Listed.after n fields ≡ None) × (is_end fields ≡ true)) count read in
    end_at g.R.Input.remaining g.T.Listed.after rows (length c.loop.items.items) c.advance.new.self c.loop.counter a (c.in_ok-advance.ensures.kept found) well

pub returns-in_err-item-clause-first : goal.returns-in_err-item-clause-first
returns-in_err-item-clause-first g c =
    let p = err_from_is_err_and c.from_residual-in_err-item.result c.from_residual-in_err-item.ensures.1 in
    rw (p.1, p.2) (λ rows few number left.
    let found : c.in_ok-advance.field-0 ≡ true = search rules in
    let fields = record_fields c.advance.new.self in
    let count : c.len.result ≡ length c.loop.items.items = search rules in
    let a = at_record g.R.Input.remaining g.T.Listed.after rows (length c.loop.items.items) c.loop.records c.advance.new.self c.loop.counter few c.advance.ensures.number (c.loop.invariant.1 rows few number left) c.in_ok-advance.field-0 found c.in_ok-advance.ensures.reads_next in
    fault_at_record g.R.Input.remaining g.T.Listed.after rows (length c.loop.items.items) c.advance.new.self c.loop.counter a (c.in_ok-advance.ensures.kept found) c.len.result count _ c.in_err-item.ensures.exact)

pub returns-in_err-advance-clause-first : goal.returns-in_err-advance-clause-first
returns-in_err-advance-clause-first g c =
    let p = err_from_is_err_and c.from_residual.result c.from_residual.ensures.1 in
    let failed = c.in_err-advance.ensures in
    rw (p.1, p.2) (λ rows few number left.
    fault_advancing g.R.Input.remaining g.T.Listed.after rows (length c.loop.items.items) c.loop.records c.advance.new.self c.loop.counter few c.advance.ensures.number (c.loop.invariant.1 rows few number left) _ failed.faults failed.too_long)

pub returns-clause-first : goal.returns-clause-first
returns-clause-first g c = λ rows few number left.
    let inv = c.loop.invariant.1 rows few number left in
    elim c.loop-test.branch [
      | else-loop-test w ↦ let bound = inv.counted in let past = w.loop-test.false in absurd (omega (arith, bound, past, few))
      | then-loop-test+in_ok-advance+then-not-branch w ↦
          fault_at_last g.R.Input.remaining g.T.Listed.after rows (length c.loop.items.items) c.loop.records w.advance.new.self c.loop.counter few w.advance.ensures.number inv c.fault.result w.in_ok-advance.field-0
          (c.fault.ensures ∙ ap (λ r. file_fault NoEnd (record_number r)) w.records-is) w.if-not-branch.true w.in_ok-advance.ensures.reads_next
    ]
