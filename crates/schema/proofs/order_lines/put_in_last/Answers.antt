use Rattle.std.proofs.Common.{◌≡◌, List, [], ℕ, Option, Some, sym, ap, subst, ◌∙◌}
use Rattle.std.specs.BTreeMap.{BTreeMap, IsOrdered, Updates}
use Rattle.std.specs.FinMap as table
use Rattle.std.specs.List.Sorted.{IsStrictlySortedBy}
use Rattle.std.specs.Map.{keys_of}
use Rattle.std.specs.Option.{unwrap_or}
use Rattle.std.proofs.lemmas.Result.{on_ok_weaker, on_err_weaker, IfOk-weaker}
use Rattle.std.proofs.lemmas.Option.{same_Some}
use Rattle.rows.specs.declared.keys.OrderKey.{OrderKey}
use Rattle.rows.specs.declared.records.OrderLine.{OrderLine}
use Rattle.rows.specs.Keys.{order_cmp, order_of_line}
use Rattle.schema.specs.PackedLines.{numbered, AreNumbered}
use Rattle.schema.proofs.PackedLines.{own, read_own, line_put, set_in_place, insert_numbered, set_same}
use Rattle.schema.proofs.order_lines.put_in_last.Goals as goal

-- what a key gets is the same of an equal map and an equal key
updated : (old written new : BTreeMap OrderKey (List (ℕ × OrderLine))) (key order : OrderKey) (lines : Option (List (ℕ × OrderLine))) → written ≡ new → key ≡ order
    → Updates order_cmp old written key lines → Updates order_cmp old new order lines
updated old written new key order lines is same updates = subst (λ m. Updates order_cmp old m order lines) is (subst (λ k. Updates order_cmp old written k lines) same updates)

pub returns-in-Some-clause-was : goal.returns-in-Some-clause-was
returns-in-Some-clause-was c =
    let last = c.in-Some.ensures in
    let old = c.args.orders.now in
    let order = same_Some _ _ (sym last.key ∙ c.requires.last) in
    let ordered : IsOrdered order_cmp old = subst (IsStrictlySortedBy order_cmp) (last.keys_stay c.put.new.self) (last.update.2 c.put.new.self) in
    let is_own : own old.entries (order_of_line c.args.key) ≡ c.into_mut.result.now =
    ap (λ k. own old.entries k) (sym order) ∙ ap (λ (r : Option (List (ℕ × OrderLine))). unwrap_or r []) (sym last.value.1 ∙ c.into_mut.ensures.value) in
    IfOk-weaker c.put.result _ _ (λ was h. h ∙ sym (read_own old.entries ordered c.args.key ∙ ap (λ ls. table.get (numbered ls) c.args.key.number) is_own)) c.put.ensures.was

pub returns-in-Some-clause-ok : goal.returns-in-Some-clause-ok
returns-in-Some-clause-ok c =
    let last = c.in-Some.ensures in
    let old = c.args.orders.now in
    let w = c.put.new.self in
    let number = c.args.key.number in
    let is = c.orders-in-Some-1.given.1 (sym last.same_map) in
    let order = same_Some _ _ (sym last.key ∙ c.requires.last) in
    let ordered : IsOrdered order_cmp old = subst (IsStrictlySortedBy order_cmp) (last.keys_stay w) (last.update.2 w) in
    let is_own : own old.entries (order_of_line c.args.key) ≡ c.into_mut.result.now =
    ap (λ k. own old.entries k) (sym order) ∙ ap (λ (r : Option (List (ℕ × OrderLine))). unwrap_or r []) (sym last.value.1 ∙ c.into_mut.ensures.value) in
    let updates = updated old _ _ _ (order_of_line c.args.key) (Some w) (sym is) order (last.update.0 w) in
    on_ok_weaker c.put.result (λ h.
    line_put old c.orders-in-Some-1.given.0 (order_of_line c.args.key) w ordered (subst (IsOrdered order_cmp) (sym is) (last.update.2 w)) updates number (Some c.args.row)
    (h ∙ ap (λ ls. table.insert (numbered ls) number c.args.row) (sym is_own))) c.put.ensures.ok

pub returns-in-Some-clause-err : goal.returns-in-Some-clause-err
returns-in-Some-clause-err c =
    let last = c.in-Some.ensures in
    let old = c.args.orders.now in
    let w = c.put.new.self in
    let is = c.orders-in-Some-1.given.1 (sym last.same_map) in
    let was = sym c.into_mut.ensures.value ∙ last.value.1 in
    let in_place = set_in_place _ w old.entries (ap keys_of (sym (last.update.1 w)) ∙ last.keys_stay w) in
    on_err_weaker c.put.result (λ h.
    ap (λ (m : BTreeMap OrderKey (List (ℕ × OrderLine))). m.entries) is ∙ last.update.1 w ∙ in_place ∙ set_same _ w old.entries (ap Some h ∙ was)) c.put.ensures.err

pub returns-in-Some-clause-numbered : goal.returns-in-Some-clause-numbered
returns-in-Some-clause-numbered c =
    let last = c.in-Some.ensures in
    let old = c.args.orders.now in
    let w = c.put.new.self in
    let is = c.orders-in-Some-1.given.1 (sym last.same_map) in
    subst AreNumbered (sym (ap (λ (m : BTreeMap OrderKey (List (ℕ × OrderLine))). m.entries) is ∙ last.update.1 w)) (insert_numbered _ w old.entries c.put.ensures.ordered c.requires.numbered)

pub returns-in-Some-clause-ordered : goal.returns-in-Some-clause-ordered
returns-in-Some-clause-ordered c =
    subst (IsOrdered order_cmp) (sym (c.orders-in-Some-1.given.1 (sym c.in-Some.ensures.same_map))) (c.in-Some.ensures.update.2 c.put.new.self)
