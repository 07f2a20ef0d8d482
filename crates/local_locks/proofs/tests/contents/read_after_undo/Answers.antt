use Rattle.std.proofs.Common.{◌≡◌, ◌∷◌, [], List, None, length, set, refl, sym, ap, subst, ◌∙◌, arith}
use Rattle.std.specs.Prelude.{All}
use Rattle.std.proofs.lemmas.List.Elements.{All-cons, All-nil}
use Rattle.requests.specs.declared.group.Group.{Group}
use Rattle.requests.specs.declared.group.Group.TheVariants.{History}
use Rattle.groups.specs.Content.{Content, OfHistory}
use Rattle.groups.specs.Groups.{warehouse_of}
use Rattle.groups.specs.declared.wants.Want.{Want}
use Rattle.groups.specs.declared.group_wants.Mode.TheVariants.{Exclusive, Shared}
use Rattle.tickets.specs.Claims.{ClaimView, fresh, leaving}
use Rattle.tickets.specs.Places.{IsGroupOf}
use Rattle.wait_die.specs.declared.deciding.Holder.{Holder}
use Rattle.local_locks.specs.declared.table.Asked.{Asked}
use Rattle.local_locks.specs.Asking.{Answers, IsOfHome, all_kept_after, leaving_in}
use Rattle.local_locks.specs.LockTableView.{LockTableView, Stand, left_in}
use Rattle.local_locks.specs.Trials.{Records}
use Rattle.local_locks.proofs.Contents.{left_back, on_one, one_granted, only_left, only_one, only_set, only_undone}
use Rattle.local_locks.proofs.tests.contents.read_after_undo.Goals as goal

abbrev payments : Group
payments = History 1 10

abbrev gone : Content
gone = OfHistory None

abbrev writer : Holder
writer = record { age = 1; place = 0 }

abbrev reader : Holder
reader = record { age = 0; place = 0 }

here : IsGroupOf 1 payments
here = ((omega arith, omega arith), (omega arith, omega arith))

pub give_back-requires-clause-home : goal.give_back-requires-clause-home
give_back-requires-clause-home g c =
    let said = subst (λ (r : Asked g.row.J.Denot). Answers writer (c.one-want.result ∷ []) c.args.table.now r c.ask.new.self) c.in-Granted.is c.in_ok-claims.ensures.answers in
    let is : c.one-want.result ∷ [] ≡ on_one payments Exclusive ∷ [] = ap (λ (w : Want). w ∷ []) c.one-want.ensures in
    let x : ClaimView = fresh writer payments Exclusive (left_in c.args.table.now.stands payments) in
    let granted : c.in-Granted.claims.items ≡ x ∷ [] = one_granted writer (c.one-want.result ∷ []) payments Exclusive c.args.table.now c.ask.new.self c.in-Granted.claims.items is said.0 in
    let undone = only_undone c.in-Granted.claims.items x c.index_mut.result.now c.leave.new.claim c.index_mut-2.result.now c.undo.new.claim gone granted c.index_mut.ensures.value c.leave.ensures.claim c.index_mut-2.ensures.value c.undo.ensures.claim in
    let table = c.undo.new.self in
    let home : table.w_id ≡ 1 = ap (λ (t : LockTableView). t.w_id) c.undo.ensures.table ∙ ap (λ (t : LockTableView). t.w_id) c.leave.ensures.table ∙ said.0.w_id ∙ c.requires.here in
    subst (All (IsOfHome table.w_id)) (sym undone) (All-cons (IsOfHome table.w_id) (leaving x x.back) [] (sym home) (All-nil (IsOfHome table.w_id)))

pub index_mut-requires-3 : goal.index_mut-requires-3
index_mut-requires-3 g c =
    let said = subst (λ (r : Asked g.row.J.Denot). Answers reader (c.one-want-2.result ∷ []) c.give_back.new.self r c.ask-2.new.self) c.in-Granted-2.is c.in_ok-read.ensures.answers in
    let is : c.one-want-2.result ∷ [] ≡ on_one payments Shared ∷ [] = ap (λ (w : Want). w ∷ []) c.one-want-2.ensures in
    let granted = one_granted reader (c.one-want-2.result ∷ []) payments Shared c.give_back.new.self c.ask-2.new.self c.in-Granted-2.read.items is said.0 in
    let long : length c.in-Granted-2.read.items ≡ 1 = ap (λ (cs : List ClaimView). length cs) granted in
    let count = c.in-Granted-2.read.ok.0 in omega (arith, count, long)

pub look-requires-clause-here : goal.look-requires-clause-here
look-requires-clause-here g c =
    let first = subst (λ (r : Asked g.row.J.Denot). Answers writer (c.one-want.result ∷ []) c.args.table.now r c.ask.new.self) c.in-Granted.is c.in_ok-claims.ensures.answers in
    let said = subst (λ (r : Asked g.row.J.Denot). Answers reader (c.one-want-2.result ∷ []) c.give_back.new.self r c.ask-2.new.self) c.in-Granted-2.is c.in_ok-read.ensures.answers in
    let is : c.one-want-2.result ∷ [] ≡ on_one payments Shared ∷ [] = ap (λ (w : Want). w ∷ []) c.one-want-2.ensures in
    let x : ClaimView = fresh reader payments Shared (left_in c.give_back.new.self.stands payments) in
    let granted : c.in-Granted-2.read.items ≡ x ∷ [] = one_granted reader (c.one-want-2.result ∷ []) payments Shared c.give_back.new.self c.ask-2.new.self c.in-Granted-2.read.items is said.0 in
    let one : c.index_mut-3.result.now ≡ x = only_one c.in-Granted-2.read.items x c.index_mut-3.result.now granted c.index_mut-3.ensures.value in
    let home : c.ask-2.new.self.w_id ≡ 1 =
    said.0.w_id ∙ c.give_back.ensures.warehouse ∙ ap (λ (t : LockTableView). t.w_id) c.undo.ensures.table ∙ ap (λ (t : LockTableView). t.w_id) c.leave.ensures.table ∙ first.0.w_id ∙ c.requires.here in
    ap (λ (k : ClaimView). warehouse_of k.group) one ∙ sym home

pub look-requires-clause-shared : goal.look-requires-clause-shared
look-requires-clause-shared g c =
    let said = subst (λ (r : Asked g.row.J.Denot). Answers reader (c.one-want-2.result ∷ []) c.give_back.new.self r c.ask-2.new.self) c.in-Granted-2.is c.in_ok-read.ensures.answers in
    let is : c.one-want-2.result ∷ [] ≡ on_one payments Shared ∷ [] = ap (λ (w : Want). w ∷ []) c.one-want-2.ensures in
    let x : ClaimView = fresh reader payments Shared (left_in c.give_back.new.self.stands payments) in
    let granted : c.in-Granted-2.read.items ≡ x ∷ [] = one_granted reader (c.one-want-2.result ∷ []) payments Shared c.give_back.new.self c.ask-2.new.self c.in-Granted-2.read.items is said.0 in
    ap (λ (k : ClaimView). k.mode) (only_one c.in-Granted-2.read.items x c.index_mut-3.result.now granted c.index_mut-3.ensures.value)

pub returns : goal.returns
returns g c =
    let first = subst (λ (r : Asked g.row.J.Denot). Answers writer (c.one-want.result ∷ []) c.args.table.now r c.ask.new.self) c.in-Granted.is c.in_ok-claims.ensures.answers in
    let is_first : c.one-want.result ∷ [] ≡ on_one payments Exclusive ∷ [] = ap (λ (w : Want). w ∷ []) c.one-want.ensures in
    let before = left_in c.args.table.now.stands payments in
    let x : ClaimView = fresh writer payments Exclusive before in
    let granted : c.in-Granted.claims.items ≡ x ∷ [] = one_granted writer (c.one-want.result ∷ []) payments Exclusive c.args.table.now c.ask.new.self c.in-Granted.claims.items is_first first.0 in
    let left = only_left c.in-Granted.claims.items x c.index_mut.result.now c.leave.new.claim gone granted c.index_mut.ensures.value c.leave.ensures.claim in
    let two : c.index_mut-2.result.now ≡ leaving x gone = only_one (set c.in-Granted.claims.items 0 c.leave.new.claim) (leaving x gone) c.index_mut-2.result.now left c.index_mut-2.ensures.value in
    let undone : c.undo.new.self ≡ leaving_in c.leave.new.self payments before = c.undo.ensures.table ∙ ap (λ (k : ClaimView). leaving_in c.leave.new.self k.group k.back) two in
    let said = subst (λ (r : Asked g.row.J.Denot). Answers reader (c.one-want-2.result ∷ []) c.give_back.new.self r c.ask-2.new.self) c.in-Granted-2.is c.in_ok-read.ensures.answers in
    let is : c.one-want-2.result ∷ [] ≡ on_one payments Shared ∷ [] = ap (λ (w : Want). w ∷ []) c.one-want-2.ensures in
    let y : ClaimView = fresh reader payments Shared (left_in c.give_back.new.self.stands payments) in
    let recorded : c.in-Granted-2.read.items ≡ y ∷ [] = one_granted reader (c.one-want-2.result ∷ []) payments Shared c.give_back.new.self c.ask-2.new.self c.in-Granted-2.read.items is said.0 in
    let one : c.index_mut-3.result.now ≡ y = only_one c.in-Granted-2.read.items y c.index_mut-3.result.now recorded c.index_mut-3.ensures.value in
    let home : c.leave.new.self.w_id ≡ 1 = ap (λ (t : LockTableView). t.w_id) c.leave.ensures.table ∙ first.0.w_id ∙ c.requires.here in
    let known : IsGroupOf g.J.GroupNames.warehouses payments = subst (λ w. IsGroupOf w payments) (sym c.requires.known) here in
    let stands = said.0.stands ∙ c.give_back.ensures.stands ∙ ap (λ (t : LockTableView). all_kept_after (set (set c.in-Granted.claims.items 0 c.leave.new.claim) 0 c.undo.new.claim) t.stands) undone in
    let records : c.look.new.claim.recorded ≡ before =
    ap (λ (k : ClaimView). k.recorded) c.look.ensures.same.1 ∙ c.look.ensures.recorded
    ∙ ap (λ (k : ClaimView). left_in c.ask-2.new.self.stands k.group) one
    ∙ ap (λ (ss : List Stand). left_in ss payments) stands
    ∙ left_back g.J.GroupNames.warehouses c.leave.new.self.w_id c.leave.new.self.stands payments before (set (set c.in-Granted.claims.items 0 c.leave.new.claim) 0 c.undo.new.claim) c.agree.ensures.stands known (sym home) in
    subst (All (Records before)) (sym (only_set c.in-Granted-2.read.items y c.look.new.claim recorded)) (All-cons (Records before) c.look.new.claim [] records (All-nil (Records before)))
