use Rattle.std.proofs.Common.{◌≡◌, ◌∷◌, [], List, None, length, drop, take, set, ◌++◌, refl, sym, ap, subst, ◌∙◌, arith}
use Rattle.std.specs.Prelude.{All}
use Rattle.std.proofs.lemmas.List.Elements.{All-cons, All-nil}
use Rattle.requests.specs.declared.group.Group.{Group}
use Rattle.requests.specs.declared.group.Group.TheVariants.{History}
use Rattle.groups.specs.Content.{Content, OfHistory}
use Rattle.groups.specs.Groups.{warehouse_of}
use Rattle.groups.specs.declared.wants.Want.{Want}
use Rattle.groups.specs.declared.group_wants.Mode.TheVariants.{Exclusive, Shared}
use Rattle.tickets.specs.Claims.{ClaimView, fresh, leaving, settled}
use Rattle.tickets.specs.Places.{IsGroupOf}
use Rattle.wait_die.specs.declared.deciding.Holder.{Holder}
use Rattle.local_locks.specs.declared.table.Asked.{Asked}
use Rattle.local_locks.specs.declared.table.Turn.{Turn}
use Rattle.local_locks.specs.Asking.{Answers, IsOfHome, IsSettled, TakesTurn, all_kept_after, leaving_in, waiting}
use Rattle.local_locks.specs.Entries.{entered}
use Rattle.local_locks.specs.LockTableView.{LockTableView, Stand, WaitingAction, left_in}
use Rattle.local_locks.specs.Trials.{Records}
use Rattle.local_locks.proofs.Contents.{left_back, on_one, one_granted, only_one, only_set, only_settled, settled_is, turn_granted}
use Rattle.local_locks.proofs.tests.contents.read_after_write.Goals as goal

abbrev payments : Group
payments = History 1 10

abbrev gone : Content
gone = OfHistory None

abbrev writer : Holder
writer = record { age = 1; place = 0 }

abbrev reader : Holder
reader = record { age = 0; place = 0 }

here : IsGroupOf 1 payments
here = ((omega arith, omega arith), (omega arith, omega arith))

-- only the action that was asked last waits at a table where nobody waited before
waits_alone : (start granted left asked idle back : LockTableView) (group : Group) (content : Content) (by : Holder) (wants : List Want) → start.waiters ≡ [] → granted.waiters ≡ start.waiters → left ≡ leaving_in granted group content
    → asked ≡ record left { waiters = left.waiters ++ waiting by wants ∷ []; entries = entered wants left } → idle ≡ asked → back.waiters ≡ idle.waiters → back.waiters ≡ waiting by wants ∷ []
waits_alone start granted left asked idle back group content by wants none same leave waits still returned =
    let before : left.waiters ≡ [] = ap (λ (t : LockTableView). t.waiters) leave ∙ same ∙ none in
    returned ∙ ap (λ (t : LockTableView). t.waiters) (still ∙ waits) ∙ ap (λ (ws : List WaitingAction). ws ++ waiting by wants ∷ []) before

pub give_back-requires-clause-home : goal.give_back-requires-clause-home
give_back-requires-clause-home g c =
    let first = subst (λ (r : Asked g.row.J.Denot). Answers writer (c.one-want.result ∷ []) c.in_ok-table.table r c.ask.new.self) c.in-Granted.is c.in_ok-claims.ensures.answers in
    let waits = subst (λ (r : Asked g.row.J.Denot). Answers reader (c.one-want-2.result ∷ []) c.leave.new.self r c.ask-2.new.self) c.in-Waits.is c.in_ok-ask.ensures.answers in
    let is_first : c.one-want.result ∷ [] ≡ on_one payments Exclusive ∷ [] = ap (λ (w : Want). w ∷ []) c.one-want.ensures in
    let x : ClaimView = fresh writer payments Exclusive (left_in c.in_ok-table.table.stands payments) in
    let granted : c.in-Granted.claims.items ≡ x ∷ [] = one_granted writer (c.one-want.result ∷ []) payments Exclusive c.in_ok-table.table c.ask.new.self c.in-Granted.claims.items is_first first.0 in
    let settled_only =
    only_settled c.in-Granted.claims.len c.in-Granted.claims.items c.deref_mut.result.now c.settle_all.new.claims x c.index_mut.result.now c.leave.new.claim gone c.in-Granted.claims.ok.0 granted
    c.index_mut.ensures.value c.leave.ensures.claim c.deref_mut.ensures.value c.settle_all.ensures.claims in
    let table = c.next_grant.new.self in
    let home : table.w_id ≡ 1 =
    ap (λ (t : LockTableView). t.w_id) (c.in-None.ensures.same ∙ waits.1) ∙ ap (λ (t : LockTableView). t.w_id) c.leave.ensures.table ∙ first.0.w_id ∙ c.in_ok-table.ensures.here in
    subst (All (IsOfHome table.w_id)) (sym settled_only) (All-cons (IsOfHome table.w_id) (settled (leaving x gone)) [] (sym home) (All-nil (IsOfHome table.w_id)))

pub give_back-requires-clause-committed : goal.give_back-requires-clause-committed
give_back-requires-clause-committed g c =
    let first = subst (λ (r : Asked g.row.J.Denot). Answers writer (c.one-want.result ∷ []) c.in_ok-table.table r c.ask.new.self) c.in-Granted.is c.in_ok-claims.ensures.answers in
    let is_first : c.one-want.result ∷ [] ≡ on_one payments Exclusive ∷ [] = ap (λ (w : Want). w ∷ []) c.one-want.ensures in
    let x : ClaimView = fresh writer payments Exclusive (left_in c.in_ok-table.table.stands payments) in
    let granted : c.in-Granted.claims.items ≡ x ∷ [] = one_granted writer (c.one-want.result ∷ []) payments Exclusive c.in_ok-table.table c.ask.new.self c.in-Granted.claims.items is_first first.0 in
    let settled_only =
    only_settled c.in-Granted.claims.len c.in-Granted.claims.items c.deref_mut.result.now c.settle_all.new.claims x c.index_mut.result.now c.leave.new.claim gone c.in-Granted.claims.ok.0 granted
    c.index_mut.ensures.value c.leave.ensures.claim c.deref_mut.ensures.value c.settle_all.ensures.claims in
    subst (All IsSettled) (sym settled_only) (settled_is (leaving x gone))

pub index_mut-requires-2 : goal.index_mut-requires-2
index_mut-requires-2 g c =
    let first = subst (λ (r : Asked g.row.J.Denot). Answers writer (c.one-want.result ∷ []) c.in_ok-table.table r c.ask.new.self) c.in-Granted.is c.in_ok-claims.ensures.answers in
    let waits = subst (λ (r : Asked g.row.J.Denot). Answers reader (c.one-want-2.result ∷ []) c.leave.new.self r c.ask-2.new.self) c.in-Waits.is c.in_ok-ask.ensures.answers in
    let turn = subst (λ (t : Turn g.row.J.Denot). TakesTurn c.give_back.new.self t c.next_grant-2.new.self) c.in-Some-Granted.field-0-is c.in-Some-Granted.ensures.turn in
    let is : c.one-want-2.result ∷ [] ≡ on_one payments Shared ∷ [] = ap (λ (w : Want). w ∷ []) c.one-want-2.ensures in
    let alone : c.give_back.new.self.waiters ≡ waiting reader (c.one-want-2.result ∷ []) ∷ [] =
    waits_alone c.in_ok-table.table c.ask.new.self c.leave.new.self c.ask-2.new.self c.next_grant.new.self c.give_back.new.self c.index_mut.result.now.group gone reader (c.one-want-2.result ∷ [])
    c.in_ok-table.ensures.idle first.1 c.leave.ensures.table waits.1 c.in-None.ensures.same c.give_back.ensures.waiters in
    let by = c.in-Some-Granted.field-0-1 in
    let grants = turn_granted reader (c.one-want-2.result ∷ []) payments Shared c.in-Some-Granted.field-0-0 by c.give_back.new.self c.next_grant-2.new.self c.in-Some-Granted.read.items alone is (turn.0, turn.1, turn.2) in
    let y : ClaimView = fresh by payments Shared (left_in c.give_back.new.self.stands payments) in
    let recorded : c.in-Some-Granted.read.items ≡ y ∷ [] = one_granted by (on_one payments Shared ∷ []) payments Shared c.give_back.new.self c.next_grant-2.new.self c.in-Some-Granted.read.items refl grants in
    let long : length c.in-Some-Granted.read.items ≡ 1 = ap (λ (cs : List ClaimView). length cs) recorded in
    let count = c.in-Some-Granted.read.ok.0 in omega (arith, count, long)

pub look-requires-clause-here : goal.look-requires-clause-here
look-requires-clause-here g c =
    let first = subst (λ (r : Asked g.row.J.Denot). Answers writer (c.one-want.result ∷ []) c.in_ok-table.table r c.ask.new.self) c.in-Granted.is c.in_ok-claims.ensures.answers in
    let waits = subst (λ (r : Asked g.row.J.Denot). Answers reader (c.one-want-2.result ∷ []) c.leave.new.self r c.ask-2.new.self) c.in-Waits.is c.in_ok-ask.ensures.answers in
    let turn = subst (λ (t : Turn g.row.J.Denot). TakesTurn c.give_back.new.self t c.next_grant-2.new.self) c.in-Some-Granted.field-0-is c.in-Some-Granted.ensures.turn in
    let is : c.one-want-2.result ∷ [] ≡ on_one payments Shared ∷ [] = ap (λ (w : Want). w ∷ []) c.one-want-2.ensures in
    let alone : c.give_back.new.self.waiters ≡ waiting reader (c.one-want-2.result ∷ []) ∷ [] =
    waits_alone c.in_ok-table.table c.ask.new.self c.leave.new.self c.ask-2.new.self c.next_grant.new.self c.give_back.new.self c.index_mut.result.now.group gone reader (c.one-want-2.result ∷ [])
    c.in_ok-table.ensures.idle first.1 c.leave.ensures.table waits.1 c.in-None.ensures.same c.give_back.ensures.waiters in
    let by = c.in-Some-Granted.field-0-1 in
    let grants = turn_granted reader (c.one-want-2.result ∷ []) payments Shared c.in-Some-Granted.field-0-0 by c.give_back.new.self c.next_grant-2.new.self c.in-Some-Granted.read.items alone is (turn.0, turn.1, turn.2) in
    let y : ClaimView = fresh by payments Shared (left_in c.give_back.new.self.stands payments) in
    let recorded : c.in-Some-Granted.read.items ≡ y ∷ [] = one_granted by (on_one payments Shared ∷ []) payments Shared c.give_back.new.self c.next_grant-2.new.self c.in-Some-Granted.read.items refl grants in
    let one : c.index_mut-2.result.now ≡ y = only_one c.in-Some-Granted.read.items y c.index_mut-2.result.now recorded c.index_mut-2.ensures.value in
    let home : c.next_grant-2.new.self.w_id ≡ 1 =
    grants.w_id ∙ c.give_back.ensures.warehouse ∙ ap (λ (t : LockTableView). t.w_id) (c.in-None.ensures.same ∙ waits.1) ∙ ap (λ (t : LockTableView). t.w_id) c.leave.ensures.table ∙ first.0.w_id ∙ c.in_ok-table.ensures.here in
    ap (λ (k : ClaimView). warehouse_of k.group) one ∙ sym home

pub look-requires-clause-shared : goal.look-requires-clause-shared
look-requires-clause-shared g c =
    let first = subst (λ (r : Asked g.row.J.Denot). Answers writer (c.one-want.result ∷ []) c.in_ok-table.table r c.ask.new.self) c.in-Granted.is c.in_ok-claims.ensures.answers in
    let waits = subst (λ (r : Asked g.row.J.Denot). Answers reader (c.one-want-2.result ∷ []) c.leave.new.self r c.ask-2.new.self) c.in-Waits.is c.in_ok-ask.ensures.answers in
    let turn = subst (λ (t : Turn g.row.J.Denot). TakesTurn c.give_back.new.self t c.next_grant-2.new.self) c.in-Some-Granted.field-0-is c.in-Some-Granted.ensures.turn in
    let is : c.one-want-2.result ∷ [] ≡ on_one payments Shared ∷ [] = ap (λ (w : Want). w ∷ []) c.one-want-2.ensures in
    let alone : c.give_back.new.self.waiters ≡ waiting reader (c.one-want-2.result ∷ []) ∷ [] =
    waits_alone c.in_ok-table.table c.ask.new.self c.leave.new.self c.ask-2.new.self c.next_grant.new.self c.give_back.new.self c.index_mut.result.now.group gone reader (c.one-want-2.result ∷ [])
    c.in_ok-table.ensures.idle first.1 c.leave.ensures.table waits.1 c.in-None.ensures.same c.give_back.ensures.waiters in
    let by = c.in-Some-Granted.field-0-1 in
    let grants = turn_granted reader (c.one-want-2.result ∷ []) payments Shared c.in-Some-Granted.field-0-0 by c.give_back.new.self c.next_grant-2.new.self c.in-Some-Granted.read.items alone is (turn.0, turn.1, turn.2) in
    let y : ClaimView = fresh by payments Shared (left_in c.give_back.new.self.stands payments) in
    let recorded : c.in-Some-Granted.read.items ≡ y ∷ [] = one_granted by (on_one payments Shared ∷ []) payments Shared c.give_back.new.self c.next_grant-2.new.self c.in-Some-Granted.read.items refl grants in
    ap (λ (k : ClaimView). k.mode) (only_one c.in-Some-Granted.read.items y c.index_mut-2.result.now recorded c.index_mut-2.ensures.value)

pub returns : goal.returns
returns g c =
    let first = subst (λ (r : Asked g.row.J.Denot). Answers writer (c.one-want.result ∷ []) c.in_ok-table.table r c.ask.new.self) c.in-Granted.is c.in_ok-claims.ensures.answers in
    let waits = subst (λ (r : Asked g.row.J.Denot). Answers reader (c.one-want-2.result ∷ []) c.leave.new.self r c.ask-2.new.self) c.in-Waits.is c.in_ok-ask.ensures.answers in
    let is_first : c.one-want.result ∷ [] ≡ on_one payments Exclusive ∷ [] = ap (λ (w : Want). w ∷ []) c.one-want.ensures in
    let x : ClaimView = fresh writer payments Exclusive (left_in c.in_ok-table.table.stands payments) in
    let granted : c.in-Granted.claims.items ≡ x ∷ [] = one_granted writer (c.one-want.result ∷ []) payments Exclusive c.in_ok-table.table c.ask.new.self c.in-Granted.claims.items is_first first.0 in
    let turn = subst (λ (t : Turn g.row.J.Denot). TakesTurn c.give_back.new.self t c.next_grant-2.new.self) c.in-Some-Granted.field-0-is c.in-Some-Granted.ensures.turn in
    let is : c.one-want-2.result ∷ [] ≡ on_one payments Shared ∷ [] = ap (λ (w : Want). w ∷ []) c.one-want-2.ensures in
    let alone : c.give_back.new.self.waiters ≡ waiting reader (c.one-want-2.result ∷ []) ∷ [] =
    waits_alone c.in_ok-table.table c.ask.new.self c.leave.new.self c.ask-2.new.self c.next_grant.new.self c.give_back.new.self c.index_mut.result.now.group gone reader (c.one-want-2.result ∷ [])
    c.in_ok-table.ensures.idle first.1 c.leave.ensures.table waits.1 c.in-None.ensures.same c.give_back.ensures.waiters in
    let by = c.in-Some-Granted.field-0-1 in
    let grants = turn_granted reader (c.one-want-2.result ∷ []) payments Shared c.in-Some-Granted.field-0-0 by c.give_back.new.self c.next_grant-2.new.self c.in-Some-Granted.read.items alone is (turn.0, turn.1, turn.2) in
    let y : ClaimView = fresh by payments Shared (left_in c.give_back.new.self.stands payments) in
    let recorded : c.in-Some-Granted.read.items ≡ y ∷ [] = one_granted by (on_one payments Shared ∷ []) payments Shared c.give_back.new.self c.next_grant-2.new.self c.in-Some-Granted.read.items refl grants in
    let one : c.index_mut-2.result.now ≡ y = only_one c.in-Some-Granted.read.items y c.index_mut-2.result.now recorded c.index_mut-2.ensures.value in
    let wrote : c.index_mut.result.now ≡ x = only_one c.in-Granted.claims.items x c.index_mut.result.now granted c.index_mut.ensures.value in
    let left : c.leave.new.self ≡ leaving_in c.ask.new.self payments gone = c.leave.ensures.table ∙ ap (λ (k : ClaimView). leaving_in c.ask.new.self k.group gone) wrote in
    let home : c.ask.new.self.w_id ≡ 1 = first.0.w_id ∙ c.in_ok-table.ensures.here in
    let known : IsGroupOf g.J.GroupNames.warehouses payments = subst (λ w. IsGroupOf w payments) (sym c.requires.known) here in
    let stood = ap (λ (t : LockTableView). t.stands) (c.in-None.ensures.same ∙ waits.1) ∙ ap (λ (t : LockTableView). t.stands) left in
    let stands = grants.stands ∙ c.give_back.ensures.stands ∙ ap (λ (ss : List Stand). all_kept_after (take c.in-Granted.claims.len (c.settle_all.new.claims ++ drop (length c.settle_all.new.claims) (set c.in-Granted.claims.items 0 c.leave.new.claim))) ss) stood in
    let records : c.look.new.claim.recorded ≡ gone =
    ap (λ (k : ClaimView). k.recorded) c.look.ensures.same.1 ∙ c.look.ensures.recorded
    ∙ ap (λ (k : ClaimView). left_in c.next_grant-2.new.self.stands k.group) one
    ∙ ap (λ (ss : List Stand). left_in ss payments) stands
    ∙ left_back g.J.GroupNames.warehouses c.ask.new.self.w_id c.ask.new.self.stands payments gone (take c.in-Granted.claims.len (c.settle_all.new.claims ++ drop (length c.settle_all.new.claims) (set c.in-Granted.claims.items 0 c.leave.new.claim))) c.agree.ensures.stands known (sym home) in
    subst (All (Records gone)) (sym (only_set c.in-Some-Granted.read.items y c.look.new.claim recorded)) (All-cons (Records gone) c.look.new.claim [] records (All-nil (Records gone)))
