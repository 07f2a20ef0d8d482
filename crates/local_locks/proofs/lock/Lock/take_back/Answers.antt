use Rattle.std.proofs.Common.{◌≡◌, ◌<◌, ◌≤◌, ◌∷◌, ℕ, List, Option, Some, None, IfNone, IfSome, length, get_or, refl, sym, ap, subst, ◌∙◌, arith}
use Rattle.std.specs.Prelude.{Contains, unwrap_or}
use Rattle.std.specs.List.{remove}
use Rattle.std.specs.List.Sorted.{IsPermutation}
use Rattle.std.proofs.lemmas.List.Sorted.{IsPermutation-remove}
use Rattle.wait_die.specs.declared.deciding.Holder.{Holder}
use Rattle.groups.specs.declared.group_wants.Mode.{Mode}
use Rattle.groups.specs.declared.group_wants.Mode.TheVariants.{Shared, Exclusive}
use Rattle.tickets.specs.Boxes.{TicketBoxView}
use Rattle.tickets.proofs.Apart.{by_mode}
use Rattle.local_locks.specs.Locks.{Agree, IsLocked, LockView, lock_view}
use Rattle.local_locks.proofs.lock.Lock.take_back.Goals as goal

-- the place that was found, or the first, is there
there : (holders : List Holder) (found : Option ℕ) (index : ℕ) → index ≡ unwrap_or found 0 → IfSome found (λ k. k < length holders) → 0 < length holders → index < length holders
there holders (Some k) index is inside some = omega (arith, is, inside)
there holders None index is inside some = omega (arith, is, some)

-- and if this one is one of the holders, it is at the place
stands : (holders : List Holder) (by : Holder) (found : Option ℕ) (index : ℕ) → index ≡ unwrap_or found 0 → IfSome found (λ k. get_or holders k by ≡ by) → IfNone found (Contains holders by → ⊥) → Contains holders by → get_or holders index by ≡ by
stands holders by (Some k) index is at none here = ap (λ (n : ℕ). get_or holders n by) is ∙ at
stands holders by None index is at none here = absurd (none here)

-- one of a list is taken out
taken_out : (whole inside shown left : List Holder) (index : ℕ) (by : Holder) → whole ≡ inside → shown ≡ inside → index < length shown → get_or shown index by ≡ by → left ≡ remove inside index → IsPermutation whole (by ∷ left)
taken_out whole inside shown left index by same showing small is taken =
    let P : List Holder → Type 0 = λ hs. IsPermutation whole (by ∷ hs) in
    let Q : List Holder → Type 0 = λ hs. IsPermutation hs (by ∷ remove inside index) in
    let here : index < length inside = subst (λ (hs : List Holder). index < length hs) showing small in
    let at : by ≡ get_or inside index by = sym is ∙ ap (λ (hs : List Holder). get_or hs index by) showing in
    subst P (sym taken) (subst Q (sym same) (IsPermutation-remove inside index by here at))

-- while a claim is out somebody holds it
some_hold : (lock : LockView) (mode : Mode) → IsLocked lock → mode ≡ lock.ticket_box.mode → (mode ≡ Shared → (0 < lock.ticket_box.shared) × (lock.ticket_box.shared ≤ 8)) → 0 < length lock.holders
some_hold lock mode agree same some =
    by_mode lock.ticket_box.mode refl
    (λ exclusive.
    let one : Agree Exclusive lock.ticket_box lock.holders = subst (λ m. Agree m lock.ticket_box lock.holders) exclusive agree in
    omega (arith, one.1))
    (λ shared.
    let many : Agree Shared lock.ticket_box lock.holders = subst (λ m. Agree m lock.ticket_box lock.holders) shared agree in
    let out = some (same ∙ shared) in
    omega (arith, out.0, ap (λ (b : TicketBoxView). b.shared) many.0))

pub remove-requires : goal.remove-requires
remove-requires g c =
    let holders = c.self.inside.holders.items in
    let shown = c.as_slice.ensures.value in
    let held = some_hold (lock_view c.self.inside.ticket_box holders) c.args.claim.mode c.self.invariant c.take_back.ensures.mode c.take_back.ensures.some in
    let inside = subst (λ (hs : List Holder). IfSome c.index_of.result (λ k. k < length hs)) shown c.index_of.ensures.inside in
    (omega arith, there holders c.index_of.result c.unwrap_or-index.result c.unwrap_or-index.ensures inside held)

pub returns-clause-fewer : goal.returns-clause-fewer
returns-clause-fewer g c = omega (arith, c.remove.ensures.len, ap (λ (l : LockView). length l.holders) c.self.view_is)

pub returns-clause-holders : goal.returns-clause-holders
returns-clause-holders g c = λ out.
    let holders = c.self.inside.holders.items in
    let by = c.args.claim.by in
    let shown = c.as_slice.ensures.value in
    let is : by ≡ c.by-by.result = sym c.by-by.ensures in
    let same : c.args.self.now.holders ≡ holders = sym (ap (λ (l : LockView). l.holders) c.self.view_is) in
    let held = some_hold (lock_view c.self.inside.ticket_box holders) c.args.claim.mode c.self.invariant c.take_back.ensures.mode c.take_back.ensures.some in
    let P : Holder → Type 0 = λ h. IfSome c.index_of.result (λ k. get_or c.as_slice.result.now k h ≡ h) in
    let Q : Holder → Type 0 = λ h. IfNone c.index_of.result (Contains c.as_slice.result.now h → ⊥) in
    let inside = c.index_of.ensures.inside in
    let small = there c.as_slice.result.now c.index_of.result c.unwrap_or-index.result c.unwrap_or-index.ensures inside (subst (λ (hs : List Holder). 0 < length hs) (sym shown) held) in
    let at = stands c.as_slice.result.now by c.index_of.result c.unwrap_or-index.result c.unwrap_or-index.ensures (subst P (sym is) c.index_of.ensures.is) (subst Q (sym is) c.index_of.ensures.none)
    (subst (λ (hs : List Holder). Contains hs by) (same ∙ sym shown) out) in
    taken_out c.args.self.now.holders holders c.as_slice.result.now c.remove.new.self.items c.unwrap_or-index.result by same shown small at c.remove.ensures.items
