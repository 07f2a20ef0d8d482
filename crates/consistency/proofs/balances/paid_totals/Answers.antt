use Rattle.std.proofs.Common.{◌≡◌, ◌+◌, ◌*◌, ◌≤◌, ◌^◌, ◌++◌, List, length, take, drop, replicate, sym, ap, subst, ◌∙◌, arith}
use Rattle.std.proofs.lemmas.Int.{ints}
use Rattle.std.specs.Prelude.{ℤ, pos, ◌+ℤ◌, ◌-ℤ◌}
use Rattle.rows.specs.declared.keys.CustomerKey.{CustomerKey}
use Rattle.rows.specs.declared.limits.TheConstants.{MOST_WAREHOUSES}
use Rattle.schema.specs.declared.scale.Scale.{Scale}
use Rattle.schema.specs.Database.{Database}
use Rattle.schema.specs.Rows.{database}
use Rattle.schema.specs.Consistency.{paid}
use Rattle.consistency.specs.Totals.{sum_of}
use Rattle.consistency.specs.Balances.{AreTotals, AreWithin, HasRoom}
use Rattle.consistency.proofs.BalancesTotals.{totals-same, within-more, room-from_totals, written}
use Rattle.consistency.proofs.BalancesPayments.{paid_in}
use Rattle.consistency.proofs.BalancesRows.{totals_none, within_none, paid_is, list_more, list_all}
use Rattle.consistency.proofs.balances.paid_totals.Goals as goal

pub loop-list-init : goal.loop-list-init
loop-list-init c =
    let t = c.args.tables.now in
    let rows = c.rows-rows.result.now in
    let lists = c.deref-list-items.result.now in
    let long : c.len.result ≡ length rows.customers.items = omega arith in
    let nothing : replicate (length rows.customers.items) (pos 0) ≡ c.in_ok-totals.totals.items = sym (c.in_ok-totals.ensures ∙ ap (λ n. replicate n (pos 0)) long) in
    let start = λ (key : CustomerKey). sum_of (paid_in key) lists -ℤ sum_of (paid_in key) lists in
    record {
      totals = subst (λ (scale : Scale). AreTotals scale start c.in_ok-totals.totals.items) (sym c.scale-scale.ensures.value)
          (subst (λ (totals : List ℤ). AreTotals t.scale start totals) nothing (totals_none t.scale rows c.rows-rows.ensures.fits start (λ key. omega (arith, ints))));
      within = subst (λ (totals : List ℤ). AreWithin 0 totals) nothing (within_none 0 (length rows.customers.items));
    }

pub credit_payers-requires-clause-room : goal.credit_payers-requires-clause-room
credit_payers-requires-clause-room c =
    subst (λ (totals : List ℤ). HasRoom c.scale-scale.result totals) (sym c.deref_mut.ensures.value)
    (room-from_totals c.scale-scale.result _ c.loop-list.totals.items c.loop-list.invariant.totals)

pub credit_payers-requires-clause-within : goal.credit_payers-requires-clause-within
credit_payers-requires-clause-within c =
    let fits = c.rows-rows.ensures.fits in
    let limits = c.args.tables.now.scale.limits in
    let few : c.loop-list.list-index ≤ 10 * MOST_WAREHOUSES = omega (arith, fits.counts.histories, limits.most_warehouses, ap length c.deref-list-items.ensures.value) in
    subst (λ (totals : List ℤ). AreWithin (2 ^ 126) totals) (sym c.deref_mut.ensures.value)
    (within-more (2 ^ 114 * c.loop-list.list-index) (2 ^ 126) c.loop-list.totals.items (omega arith) c.loop-list.invariant.within)

pub loop-list-preserved : goal.loop-list-preserved
loop-list-preserved c =
    let scale = c.scale-scale.result in
    let lists = c.deref-list-items.result.now in
    let n = c.loop-list.list-index in
    let old = c.loop-list.totals.items in
    let new = c.credit_payers.new.totals in
    let same_length : length new ≡ c.loop-list.totals.len = omega (arith, c.credit_payers.auto.totals, ap length c.deref_mut.ensures.value, c.deref_mut.ensures.len) in
    let back : take c.loop-list.totals.len (new ++ drop (length new) old) ≡ new = written new old c.loop-list.totals.len same_length in
    let before = λ (key : CustomerKey). sum_of (paid_in key) lists -ℤ sum_of (paid_in key) (drop n lists) in
    let after = λ (key : CustomerKey). sum_of (paid_in key) lists -ℤ sum_of (paid_in key) (drop (n + 1) lists) in
    let held : AreTotals scale before c.deref_mut.result.now = subst (λ (totals : List ℤ). AreTotals scale before totals) (sym c.deref_mut.ensures.value) c.loop-list.invariant.totals in
    let bounded : AreWithin (2 ^ 114 * n) c.deref_mut.result.now = subst (λ (totals : List ℤ). AreWithin (2 ^ 114 * n) totals) (sym c.deref_mut.ensures.value) c.loop-list.invariant.within in
    record {
      totals = subst (λ (totals : List ℤ). AreTotals scale after totals) (sym back)
          (totals-same scale (λ key. before key +ℤ paid_in key c.rows.result.now) after new
          (λ key. ap (λ list. before key +ℤ paid_in key list) c.rows.ensures ∙ list_more key lists n c.list-item.result (sum_of (paid_in key) lists) (omega arith) c.list-item.is)
          (c.credit_payers.ensures.added before held));
      within = subst (λ (totals : List ℤ). AreWithin (2 ^ 114 * (n + 1)) totals) (sym back)
          (within-more (2 ^ 114 * n + 2 ^ 114) (2 ^ 114 * (n + 1)) new (omega arith) (c.credit_payers.ensures.within (2 ^ 114 * n) bounded));
    }

pub returns-clause-totals : goal.returns-clause-totals
returns-clause-totals c =
    let t = c.args.tables.now in
    let rows = c.rows-rows.result.now in
    let lists = c.deref-list-items.result.now in
    let items = c.loop-list.totals.items in
    let all : AreTotals c.scale-scale.result (paid (database t.scale rows)) items =
    totals-same c.scale-scale.result _ (paid (database t.scale rows)) items
    (λ key. list_all key lists c.loop-list.list-index (sum_of (paid_in key) lists) (omega arith)
    ∙ ap (sum_of (paid_in key)) c.deref-list-items.ensures.value ∙ paid_is t.scale rows c.rows-rows.ensures.fits key)
    c.loop-list.invariant.totals in
    subst (λ (d : Database). AreTotals t.scale (paid d) items) c.rows-rows.ensures.same
    (subst (λ (scale : Scale). AreTotals scale (paid (database t.scale rows)) items) c.scale-scale.ensures.value all)

pub returns-clause-within : goal.returns-clause-within
returns-clause-within c =
    let fits = c.rows-rows.ensures.fits in
    let limits = c.args.tables.now.scale.limits in
    let few : c.loop-list.list-index ≤ 10 * MOST_WAREHOUSES = omega (arith, fits.counts.histories, limits.most_warehouses, ap length c.deref-list-items.ensures.value) in
    within-more (2 ^ 114 * c.loop-list.list-index) (2 ^ 126) c.loop-list.totals.items (omega arith) c.loop-list.invariant.within
