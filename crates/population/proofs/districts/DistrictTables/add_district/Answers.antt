use Rattle.std.proofs.Common.{◌+◌, ◌-◌, ◌*◌, ◌++◌, length, ap, subst, ◌∙◌}
use Rattle.std.proofs.lemmas.List.Elements.{All-same}
use Rattle.rows.specs.declared.keys.DistrictKey.{DistrictKey}
use Rattle.rows.specs.Ranged.{is_between}
use Rattle.std.specs.Prelude.{IsTrue}
use Rattle.population.specs.Book.{AreOfEarlierDistricts, owned_by, all_owned}
use Rattle.population.proofs.Owned.{owners_known, owners_count, home_at, next_place, earlier_districts}
use Rattle.population.proofs.Fillings.{filled_more}
use Rattle.population.proofs.districts.DistrictTables.add_district.Goals as goal

pub add_orders-requires-clause-count : goal.add_orders-requires-clause-count
add_orders-requires-clause-count c = ap length c.deref.ensures.value ∙ owners_count c.args.scale.customers c.in_ok-owners.owners.items c.in_ok-owners.ensures

pub add_orders-requires-clause-owners : goal.add_orders-requires-clause-owners
add_orders-requires-clause-owners c =
    All-same (λ owner. IsTrue (is_between 1 c.args.scale.customers owner)) _ _ c.deref.ensures.value (owners_known c.args.scale.customers c.in_ok-owners.owners.items c.in_ok-owners.ensures)

pub add_orders-requires-clause-earlier : goal.add_orders-requires-clause-earlier
add_orders-requires-clause-earlier c =
    let home = c.args.home in
    let filled = c.requires.filled in
    subst (λ (h : DistrictKey). AreOfEarlierDistricts h c.args.self.now.book.orders.entries) (home_at home c.args.scale.warehouses c.requires.home)
    (earlier_districts c.args.self.now.book.orders.entries filled.owners ((home.w_id - 1) * 10 + (home.d_id - 1)) filled.owned filled.owners_count)

pub returns : goal.returns
returns c =
    let home = c.args.home in
    let old = c.args.self.now in
    let owners = c.in_ok-owners.owners.items in
    filled_more c.args.scale c.args.now ((home.w_id - 1) * 10 + (home.d_id - 1)) home (home_at home c.args.scale.warehouses c.requires.home)
    old.districts.items old.customers.items old.histories.items old.book.orders old.book.new_orders old.book.lines c.requires.filled
    _ _ _ _ _ _
    c.district.result c.in_ok-push.ensures.items c.district.ensures
    c.in_ok-payments.ensures.rows
    c.in_ok-payments.payments c.in_ok-push-2.ensures.items c.in_ok-payments.ensures.payments
    owners c.in_ok-owners.ensures (c.in_ok-add_orders.ensures.owned ∙ ap (λ l. all_owned old.book ++ owned_by home 1 l) c.deref.ensures.value)
    c.in_ok-add_orders.ensures.book _ (next_place home c.args.scale.warehouses c.requires.home)
