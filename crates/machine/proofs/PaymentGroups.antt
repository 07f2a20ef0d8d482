-- A payment reads and changes what its own groups have, and nothing else.
use Rattle.std.proofs.Common.{◌≡◌, ◌≢◌, [], ◌∷◌, ◌++◌, Option, Some, None, unwrap_or, refl, sym, ap, subst, ◌∙◌}
use Rattle.std.specs.Prelude.{pos}
use Rattle.std.proofs.lemmas.List.Elements.{All-from_recursion, recursion_from_All}
use Rattle.std.specs.FinMap as map
use Rattle.rows.specs.PaymentNote.{payment_note}
use Rattle.rows.specs.declared.keys.DistrictKey.{DistrictKey}
use Rattle.rows.specs.declared.keys.CustomerKey.{CustomerKey}
use Rattle.rows.specs.declared.records.Warehouse.{Warehouse}
use Rattle.rows.specs.declared.records.District.{District}
use Rattle.rows.specs.declared.records.Customer.{Customer}
use Rattle.rows.specs.declared.records.History.{History}
use Rattle.schema.specs.Scale.{customer_key}
use Rattle.schema.specs.Database.{Database, list_at}
use Rattle.requests.specs.declared.group.Group.{Group}
use Rattle.requests.specs.declared.group.Group.TheVariants as g
use Rattle.requests.specs.declared.payment.Payment.{Payment}
use Rattle.groups.specs.Groups.{group_of_warehouse, group_of_district, group_of_customer, group_of_history}
use Rattle.groups.specs.Content.{content, AreAlikeIn}
use Rattle.groups.specs.Content.Content.{OfHistory}
use Rattle.groups.specs.Payment.{payment_footprint}
use Rattle.groups.specs.Footprint.{groups_of}
use Rattle.groups.specs.Laws.{ChangesOneGroup, with_warehouse, with_district, with_customer, with_history, warehouse_in, district_in, history_in}
use Rattle.groups.proofs.RowsInGroups.{each_row_stands_in_one_group, same_row}
use Rattle.groups.proofs.RowsPut.{each_put_changes_one_group}
use Rattle.machine.specs.Outcome.{Outcome}
use Rattle.indexes.specs.Namesakes.{Keyed}
use Rattle.machine.specs.Chosen.{chosen}
use Rattle.machine.specs.Payment.{payment, paid, posted, posting, payment_row, warehouse_paid, district_paid, customer_paid}
use Rattle.machine.specs.PaymentLaws.{PaymentReadsItsGroups, PaymentKeepsOtherGroups}
use Rattle.machine.proofs.ChosenRows.{chosen_there}
use Rattle.machine.proofs.SameChosen.{same_chosen}
use Rattle.machine.proofs.PaymentCases.{payment-cases}

-- a customer of a district is in the group of its customers
in_group : (home : DistrictKey) (key : CustomerKey) → key ≡ customer_key home key.c_id → group_of_customer key ≡ g.Customers home.w_id home.d_id
in_group home key of_home = ap group_of_customer of_home

module _ (p : Payment) where
  abbrev payers : Group
  payers = g.Customers p.customer_home.w_id p.customer_home.d_id

  -- ---- the four rows that are put in, one after the other

  module _ (payer : CustomerKey) (of_home : payer ≡ customer_key p.customer_home payer.c_id) (w : Warehouse) (d : District) (c : Customer) (row : History) (t : Database) where
    abbrev pub left : Database
    left = (posted t (posting p payer row) (Some w) (Some d) (Some c)).tables

    abbrev pub with_w : Database
    with_w = record t { warehouses = map.insert t.warehouses p.home.w_id w }

    abbrev pub with_d : Database
    with_d = record with_w { districts = map.insert t.districts p.home d }

    abbrev pub with_c : Database
    with_c = record with_d { customers = map.insert t.customers payer c }

    pub w_put : ChangesOneGroup (group_of_warehouse p.home.w_id) (with_warehouse w) t with_w
    w_put = (each_put_changes_one_group t).warehouses p.home.w_id w

    pub d_put : ChangesOneGroup (group_of_district p.home) (with_district d) with_w with_d
    d_put = (each_put_changes_one_group with_w).districts p.home d

    pub c_put : ChangesOneGroup payers (with_customer payer c) with_d with_c
    c_put = subst (λ own. ChangesOneGroup own (with_customer payer c) with_d with_c) (in_group p.customer_home payer of_home) ((each_put_changes_one_group with_d).customers payer c)

    pub h_put : ChangesOneGroup (group_of_history p.home) (with_history (list_at t.histories p.home ++ row ∷ [])) with_c left
    h_put = (each_put_changes_one_group with_c).histories p.home (list_at t.histories p.home ++ row ∷ [])

    warehouse_left : content left (group_of_warehouse p.home.w_id) ≡ with_warehouse w (content t (group_of_warehouse p.home.w_id))
    warehouse_left =
        let own = group_of_warehouse p.home.w_id in
        h_put.elsewhere own (λ same. cc) ∙ c_put.elsewhere own (λ same. cc) ∙ d_put.elsewhere own (λ same. cc) ∙ w_put.here

    district_left : content left (group_of_district p.home) ≡ with_district d (content t (group_of_district p.home))
    district_left =
        let own = group_of_district p.home in
        h_put.elsewhere own (λ same. cc) ∙ c_put.elsewhere own (λ same. cc) ∙ d_put.here
        ∙ ap (with_district d) (w_put.elsewhere own (λ same. cc))

    customers_left : content left payers ≡ with_customer payer c (content t payers)
    customers_left =
        let own = payers in
        h_put.elsewhere own (λ same. cc) ∙ c_put.here
        ∙ ap (with_customer payer c) (d_put.elsewhere own (λ same. cc) ∙ w_put.elsewhere own (λ same. cc))

    history_left : content left (group_of_history p.home) ≡ OfHistory (Some (list_at t.histories p.home ++ row ∷ []))
    history_left = h_put.here

    -- no other group is one of theirs
    others_left : (group : Group) → group ≢ group_of_warehouse p.home.w_id → group ≢ group_of_district p.home
        → group ≢ payers → group ≢ group_of_history p.home → content left group ≡ content t group
    others_left group no_w no_d no_c no_h = h_put.elsewhere group no_h ∙ c_put.elsewhere group no_c ∙ d_put.elsewhere group no_d ∙ w_put.elsewhere group no_w

  -- ---- two tables that have the same in the payment's groups

  record AreAlike (s t : Database) : Type 0 where
    warehouse : content s (group_of_warehouse p.home.w_id) ≡ content t (group_of_warehouse p.home.w_id)
    district : content s (group_of_district p.home) ≡ content t (group_of_district p.home)
    customers : content s payers ≡ content t payers
    history : content s (group_of_history p.home) ≡ content t (group_of_history p.home)

  from_groups : (s t : Database) → AreAlikeIn (groups_of (payment_footprint p)) s t → AreAlike s t
  from_groups s t alike =
      let each = recursion_from_All (λ group. content s group ≡ content t group) (groups_of (payment_footprint p)) alike in
      record {
        warehouse = each.0;
        district = each.1.0;
        customers = each.1.1.0;
        history = each.1.1.1.0;
      }

  to_groups : (s t : Database) → AreAlike s t → AreAlikeIn (groups_of (payment_footprint p)) s t
  to_groups s t alike =
      All-from_recursion (λ group. content s group ≡ content t group) (groups_of (payment_footprint p))
      (alike.warehouse, (alike.district, (alike.customers, (alike.history, tt))))

  module _ (s t : Database) (alike : AreAlike s t) where
    EndAlike : Outcome → Outcome → Type 0
    EndAlike a b = (a.reply ≡ b.reply) × AreAlike a.tables b.tables

    same_list : list_at s.histories p.home ≡ list_at t.histories p.home
    same_list =
        ap (λ rows. unwrap_or rows [])
        (same_row s t s.histories t.histories group_of_history history_in (each_row_stands_in_one_group s).histories (each_row_stands_in_one_group t).histories p.home alike.history)

    module _ (payer : CustomerKey) (of_home : payer ≡ customer_key p.customer_home payer.c_id) where
      alike_left : (w : Warehouse) (d : District) (c : Customer) (row : History) → AreAlike (left payer of_home w d c row s) (left payer of_home w d c row t)
      alike_left w d c row = record {
        warehouse = warehouse_left payer of_home w d c row s ∙ ap (with_warehouse w) alike.warehouse ∙ sym (warehouse_left payer of_home w d c row t);
        district = district_left payer of_home w d c row s ∙ ap (with_district d) alike.district ∙ sym (district_left payer of_home w d c row t);
        customers = customers_left payer of_home w d c row s ∙ ap (with_customer payer c) alike.customers ∙ sym (customers_left payer of_home w d c row t);
        history = history_left payer of_home w d c row s ∙ ap (λ rows. OfHistory (Some (rows ++ row ∷ []))) same_list ∙ sym (history_left payer of_home w d c row t);
      }

      alike_posted : (row : History) (w : Option Warehouse) (d : Option District) (c : Option Customer) → EndAlike (posted s (posting p payer row) w d c) (posted t (posting p payer row) w d c)
      unfolding EndAlike
      alike_posted row (Some w) (Some d) (Some c) = (refl, alike_left w d c row)
      alike_posted row None d c = (refl, alike)
      alike_posted row (Some w) None c = (refl, alike)
      alike_posted row (Some w) (Some d) None = (refl, alike)

    alike_paid : (w : Option Warehouse) (d : Option District) (c : Option Keyed) → ((found : Keyed) → c ≡ Some found → found.0 ≡ customer_key p.customer_home found.0.c_id)
        → EndAlike (paid s p w d c) (paid t p w d c)
    unfolding EndAlike
    alike_paid (Some w) (Some d) (Some c) of_home =
        alike_posted c.0 (of_home c refl) (payment_row p c.0 w d) (warehouse_paid w (pos p.amount)) (district_paid d (pos p.amount)) (customer_paid c.1 (payment_note c.0 p.home p.amount) (pos p.amount))
    alike_paid None d c of_home = (refl, alike)
    alike_paid (Some w) None c of_home = (refl, alike)
    alike_paid (Some w) (Some d) None of_home = (refl, alike)

    alike_payments : EndAlike (payment s p) (payment t p)
    alike_payments =
        let s_stand = each_row_stands_in_one_group s in
        let t_stand = each_row_stands_in_one_group t in
        let same_w = same_row s t s.warehouses t.warehouses group_of_warehouse warehouse_in s_stand.warehouses t_stand.warehouses p.home.w_id alike.warehouse in
        let same_d = same_row s t s.districts t.districts group_of_district district_in s_stand.districts t_stand.districts p.home alike.district in
        let same_c = same_chosen s t p.customer_home alike.customers p.customer in
        rw (same_w, same_d, same_c) (alike_paid (map.get t.warehouses p.home.w_id) (map.get t.districts p.home) (chosen t.customers p.customer_home p.customer)
        (λ found is. (chosen_there t.customers p.customer_home p.customer found is).1))

pub payment_reads_its_groups : PaymentReadsItsGroups
unfolding EndAlike
payment_reads_its_groups s t p alike =
    let ends = alike_payments p s t (from_groups p s t alike) in
    (ends.0, to_groups p (payment s p).tables (payment t p).tables ends.1)

pub payment_keeps_other_groups : PaymentKeepsOtherGroups
payment_keeps_other_groups t p group none =
    let each = recursion_from_All (λ own. group ≢ own) (groups_of (payment_footprint p)) none in
    payment-cases t p (λ o. content o.tables group ≡ content t group) (λ fault. refl)
    (λ payer w new_w d new_d c new_c w_is d_is payer_is w_made d_made c_made.
    others_left p payer payer_is.of_home new_w new_d new_c (payment_row p payer w d) t group each.0 each.1.0 each.1.1.0 each.1.1.1.0)
