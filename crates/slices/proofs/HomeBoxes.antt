-- The boxes of one warehouse's groups, among those of all.
use Rattle.std.proofs.Common.{◌≡◌, ℕ, ◌+◌, ◌*◌, ◌<◌, cond, true, List, length, get_or, take, drop, None, sym, ap, subst, ◌∙◌, arith, length-drop}
use Rattle.std.proofs.lemmas.List.{get_or-drop, get_or-take, length-take}
use Rattle.std.specs.FinMap as table
use Rattle.std.specs.FinMap.{FinMap, get-retain_keys, IsAntisymmetric, nat_cmp-IsAntisymmetric}
use Rattle.std.specs.declared.cmp.Ordering.{Ordering}
use Rattle.std.proofs.lemmas.Bool.Decides.{nat_tests}
use Rattle.schema.specs.Database.{Database}
use Rattle.schema.proofs.KeyOrders.{districts_exact, customers_exact, orders_exact, lines_exact, stocks_exact}
use Rattle.partitions.specs.Parts.{is_of, part_of}
use Rattle.requests.specs.declared.group.Group.{Group}
use Rattle.groups.specs.Groups.{warehouse_of}
use Rattle.tickets.specs.Boxes.{TicketBoxView, sharing}
use Rattle.tickets.specs.Places.{IsGroupOf, place_in_warehouse, place_of}
use Rattle.tickets.proofs.OnePlace.{home_known}
use Rattle.slices.specs.Openings.{IsBoxOf, IsHomeBoxOf, AreHomeBoxesOf}
use Rattle.slices.proofs.Alike.{AreAlikeAt, content_alike}
use Rattle.slices.proofs.Homes.{place_known}

-- ---- what a part has

is_home : (home number : ℕ) → number ≡ home → is_of home number ≡ true
is_home home number same = grind (arith, nat_tests)

still_there : {K X : Type 0} {R : K → K → Ordering} → IsAntisymmetric R → (own : K → ℕ) (home : ℕ) (m : FinMap R X) (key : K) → own key ≡ home
    → table.get (table.retain_keys m (λ k. is_of home (own k))) key ≡ table.get m key
still_there a own home m key at =
    get-retain_keys m (λ k. is_of home (own k)) key (λ x e. ap (λ k. is_of home (own k)) (sym (a key x e)))
    ∙ ap (λ b. cond b (table.get m key) None) (is_home home (own key) at)

-- a part has the rows of its warehouse
part_alike : (t : Database) (home : ℕ) → AreAlikeAt home (part_of t home).tables t
part_alike t home = record {
  warehouses = λ key at. still_there nat_cmp-IsAntisymmetric (λ k. k) home t.warehouses key at;
  districts = λ key at. still_there districts_exact (λ k. k.w_id) home t.districts key at;
  stocks = λ key at. still_there stocks_exact (λ k. k.w_id) home t.stocks key at;
  customers = λ key at. still_there customers_exact (λ k. k.w_id) home t.customers key at;
  histories = λ key at. still_there districts_exact (λ k. k.w_id) home t.histories key at;
  orders = λ key at. still_there orders_exact (λ k. k.w_id) home t.orders key at;
  new_orders = λ key at. still_there orders_exact (λ k. k.w_id) home t.new_orders key at;
  lines = λ key at. still_there lines_exact (λ k. k.w_id) home t.lines key at;
}

-- ---- the boxes of one warehouse

-- a group's place among all determines its warehouse, and its place there
places_recorded : (warehouses : ℕ) (group : Group) (before number : ℕ) → IsGroupOf warehouses group → place_of group ≡ 105 * before + number → number < 105
    → (warehouse_of group ≡ before + 1) × (place_in_warehouse group ≡ number)
places_recorded warehouses group before number is at small =
    let known = home_known warehouses group is in
    let few : place_in_warehouse group < 105 = place_known warehouses group is in
    (omega (arith, at, small, known, few), omega (arith, at, small, known, few))

home_box : (t : Database) (before number : ℕ) (ticket_box : TicketBoxView) → IsBoxOf t (105 * before + number) ticket_box → number < 105 → IsHomeBoxOf (part_of t (before + 1)) number ticket_box
home_box t before number ticket_box is small =
    let group : Group = ticket_box.group in
    let recorded = places_recorded t.scale.warehouses group before number is.known is.place small in
    record {
      known = is.known;
      here = recorded.0;
      place = recorded.1;
      has = is.has ∙ ap (λ c. sharing group c 0) (sym (content_alike (before + 1) (part_of t (before + 1)).tables t (part_alike t (before + 1)) group recorded.0));
    }

-- the boxes of the groups of the first warehouses
pub record AreFirstBoxes (t : Database) (warehouses : ℕ) (boxes : List TicketBoxView) : Type 0 where
  pub all_there : length boxes ≡ 105 * warehouses
  pub each : (place : ℕ) (d : TicketBoxView) → place < length boxes → IsBoxOf t place (get_or boxes place d)

-- which are split into those of the last of these warehouses, and the others
pub first_boxes : (t : Database) (before : ℕ) (boxes : List TicketBoxView) → AreFirstBoxes t (before + 1) boxes → AreFirstBoxes t before (take (before * 105) boxes)
first_boxes t before boxes are = record {
  all_there = length-take (before * 105) boxes ∙ omega (arith, are.all_there);
  each = λ place d small.
      let few : place < before * 105 = omega (arith, small, length-take (before * 105) boxes) in
      subst (IsBoxOf t place) (sym (get_or-take (before * 105) boxes place d few)) (are.each place d (omega (arith, few, are.all_there)));
}

pub last_boxes : (t : Database) (before : ℕ) (boxes : List TicketBoxView) → AreFirstBoxes t (before + 1) boxes → AreHomeBoxesOf (part_of t (before + 1)) (drop (before * 105) boxes)
last_boxes t before boxes are = record {
  all_there = length-drop (before * 105) boxes ∙ omega (arith, are.all_there);
  each = λ number d small.
      let few : number < 105 = omega (arith, small, length-drop (before * 105) boxes, are.all_there) in
      let at : before * 105 + number ≡ 105 * before + number = omega arith in
      subst (IsHomeBoxOf (part_of t (before + 1)) number) (sym (get_or-drop (before * 105) boxes number d))
      (home_box t before number (get_or boxes (before * 105 + number) d)
      (subst (λ place. IsBoxOf t place (get_or boxes (before * 105 + number) d)) at (are.each (before * 105 + number) d (omega (arith, few, are.all_there)))) few);
}
