-- What follows of what the actions of a New-Order found.
use Rattle.std.proofs.Common.{◌≡◌, ◌∙◌, ◌⊎◌, List, [], ◌∷◌, ◌++◌, map, Ok, Err, append_assoc, refl, ap, sym, subst}
use Rattle.partitions.specs.Parts.{SharedTables}
use Rattle.requests.specs.declared.group.Group.{Group}
use Rattle.requests.specs.declared.request.Request.TheVariants as request
use Rattle.requests.specs.declared.new_order.NewOrder.{NewOrder}
use Rattle.requests.specs.declared.reply.Fault.{Fault}
use Rattle.requests.specs.declared.reply.Fault.TheVariants.{NoCustomer}
use Rattle.requests.specs.declared.reply.Reply.TheVariants as reply
use Rattle.requests.specs.declared.reply.Shown.TheVariants as kind
use Rattle.requests.specs.Check.{IsAccepted}
use Rattle.groups.specs.NewOrder.{supplies_of}
use Rattle.tickets.specs.Claims.{ClaimView, all_claims}
use Rattle.commit_log.specs.Claimed.{IsCarriedOut}
use Rattle.transactions.specs.declared.new_order.HomeFound.{HomeFound}
use Rattle.transactions.specs.declared.new_order.HomeFound.TheVariants as h
use Rattle.transactions.specs.declared.new_order.OrdererFound.{OrdererFound}
use Rattle.transactions.specs.declared.new_order.OrdererFound.TheVariants as c
use Rattle.transactions.specs.declared.new_order.OrderBegun.{OrderBegun}
use Rattle.transactions.specs.declared.new_order.OrderPlaced.{OrderPlaced}
use Rattle.transactions.specs.declared.new_order.StockTaken.{StockTaken}
use Rattle.transactions.specs.declared.new_order.work.Work.TheVariants.{TakeNumber, ShowOrderer, AddOrder}
use Rattle.transactions.specs.declared.new_order.work.Found.TheVariants as own
use Rattle.transactions.specs.declared.new_order.phases.Progress.TheVariants.{ReadRows, TakeLines, AddRows}
use Rattle.transactions.specs.declared.work.Work.TheVariants as any_work
use Rattle.transactions.specs.declared.work.Found.{Found}
use Rattle.transactions.specs.declared.work.Found.TheVariants as any_found
use Rattle.transactions.specs.declared.progress.Progress.TheVariants as any_progress
use Rattle.transactions.specs.declared.progress.Gathered.TheVariants.{Next, Finish}
use Rattle.transactions.specs.NewOrder.{AreStocksFound, AreStocksTaken, IsHomeOrdered, IsNumberKnown, IsOrdererKnown, IsOrdererShown, decided, taking, works_of}
use Rattle.transactions.specs.Works.{HaveAllDone}
use Rattle.transactions.specs.Progresses.{FollowsFrom}
use Rattle.transactions.proofs.Done.{first_done, none_done}
use Rattle.transactions.proofs.NewOrderCarriedOut.{new_orders_are_carried_out, new_orders_of_nobody_are_carried_out, rolled_back_new_orders_are_carried_out}

-- ---- the first phase

-- the order got its number and its customer was shown under these claims, and this was found
pub record AreRowsRead (shared : SharedTables) (n : NewOrder) (found : List Found) (claims : List (List ClaimView)) : Type 0 where
  pub home : HomeFound
  pub orderer : OrdererFound
  pub warehouse : ClaimView
  pub district : ClaimView
  pub customers : ClaimView
  pub found_is : found ≡ any_found.NewOrder (own.Home home) ∷ any_found.NewOrder (own.Orderer orderer) ∷ []
  pub claims_is : claims ≡ (warehouse ∷ district ∷ []) ∷ (customers ∷ []) ∷ []
  pub ordered : IsHomeOrdered n home warehouse district
  pub number : IsNumberKnown home
  pub accepted : IsAccepted shared.scale (request.NewOrder n)
  pub shown : IsOrdererShown n orderer customers
  pub known : IsOrdererKnown shared.scale n orderer

pub rows_done : (shared : SharedTables) (n : NewOrder) (found : List Found) (claims : List (List ClaimView)) → HaveAllDone shared (works_of (ReadRows n)) found claims → AreRowsRead shared n found claims
rows_done shared n found claims done =
    let one = first_done shared (any_work.NewOrder (TakeNumber n)) (any_work.NewOrder (ShowOrderer n) ∷ []) found claims done in
    let two = first_done shared (any_work.NewOrder (ShowOrderer n)) [] one.others one.rest one.others_done in
    let none = none_done shared two.others two.rest two.others_done in
    let home = one.done.2 in
    let orderer = two.done.2 in
    record {
      home = home.0;
      orderer = orderer.0;
      warehouse = home.1;
      district = home.2;
      customers = orderer.1;
      found_is = one.found_is ∙ ap (λ others. one.one ∷ others) two.found_is
          ∙ (λ i. (one.done.1 ∙ ap any_found.NewOrder home.3) i ∷ (two.done.1 ∙ ap any_found.NewOrder orderer.2) i ∷ none.0 i);
      claims_is = one.claims_is ∙ ap (λ rest. one.held ∷ rest) two.claims_is ∙ (λ i. home.4 i ∷ orderer.3 i ∷ none.1 i);
      ordered = home.5;
      number = home.6;
      accepted = home.7;
      shown = orderer.4;
      known = orderer.5;
    }

same_home : (home other : HomeFound) (orderer another : OrdererFound)
    → any_found.NewOrder (own.Home home) ∷ any_found.NewOrder (own.Orderer orderer) ∷ [] ≡ any_found.NewOrder (own.Home other) ∷ any_found.NewOrder (own.Orderer another) ∷ [] → home ≡ other
same_home home other orderer another same = cc

same_orderer : (home other : HomeFound) (orderer another : OrdererFound)
    → any_found.NewOrder (own.Home home) ∷ any_found.NewOrder (own.Orderer orderer) ∷ [] ≡ any_found.NewOrder (own.Home other) ∷ any_found.NewOrder (own.Orderer another) ∷ [] → orderer ≡ another
same_orderer home other orderer another same = cc

module _
    (n : NewOrder) (found : List Found) (home : HomeFound) (orderer : OrdererFound)
    (is : found ≡ any_found.NewOrder (own.Home home) ∷ any_found.NewOrder (own.Orderer orderer) ∷ [])
  where
    -- what was found is this
    record AreThese (shared : SharedTables) (claims : List (List ClaimView)) : Type 0 where
      warehouse : ClaimView
      district : ClaimView
      customers : ClaimView
      claims_is : claims ≡ (warehouse ∷ district ∷ []) ∷ (customers ∷ []) ∷ []
      ordered : IsHomeOrdered n home warehouse district
      number : IsNumberKnown home
      shown : IsOrdererShown n orderer customers
      known : IsOrdererKnown shared.scale n orderer

    these : (shared : SharedTables) (claims : List (List ClaimView)) → HaveAllDone shared (works_of (ReadRows n)) found claims → AreThese shared claims
    these shared claims done =
        let rows = rows_done shared n found claims done in
        let same = sym rows.found_is ∙ is in
        let homes = same_home rows.home home rows.orderer orderer same in
        let orderers = same_orderer rows.home home rows.orderer orderer same in
        record {
          warehouse = rows.warehouse;
          district = rows.district;
          customers = rows.customers;
          claims_is = rows.claims_is;
          ordered = subst (λ one. IsHomeOrdered n one rows.warehouse rows.district) homes rows.ordered;
          number = subst (λ one. IsNumberKnown one) homes rows.number;
          shown = subst (λ one. IsOrdererShown n one rows.customers) orderers rows.shown;
          known = subst (IsOrdererKnown shared.scale n) orderers rows.known;
        }

    pub nobody_follows : (home ≡ h.Missing) ⊎ (orderer ≡ c.Missing) → FollowsFrom (any_progress.NewOrder (ReadRows n)) found (Finish (reply.RolledBack NoCustomer))
    nobody_follows missing shared asked held claims known done opening same =
        let rows = these shared claims done in
        let all : held ++ claims ≡ (rows.warehouse ∷ rows.district ∷ []) ∷ (rows.customers ∷ []) ∷ [] = ap (λ xs. xs ++ claims) known.none ∙ rows.claims_is in
        subst (λ r. IsCarriedOut opening r (all_claims (held ++ claims)) (reply.RolledBack NoCustomer)) (sym known.is)
        (subst (λ xs. IsCarriedOut opening (request.NewOrder n) (all_claims xs) (reply.RolledBack NoCustomer)) (sym all)
        (new_orders_of_nobody_are_carried_out opening n home orderer rows.warehouse rows.district rows.customers rows.ordered rows.shown missing))

    pub rows_follow : (given : OrderBegun) → given.order ≡ n → home ≡ h.Shown given.home → orderer ≡ c.Shown given.orderer
        → given.first ∷ given.others ≡ supplies_of n.lines → FollowsFrom (any_progress.NewOrder (ReadRows n)) found (Next (any_progress.NewOrder (TakeLines given)))
    rows_follow given order home_is orderer_is supplies shared asked held claims known done =
        let rows = these shared claims done in
        let ordered : IsHomeOrdered n (h.Shown given.home) rows.warehouse rows.district = subst (λ one. IsHomeOrdered n one rows.warehouse rows.district) home_is rows.ordered in
        let shown : IsOrdererShown n (c.Shown given.orderer) rows.customers = subst (λ one. IsOrdererShown n one rows.customers) orderer_is rows.shown in
        let named : IsOrdererKnown shared.scale n (c.Shown given.orderer) = subst (IsOrdererKnown shared.scale n) orderer_is rows.known in
        record {
          is = known.is ∙ ap request.NewOrder (sym order);
          accepted = known.accepted;
          warehouse = rows.warehouse;
          district = rows.district;
          customers = rows.customers;
          claims = ap (λ xs. xs ++ claims) known.none ∙ rows.claims_is;
          home = subst (λ o. IsHomeOrdered o (h.Shown given.home) rows.warehouse rows.district) (sym order) ordered;
          number = subst (λ one. IsNumberKnown one) home_is rows.number;
          orderer = subst (λ o. IsOrdererShown o (c.Shown given.orderer) rows.customers) (sym order) shown;
          known = subst (λ (o : NewOrder). IsOrdererKnown shared.scale o (c.Shown given.orderer)) (sym order) named;
          supplies = supplies ∙ ap (λ (o : NewOrder). supplies_of o.lines) (sym order);
        }

-- ---- the second phase

-- each group sold its lines under its claim, and this was found
pub record AreStocksDone (shared : SharedTables) (n : NewOrder) (groups : List Group) (found : List Found) (claims : List (List ClaimView)) : Type 0 where
  pub taken : List StockTaken
  pub stocks : List ClaimView
  pub found_is : AreStocksFound found taken
  pub claims_is : claims ≡ map (λ stock. stock ∷ []) stocks
  pub are : AreStocksTaken shared n groups taken stocks

pub stocks_done : (shared : SharedTables) (n : NewOrder) (groups : List Group) (found : List Found) (claims : List (List ClaimView)) → HaveAllDone shared (map (taking n) groups) found claims
    → AreStocksDone shared n groups found claims
stocks_done shared n [] found claims done =
    let none = none_done shared found claims done in
    record { taken = []; stocks = []; found_is = none.0; claims_is = none.1; are = tt }
stocks_done shared n (group ∷ groups) found claims done =
    let one = first_done shared (taking n group) (map (taking n) groups) found claims done in
    let rest = stocks_done shared n groups one.others one.rest one.others_done in
    let first = one.done.2 in
    record {
      taken = first.0 ∷ rest.taken;
      stocks = first.1 ∷ rest.stocks;
      found_is = one.found_is ∙ (λ i. (one.done.1 ∙ ap any_found.NewOrder first.2) i ∷ rest.found_is i);
      claims_is = one.claims_is ∙ (λ i. first.3 i ∷ rest.claims_is i);
      are = (first.4, first.5, rest.are);
    }

-- who found the same, found this
pub same_stocks : (stocks others : List StockTaken)
    → map (λ one. any_found.NewOrder (own.Stock one)) stocks ≡ map (λ one. any_found.NewOrder (own.Stock one)) others → stocks ≡ others
same_stocks [] [] same = refl
same_stocks [] (other ∷ others) same = absurd cc
same_stocks (stock ∷ stocks) [] same = absurd cc
same_stocks (stock ∷ stocks) (other ∷ others) same =
    let first : stock ≡ other = cc in
    let later : map (λ one. any_found.NewOrder (own.Stock one)) stocks ≡ map (λ one. any_found.NewOrder (own.Stock one)) others = cc in
    let rest = same_stocks stocks others later in
    λ i. first i ∷ rest i

-- the claims of the actions of the stock, one each
one_each : (stocks : List ClaimView) → all_claims (map (λ (stock : ClaimView). stock ∷ []) stocks) ≡ stocks
one_each [] = refl
one_each (stock ∷ stocks) = ap (λ rest. stock ∷ rest) (one_each stocks)

pub all_claims-both : (first second : List (List ClaimView)) → all_claims (first ++ second) ≡ all_claims first ++ all_claims second
all_claims-both [] second = refl
all_claims-both (held ∷ first) second = ap (λ rest. held ++ rest) (all_claims-both first second) ∙ sym (append_assoc held (all_claims first) (all_claims second))

pub claims_of_all : (first : List (List ClaimView)) (stocks : List ClaimView) → all_claims (first ++ map (λ (stock : ClaimView). stock ∷ []) stocks) ≡ all_claims first ++ stocks
claims_of_all first stocks = all_claims-both first (map (λ (stock : ClaimView). stock ∷ []) stocks) ∙ ap (λ rest. all_claims first ++ rest) (one_each stocks)

module _ (given : OrderBegun) (found : List Found) (taken : List StockTaken) (is : AreStocksFound found taken) where
  record AreSoldBy (shared : SharedTables) (claims : List (List ClaimView)) : Type 0 where
    stocks : List ClaimView
    claims_is : claims ≡ map (λ stock. stock ∷ []) stocks
    are : AreStocksTaken shared given.order (given.first ∷ given.others) taken stocks

  sold_by : (shared : SharedTables) (claims : List (List ClaimView)) → HaveAllDone shared (works_of (TakeLines given)) found claims → AreSoldBy shared claims
  sold_by shared claims done =
      let all = stocks_done shared given.order (given.first ∷ given.others) found claims done in
      let same = same_stocks all.taken taken (sym all.found_is ∙ is) in
      record { stocks = all.stocks; claims_is = all.claims_is; are = subst (λ those. AreStocksTaken shared given.order (given.first ∷ given.others) those all.stocks) same all.are }

  pub stock_follows : (placed : OrderPlaced) → decided given.order given.home given.orderer taken ≡ Ok placed
      → FollowsFrom (any_progress.NewOrder (TakeLines given)) found (Next (any_progress.NewOrder (AddRows placed)))
  stock_follows placed next shared asked held claims known done =
      let sold = sold_by shared claims done in
      record {
        begun = given;
        before = held;
        reached = known;
        found = taken;
        stocks = sold.stocks;
        claims = ap (λ xs. held ++ xs) sold.claims_is;
        taken = subst (λ groups. AreStocksTaken shared given.order groups taken sold.stocks) known.supplies sold.are;
        next = next;
      }

  pub fault_follows : (fault : Fault) → decided given.order given.home given.orderer taken ≡ Err fault → FollowsFrom (any_progress.NewOrder (TakeLines given)) found (Finish (reply.RolledBack fault))
  fault_follows fault back shared asked held claims known done opening same =
      let sold = sold_by shared claims done in
      let are = subst (λ groups. AreStocksTaken shared given.order groups taken sold.stocks) known.supplies sold.are in
      let all : all_claims (held ++ claims) ≡ known.warehouse ∷ known.district ∷ known.customers ∷ sold.stocks =
      ap (λ xs. all_claims (held ++ xs)) sold.claims_is ∙ claims_of_all held sold.stocks ∙ ap (λ xs. all_claims xs ++ sold.stocks) known.claims in
      subst (λ r. IsCarriedOut opening r (all_claims (held ++ claims)) (reply.RolledBack fault)) (sym known.is)
      (subst (λ xs. IsCarriedOut opening (request.NewOrder given.order) xs (reply.RolledBack fault)) (sym all)
      (rolled_back_new_orders_are_carried_out opening given.order given.home given.orderer taken fault known.warehouse known.district known.customers sold.stocks known.home known.orderer
      (subst (λ s. AreStocksTaken s given.order (supplies_of given.order.lines) taken sold.stocks) (sym same) are) back))

-- ---- the third phase

pub added_follows : (placed : OrderPlaced) (found : List Found) → FollowsFrom (any_progress.NewOrder (AddRows placed)) found (Finish (reply.Done (kind.NewOrder placed.reply)))
added_follows placed found shared asked held claims known done opening same =
    let begun = known.begun in
    let before = known.reached in
    let one = first_done shared (any_work.NewOrder (AddOrder placed.rows)) [] found claims done in
    let none = none_done shared one.others one.rest one.others_done in
    let added = one.done.2 in
    let said = reply.Done (kind.NewOrder placed.reply) in
    let last : all_claims claims ≡ added.0 ∷ [] = ap all_claims (one.claims_is ∙ (λ i. added.2 i ∷ none.1 i)) in
    let first : all_claims held ≡ before.warehouse ∷ before.district ∷ before.customers ∷ known.stocks =
    ap all_claims known.claims ∙ claims_of_all known.before known.stocks ∙ ap (λ xs. all_claims xs ++ known.stocks) before.claims in
    let all : all_claims (held ++ claims) ≡ before.warehouse ∷ before.district ∷ before.customers ∷ (known.stocks ++ added.0 ∷ []) =
    all_claims-both held claims ∙ (λ i. first i ++ last i) in
    subst (λ r. IsCarriedOut opening r (all_claims (held ++ claims)) said) (sym before.is)
    (subst (λ xs. IsCarriedOut opening (request.NewOrder begun.order) xs said) (sym all)
    (new_orders_are_carried_out opening begun.order begun.home begun.orderer known.found placed before.warehouse before.district before.customers known.stocks added.0 before.home before.orderer
    (subst (λ s. AreStocksTaken s begun.order (supplies_of begun.order.lines) known.found known.stocks) (sym same) known.taken) known.next added.3))
