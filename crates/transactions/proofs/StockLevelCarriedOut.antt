-- The actions of a Stock-Level are the Stock-Level: from tables that their claims record, the machine shows the same, and nothing
-- changes.
use Rattle.std.proofs.Common.{◌≡◌, ℕ, List, [], ◌∷◌, refl, sym, ap, ◌∙◌}
use Rattle.std.specs.List.{AllByRecursion}
use Rattle.std.proofs.lemmas.List.Elements.{All-head, All-tail}
use Rattle.std.specs.FinMap as table
use Rattle.requests.specs.declared.group.Group.{Group}
use Rattle.requests.specs.declared.reply.Reply.TheVariants as reply
use Rattle.requests.specs.declared.reply.Shown.TheVariants as kind
use Rattle.requests.specs.declared.stock_level.StockLevelReply.{StockLevelReply}
use Rattle.groups.specs.Content.{Content, content}
use Rattle.groups.specs.declared.group_wants.Mode.TheVariants.{Shared}
use Rattle.tickets.specs.Claims.{ClaimView}
use Rattle.tickets.specs.Committed.{RecordsContent, Records, contents_after}
use Rattle.machine.specs.StockLevel.{level_shown, low_stock, next_order, recent_items}
use Rattle.transactions.specs.StockLevel.{AreSharedOn, reply_counted, stock_of}
use Rattle.transactions.specs.StockLevelLaws.{StockLevelsAreCarriedOut}
use Rattle.transactions.proofs.OrderStatusCarriedOut.{shared_settles}

-- each of the claims is a shared one
shared_each : (groups : List Group) (claims : List ClaimView) → AreSharedOn groups claims → AllByRecursion (λ (claim : ClaimView). claim.mode ≡ Shared) claims
shared_each [] [] on = tt
shared_each [] (claim ∷ claims) on = absurd on
shared_each (group ∷ groups) [] on = absurd on
shared_each (group ∷ groups) (claim ∷ claims) on = (on.0.mode, shared_each groups claims on.1)

-- shared claims change nothing
all_settle : (group : Group) (has : Content) (claims : List ClaimView) → AllByRecursion (λ (claim : ClaimView). claim.mode ≡ Shared) claims → has ≡ contents_after group has claims
all_settle group has [] shared = refl
all_settle group has (claim ∷ claims) shared =
    all_settle group has claims shared.1 ∙ ap (λ h. contents_after group h claims) (shared_settles group has claim shared.0)

pub stock_levels_are_carried_out : StockLevelsAreCarriedOut
stock_levels_are_carried_out opening s next items count district orders stock next_read items_read low t scale same all =
    let Recorded = RecordsContent (content t) in
    let others : Records (content t) (orders ∷ stock) = All-tail Recorded district (orders ∷ stock) all in
    let next_is : next ≡ next_order (table.get t.districts s.home) = next_read.shown t (All-head Recorded district (orders ∷ stock) all) in
    let items_are : items ≡ recent_items t s.home next = items_read.shown t (All-head Recorded orders stock others) in
    let counted : count ≡ low_stock t s.home.w_id s.threshold items = low.shown t (All-tail Recorded orders stock others) in
    let shown : level_shown t s ≡ reply_counted count =
    ap (λ (n : ℕ). reply_counted (low_stock t s.home.w_id s.threshold (recent_items t s.home n))) (sym next_is)
    ∙ ap (λ (is : List ℕ). reply_counted (low_stock t s.home.w_id s.threshold is)) (sym items_are)
    ∙ ap reply_counted (sym counted) in (
      ap (λ (r : StockLevelReply). reply.Done (kind.StockLevel r)) shown,
      λ group. all_settle group (content t group) (district ∷ orders ∷ stock) (next_read.claim.mode, (items_read.claim.mode, shared_each (stock_of s.home.w_id) stock low.claims)),
    )
