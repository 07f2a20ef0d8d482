-- What follows of what the actions of a Stock-Level found.
use Rattle.std.proofs.Common.{◌≡◌, ◌∙◌, ℕ, List, [], ◌∷◌, ◌++◌, ap, sym, subst}
use Rattle.std.proofs.lemmas.List.{append-nil}
use Rattle.partitions.specs.Parts.{SharedTables}
use Rattle.requests.specs.declared.request.Request.TheVariants as request
use Rattle.requests.specs.declared.stock_level.StockLevel.{StockLevel}
use Rattle.requests.specs.declared.reply.Reply.TheVariants as reply
use Rattle.requests.specs.declared.reply.Shown.TheVariants as kind
use Rattle.tickets.specs.Claims.{ClaimView, all_claims}
use Rattle.commit_log.specs.Claimed.{IsCarriedOut}
use Rattle.transactions.specs.declared.stock_level.Work.{Work}
use Rattle.transactions.specs.declared.stock_level.Work.TheVariants.{ReadNext, ReadItems, CountLow}
use Rattle.transactions.specs.declared.stock_level.Found.{Found as OwnFound}
use Rattle.transactions.specs.declared.stock_level.Found.TheVariants.{Next as NextFound, Items, Low}
use Rattle.transactions.specs.declared.stock_level.Progress.TheVariants as at
use Rattle.transactions.specs.declared.work.Work.TheVariants as any_work
use Rattle.transactions.specs.declared.work.Found.{Found}
use Rattle.transactions.specs.declared.work.Found.TheVariants as any_found
use Rattle.transactions.specs.declared.progress.Progress.TheVariants as any_progress
use Rattle.transactions.specs.declared.progress.Gathered.TheVariants.{Next, Finish}
use Rattle.transactions.specs.StockLevel.{AreItemsFound, HasDone, IsLowFound, IsNextFound, reply_counted}
use Rattle.transactions.specs.Works.{HaveAllDone}
use Rattle.transactions.specs.Progresses.{FollowsFrom}
use Rattle.transactions.proofs.Done.{first_done, none_done}
use Rattle.transactions.proofs.StockLevelCarriedOut.{stock_levels_are_carried_out}

-- the one action of a phase found this, under these claims
pub record HasOneDone (shared : SharedTables) (work : Work) (found : List Found) (claims : List (List ClaimView)) : Type 0 where
  pub one : OwnFound
  pub held : List ClaimView
  pub found_is : found ≡ any_found.StockLevel one ∷ []
  pub claims_is : claims ≡ held ∷ []
  pub done : HasDone shared work one held

pub one_done : (shared : SharedTables) (work : Work) (found : List Found) (claims : List (List ClaimView))
    → HaveAllDone shared (any_work.StockLevel work ∷ []) found claims → HasOneDone shared work found claims
one_done shared work found claims done =
    let first = first_done shared (any_work.StockLevel work) [] found claims done in
    let none = none_done shared first.others first.rest first.others_done in
    record {
      one = first.done.0;
      held = first.held;
      found_is = first.found_is ∙ (λ i. first.done.1 i ∷ none.0 i);
      claims_is = first.claims_is ∙ (λ i. first.held ∷ none.1 i);
      done = first.done.2;
    }

-- ---- the district

same_next : (next other : ℕ) → any_found.StockLevel (NextFound next) ∷ [] ≡ any_found.StockLevel (NextFound other) ∷ [] → next ≡ other
same_next next other same = cc

pub next_found : (shared : SharedTables) (s : StockLevel) (found : List Found) (claims : List (List ClaimView))
    → HaveAllDone shared (any_work.StockLevel (ReadNext s) ∷ []) found claims → (next : ℕ) × (found ≡ any_found.StockLevel (NextFound next) ∷ [])
next_found shared s found claims done =
    let one = one_done shared (ReadNext s) found claims done in
    (one.done.0, one.found_is ∙ ap (λ (f : OwnFound). any_found.StockLevel f ∷ []) one.done.2)

pub next_follows : (s : StockLevel) (found : List Found) (next : ℕ) → found ≡ any_found.StockLevel (NextFound next) ∷ []
    → FollowsFrom (any_progress.StockLevel (at.ReadNext s)) found (Next (any_progress.StockLevel (at.ReadItems s next)))
next_follows s found next is shared asked held claims known done =
    let one = one_done shared (ReadNext s) found claims done in
    let read = one.done in
    let found_here : found ≡ any_found.StockLevel (NextFound read.0) ∷ [] = one.found_is ∙ ap (λ (f : OwnFound). any_found.StockLevel f ∷ []) read.2 in
    record {
      is = known.is;
      accepted = known.accepted;
      district = read.1;
      claims = ap (λ (hs : List (List ClaimView)). hs ++ claims) known.none ∙ one.claims_is ∙ ap (λ (cs : List ClaimView). cs ∷ []) read.3;
      read = subst (λ (n : ℕ). IsNextFound s.home n read.1) (same_next read.0 next (sym found_here ∙ is)) read.4;
    }

-- ---- the lines of its last orders

same_items : (items other : List ℕ) → any_found.StockLevel (Items items) ∷ [] ≡ any_found.StockLevel (Items other) ∷ [] → items ≡ other
same_items items other same = cc

pub items_found : (shared : SharedTables) (s : StockLevel) (next : ℕ) (found : List Found) (claims : List (List ClaimView))
    → HaveAllDone shared (any_work.StockLevel (ReadItems s next) ∷ []) found claims → (items : List ℕ) × (found ≡ any_found.StockLevel (Items items) ∷ [])
items_found shared s next found claims done =
    let one = one_done shared (ReadItems s next) found claims done in
    (one.done.0, one.found_is ∙ ap (λ (f : OwnFound). any_found.StockLevel f ∷ []) one.done.2)

pub items_follow : (s : StockLevel) (next : ℕ) (found : List Found) (items : List ℕ) → found ≡ any_found.StockLevel (Items items) ∷ []
    → FollowsFrom (any_progress.StockLevel (at.ReadItems s next)) found (Next (any_progress.StockLevel (at.CountLow s items)))
items_follow s next found items is shared asked held claims known done =
    let one = one_done shared (ReadItems s next) found claims done in
    let read = one.done in
    let found_here : found ≡ any_found.StockLevel (Items read.0) ∷ [] = one.found_is ∙ ap (λ (f : OwnFound). any_found.StockLevel f ∷ []) read.2 in
    record {
      is = known.is;
      accepted = known.accepted;
      next = next;
      district = known.district;
      orders = read.1;
      claims = ap (λ (hs : List (List ClaimView)). hs ++ claims) known.claims ∙ ap (λ (cs : List (List ClaimView)). (known.district ∷ []) ∷ cs) (one.claims_is ∙ ap (λ (cs : List ClaimView). cs ∷ []) read.3);
      next_read = known.read;
      read = subst (λ (is : List ℕ). AreItemsFound s.home next is read.1) (same_items read.0 items (sym found_here ∙ is)) read.4;
    }

-- ---- the stock

same_count : (count other : ℕ) → any_found.StockLevel (Low count) ∷ [] ≡ any_found.StockLevel (Low other) ∷ [] → count ≡ other
same_count count other same = cc

pub low_found : (shared : SharedTables) (s : StockLevel) (items : List ℕ) (found : List Found) (claims : List (List ClaimView))
    → HaveAllDone shared (any_work.StockLevel (CountLow s items) ∷ []) found claims → (count : ℕ) × (found ≡ any_found.StockLevel (Low count) ∷ [])
low_found shared s items found claims done =
    let one = one_done shared (CountLow s items) found claims done in
    (one.done.0, one.found_is ∙ ap (λ (f : OwnFound). any_found.StockLevel f ∷ []) one.done.1)

pub low_follows : (s : StockLevel) (items : List ℕ) (found : List Found) (count : ℕ) → found ≡ any_found.StockLevel (Low count) ∷ []
    → FollowsFrom (any_progress.StockLevel (at.CountLow s items)) found (Finish (reply.Done (kind.StockLevel (reply_counted count))))
low_follows s items found count is shared asked held claims known done opening same =
    let one = one_done shared (CountLow s items) found claims done in
    let read = one.done in
    let found_here : found ≡ any_found.StockLevel (Low read.0) ∷ [] = one.found_is ∙ ap (λ (f : OwnFound). any_found.StockLevel f ∷ []) read.1 in
    let low : IsLowFound s items count one.held = subst (λ (n : ℕ). IsLowFound s items n one.held) (same_count read.0 count (sym found_here ∙ is)) read.2 in
    let said = reply.Done (kind.StockLevel (reply_counted count)) in
    let all : held ++ claims ≡ (known.district ∷ []) ∷ (known.orders ∷ []) ∷ one.held ∷ [] =
    ap (λ (hs : List (List ClaimView)). hs ++ claims) known.claims ∙ ap (λ (cs : List (List ClaimView)). (known.district ∷ []) ∷ (known.orders ∷ []) ∷ cs) one.claims_is in
    let flat : all_claims (held ++ claims) ≡ known.district ∷ known.orders ∷ one.held =
    ap all_claims all ∙ ap (λ (cs : List ClaimView). known.district ∷ known.orders ∷ cs) (append-nil one.held) in
    subst (λ r. IsCarriedOut opening r (all_claims (held ++ claims)) said) (sym known.is)
    (subst (λ (cs : List ClaimView). IsCarriedOut opening (request.StockLevel s) cs said) (sym flat)
    (stock_levels_are_carried_out opening s known.next items count known.district known.orders one.held known.next_read known.read low))
