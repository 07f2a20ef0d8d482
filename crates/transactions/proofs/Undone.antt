-- What a claim left is nothing that a rolled back request speaks of.
use Rattle.std.proofs.Common.{[], ◌∷◌, List, map}
use Rattle.std.proofs.lemmas.List.Elements.{All-nil, All-cons, All-head, All-tail}
use Rattle.requests.specs.declared.group.Group.{Group}
use Rattle.groups.specs.Content.{Content, content}
use Rattle.tickets.specs.Claims.{ClaimView}
use Rattle.tickets.specs.Committed.{RecordsContent, Records}
use Rattle.transactions.specs.Laws.{undone, RolledBackClaimsCanBeUndone}

-- claims record the same once what was done under them is undone
recorded_before : (tables : Group → Content) (claims : List ClaimView) → Records tables (map undone claims) → Records tables claims
recorded_before tables [] recorded = All-nil (RecordsContent tables)
recorded_before tables (claim ∷ claims) recorded =
    All-cons (RecordsContent tables) claim claims
    (All-head (RecordsContent tables) (undone claim) (map undone claims) recorded)
    (recorded_before tables claims (All-tail (RecordsContent tables) (undone claim) (map undone claims) recorded))

pub rolled_back_claims_can_be_undone : RolledBackClaimsCanBeUndone
rolled_back_claims_can_be_undone opening r claims fault carried t scale items recorded = carried t scale items (recorded_before (content t) claims recorded)
