-- What a claim settles, where it left in its group what a row that was put in made there.
use Rattle.std.proofs.Common.{◌≡◌, ◌≢◌, ◌⊎◌, inl, inr, Bool, true, false, cond, sym, ap, ◌∙◌}
use Rattle.schema.specs.Database.{Database}
use Rattle.requests.specs.declared.group.Group.{Group}
use Rattle.groups.specs.Groups.{is_same}
use Rattle.groups.specs.Content.{Content, content}
use Rattle.groups.specs.Laws.{ChangesOneGroup}
use Rattle.tickets.specs.Claims.{ClaimView, committed_by}
use Rattle.tickets.specs.Committed.{content_after}
use Rattle.tickets.proofs.Apart.{apart}
use Rattle.transactions.specs.Granted.{IsExclusiveOn}

module _ (own : Group) (change : Content → Content) (old new : Database) (put : ChangesOneGroup own change old new) where
  content_put : (group : Group) (same : Bool)
      → ((same ≡ true) × (own ≡ group)) ⊎ ((same ≡ false) × (own ≢ group))
      → content new group ≡ cond same (change (content old own)) (content old group)
  content_put group same (inl here) =
      ap (content new) (sym here.1) ∙ put.here ∙ ap (λ b. cond b (change (content old own)) (content old group)) (sym here.0)
  content_put group same (inr elsewhere) =
      put.elsewhere group (λ equal. elsewhere.1 (sym equal)) ∙ ap (λ b. cond b (change (content old own)) (content old group)) (sym elsewhere.0)

  -- the tables with the row have in each group what is committed there once the claim is settled
  pub put-settles : (claim : ClaimView) → IsExclusiveOn own claim → claim.left ≡ change (content old own)
      → (group : Group) → content new group ≡ content_after group (content old group) claim
  put-settles claim on left group =
      let made : content_after group (content old group) claim ≡ cond (is_same own group) (change (content old own)) (content old group) =
      λ i. cond (is_same (on.group i) group) (committed_by (on.mode i) (left i) (content old group)) (content old group) in
      content_put group (is_same own group) (apart own group) ∙ sym made
