-- The check of a request by itself answers only the refusals 1 to 8.
use Rattle.std.proofs.Common.{◌≡◌, ◌≤◌, Option, Some, None, Err, refl, subst, rules}
use Rattle.std.specs.Prelude.{All, find}
use Rattle.schema.specs.declared.scale.Scale.{Scale}
use Rattle.requests.specs.declared.request.Request.{Request}
use Rattle.requests.specs.declared.refusal.Refusal.{Refusal}
use Rattle.requests.specs.Refusal.{refusal_number}
use Rattle.requests.specs.Check.{applies, check_of, refusals, refused_by}
use Rattle.requests.proofs.Found.{found_among}

abbrev IsByItself : Refusal → Type 0
IsByItself refusal = refusal_number refusal ≤ 8

all_by_themselves : All IsByItself refusals
all_by_themselves = Prim.search rules

of_found : (found : Option Refusal) (why : Refusal) → ((refusal : Refusal) → found ≡ Some refusal → IsByItself refusal) → refused_by found ≡ Err why → IsByItself why
of_found None why h is = absurd (cc)
of_found (Some refusal) why h is = let same : refusal ≡ why = cc in subst IsByItself same (h refusal refl)

pub refused_by_itself : (scale : Scale) (request : Request) (why : Refusal) → check_of scale request ≡ Err why → refusal_number why ≤ 8
refused_by_itself scale request why is =
    of_found (find (applies scale request) refusals) why
    (λ refusal found. found_among IsByItself (applies scale request) refusals refusal all_by_themselves found) is
