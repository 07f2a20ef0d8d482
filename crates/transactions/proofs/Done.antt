-- What actions have done, taken one by one.
use Rattle.std.proofs.Common.{◌≡◌, List, [], ◌∷◌, refl}
use Rattle.partitions.specs.Parts.{SharedTables}
use Rattle.tickets.specs.Claims.{ClaimView}
use Rattle.transactions.specs.declared.work.Work.{Work}
use Rattle.transactions.specs.declared.work.Found.{Found}
use Rattle.transactions.specs.Works.{HasDone, HaveAllDone}

-- the first of them found this, under these claims, and so did the others
pub record FirstHasDone (shared : SharedTables) (work : Work) (works : List Work) (found : List Found) (claims : List (List ClaimView)) : Type 0 where
  pub one : Found
  pub others : List Found
  pub held : List ClaimView
  pub rest : List (List ClaimView)
  pub found_is : found ≡ one ∷ others
  pub claims_is : claims ≡ held ∷ rest
  pub done : HasDone shared work one held
  pub others_done : HaveAllDone shared works others rest

pub first_done : (shared : SharedTables) (work : Work) (works : List Work) (found : List Found) (claims : List (List ClaimView))
    → HaveAllDone shared (work ∷ works) found claims → FirstHasDone shared work works found claims
first_done shared work works [] claims done = absurd done
first_done shared work works (one ∷ others) [] done = absurd done
first_done shared work works (one ∷ others) (held ∷ rest) done =
    record { one = one; others = others; held = held; rest = rest; found_is = refl; claims_is = refl; done = done.0; others_done = done.1 }

-- where there are none, nothing was found
pub none_done : (shared : SharedTables) (found : List Found) (claims : List (List ClaimView)) → HaveAllDone shared [] found claims → (found ≡ []) × (claims ≡ [])
none_done shared [] [] done = (refl, refl)
none_done shared [] (held ∷ rest) done = absurd done
none_done shared (one ∷ others) claims done = absurd done
