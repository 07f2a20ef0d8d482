-- A file that was written gets its name, where all was printed.
use Rattle.std.proofs.Common.{Result, Ok, OnOk, ◌≡◌, ℕ, List, Option, None, Some, subst}
use Rattle.tpcc.specs.Edges.{NamesFile, HasWritten, IsNamed}

module _ {F P : Type 0} (contents : F → Option (List ℕ)) where
  from_written : (file : Option F) (AreRows : List (List (List ℕ)) → Type 0) (written : Option (P × F)) (named named' : Option (List (Option (List ℕ))))
      → HasWritten contents file AreRows written → IsNamed contents written named named' → NamesFile contents file named named' AreRows
  from_written None AreRows None named named' has is = is
  from_written None AreRows (Some whole) named named' has is = let no : Some whole ≡ None = has in absurd cc
  from_written (Some file) AreRows None named named' has is = absurd has
  from_written (Some file) AreRows (Some whole) named named' has is = (contents whole.1, has, is)

  pub names_written : (file : Option F) (AreRows : List (List (List ℕ)) → Type 0) (written : Option (P × F)) (named between named' : Option (List (Option (List ℕ))))
      → between ≡ named → HasWritten contents file AreRows written → IsNamed contents written between named' → NamesFile contents file named named' AreRows
  names_written file AreRows written named between named' same has is =
      subst (λ old. NamesFile contents file old named' AreRows) same (from_written file AreRows written between named' has is)

-- what is so where all was printed
pub printed_well : {T E P : Type 0} (printed : Result T E) (t : T) → printed ≡ Ok t → OnOk printed P → P
printed_well {T} {E} {P} printed t is well = let Well : Result T E → Type 0 = λ r. OnOk r P in subst Well is well
