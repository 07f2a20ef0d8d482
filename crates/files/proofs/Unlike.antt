-- What is not so.
use Rattle.std.proofs.Common.{◌≡◌, ℕ, List, Bool, true, false, refl}
use Rattle.std.specs.Cmp.Lexicographic.{bytes_decides}
use Rattle.std.specs.Str.{bytes_eq}

pub true_false : true ≡ false → ⊥
true_false e = cc

pub false_unless : (b : Bool) → (b ≡ true → ⊥) → b ≡ false
false_unless true h = absurd (h refl)
false_unless false h = refl

-- a word that is not the known one
pub other : (word known : List ℕ) → (word ≡ known → ⊥) → bytes_eq word known ≡ false
other word known none = false_unless (bytes_eq word known) (λ h. none ((bytes_decides word known).0 h))
