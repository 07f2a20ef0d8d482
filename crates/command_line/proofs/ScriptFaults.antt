-- The mistakes in the words of `tpcc script`, each where those before it are absent.
use Rattle.std.proofs.Common.{◌≡◌, codes, inl, inr}
use Rattle.rows.specs.declared.limits.TheConstants.{MOST_ENTRIES, MOST_WAREHOUSES}
use Rattle.clap.specs.Words.{first_value}
use Rattle.clap.specs.declared.parser.matches.Found.{Found}
use Rattle.command_line.specs.declared.usage.UsageFault.{UsageFault}
use Rattle.command_line.specs.declared.usage.UsageFault.TheVariants as usage
use Rattle.command_line.specs.Mistakes.{IsMixFault, IsMixWord, IsMomentFault, IsNumberFault, IsNumberWord, IsOptionFault, IsRemoteFault, IsRemoteWord}

module _ (found : Found) (fault : UsageFault) where
  pub of_mix : IsNumberWord 0 MOST_ENTRIES (first_value found (codes "requests")) → IsNumberWord 0 4294967295 (first_value found (codes "seed"))
      → fault ≡ usage.Mix → IsMixFault (first_value found (codes "mix")) → IsOptionFault found fault
  of_mix requests seed is wrong = inr (requests, inr (seed, inl (is, wrong)))

  pub of_home : IsNumberWord 0 MOST_ENTRIES (first_value found (codes "requests")) → IsNumberWord 0 4294967295 (first_value found (codes "seed"))
      → IsMixWord (first_value found (codes "mix")) → IsNumberFault (codes "--home") 1 MOST_WAREHOUSES (first_value found (codes "home")) fault → IsOptionFault found fault
  of_home requests seed mix wrong = inr (requests, inr (seed, inr (mix, inl wrong)))

  pub of_remote : IsNumberWord 0 MOST_ENTRIES (first_value found (codes "requests")) → IsNumberWord 0 4294967295 (first_value found (codes "seed"))
      → IsMixWord (first_value found (codes "mix")) → IsNumberWord 1 MOST_WAREHOUSES (first_value found (codes "home"))
      → fault ≡ usage.Remote → IsRemoteFault (first_value found (codes "remote")) → IsOptionFault found fault
  of_remote requests seed mix home is wrong = inr (requests, inr (seed, inr (mix, inr (home, inl (is, wrong)))))

  pub of_moment : IsNumberWord 0 MOST_ENTRIES (first_value found (codes "requests")) → IsNumberWord 0 4294967295 (first_value found (codes "seed"))
      → IsMixWord (first_value found (codes "mix")) → IsNumberWord 1 MOST_WAREHOUSES (first_value found (codes "home"))
      → IsRemoteWord (first_value found (codes "remote")) → IsMomentFault (first_value found (codes "now")) fault → IsOptionFault found fault
  of_moment requests seed mix home remote wrong = inr (requests, inr (seed, inr (mix, inr (home, inr (remote, wrong)))))
