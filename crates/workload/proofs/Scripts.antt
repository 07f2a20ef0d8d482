-- Requests and decks, one after another.
use Rattle.std.proofs.Common.{◌≡◌, ℕ, zero, suc, ◌+◌, ◌-◌, ◌≤◌, List, [], ◌∷◌, ◌++◌, length, refl, sym, ap, ◌∙◌, arith}
use Rattle.rand_pcg.specs.Lcg.{Lcg}
use Rattle.requests.specs.declared.terminal_request.TerminalRequest.{TerminalRequest}
use Rattle.number_draws.specs.Words.{beyond}
use Rattle.number_draws.specs.Draws.{shuffled}
use Rattle.workload.specs.declared.kind.Kind.{Kind}
use Rattle.workload.specs.declared.terminal.Terminal.{Terminal}
use Rattle.workload.specs.Decks.{decks_drawn}
use Rattle.workload.specs.Requests.{moment_at, request_drawn, requests_drawn}

-- the first request, and the others
pub requests-first : (terminal : Terminal) (now number : ℕ) (kind : Kind) (kinds : List Kind) (generator : Lcg) (request : TerminalRequest) (after : Lcg)
    → (request, after) ≡ request_drawn terminal (moment_at now number) kind generator
    → requests_drawn terminal now number (kind ∷ kinds) generator ≡ request ∷ requests_drawn terminal now (number + 1) kinds after
unfolding requests_drawn
requests-first terminal now number kind kinds generator request after drawn =
    ap (λ (p : TerminalRequest × Lcg). p.0 ∷ requests_drawn terminal now (number + 1) kinds p.1) (sym drawn)

-- none
pub requests-none : (terminal : Terminal) (now number : ℕ) (generator : Lcg) → requests_drawn terminal now number [] generator ≡ []
unfolding requests_drawn
requests-none terminal now number generator = refl

-- the first deck, and the others
pub decks-first : (count : ℕ) (deck next : List Kind) (generator after : Lcg) → 1 ≤ count
    → next ≡ shuffled (length deck - 1) deck generator → after ≡ beyond (length deck - 1) generator
    → decks_drawn count deck generator ≡ next ++ decks_drawn (count - 1) next after
unfolding decks_drawn
decks-first zero deck next generator after h shuffled_is after_is = absurd (omega arith)
decks-first (suc left) deck next generator after h shuffled_is after_is =
    let same : left ≡ suc left - 1 = omega arith in
    ap (λ (d : List Kind). d ++ decks_drawn left d (beyond (length deck - 1) generator)) (sym shuffled_is)
    ∙ ap (λ (g : Lcg). next ++ decks_drawn left next g) (sym after_is)
    ∙ ap (λ (n : ℕ). next ++ decks_drawn n next after) same

-- none
pub decks-none : (count : ℕ) (deck : List Kind) (generator : Lcg) → count ≡ 0 → decks_drawn count deck generator ≡ []
unfolding decks_drawn
decks-none zero deck generator h = refl
decks-none (suc left) deck generator h = absurd (omega arith)
