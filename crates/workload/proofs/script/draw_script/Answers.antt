use Rattle.std.proofs.Common.{◌≡◌, ℕ, ◌+◌, ◌*◌, ◌^◌, length, map, sym, ap, ◌∙◌, subst, arith}
use Rattle.std.specs.Prelude.{List, All}
use Rattle.std.proofs.lemmas.Result.{IfOk-weaker}
use Rattle.rand_pcg.specs.Lcg.{Lcg}
use Rattle.requests.specs.declared.terminal_request.TerminalRequest.{TerminalRequest}
use Rattle.number_draws.specs.Words.{seeded}
use Rattle.workload.specs.declared.kind.Kind.{Kind}
use Rattle.workload.specs.declared.terminal.Terminal.{Terminal}
use Rattle.workload.specs.Kinds.{kind_of}
use Rattle.workload.specs.Decks.{AreDealt, cards_of, kinds_drawn}
use Rattle.workload.specs.Requests.{requests_drawn}
use Rattle.workload.specs.Sessions.{terminal_of, script_drawn}
use Rattle.workload.specs.Within.{AreAccepted, IsWithin}
use Rattle.workload.proofs.Dealt.{kinds-count}
use Rattle.workload.proofs.WholeScripts.{script-count, script-accepted, script-within, script-mix}
use Rattle.workload.proofs.script.draw_script.Goals as goal

pub draw_requests-requires : goal.draw_requests-requires
draw_requests-requires c =
    let count = ap length (c.as_slice.ensures.value ∙ c.in_ok-kinds.ensures) ∙ kinds-count c.args.workload.now.mix c.args.workload.now.requests c.new-deck_draws.result in
    omega arith

pub returns-clause-drawn : goal.returns-clause-drawn
unfolding script_drawn
returns-clause-drawn c =
    let workload = c.args.workload.now in
    let session = c.args.session in
    let drawn : Terminal → List Kind → Lcg → List TerminalRequest = λ t ks g. requests_drawn t workload.start 0 ks g in
    let generator : ℕ → ℕ → ℕ → Lcg = λ seed place more. seeded (seed + 2 ^ 32 * (2 * place + more)) in
    let of_session = λ (more : ℕ). ap (λ seed. generator seed c.from-place.result more) c.from-seed.ensures ∙ ap (λ place. generator workload.seed place more) c.from-place.ensures in
    let kinds = c.as_slice.ensures.value ∙ c.in_ok-kinds.ensures ∙ ap (kinds_drawn workload.mix workload.requests) (c.new-deck_draws.ensures ∙ of_session 1) in
    let script = ap (λ (t : Terminal). drawn t c.as_slice.result.now c.new-draws.result) c.terminal-terminal.ensures
    ∙ ap (λ (ks : List Kind). drawn (terminal_of workload session) ks c.new-draws.result) kinds
    ∙ ap (drawn (terminal_of workload session) (kinds_drawn workload.mix workload.requests (seeded (workload.seed + 2 ^ 32 * (2 * session + 1))))) (c.new-draws.ensures ∙ of_session 2) in
    IfOk-weaker c.draw_requests.result _ (λ asked. asked.items ≡ script_drawn workload session) (λ asked is. is ∙ script) c.draw_requests.ensures

pub returns-clause-count : goal.returns-clause-count
returns-clause-count c =
    IfOk-weaker c.draw_requests.result _ (λ asked. length asked.items ≡ c.args.workload.now.requests) (λ asked is. ap length is ∙ script-count c.args.workload.now c.args.session) (returns-clause-drawn c)

pub returns-clause-accepted : goal.returns-clause-accepted
returns-clause-accepted c =
    let Are : List TerminalRequest → Type 0 = All (AreAccepted c.args.workload.now.scale) in
    IfOk-weaker c.draw_requests.result _ (λ asked. Are asked.items) (λ asked is. subst Are (sym is) (script-accepted c.args.workload.now c.args.session)) (returns-clause-drawn c)

pub returns-clause-within : goal.returns-clause-within
returns-clause-within c =
    let Are : List TerminalRequest → Type 0 = All (IsWithin (terminal_of c.args.workload.now c.args.session)) in
    IfOk-weaker c.draw_requests.result _ (λ asked. Are asked.items) (λ asked is. subst Are (sym is) (script-within c.args.workload.now c.args.session)) (returns-clause-drawn c)

pub returns-clause-mix : goal.returns-clause-mix
returns-clause-mix c =
    let Are : List TerminalRequest → Type 0 = λ script. AreDealt (cards_of c.args.workload.now.mix) (map kind_of script) in
    IfOk-weaker c.draw_requests.result _ (λ asked. Are asked.items) (λ asked is. subst Are (sym is) (script-mix c.args.workload.now c.args.session)) (returns-clause-drawn c)
