use Rattle.std.proofs.Common.{◌≡◌, suc, ◌+◌, ◌<◌, ◌≤◌, ◌++◌, ◌∷◌, get_or, drop, length, sym, ap, ◌∙◌, arith}
use Rattle.std.proofs.Math.Seq.{drop-cons, append_snoc}
use Rattle.std.proofs.lemmas.List.{append-nil, drop_all}
use Rattle.workload.specs.declared.kind.Kind.TheVariants.{NewOrder}
use Rattle.workload.specs.Requests.{request_drawn, requests_drawn}
use Rattle.workload.proofs.Scripts.{requests-first, requests-none}
use Rattle.workload.proofs.request_draws.draw_requests.Goals as goal

pub loop-number-preserved : goal.loop-number-preserved
loop-number-preserved c =
    let kinds = c.args.kinds.now in
    let number = c.loop-number.number in
    let terminal = c.args.terminal.now in
    let now = c.args.now in
    let kind = get_or kinds number NewOrder in
    let before = c.loop-number.draws in
    let after = c.request.new.draws in
    let request = c.in_ok-request.field-0 in
    let items = c.loop-number.requests.items in
    let drawn = c.in_ok-request.ensures ∙ ap (λ m. request_drawn terminal m kind before) c.moment_after-moment.ensures in
    let first = requests-first terminal now number kind (drop (number + 1) kinds) before request after drawn in
    let inside : number < length kinds = c.loop-number-test.true in
    let next : suc number ≡ number + 1 = omega arith in
    let rest : drop number kinds ≡ kind ∷ drop (number + 1) kinds = drop-cons kinds number NewOrder inside ∙ ap (λ n. kind ∷ drop n kinds) next in
    ap (λ xs. xs ++ requests_drawn terminal now (number + 1) (drop (number + 1) kinds) after) c.in_ok-push.ensures.items
    ∙ append_snoc items request (requests_drawn terminal now (number + 1) (drop (number + 1) kinds) after)
    ∙ ap (λ rs. items ++ rs) (sym first)
    ∙ ap (λ ks. items ++ requests_drawn terminal now number ks before) (sym rest)
    ∙ c.loop-number.invariant

pub returns : goal.returns
returns c =
    let kinds = c.args.kinds.now in
    let number = c.loop-number.number in
    let terminal = c.args.terminal.now in
    let items = c.loop-number.requests.items in
    let past : length kinds ≤ number = omega arith in
    sym (append-nil items)
    ∙ ap (λ rs. items ++ rs) (sym (requests-none terminal c.args.now number c.loop-number.draws))
    ∙ ap (λ ks. items ++ requests_drawn terminal c.args.now number ks c.loop-number.draws) (sym (drop_all number kinds past))
    ∙ c.loop-number.invariant
