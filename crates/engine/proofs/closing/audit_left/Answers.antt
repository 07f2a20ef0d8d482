use Rattle.std.proofs.Common.{rules, ◌≡◌, ℕ, ◌+◌, List, [], ◌∷◌, ◌++◌, length, map, slice_get, Result, Some, refl, sym, ap, subst, ◌∙◌, arith, length-append}
use Rattle.std.specs.Prelude.{All}
use Rattle.std.proofs.lemmas.List.{append_assoc, length-map, map-append}
use Rattle.std.proofs.lemmas.List.Elements.{All-push}
use Rattle.requests.specs.declared.script.Part.{Part}
use Rattle.requests.specs.declared.refusal.Refusal.{Refusal}
use Rattle.commit_log.specs.declared.entry.Entry.{Entry}
use Rattle.commit_log.specs.Items.{items_of}
use Rattle.requests.specs.Script.{AreNumberedByPlace}
use Rattle.engine.specs.Rules.{rules_of}
use Rattle.engine.specs.Served.{Served}
use Rattle.engine.specs.declared.session.Left.{Left}
use Rattle.engine.proofs.Sessions.{asked_next, each_next}
use Rattle.engine.proofs.closing.audit_left.Goals as goal

-- one more session, which asked the script at its place
pub loop-session-preserved : goal.loop-session-preserved
loop-session-preserved g c =
    let own = rules_of g.J.LogNames.opening g.J.LogNames.most in
    let known = c.loop-session.invariant in
    let one = c.in-Some.session in
    let rest = c.next.new.self.rest.items in
    let left = c.args.left.items in
    let done = known.so_far.0 in
    let first = length c.args.answers.now.items in
    let recorded = c.in-Some-audit in
    let before = c.args.answers.now.items in
    let asked = λ (l : Left g.row.J.Denot). l.session.script in
    let answers = λ (l : Left g.row.J.Denot). l.session.answers in
    let next : c.loop-session.session-iterator.rest.items ≡ one ∷ rest = search rules in
    let all : left ≡ done ++ one ∷ rest = known.so_far.1 ∙ ap (λ (l : List (Left g.row.J.Denot)). done ++ l) next in
    let many : length c.loop-session.answers.items ≡ first + length done =
    ap length known.so_far.3 ∙ length-append before (map answers done) ∙ ap (λ n. first + n) (length-map done answers) in
    let place = length c.loop-session.answers.items in
    let number : c.len-in-loop-session.result ≡ place = omega (arith, c.len-in-loop-session.ensures, c.loop-session.answers.ok.0) in
    let served = subst (λ (l : List Entry). Served own recorded.script recorded.recorded (items_of place l) (length l)) known.same
    (subst (λ (n : ℕ). Served own recorded.script recorded.recorded (items_of n c.loop-session.log) (length c.loop-session.log)) number
    (subst (λ (ps : List Part). Served own ps recorded.recorded (items_of c.len-in-loop-session.result c.loop-session.log) (length c.loop-session.log)) (sym recorded.ensures.asked) recorded.ensures.served)) in
    record {
      can_next = tt;
      finite = tt;
      so_far = (
        done ++ one ∷ [],
        all ∙ sym (append_assoc done (one ∷ []) rest),
        c.in_ok-put.ensures ∙ ap (λ (l : List (List Part)). l ++ recorded.script ∷ []) known.so_far.2 ∙ ap (λ (s : List Part). map asked done ++ s ∷ []) recorded.ensures.asked ∙ sym (map-append asked done (one ∷ [])),
        c.in_ok-put-2.ensures ∙ ap (λ (l : List (List (Result ℕ Refusal))). l ++ recorded.recorded ∷ []) known.so_far.3 ∙ append_assoc before (map answers done) (recorded.recorded ∷ [])
            ∙ ap (λ (l : List (List (Result ℕ Refusal))). before ++ l) (ap (λ (s : List (Result ℕ Refusal)). map answers done ++ s ∷ []) recorded.ensures.recorded ∙ sym (map-append answers done (one ∷ []))),
      );
      each = λ scripts behind before.
          each_next own scripts c.args.log.now c.loop-session.answers.items c.put-in-loop-session.new.items.items place recorded.script recorded.recorded (known.each scripts behind before) refl
          (ap (λ (n : ℕ). slice_get scripts n) many ∙ asked_next first scripts left done rest one all behind ∙ ap Some (sym recorded.ensures.asked)) served c.in_ok-put-2.ensures;
      numbered = subst (All AreNumberedByPlace) (sym c.in_ok-put.ensures) (All-push AreNumberedByPlace c.loop-session.asked.items recorded.script known.numbered recorded.ensures.numbered);
      same = recorded.ensures.same ∙ known.same;
    }
