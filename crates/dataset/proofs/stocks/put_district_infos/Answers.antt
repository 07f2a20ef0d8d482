use Rattle.std.proofs.Common.{◌≡◌, ◌+◌, ◌<◌, ◌++◌, ◌∷◌, [], List, ℕ, length, map, take, ap, sym, subst, ◌∙◌}
use Rattle.std.proofs.lemmas.List.{map-append}
use Rattle.dataset.specs.Records.{Field, Words}
use Rattle.dataset.specs.Writing.{Adds}
use Rattle.dataset.proofs.Lists.{take-next}
use Rattle.dataset.proofs.Texts.{adds-then, adds-words}
use Rattle.dataset.proofs.stocks.put_district_infos.Goals as goal

pub loop-info-preserved : goal.loop-info-preserved
loop-info-preserved c =
    let infos = c.args.infos.now in
    let i = c.loop-info.info-index in
    let info = c.info-item.result in
    let field = λ (text : List ℕ). Words text in
    let below : i < length infos = c.loop-info-test.true in
    let one : map field (take (i + 1) infos) ≡ map field (take i infos) ++ (Words info ∷ []) =
    ap (map field) (take-next infos i info below c.info-item.is) ∙ map-append field (take i infos) (info ∷ []) in
    let adds : List Field → Type 0 = λ fields. Adds fields c.args.out.now c.push.new.self in
    subst adds (sym one) (adds-then c.loop-info.invariant (adds-words info _ c.as_str.ensures.bytes c.in_ok-push.ensures.added))
