use Rattle.std.proofs.Common.{sym, ap, subst, ◌∙◌, rules}
use Rattle.std.proofs.lemmas.List.Elements.{same_from_all_zip}
use Rattle.std.proofs.lemmas.Map.Entries.{entries_from_clone}
use Rattle.schema.specs.PackedLines.{all_lines, AreKept}
use Rattle.schema.proofs.order_lines.OrderLines.try_clone.Goals as goal

pub invariant_of-result : goal.invariant_of-result
invariant_of-result c =
    subst (λ es. AreKept es c.self.inside.count) (sym (entries_from_clone _ _ (λ x y h. search rules) (λ v w h. search (rules, same_from_all_zip, h)) _ _ c.in_ok-clone.ensures.cases)) c.self.invariant

pub returns : goal.returns
returns c = ap all_lines (entries_from_clone _ _ (λ x y h. search rules) (λ v w h. search (rules, same_from_all_zip, h)) _ _ c.in_ok-clone.ensures.cases) ∙ c.self.view_is
