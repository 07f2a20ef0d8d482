use Rattle.std.proofs.Common.{[], ◌∷◌, ◌++◌, Option, sym, ap, ◌∙◌}
use Rattle.std.specs.List.{cons_option, filter_map}
use Rattle.std.proofs.lemmas.List.{append-nil}
use Rattle.std.proofs.lemmas.List.Elements.{filter_map-append}
use Rattle.transactions.specs.declared.new_order.LineSold.{LineSold}
use Rattle.transactions.proofs.new_order.deciding.filled_places.Goals as goal

pub loop-place-preserved-in-Continue-branch-2 : goal.loop-place-preserved-in-Continue-branch-2
loop-place-preserved-in-Continue-branch-2 c =
    c.in_ok-push.ensures.items ∙ ap (λ lines. lines ++ c.in-Some-place.line ∷ []) c.loop-place.invariant
    ∙ ap (λ (place : Option LineSold). filter_map (λ place. place) c.loop-place.yielded ++ cons_option place []) (sym c.in-Some-place.is)
    ∙ sym (filter_map-append (λ place. place) c.loop-place.yielded (c.in-Some.place ∷ []))

pub loop-place-preserved : goal.loop-place-preserved
loop-place-preserved c =
    c.loop-place.invariant ∙ sym (append-nil (filter_map (λ place. place) c.loop-place.yielded))
    ∙ ap (λ (place : Option LineSold). filter_map (λ place. place) c.loop-place.yielded ++ cons_option place []) (sym c.in_default.is)
    ∙ sym (filter_map-append (λ place. place) c.loop-place.yielded (c.in-Some.place ∷ []))
