-- The three tables of orders with one order more.
use Rattle.std.proofs.Common.{◌≡◌, List, [], ◌∷◌, ◌++◌, map, sym, ap, ◌∙◌, append-nil}
use Rattle.std.proofs.lemmas.List.{map-append}
use Rattle.std.proofs.lemmas.List.Elements.{filter-append}
use Rattle.std.proofs.lemmas.List.Concat.{flat_map-append}
use Rattle.std.specs.List.{filter, flat_map, range_with_len}
use Rattle.std.specs.Map.{keys_of}
use Rattle.rows.specs.declared.keys.OrderKey.{OrderKey}
use Rattle.rows.specs.declared.keys.OrderLineKey.{OrderLineKey}
use Rattle.rows.specs.declared.records.Order.{Order}
use Rattle.rows.specs.declared.records.NewOrder.{NewOrder}
use Rattle.rows.specs.declared.records.OrderLine.{OrderLine}
use Rattle.rows.specs.Keys.{order_cmp}
use Rattle.schema.specs.declared.scale.Scale.{Scale}
use Rattle.population.specs.Append.{AreBefore}
use Rattle.schema.specs.OrderRows.{line_key}
use Rattle.population.specs.Book.{is_new_order, line_keys}
use Rattle.population.proofs.Lists.{each_same, each_kept}

-- the new orders are before what all orders are before
pub new_before : (scale : Scale) (key : OrderKey) (orders : List (OrderKey × Order)) (news : List (OrderKey × NewOrder)) → AreBefore order_cmp key orders
    → keys_of news ≡ filter (is_new_order scale) (keys_of orders) → AreBefore order_cmp key news
new_before scale key orders news before is = each_same _ _ _ is (each_kept _ (is_new_order scale) (keys_of orders) before)

module _ (key : OrderKey) (row : Order) (old new : List (OrderKey × Order)) (added : new ≡ old ++ (key, row) ∷ []) where
  keys_more : keys_of new ≡ keys_of old ++ key ∷ []
  keys_more = ap keys_of added ∙ map-append (λ (e : OrderKey × Order). e.0) old ((key, row) ∷ [])

  pub new_keys_more : (scale : Scale) (before after : List (OrderKey × NewOrder)) → keys_of before ≡ filter (is_new_order scale) (keys_of old)
      → keys_of after ≡ keys_of before ++ filter (is_new_order scale) (key ∷ []) → keys_of after ≡ filter (is_new_order scale) (keys_of new)
  new_keys_more scale before after had more =
      more ∙ ap (λ l. l ++ filter (is_new_order scale) (key ∷ [])) had
      ∙ sym (ap (filter (is_new_order scale)) keys_more ∙ filter-append (is_new_order scale) (keys_of old) (key ∷ []))

  pub line_keys_more : (before after : List (OrderLineKey × OrderLine)) → keys_of before ≡ flat_map line_keys old
      → keys_of after ≡ keys_of before ++ map (line_key key) (range_with_len 1 row.ol_cnt) → keys_of after ≡ flat_map line_keys new
  line_keys_more before after had more =
      more ∙ ap (λ l. l ++ map (line_key key) (range_with_len 1 row.ol_cnt)) had
      ∙ sym (ap (flat_map line_keys) added ∙ flat_map-append line_keys old ((key, row) ∷ [])
      ∙ ap (λ l. flat_map line_keys old ++ l) (append-nil (line_keys (key, row))))
