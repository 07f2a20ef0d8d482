-- The fields of a Stock-Level and of its reply.
use Rattle.std.specs.Prelude.{ℕ, List, [], ◌∷◌, codes}
use Rattle.std.specs.Fmt.{decimal}
use Rattle.requests.specs.declared.stock_level.StockLevel.{StockLevel}
use Rattle.requests.specs.declared.stock_level.StockLevelReply.{StockLevelReply}

-- The letter and the values of the request.
abbrev pub stock_level_fields : StockLevel → List (List ℕ)
stock_level_fields s = codes "L" ∷ decimal s.home.w_id ∷ decimal s.home.d_id ∷ decimal s.threshold ∷ []

-- The letter and what is shown (clause 2.8.3.3).
abbrev pub stock_level_reply_fields : StockLevelReply → List (List ℕ)
stock_level_reply_fields shown = codes "L" ∷ decimal shown.count ∷ []
