-- The order of a dataset: by table, and within a table by key.
use Rattle.std.specs.Prelude.{ℕ, Bool, List, [], ◌∷◌}
use Rattle.std.specs.declared.cmp.Ordering.{Ordering}
use Rattle.std.specs.Ordering.{nat_cmp, is_le, is_lt}
use Rattle.std.specs.Cmp.Lexicographic.{slice_cmp}
use Rattle.dataset.specs.Columns.{Items, Warehouses, Districts, Stocks, Customers, Histories, Orders, NewOrders, Lines, table_number}
use Rattle.dataset.specs.declared.place.Place.{Place}
use Rattle.dataset.specs.declared.place.Place.TheVariants.{Header, Item, Warehouse, District, Stock, Customer, History, Order, NewOrder, Line}

-- the number of the table in the order of the tables, after the header's 0, followed by the numbers of the key
abbrev pub place_numbers : Place → List ℕ
place_numbers Header = 0 ∷ []
place_numbers (Item i_id) = table_number Items ∷ i_id ∷ []
place_numbers (Warehouse w_id) = table_number Warehouses ∷ w_id ∷ []
place_numbers (District key) = table_number Districts ∷ key.w_id ∷ key.d_id ∷ []
place_numbers (Stock key) = table_number Stocks ∷ key.w_id ∷ key.i_id ∷ []
place_numbers (Customer key) = table_number Customers ∷ key.w_id ∷ key.d_id ∷ key.c_id ∷ []
place_numbers (History key) = table_number Histories ∷ key.w_id ∷ key.d_id ∷ []
place_numbers (Order key) = table_number Orders ∷ key.w_id ∷ key.d_id ∷ key.o_id ∷ []
place_numbers (NewOrder key) = table_number NewOrders ∷ key.w_id ∷ key.d_id ∷ key.o_id ∷ []
place_numbers (Line key) = table_number Lines ∷ key.w_id ∷ key.d_id ∷ key.o_id ∷ key.number ∷ []

-- the order of places: by the first number that differs
abbrev pub place_cmp : Place → Place → Ordering
place_cmp a b = slice_cmp nat_cmp (place_numbers a) (place_numbers b)

-- Whether a record at the first place may directly follow one at the second. Only rows of HISTORY, which have no key,
-- may share a place.
abbrev pub follows : Place → Place → Bool
follows (History key) last = is_le (place_cmp last (History key))
follows place last = is_lt (place_cmp last place)
