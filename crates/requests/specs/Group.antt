-- The text of a group.
use Rattle.std.specs.Prelude.{ℕ, List, ◌++◌, codes}
use Rattle.std.specs.Fmt.{decimal}
use Rattle.requests.specs.declared.group.Group.{Group}
use Rattle.requests.specs.declared.group.Group.TheVariants.{Warehouse, District, Customers, Orders, History, Stock}

-- the letters of the kind, the warehouse and the number, with points between
abbrev pub numbered_text : List ℕ → ℕ → ℕ → List ℕ
numbered_text kind w_id number = kind ++ (codes "." ++ (decimal w_id ++ (codes "." ++ decimal number)))

-- the text of a group: the letters of its kind, its warehouse and its number, if it has one
abbrev pub group_text : Group → List ℕ
group_text (Warehouse w_id) = codes "WH" ++ (codes "." ++ decimal w_id)
group_text (District w_id d_id) = numbered_text (codes "DI") w_id d_id
group_text (Customers w_id d_id) = numbered_text (codes "CU") w_id d_id
group_text (Orders w_id d_id) = numbered_text (codes "OR") w_id d_id
group_text (History w_id d_id) = numbered_text (codes "HI") w_id d_id
group_text (Stock w_id residue) = numbered_text (codes "ST") w_id residue
