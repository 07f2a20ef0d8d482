-- The note that a payment adds to the data of a customer with bad credit (clause 2.5.2.2).
use Rattle.std.specs.Prelude.{ℕ, List, ◌++◌, codes}
use Rattle.std.specs.Fmt.{decimal}
use Rattle.rows.specs.declared.keys.DistrictKey.{DistrictKey}
use Rattle.rows.specs.declared.keys.CustomerKey.{CustomerKey}

-- C_ID, C_D_ID, C_W_ID, D_ID, W_ID and the amount in cents, separated by spaces, then a bar
abbrev pub payment_note : CustomerKey → DistrictKey → ℕ → List ℕ
payment_note customer district amount =
    decimal customer.c_id ++ codes " " ++ decimal customer.d_id ++ codes " " ++ decimal customer.w_id ++ codes " "
    ++ decimal district.d_id ++ codes " " ++ decimal district.w_id ++ codes " " ++ decimal amount ++ codes "|"
