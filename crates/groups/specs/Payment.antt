-- The groups that a payment claims.
use Rattle.std.specs.Prelude.{List, [], ◌∷◌}
use Rattle.requests.specs.declared.group.Group.TheVariants.{Warehouse, District, Customers, History}
use Rattle.requests.specs.declared.payment.Payment.{Payment}
use Rattle.groups.specs.declared.group_wants.GroupWant.{GroupWant}
use Rattle.groups.specs.Modes.{exclusively}

-- A payment changes the home warehouse's row, the home district's, the row of a customer of the customer's district,
-- and the list of payments taken at the home district (clause 2.5.2.2).
abbrev pub payment_footprint : Payment → List GroupWant
payment_footprint p =
    exclusively (Warehouse p.home.w_id)
    ∷ exclusively (District p.home.w_id p.home.d_id)
    ∷ exclusively (Customers p.customer_home.w_id p.customer_home.d_id)
    ∷ exclusively (History p.home.w_id p.home.d_id) ∷ []
