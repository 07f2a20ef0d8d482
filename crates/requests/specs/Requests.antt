-- Requests of any kind.
use Rattle.requests.specs.declared.request.Request.{Request}
use Rattle.requests.specs.declared.request.Request.TheVariants.{Payment}
use Rattle.requests.specs.declared.request.Choice.TheVariants.{Number}

-- the default in place of a missing request: a payment of 0 cents by no customer, which no check accepts
abbrev pub no_request : Request
no_request = Payment record {
  home = record { w_id = 0; d_id = 0 };
  customer_home = record { w_id = 0; d_id = 0 };
  customer = Number 0;
  amount = 0;
  moment = 0;
}
