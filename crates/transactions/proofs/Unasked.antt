-- A placeholder for a transaction, where a definition needs one and none is in flight.
use Rattle.requests.specs.declared.payment.Payment.{Payment}
use Rattle.requests.specs.declared.request.Choice.TheVariants.{Number}
use Rattle.requests.specs.declared.request.Request.{Request}
use Rattle.requests.specs.declared.request.Request.TheVariants as request
use Rattle.transactions.specs.declared.payment.Progress.TheVariants.{PayRows}
use Rattle.transactions.specs.declared.progress.Progress.{Progress}
use Rattle.transactions.specs.declared.progress.Progress.TheVariants as progress

unasked_payment : Payment
unasked_payment = record { home = record { w_id = 1; d_id = 1 }; customer_home = record { w_id = 1; d_id = 1 }; customer = Number 1; amount = 100; moment = 0 }

-- what it asks
pub unasked : Request
unasked = request.Payment unasked_payment

-- where it begins
pub unasked_progress : Progress
unasked_progress = progress.Payment (PayRows unasked_payment)
