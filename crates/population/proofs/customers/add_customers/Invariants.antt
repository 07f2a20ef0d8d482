use Rattle.population.specs.Rows.{AddsCustomers, AreOpeningPayments}
use Rattle.population.proofs.customers.add_customers.Given as goal

abbrev pub invariant-loop-place : goal.invariant-loop-place
invariant-loop-place l = record {
  rows : AddsCustomers l.now l.place l.fn.customers.items l.customers.items;
  payments : AreOpeningPayments l.now l.home l.place l.payments;
}
