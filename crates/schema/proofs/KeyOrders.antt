-- The orders of the keys are total, and keys that compare alike are equal.
use Rattle.std.proofs.Common.{ℕ, ap}
use Rattle.std.specs.Ordering.{nat_cmp}
use Rattle.std.specs.Cmp.{IsTotalOrder, nat_cmp_total}
use Rattle.std.specs.FinMap.{IsAntisymmetric}
use Rattle.std.proofs.lemmas.Cmp.{on_total, then_total}
use Rattle.std.proofs.lemmas.Map.Lookups.{exact_pairs, exact_unsigned}
use Rattle.rows.specs.Keys.{district_cmp, stock_cmp, customer_cmp, order_cmp, line_cmp}

pub districts_total : IsTotalOrder district_cmp
districts_total = then_total (on_total (λ k. k.w_id) nat_cmp_total) (on_total (λ k. k.d_id) nat_cmp_total)

pub districts_exact : IsAntisymmetric district_cmp
districts_exact a b h =
    ap (λ (p : ℕ × ℕ). record { w_id = p.0; d_id = p.1 })
    (exact_pairs nat_cmp nat_cmp exact_unsigned exact_unsigned (a.w_id, a.d_id) (b.w_id, b.d_id) h)

pub stocks_total : IsTotalOrder stock_cmp
stocks_total = then_total (on_total (λ k. k.w_id) nat_cmp_total) (on_total (λ k. k.i_id) nat_cmp_total)

pub stocks_exact : IsAntisymmetric stock_cmp
stocks_exact a b h =
    ap (λ (p : ℕ × ℕ). record { w_id = p.0; i_id = p.1 })
    (exact_pairs nat_cmp nat_cmp exact_unsigned exact_unsigned (a.w_id, a.i_id) (b.w_id, b.i_id) h)

pub customers_total : IsTotalOrder customer_cmp
customers_total =
    then_total (on_total (λ k. k.w_id) nat_cmp_total)
    (then_total (on_total (λ k. k.d_id) nat_cmp_total) (on_total (λ k. k.c_id) nat_cmp_total))

pub customers_exact : IsAntisymmetric customer_cmp
customers_exact a b h =
    ap (λ (p : ℕ × (ℕ × ℕ)). record { w_id = p.0; d_id = p.1.0; c_id = p.1.1 })
    (exact_pairs nat_cmp _ exact_unsigned (exact_pairs nat_cmp nat_cmp exact_unsigned exact_unsigned)
    (a.w_id, (a.d_id, a.c_id)) (b.w_id, (b.d_id, b.c_id)) h)

pub orders_total : IsTotalOrder order_cmp
orders_total =
    then_total (on_total (λ k. k.w_id) nat_cmp_total)
    (then_total (on_total (λ k. k.d_id) nat_cmp_total) (on_total (λ k. k.o_id) nat_cmp_total))

pub orders_exact : IsAntisymmetric order_cmp
orders_exact a b h =
    ap (λ (p : ℕ × (ℕ × ℕ)). record { w_id = p.0; d_id = p.1.0; o_id = p.1.1 })
    (exact_pairs nat_cmp _ exact_unsigned (exact_pairs nat_cmp nat_cmp exact_unsigned exact_unsigned)
    (a.w_id, (a.d_id, a.o_id)) (b.w_id, (b.d_id, b.o_id)) h)

pub lines_total : IsTotalOrder line_cmp
lines_total =
    then_total (on_total (λ k. k.w_id) nat_cmp_total)
    (then_total (on_total (λ k. k.d_id) nat_cmp_total)
    (then_total (on_total (λ k. k.o_id) nat_cmp_total) (on_total (λ k. k.number) nat_cmp_total)))

pub lines_exact : IsAntisymmetric line_cmp
lines_exact a b h =
    ap (λ (p : ℕ × (ℕ × (ℕ × ℕ))). record { w_id = p.0; d_id = p.1.0; o_id = p.1.1.0; number = p.1.1.1 })
    (exact_pairs nat_cmp _ exact_unsigned (exact_pairs nat_cmp _ exact_unsigned (exact_pairs nat_cmp nat_cmp exact_unsigned exact_unsigned))
    (a.w_id, (a.d_id, (a.o_id, a.number))) (b.w_id, (b.d_id, (b.o_id, b.number))) h)
