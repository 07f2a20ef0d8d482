use Rattle.std.proofs.Common.{◌≡◌, ◌*◌, length, ap, ◌∙◌, sym, subst, arith}
use Rattle.tickets.specs.Places.{IsGroupOf}
use Rattle.slices.proofs.Opened.{one_opening_more, all_opened}
use Rattle.slices.proofs.opening.open_groups.Goals as goal

pub loop-place-preserved : goal.loop-place-preserved
loop-place-preserved c =
    let t = c.args.tables.now in
    let warehouses = ap (λ s. s.warehouses) c.scale-warehouses.ensures.value in
    record {
      count = omega (arith, c.in_ok-push.ensures.len, c.loop-place.invariant.count);
      contents = one_opening_more t c.loop-place.openings.items c.push.new.self.items c.group_at-group.result c.in_ok-open.field-0 c.loop-place.invariant.contents
          (subst (λ n. IsGroupOf n c.group_at-group.result) warehouses c.group_at-group.ensures.known) (c.group_at-group.ensures.place ∙ sym c.loop-place.invariant.count) c.in_ok-open.ensures c.in_ok-push.ensures.items;
    }

pub returns : goal.returns
returns c =
    let t = c.args.tables.now in
    let openings = c.loop-place.openings.items in
    let warehouses = ap (λ s. s.warehouses) c.scale-warehouses.ensures.value in
    let long : length openings ≡ c.scale-warehouses.result.warehouses * 105 = omega arith in
    all_opened t openings (long ∙ ap (λ n. n * 105) warehouses) c.loop-place.invariant.contents
