use Rattle.std.proofs.Common.{◌<◌, length, Some, refl, sym, ap, ◌∙◌, arith}
use Rattle.std.specs.List.{slice_set}
use Rattle.std.proofs.lemmas.Option.{slice_get-get_or}
use Rattle.std.proofs.lemmas.Result.{on_ok_weaker}
use Rattle.dataset.proofs.histories.push.Goals as goal

pub returns : goal.returns
returns c =
    let opens = c.in_ok-open.ensures in
    let lists = c.open.new.lists.items in
    let place = c.args.place in
    let inside : place < length lists = omega (arith, opens.reaches) in
    on_ok_weaker c.push.result (λ e. record {
      slot = place;
      is_slot = refl;
      opened = lists;
      opens = opens;
      list = c.index_mut.result.now;
      is_list = slice_get-get_or lists place c.index_mut.result.now inside ∙ ap Some (sym c.index_mut.ensures.value);
      paid = ap (λ list. slice_set lists place list) e;
    }) c.push.ensures.ok
