use Rattle.std.proofs.Common.{map, take}
use Rattle.dataset.specs.Records.{Words}
use Rattle.dataset.specs.Writing.{Adds}
use Rattle.dataset.proofs.stocks.put_district_infos.Given as goal

abbrev pub invariant-loop-info : goal.invariant-loop-info
invariant-loop-info l = Adds (map (λ text. Words text) (take l.info-index l.infos)) l.fn.out l.out
