-- The tables that were gathered, in their file.
use Rattle.std.proofs.Common.{◌≡◌, ℕ, List, Option, None, Some}
use Rattle.std.specs.Prelude.{Result, Ok}
use Rattle.schema.specs.Database.{Database}
use Rattle.world.specs.declared.world.GatherFault.{GatherFault}
use Rattle.dataset.specs.Records.{AreRecords2}
use Rattle.tpcc.specs.Edges.{NamesFile}
use Rattle.tpcc.specs.Sim.{NamesTables}

pub names_gathered : {F : Type 0} (contents : F → Option (List ℕ)) (file : Option F) (named named' : Option (List (Option (List ℕ)))) (gathered : Result Database GatherFault) (last : Database)
    → gathered ≡ Ok last → NamesFile contents file named named' (AreRecords2 last) → NamesTables contents file named named' gathered
names_gathered contents None named named' gathered last is names = names
names_gathered contents (Some file) named named' gathered last is names = (last, is, names)
