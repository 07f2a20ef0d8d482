-- A command that ends early ends with the status of its fault.
use Rattle.std.proofs.Common.{◌≡◌, ℕ, List, Option, refl, sym, subst}
use Rattle.tpcc.specs.declared.command_fault.CommandFault.{CommandFault}
use Rattle.tpcc.specs.declared.command_fault.CommandFault.TheVariants as fault
use Rattle.command_line.specs.declared.status.Status.{Status}
use Rattle.command_line.specs.declared.status.Status.TheVariants as status
use Rattle.tpcc.specs.Faults.{EndsEarly, Reports, status_of}

-- where its fault is no broken condition, whose status other ends have too
module _ (IsSaid : CommandFault → Type 0) (reported reported' : Option (List CommandFault)) (Ends : Status → Type 0) (no_condition : (condition : ℕ) → IsSaid (fault.NotConsistent condition) → ⊥)
    (failed : EndsEarly IsSaid reported reported' status.Failed → Ends status.Failed) (usage : EndsEarly IsSaid reported reported' status.Usage → Ends status.Usage)
    (no_memory : EndsEarly IsSaid reported reported' status.NoMemory → Ends status.NoMemory) where
  by_fault : (of : CommandFault) → IsSaid of → Reports reported reported' of → Ends (status_of of)
  by_fault (fault.NotConsistent condition) said reports = absurd (no_condition condition said)
  by_fault fault.NoMemory said reports = no_memory (record { fault = fault.NoMemory; said = said; reports = reports; ends = refl })
  by_fault (fault.File path of) said reports = failed (record { fault = fault.File path of; said = said; reports = reports; ends = refl })
  by_fault (fault.Failed path number) said reports = failed (record { fault = fault.Failed path number; said = said; reports = reports; ends = refl })
  by_fault (fault.BadMove place) said reports = failed (record { fault = fault.BadMove place; said = said; reports = reports; ends = refl })
  by_fault (fault.NoWarehouse warehouse) said reports = usage (record { fault = fault.NoWarehouse warehouse; said = said; reports = reports; ends = refl })
  by_fault fault.NoThread said reports = failed (record { fault = fault.NoThread; said = said; reports = reports; ends = refl })
  by_fault fault.Unsettled said reports = failed (record { fault = fault.Unsettled; said = said; reports = reports; ends = refl })
  by_fault fault.NotIdle said reports = failed (record { fault = fault.NotIdle; said = said; reports = reports; ends = refl })

  pub ends_early : (of : CommandFault) (ended : Status) → ended ≡ status_of of → IsSaid of → Reports reported reported' of → Ends ended
  ends_early of ended is said reports = subst Ends (sym is) (by_fault of said reports)
