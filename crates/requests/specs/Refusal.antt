-- The numbers of refusals.
use Rattle.std.specs.Prelude.{ℕ}
use Rattle.requests.specs.declared.refusal.Refusal.{Refusal}
use Rattle.requests.specs.declared.refusal.Refusal.TheVariants.{BadWarehouse, BadDistrict, BadLines, BadQuantity, BadSupply, BadAmount, BadThreshold, BadCarrier, Busy, SessionBusy, Died, NoMemory, Closed, LogFull}

-- the number of each refusal
abbrev pub refusal_number : Refusal → ℕ
refusal_number BadWarehouse = 1
refusal_number BadDistrict = 2
refusal_number BadLines = 3
refusal_number BadQuantity = 4
refusal_number BadSupply = 5
refusal_number BadAmount = 6
refusal_number BadThreshold = 7
refusal_number BadCarrier = 8
refusal_number Busy = 9
refusal_number SessionBusy = 10
refusal_number (Died group holder) = 11
refusal_number NoMemory = 12
refusal_number Closed = 13
refusal_number LogFull = 14
