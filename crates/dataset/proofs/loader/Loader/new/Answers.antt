use Rattle.std.proofs.Common.{refl}
use Rattle.dataset.proofs.Loading.{header_loaded}
use Rattle.dataset.proofs.loader.Loader.new.Goals as goal

pub returns-clause-loads : goal.returns-clause-loads
returns-clause-loads c = λ fields is_header. header_loaded _ fields refl c.new.ensures is_header
