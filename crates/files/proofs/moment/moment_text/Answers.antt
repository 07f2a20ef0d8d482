use Rattle.std.proofs.Common.{rules}
use Rattle.files.proofs.moment.moment_text.Goals as goal

pub returns : goal.returns
returns c = (c.date_time_of.result, record { is_text = search rules; is_whole = c.date_time_of.ensures.whole; is_second = c.date_time_of.ensures.second })
