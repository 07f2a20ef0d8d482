use Rattle.std.proofs.Common.{length, ap, ◌∙◌}
use Rattle.rows.proofs.Padded.{first_zero_ends}
use Rattle.rows.proofs.text.Text.len.Goals as goal

pub returns-clause-value : goal.returns-clause-value
returns-clause-value g c = c.unwrap_or.ensures ∙ first_zero_ends g.row.WIDTH c.self.inside.bytes c.memchr.result c.self.invariant c.memchr.ensures ∙ ap length c.self.view_is
