use Rattle.std.proofs.Common.{◌++◌, length, ap, sym, ◌∙◌}
use Rattle.rows.proofs.Padded.{padded_with_more, text_with_more}
use Rattle.rows.proofs.text.Text.write.Goals as goal

pub invariant_of-self : goal.invariant_of-self
invariant_of-self g c =
    padded_with_more g.row.WIDTH c.self.inside.bytes c.args.more.now c.copy_from_slice.new.self c.self.invariant
    c.args.end (c.requires.end ∙ ap length (sym c.self.view_is)) c.requires.room c.requires.printable c.copy_from_slice.ensures.after

pub returns : goal.returns
returns g c =
    text_with_more g.row.WIDTH c.self.inside.bytes c.args.more.now c.copy_from_slice.new.self c.self.invariant
    c.args.end (c.requires.end ∙ ap length (sym c.self.view_is)) c.requires.room c.requires.printable c.copy_from_slice.ensures.after
    ∙ ap (λ t. t ++ c.args.more.now) c.self.view_is
