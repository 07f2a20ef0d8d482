use Rattle.slices.proofs.Opened as opened
use Rattle.slices.proofs.laws.opened_groups_have_boxes.Goals as goal

pub returns : goal.returns
returns c = opened.opened_groups_have_boxes
