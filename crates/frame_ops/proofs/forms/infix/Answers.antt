use Rattle.frame_ops.proofs.forms.infix.Goals as goal

pub returns : goal.returns
returns c = c.placed.ensures.answers _ _ c.infix_made-made.ensures.longer c.requires.settled c.infix_made-made.ensures.makes
