use Rattle.frame_ops.proofs.forms.invert_or_negate.Goals as goal

pub returns : goal.returns
returns c = c.placed.ensures.answers _ _ c.sign_made-made.ensures.longer c.requires.settled c.sign_made-made.ensures.makes
