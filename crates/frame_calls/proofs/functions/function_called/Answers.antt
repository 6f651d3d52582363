use Rattle.frame_calls.proofs.functions.function_called.Goals as goal

pub returns : goal.returns
returns c = rw (← c.as_slice.ensures) (c.placed.ensures.answers _ _ c.made_by-made.ensures.longer c.requires.settled c.made_by-made.ensures.answer)
