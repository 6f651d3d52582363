use Rattle.frame_make.proofs.scalars.scalar_column.Goals as goal

pub returns : goal.returns
returns c = λ texts. rw (c.in_ok-cells.ensures texts) at (c.list_column.ensures.answer texts)
