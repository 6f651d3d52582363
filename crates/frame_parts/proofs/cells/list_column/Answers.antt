use Rattle.frame_parts.proofs.cells.list_column.Goals as goal

pub returns-clause-answer : goal.returns-clause-answer
returns-clause-answer g c = λ texts. rw (c.first_kind.ensures texts) at (c.column_of_kind.ensures.answer texts)
