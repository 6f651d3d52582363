use Rattle.frame_select.proofs.reaching.labelled_within.Goals as goal

pub returns-in-Many-clause-rows : goal.returns-in-Many-clause-rows
returns-in-Many-clause-rows c = rw c.in-Many.is c.listed_rows.ensures.rows
