use Rattle.frame_query.proofs.grammar.+parse.Given as goal

abbrev pub decreases-query_at : goal.decreases-query_at
decreases-query_at l = l.room
