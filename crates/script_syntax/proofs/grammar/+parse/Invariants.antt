use Rattle.script_syntax.proofs.grammar.+parse.Given as goal

abbrev pub decreases-expr_at : goal.decreases-expr_at
decreases-expr_at l = l.room

abbrev pub decreases-argument_at : goal.decreases-argument_at
decreases-argument_at l = l.room
