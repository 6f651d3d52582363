use Rattle.script_tokens.proofs.cells.Common.{arith}
use Rattle.script_syntax.proofs.Rooms as rooms
use Rattle.script_syntax.proofs.grammar.+parse.Goals as goal

pub expr_at-returns-then-room-eq0 : goal.expr_at-returns-then-room-eq0
expr_at-returns-then-room-eq0 t c = search rooms.expr_none

pub expr_at-returns : goal.expr_at-returns
expr_at-returns = grind (arith, rooms.finds_as, rooms.expr_deeper)

pub argument_at-returns-then-room-eq0 : goal.argument_at-returns-then-room-eq0
argument_at-returns-then-room-eq0 t c = search rooms.argument_none

pub argument_at-returns : goal.argument_at-returns
argument_at-returns = grind (arith, rooms.finds_as, rooms.argument_deeper)
