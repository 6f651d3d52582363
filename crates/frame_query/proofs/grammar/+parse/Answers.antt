use Rattle.script_tokens.proofs.cells.Common.{arith}
use Rattle.frame_query.proofs.Loops.{query_none, finds_as, query_deeper}
use Rattle.frame_query.proofs.grammar.+parse.Goals as goal

pub returns-then-room-eq0 : goal.returns-then-room-eq0
returns-then-room-eq0 t c = search query_none

pub returns : goal.returns
returns = grind (arith, finds_as, query_deeper)
