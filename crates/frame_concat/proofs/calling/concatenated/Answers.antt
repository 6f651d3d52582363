use Rattle.frame_parts.proofs.Common.{table_value, arith, length-map}
use Rattle.frame_concat.proofs.calling.concatenated.Goals as goal

pub returns-then-across : goal.returns-then-across
returns-then-across c = grind (arith, length-map c.args.parts.now (table_value c.args.dict.now))

pub returns-else-across : goal.returns-else-across
returns-else-across c = grind (arith, length-map c.args.parts.now (table_value c.args.dict.now))
