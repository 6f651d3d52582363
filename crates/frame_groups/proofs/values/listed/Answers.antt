use Rattle.{
  frame_parts.proofs.Common.{arith},
  frame_groups.proofs.FormLaws.{listed_settled},
}
use Rattle.frame_groups.proofs.values.listed.Goals as goal

pub argument_columns-requires-clause-cells : goal.argument_columns-requires-clause-cells
argument_columns-requires-clause-cells c =
    listed_settled _ c.args.items.now _ (grind arith) c.requires.items
