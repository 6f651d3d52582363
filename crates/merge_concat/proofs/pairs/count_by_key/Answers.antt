use Rattle.{
  column_core.proofs.cells.Common.{arith, cases_lt},
  merge_concat.proofs.JoinLaws.{counted_within},
}
use Rattle.merge_concat.proofs.pairs.count_by_key.Goals as goal

pub returns-in_default : goal.returns-in_default
returns-in_default c = grind (arith, counted_within c.loop-code.code c.args.left.now.count c.args.left.now.codes.now c.args.right.now.codes.now)

pub returns-in_default-2 : goal.returns-in_default-2
returns-in_default-2 c = grind (arith, cases_lt, counted_within c.loop-code.code c.args.left.now.count c.args.left.now.codes.now c.args.right.now.codes.now)
