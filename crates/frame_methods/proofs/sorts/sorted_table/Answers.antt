use Rattle.{
  frame_parts.proofs.Common.{length},
  frame_methods.proofs.{RowLaws.{makes_so}, SortLaws.{sorted_so}},
}
use Rattle.frame_methods.proofs.sorts.sorted_table.Goals as goal

pub returns : goal.returns
returns c = λ all are.
    let dict = c.args.dict.now in
    makes_so _ _ _ _
    (cc (c.in_ok-rows.ensures, c.rows.ensures, sorted_so dict c.args.keys.now c.args.ascending (length c.args.on.now.labels) all are))
    (c.rows_table.ensures dict c.requires.given)
