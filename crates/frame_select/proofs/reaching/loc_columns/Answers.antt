use Rattle.{
  frame_parts.proofs.Common.{arith, length-map, length-range_with_len, subscript_of, headings_part},
  frame_select.proofs.ReachLaws.{axis_given, columns_found},
}
use Rattle.frame_select.proofs.reaching.loc_columns.Goals as goal

pub labelled-requires-clause-given : goal.labelled-requires-clause-given
labelled-requires-clause-given c = rw c.in_ok-axis.ensures (axis_given _ _ _ (search headings_part))

pub returns-clause-columns : goal.returns-clause-columns
returns-clause-columns c = λ live settled.
    columns_found _ c.args.on.now _ (λ texts. subscript_of live texts c.args.key.now) _ _ settled c.labelled.ensures.rows _
    (grind arith) (grind arith)
    c.in_ok-axis.ensures (grind arith) (c.in_ok-key.ensures.key live)

pub returns-clause-within : goal.returns-clause-within
returns-clause-within = grind (arith, length-map, length-range_with_len)
