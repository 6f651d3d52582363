use Rattle.{
  frame_parts.proofs.Common.{arith, sym, get_or_from_slice_get},
  frame_select.proofs.{NamedLaws.{argument_met}},
}
use Rattle.frame_select.proofs.labels.argument_column.Goals as goal

pub returns-in-1-clause-answer : goal.returns-in-1-clause-answer
returns-in-1-clause-answer c =
    argument_met c.args.dict.now c.args.on.now c.args.label _ c.requires.label c.in_ok-places.ensures.places _ (grind arith) (sym (get_or_from_slice_get _ 0 _ 0 c.at.ensures))
