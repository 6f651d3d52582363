use Rattle.{
  frame_parts.proofs.Common.{length, ap, arith, rules, get_or_from_slice_get},
  frame_select.proofs.PlaceLaws.{heading_settled, place_met},
}
use Rattle.frame_labels.proofs.levels.place_of_name.Goals as goal

pub same_heading-requires-clause-b : goal.same_heading-requires-clause-b
same_heading-requires-clause-b c =
    heading_settled _ _ c.loop-level.level _ (grind (arith, get_or_from_slice_get)) c.requires.names

pub returns-then-same_heading-clause-place : goal.returns-then-same_heading-clause-place
returns-then-same_heading-clause-place c =
    place_met _ c.args.on.now.level_names c.args.name _ c.name.result _ _ (omega (arith, ap (λ a. length a.names) c.axis-axis.ensures)) (grind (arith, get_or_from_slice_get)) c.same_heading.ensures (search rules) c.loop-level.invariant
