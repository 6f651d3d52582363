use Rattle.{
  frame_parts.proofs.Common.{◌≡◌, ◌∙◌, ◌<◌, ap, sym, length, arith, slice_index_or, None, length-set, get_or_from_slice_get, IsSettled, heading_value, common_name},
  frame_select.proofs.PlaceLaws.{heading_settled},
  frame_ops.proofs.JoinLaws.{one_named, names_given},
}
use Rattle.frame_ops.proofs.joining.name_levels.Goals as goal

pub common_name-requires-clause-a : goal.common_name-requires-clause-a
common_name-requires-clause-a c = heading_settled _ _ c.loop-level.level _ (grind (arith, get_or_from_slice_get)) c.requires.given_a

pub common_name-requires-clause-b : goal.common_name-requires-clause-b
common_name-requires-clause-b c = heading_settled _ _ c.loop-level.level _ (grind (arith, get_or_from_slice_get)) c.requires.given_b

pub loop-level-preserved : goal.loop-level-preserved
loop-level-preserved c =
    let dict = c.args.dict.now in
    let names = c.loop-level.axis.names in
    let level = c.loop-level.level in
    let lt : level < length names = omega (arith, c.loop-level.invariant.count) in
    let set = ap (λ x. x.names) c.set_name.ensures in
    record {
      tuples = ap (λ x. x.tuples) c.set_name.ensures ∙ c.loop-level.invariant.tuples;
      count = ap (λ l. length l) set ∙ length-set names _ _ ∙ c.loop-level.invariant.count;
      named = one_named (λ k h. heading_value dict h ≡ common_name (heading_value dict (slice_index_or c.args.a.now.names k None)) (heading_value dict (slice_index_or c.args.b.now.names k None))) names _ level _ set lt c.loop-level.invariant.named
          (c.common_name.ensures.name ∙ (λ i. common_name (heading_value dict ((sym (get_or_from_slice_get _ level c.name.result None c.name.ensures)) i)) (heading_value dict ((sym (get_or_from_slice_get c.args.b.now.names level _ None c.name-in-loop-level.ensures)) i))));
      given = one_named (λ k h. IsSettled heading_value dict h) names _ level _ set lt c.loop-level.invariant.given c.common_name.ensures.settled;
    }

pub returns-clause-given : goal.returns-clause-given
returns-clause-given c = names_given _ c.loop-level.axis.names (λ k lt. c.loop-level.invariant.given k (omega (arith, c.loop-level.invariant.count)))
