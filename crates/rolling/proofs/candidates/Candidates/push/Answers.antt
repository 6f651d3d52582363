use Rattle.{
  column_core.proofs.cells.Common.{arith, w64},
  std.proofs.lemmas.{Int.{to_z-of_z}, Grind.{common_steps}},
  rolling.proofs.CandidateLaws.{popped_kept, pop_unbeaten, come_kept},
}
use Rattle.rolling.proofs.candidates.Candidates.push.Goals as goal

pub loop-self-preserved : goal.loop-self-preserved
loop-self-preserved c = record {
  extreme = c.loop-self.invariant.extreme;
  room = grind arith;
  fewer = grind (arith, common_steps);
  kept = popped_kept _ _ c.loop-self.invariant.extreme _ _ _ _ c.is_last_beaten_by.ensures _ _ c.loop-self-test.true c.pop_back.ensures.items c.loop-self.invariant.kept;
  unbeaten = λ h. pop_unbeaten _ (mir.Val.to_z w64 (mir.Val.of_z w64 c.args.x)) _ _ _ c.pop_back.ensures.items (c.loop-self.invariant.unbeaten h);
}

pub returns-clause-values : goal.returns-clause-values
returns-clause-values c = λ values is. come_kept _ _ c.loop-self.invariant.extreme _ _ _ _ c.is_last_beaten_by.ensures _ values _ (to_z-of_z w64 _ c.ranges.x) c.loop-self-test.false is c.loop-self.invariant.unbeaten c.loop-self.invariant.kept (grind (arith, to_z-of_z, c.push_back.ensures.succeeds))
