use Rattle.{
  frame_parts.proofs.Common.{rules, tables, world, IsKnownSubscript},
  frame_set.proofs.TargetLaws.{picked_settled, target_settled},
}
use Rattle.frame_set.proofs.targets.target_of.Goals as goal

pub returns-in_ok-all_columns-in-None-clause-given : goal.returns-in_ok-all_columns-in-None-clause-given
returns-in_ok-all_columns-in-None-clause-given c =
    target_settled _ _ _ c.in_ok-rows-in-None.ensures.given (search picked_settled)

pub returns-in_ok-columns-in-Some-clause-given : goal.returns-in_ok-columns-in-Some-clause-given
returns-in_ok-columns-in-Some-clause-given c =
    let known : IsKnownSubscript (world c.args.store.now c.args.dict.now) c.in-Some.key.now = search rules in
    target_settled _ _ _ c.in_ok-rows-in-Some.ensures.given (c.in_ok-columns-in-Some.ensures.given (tables c.args.store.now) known.given)
