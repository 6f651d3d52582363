use Rattle.{
  frame_parts.proofs.Common.{arith, table_value, tables, object_value},
  meaning_charge.specs.select.Keys.{mask_pick},
  frame_select.proofs.{CutLaws.{reached_plan}, ReachLaws.{reach_frame}},
}
use Rattle.frame_select.proofs.planning.mask_plan.Goals as goal

pub returns-clause-plan : goal.returns-clause-plan
returns-clause-plan c =
    reached_plan c.args.dict.now c.args.on.now _ c.in_ok-rows.rows c.in_ok-columns.columns c.plan_of.result
    (reach_frame c.args.dict.now c.args.on.now (mask_pick (table_value c.args.dict.now c.args.on.now) (object_value (tables c.args.store.now) c.args.dict.now c.args.mask)) c.in_ok-rows.rows c.in_ok-columns.columns c.in_ok-rows.ensures.rows
    c.in_ok-columns.ensures.places c.in_ok-columns.ensures.single c.in_ok-columns.ensures.sliced c.requires.shape)
    (grind arith) c.plan_of.ensures.shared
