use Rattle.{
  frame_parts.proofs.Common.{option_map, world, object_settled},
  frame_store.specs.World.{subscript_in},
  frame_select.{specs.Selected.{way_of}, proofs.CutLaws.{select_made}},
}
use Rattle.frame_select.proofs.selecting.select.Goals as goal

pub plan_for-requires-clause-table : goal.plan_for-requires-clause-table
plan_for-requires-clause-table c = record { known = search object_settled; levels = c.read.ensures.levels }

pub returns : goal.returns
returns c =
    let w = world c.args.store.now c.args.dict.now in
    select_made c.args.dict.now c.args.store.now c.args.on c.in-Object.id c.read.result (way_of c.args.by) (subscript_in w c.args.first.now) (option_map (λ key. subscript_in w key.now) c.args.second)
    c.in-Object.is c.read.ensures.table c.in_ok-plan.plan c.carry_out.result _ c.in_ok-plan.ensures.plan c.carry_out.ensures
