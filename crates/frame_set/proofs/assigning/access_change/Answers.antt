use Rattle.{
  frame_parts.proofs.Common.{table_value, world},
  frame_store.specs.World.{subscript_in},
  frame_select.specs.{Reaches.{accessor_of}, Selected.{second_in}},
  frame_set.{specs.Values.{target_value}, proofs.{CostLaws.{target_touched, touched_more}, SoleLaws.{picked_is, sets_same}}},
}
use Rattle.frame_set.proofs.assigning.access_change.Goals as goal

pub returns-clause-touched : goal.returns-clause-touched
returns-clause-touched c =
    let texts = c.args.dict.now in
    let w = world c.args.store.now texts in
    let on = c.args.on.now in
    touched_more _ _ _
    (target_touched on.shape (accessor_of c.args.by) (table_value texts on) (subscript_in w c.args.first.now) (second_in w c.args.second) (target_value texts c.in_ok-target.target) c.in_ok-target.ensures.target) c.cells_change.ensures.touched

pub returns-clause-picked : goal.returns-clause-picked
returns-clause-picked c =
    let texts = c.args.dict.now in
    let w = world c.args.store.now texts in
    let on = c.args.on.now in
    sets_same _ on _ _
    (picked_is on.shape (accessor_of c.args.by) (table_value texts on) (subscript_in w c.args.first.now) (second_in w c.args.second) (target_value texts c.in_ok-target.target) c.in_ok-target.ensures.target) c.cells_change.ensures.picked
