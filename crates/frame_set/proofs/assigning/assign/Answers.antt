use Rattle.{
  frame_parts.proofs.Common.{arith, err_from_is_err_and, tables, entry_of, subscript_of, world, object_settled},
  frame_select.specs.{charge.Charge.{setting_charge}, select.Set.{assign_result}, Selected.{second_in, way_of}},
  frame_set.{specs.Assigned.{new_value}, proofs.{SetLaws.{assign_set, set_left}, SoleLaws.{assign_sole}}},
}
use Rattle.frame_set.proofs.assigning.assign.Goals as goal

pub setting_for-requires-clause-table : goal.setting_for-requires-clause-table
setting_for-requires-clause-table c = record { known = search object_settled; levels = c.read.ensures.levels }

pub returns-in_err-carry_out-clause-answer : goal.returns-in_err-carry_out-clause-answer
returns-in_err-carry_out-clause-answer c =
    let texts = c.args.dict.now in
    let live = tables c.args.store.now in
    let p = err_from_is_err_and c.from_residual-in_err-carry_out.result c.from_residual-in_err-carry_out.ensures.1 in
    let on = entry_of live texts c.args.on in
    let first = subscript_of live texts c.args.first.now in
    let second = second_in (world c.args.store.now texts) c.args.second in
    let refused = c.in_err-carry_out.ensures in
    rw (p.1, p.2) (set_left _ _ _ _ _ (setting_charge on (way_of c.args.by) first second) c.args.on (assign_result on (way_of c.args.by) first second (new_value live texts c.args.value)) c.requires.settled refused.err refused.held refused.blocks)

pub returns-clause-answer : goal.returns-clause-answer
returns-clause-answer c =
    let made = c.in_ok-setting.ensures in
    let done = c.in_ok-carry_out.ensures in
    assign_set _ _ (tables c.carry_out.new.store) _ _ _ _ _ c.in_ok-setting.setting _ _ _
    _ _ c.in-Object.is c.read.ensures.table c.requires.settled made.setting
    (grind arith) made.fits made.touched done.held done.blocks

pub returns-clause-sole : goal.returns-clause-sole
returns-clause-sole c =
    let texts = c.args.dict.now in
    let made = c.in_ok-setting.ensures in
    let done = c.in_ok-carry_out.ensures in
    assign_sole texts c.args.store.now c.carry_out.new.store _ _ _ c.in_ok-setting.setting _ c.args.by
    (second_in (world c.args.store.now texts) c.args.second) c.in-Object.is c.read.ensures.table (grind arith) made.fits made.picked done.sole
