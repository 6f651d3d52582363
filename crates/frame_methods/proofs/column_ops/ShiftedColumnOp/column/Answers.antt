use Rattle.{
  frame_parts.proofs.Common.{◌≡◌, rules, to_z, of_z},
  column_core.proofs.cells.Common.{w64},
  frame_methods.proofs.OpLaws.{shifted_given, shifted_rows, shifted_answer},
}
use Rattle.frame_methods.proofs.column_ops.ShiftedColumnOp.column.Goals as goal

pub returns-clause-given : goal.returns-clause-given
returns-clause-given c = shifted_given _ _ c.args.a c.in_ok-shift.field-0 c.requires.cells c.in_ok-shift.ensures.cells

pub returns-clause-rows : goal.returns-clause-rows
returns-clause-rows c = shifted_rows _ c.args.a c.in_ok-shift.field-0 c.in_ok-shift.ensures.cells

pub returns-clause-answer : goal.returns-clause-answer
returns-clause-answer c =
    let fits : to_z w64 (of_z w64 c.args.self.now.periods) ≡ c.args.self.now.periods = search rules in
    shifted_answer _ _ _ _ c.in_ok-shift.ensures.kind (rw fits at c.in_ok-shift.ensures.cells)
