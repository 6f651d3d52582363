use Rattle.{
  frame_parts.proofs.Common.{arith},
  column_operators.specs.Marks.{missing_mark},
  frame_methods.{specs.Marks.{mark_of}, proofs.OpLaws.{marked_answer, mapped_given}},
}
use Rattle.frame_methods.proofs.column_ops.MarkedColumnOp.column.Goals as goal

pub returns-clause-given : goal.returns-clause-given
returns-clause-given c = mapped_given _ (missing_mark c.args.self.now.missing) _ c.args.a _ (grind arith) c.requires.cells c.in_ok-marks.ensures

pub returns-clause-answer : goal.returns-clause-answer
returns-clause-answer c =
    marked_answer _ (mark_of c.args.self.now.missing) (missing_mark c.args.self.now.missing) _ c.args.a _ (grind arith) c.requires.cells c.in_ok-marks.ensures
