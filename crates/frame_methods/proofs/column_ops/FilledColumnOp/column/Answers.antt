use Rattle.{
  frame_parts.proofs.Common.{◌≡◌, true, rules, arith, holds, datum},
  column_operators.specs.Marks.{filled_cell},
  frame_labels.specs.method.Methods.{filled},
  frame_methods.proofs.OpLaws.{mapped_given, marked_answer},
}
use Rattle.frame_methods.proofs.column_ops.FilledColumnOp.column.Goals as goal

pub returns-clause-given : goal.returns-clause-given
returns-clause-given c = mapped_given _ (filled_cell c.args.self.now.value) _ c.args.a _ (grind (arith, c.requires.own.0)) c.requires.cells c.in_ok-fillna.ensures

pub returns-clause-answer : goal.returns-clause-answer
returns-clause-answer c =
    let value = c.args.self.now.value in
    let held : holds c.kind-kind.result (datum c.args.dict.now value) ≡ true = search rules in
    let made = marked_answer _ (filled (datum c.args.dict.now value)) (filled_cell value) _ c.args.a _ (grind arith) c.requires.cells c.in_ok-fillna.ensures in
    grind (arith, made, held, c.kind-kind.ensures)
