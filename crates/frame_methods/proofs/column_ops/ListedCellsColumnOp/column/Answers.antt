use Rattle.{
  frame_parts.proofs.Common.{truth_cell, ap},
  column_operators.specs.Marks.{listed_mark},
  frame_methods.proofs.{OpLaws.{marked_answer, mapped_given}, ListedLaws.{any_by_number}},
}
use Rattle.frame_methods.proofs.column_ops.ListedCellsColumnOp.column.Goals as goal

pub returns-clause-given : goal.returns-clause-given
returns-clause-given c = mapped_given _ _ _ c.args.a _ (λ v here. tt) c.requires.cells c.in_ok-isin.ensures

pub returns-clause-answer : goal.returns-clause-answer
returns-clause-answer c =
    marked_answer _ _ (listed_mark c.args.self.now.values.keys) _ c.args.a _ (λ v here. ap truth_cell (any_by_number _ v _ c.len.ensures.distinct here c.requires.own)) c.requires.cells c.in_ok-isin.ensures
