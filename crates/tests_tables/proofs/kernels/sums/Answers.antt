use Rattle.column_core.{proofs.{cells.Common.{◌∙◌, ap, sym}, ColumnLaws.{given-plain}}, specs.{Columns.{number_given}, Views.{borrowed_column}}}
use Rattle.tests_tables.proofs.kernels.sums.Goals as goal

pub binary-requires-clause-a : goal.binary-requires-clause-a
binary-requires-clause-a c = given-plain _ _ _ _ _ _ (number_given _) (sym (ap borrowed_column (sym c.in-Ints-Ints.is-0) ∙ c.a.view_is))

pub binary-requires-clause-b : goal.binary-requires-clause-b
binary-requires-clause-b c = given-plain _ _ _ _ _ _ (number_given _) (sym (ap borrowed_column (sym c.in-Ints-Ints.is-1) ∙ c.b.view_is))
