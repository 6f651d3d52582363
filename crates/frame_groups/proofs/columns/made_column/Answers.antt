use Rattle.{
  frame_parts.proofs.Common.{AreGiven},
  frame_groups.{specs.declared.columns.ColumnCall.TheVariants.{Reduced, Cumsum}, proofs.{KeyLaws.{if_ok}, ColumnLaws.{never_mismatch, through, column_by, count_by}}},
}
use Rattle.frame_groups.proofs.columns.made_column.Goals as goal

pub taken-requires-in-Cumsum : goal.taken-requires-in-Cumsum
taken-requires-in-Cumsum c =
    never_mismatch _ Cumsum c.args.groups.now _ _ (rw c.in-Cumsum.is at c.requires.taken) (c.group_cumsum.ensures.answer c.args.dict.now)

pub returns-in-Reduced-clause-rows : goal.returns-in-Reduced-clause-rows
returns-in-Reduced-clause-rows c =
    rw c.in-Reduced.is (count_by _ _ (Reduced c.in-Reduced.op) c.args.groups.now _ (rw c.in-Reduced.is at c.requires.taken) c.group_reduce.ensures.answer _ c.taken.ensures)

pub returns-in-Cumsum-clause-given : goal.returns-in-Cumsum-clause-given
returns-in-Cumsum-clause-given c = through _ (λ x. AreGiven c.args.dict.now x.cells) _ c.taken-in-Cumsum.ensures (search if_ok)

pub returns-in-Cumsum-clause-rows : goal.returns-in-Cumsum-clause-rows
returns-in-Cumsum-clause-rows c = rw c.in-Cumsum.is (count_by _ _ Cumsum c.args.groups.now _ (rw c.in-Cumsum.is at c.requires.taken) (c.group_cumsum.ensures.answer c.args.dict.now) _ c.taken-in-Cumsum.ensures)

pub returns-in-Cumsum-clause-column : goal.returns-in-Cumsum-clause-column
returns-in-Cumsum-clause-column c =
    rw c.in-Cumsum.is (column_by _ _ Cumsum c.args.groups.now _ (rw c.in-Cumsum.is at c.requires.taken) (c.group_cumsum.ensures.answer c.args.dict.now) _ c.taken-in-Cumsum.ensures)
