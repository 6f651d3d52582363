use Rattle.{
  frame_parts.proofs.Common.{arith, tables, table_at},
  frame_select.proofs.CutLaws.{cut_is_chosen},
}
use Rattle.frame_select.proofs.selecting.make_taken.Goals as goal

pub returns-in_ok-axis-in-Slice-clause-ok : goal.returns-in_ok-axis-in-Slice-clause-ok
returns-in_ok-axis-in-Slice-clause-ok c =
    grind (arith, cut_is_chosen c.args.shape c.in_ok-axis-in-Slice.axis c.args.headings c.in-Slice.rows c.args.columns.now (table_at (tables c.args.store.now) c.args.on.0) (grind arith))
