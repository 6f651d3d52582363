use Rattle.{
  frame_parts.proofs.Common.{arith, tables, table_at},
  frame_select.proofs.CutLaws.{table_is_settled, read_is, frame_given, frame_meant, gathered, gathered_with},
}
use Rattle.frame_select.proofs.selecting.take_frame.Goals as goal

pub returns : goal.returns
returns c =
    let dict = c.args.dict.now in
    let plan = c.args.plan.now in
    let t = table_at (tables c.args.store.now) c.args.on.0 in
    let at = read_is _ _ c.read-source.ensures.table in
    let labels = gathered _ t _ _ _ at c.deref.ensures.value c.in_ok-labels.ensures in
    let headed = gathered_with _ t _ _ _ _ at c.columns_name.ensures labels c.in_ok-headings.ensures in
    let settled = table_is_settled _ _ _ c.requires.live c.requires.settled in
    rw (frame_meant dict t plan.columns plan.rows c.in_ok-headings.headings (grind arith) headed) at (c.cut_within.ensures dict c.requires.settled (search frame_given))
