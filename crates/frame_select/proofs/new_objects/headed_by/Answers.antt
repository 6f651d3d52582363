use Rattle.{
  frame_parts.proofs.Common.{arith, ◌≡◌, ◌∙◌, ap, range_with_len, limited, table_value, tables, table_at},
  frame_select.{specs.{Picked.{headed_by}, Plans.{rows_in, taken_table}}, proofs.CutLaws.{read_is, without_none, taken_seen, whole_chosen}},
}
use Rattle.frame_select.proofs.new_objects.headed_by.Goals as goal

pub returns : goal.returns
returns c =
    let dict = c.args.dict.now in
    let t = table_at (tables c.args.store.now) c.args.on.0 in
    let rows = c.all_rows-rows.result in
    let columns = c.in_ok-columns.columns in
    let same = read_is _ _ c.read-source.ensures.table in
    let all = rw same at c.all_rows-rows.ensures in
    let seen : table_value dict (taken_table c.args.shape c.args.headings rows columns t) ≡ table_value dict (headed_by c.args.shape c.args.headings t) =
    grind (arith, taken_seen dict c.args.shape c.args.headings rows columns t, all.lost, without_none (table_value dict (search)), whole_chosen c.args.shape c.args.headings (rows_in rows) columns t (rw same at c.read-source.ensures.whole) all.rows (c.in_ok-columns.ensures ∙ ap (range_with_len 0) (grind arith))) in
    rw (ap limited seen, all.shared) at (c.cut_within.ensures dict c.requires.settled (c.requires.name, c.requires.labels))
