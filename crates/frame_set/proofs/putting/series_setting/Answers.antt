use Rattle.{
  frame_parts.proofs.Common.{err_from_is_err_and, arith, ◌≡◌, sym, subst, true, rules, IsSettled, same_tuples, tables, table_at, labels_value, IsKnownTable, labels_part, object_settled},
  frame_set.proofs.{PutCases.{series_fits, own_cells}, PutLaws.{put_seen, put_there}, MoveLaws.{move_meant, move_settled}, SetLaws.{part_refused}},
}
use Rattle.frame_set.proofs.putting.series_setting.Goals as goal

pub same_rows-requires-clause-b : goal.same_rows-requires-clause-b
same_rows-requires-clause-b c =
    subst (λ a. IsSettled labels_value c.args.dict.now a.tuples) (sym c.axis-2.ensures)
    (search (labels_part, object_settled))

pub series_change-requires-clause-series : goal.series_change-requires-clause-series
series_change-requires-clause-series c = search object_settled

pub returns-in_err-place-clause-setting : goal.returns-in_err-place-clause-setting
returns-in_err-place-clause-setting = grind (arith, err_from_is_err_and, put_seen, series_fits, part_refused, put_there)

pub returns-in-One-clause-setting : goal.returns-in-One-clause-setting
returns-in-One-clause-setting c =
    let texts = c.args.dict.now in
    let t = c.args.on.now in
    let s = table_at (tables c.args.store.now) c.args.series.0 in
    let at : c.read-source.result ≡ s = grind arith in
    let so : c.same_rows.result ≡ true = search rules in
    let same : same_tuples (labels_value texts t.labels) (labels_value texts s.labels) ≡ true = grind arith in
    let known =
    subst (IsKnownTable texts) at
    (search object_settled) in grind (arith, move_meant, own_cells, move_settled)
