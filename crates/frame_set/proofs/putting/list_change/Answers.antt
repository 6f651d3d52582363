use Rattle.{
  frame_parts.proofs.Common.{column_seen, nat_tests, err_from_is_err_and, length-map, None, ◌∷◌, [], ◌≡◌, ◌<◌, sym, arith, length, label_datum, table_value, default_labels},
  frame_set.{specs.Places.{places_of}, proofs.{CellLaws.{none_seen}, PutCases.{default_count, list_rows, range_count, range_names, range_seen, rows_given, rows_meant}, PutLaws.{put_by, put_there}, SetLaws.{part_refused}, putting.list_change.Goals.{else-rows-eq0-via-then-rows-eq0+else-count-gt0}}},
  frame_select.specs.select.Set.{with_rows},
}
use Rattle.frame_set.proofs.putting.list_change.Goals as goal

pub returns-in_err-spot-clause-change : goal.returns-in_err-spot-clause-change
returns-in_err-spot-clause-change c =
    let texts = c.args.dict.now in
    let t = c.args.on.now in
    let l = label_datum texts c.args.label in
    let n = length c.args.column.cells in
    let count : c.len-count.result ≡ n = search in
    let none : length t.labels ≡ 0 = omega (arith, c.rows.ensures) in
    let some : 0 < n = omega (arith, count) in
    let p = err_from_is_err_and c.from_residual.result c.from_residual.ensures.1 in
    rw (p.1, p.2, list_rows texts t l c.args.column none some, put_by (with_rows (table_value texts t) (default_labels n) (None ∷ [])) l (column_seen texts c.args.column) (search length-map), default_count n, ← count)
    (grind (arith, part_refused, put_there))

pub returns-then-count-gt0-clause-change : goal.returns-then-count-gt0-clause-change
returns-then-count-gt0-clause-change c =
    let texts = c.args.dict.now in
    let t = c.args.on.now in
    let l = label_datum texts c.args.label in
    let n = length _ in
    let count : c.len-count.result ≡ n = cc (c.len-count.ensures, c.as_ref.ensures) in
    let none : length t.labels ≡ 0 = omega (arith, c.rows.ensures) in
    let some : 0 < n = omega (arith, count) in
    let labels = range_seen texts n _ (rw count at c.in_ok-axis.ensures) in
    let names = range_names _ n _ (rw count at c.in_ok-axis.ensures) in
    let made = c.in_ok-rows_change.ensures.made in (
      rw (list_rows texts t l c.args.column none some, ← labels, ← names) (rows_meant texts t c.in_ok-axis.axis (places_of c.in_ok-spot.spot) _ c.args.label c.args.column _ c.requires.known.whole (sym (range_count _ _ c.in_ok-axis.ensures)) c.in_ok-spot.ensures.answer made),
      rows_given texts t c.in_ok-axis.axis (places_of c.in_ok-spot.spot) c.args.label c.args.column _ c.requires.known.given (grind (arith, range_seen))
          (λ more. cc (range_names _ _ _ c.in_ok-axis.ensures)) c.requires.label c.requires.given made,
    )

pub returns-clause-change : goal.returns-clause-change
returns-clause-change = grind (arith, else-rows-eq0-via-then-rows-eq0+else-count-gt0, none_seen, nat_tests, length-map)
