use Rattle.{
  frame_parts.proofs.Common.{err_from_is_err_and, ◌≡◌, ◌<◌, arith, length, label_datum, axis_of, labels_part, level_names_part},
  frame_set.{specs.Places.{places_of}, proofs.PutCases.{column_is_given, has_column, rows_given, rows_meant, series_column, series_refused, series_rows}},
}
use Rattle.frame_set.proofs.putting.series_change.Goals as goal

pub returns-then-rows-gt0-clause-change : goal.returns-then-rows-gt0-clause-change
returns-then-rows-gt0-clause-change c =
    let texts = c.args.dict.now in
    let t = c.args.on.now in
    let s = c.args.series.now in
    let copied : c.in_ok-axis.axis ≡ axis_of s = grind arith in
    let none : length t.labels ≡ 0 = omega (arith, c.rows.ensures, c.if-rows-eq0.true) in
    let some : 0 < length s.labels = omega (arith, c.rows-then-rows-eq0.ensures, c.if-rows-gt0.true) in
    let made = c.in_ok-rows_change.ensures.made in (
      rw (series_rows texts t s (label_datum texts c.args.label) none some, series_column texts s _ _ c.column.ensures.column c.in_ok-column.ensures) (rw copied at (rows_meant texts t c.in_ok-axis.axis (places_of c.in_ok-spot.spot) _ c.args.label c.in_ok-column.column _ c.requires.known.whole (grind (arith, c.rows-then-rows-gt0.ensures)) c.in_ok-spot.ensures.answer made)),
      rows_given texts t c.in_ok-axis.axis (places_of c.in_ok-spot.spot) c.args.label c.in_ok-column.column _ c.requires.known.given
          (rw copied (labels_part _ s c.requires.series.given))
          (rw copied (level_names_part _ s c.requires.series.given)) c.requires.label
          (column_is_given _ s 0 _ _ c.requires.series.given (has_column s c.requires.series.whole c.requires.single) c.column.ensures.column c.in_ok-column.ensures) made,
    )

pub returns-in_err-spot-clause-change : goal.returns-in_err-spot-clause-change
returns-in_err-spot-clause-change c =
    let texts = c.args.dict.now in
    let t = c.args.on.now in
    let s = c.args.series.now in
    let none : length t.labels ≡ 0 = omega (arith, c.rows.ensures, c.if-rows-eq0.true) in
    let some : 0 < length s.labels = omega (arith, c.rows-then-rows-eq0.ensures, c.if-rows-gt0.true) in
    let p = err_from_is_err_and c.from_residual.result c.from_residual.ensures.1 in
    rw (p.1, p.2) (series_refused texts t s c.args.label _ _ c.requires.known.whole none some c.rows-then-rows-gt0.ensures c.in_err-spot.ensures.answer)
