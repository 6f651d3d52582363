use Rattle.{
  frame_parts.proofs.Common.{column_seen, ◌≡◌, ap, sym, subst, label_datum, NumberedTable, table_value, tables, table_at, table_or, err_from_is_err_and, AreGiven, object_settled},
  frame_select.specs.select.Set.{series_set},
  frame_set.{specs.Changes.{ChangesBy}, proofs.{PutCases.{filled_given, listed_given, same_settled}, SetLaws.{part_refused}}},
}
use Rattle.frame_set.proofs.putting.column_change.Goals as goal

pub put_change-requires-clause-given : goal.put_change-requires-clause-given
put_change-requires-clause-given c =
    filled_given _ _ _ _ (search same_settled) c.in_ok-column-in-Same.ensures.cells

pub returns-in_err-column-in-Listed-clause-change : goal.returns-in_err-column-in-Listed-clause-change
returns-in_err-column-in-Listed-clause-change c =
    let p = err_from_is_err_and c.from_residual-in_err-column-in-Listed.result c.from_residual-in_err-column-in-Listed.ensures.1 in
    rw (p.1, p.2, c.in-Listed.is)
    (part_refused column_seen _ _ _ _ (c.in_err-column-in-Listed.ensures.answer c.args.dict.now))

pub list_change-requires-clause-given : goal.list_change-requires-clause-given
list_change-requires-clause-given c =
    subst (AreGiven c.args.dict.now) (sym c.in_ok-column-in-Listed.ensures.cells) (search listed_given)

pub series_change-requires-clause-series : goal.series_change-requires-clause-series
series_change-requires-clause-series c = search object_settled

pub returns-in_ok-column-in-Listed-clause-change : goal.returns-in_ok-column-in-Listed-clause-change
returns-in_ok-column-in-Listed-clause-change c = rw (c.in-Listed.is, c.in_ok-column-in-Listed.ensures.answer c.args.dict.now) c.list_change.ensures.change

pub returns-in-Aligned-clause-change : goal.returns-in-Aligned-clause-change
returns-in-Aligned-clause-change c =
    let texts = c.args.dict.now in
    let t = c.args.on.now in
    let same : c.read.result ≡ table_at (tables c.args.store.now) c.in-Aligned.id.0 = sym (ap table_or c.read.ensures.table) in
    rw c.in-Aligned.is
    (subst (λ (s : NumberedTable). ChangesBy texts t c.series_change.result (series_set (table_value texts t) (label_datum texts c.args.label) (table_value texts s))) same c.series_change.ensures.change)
