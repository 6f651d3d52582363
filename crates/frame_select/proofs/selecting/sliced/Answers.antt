use Rattle.{
  frame_parts.proofs.Common.{arith, ◌≡◌, ◌∙◌, ap, range_with_len, Shape, NumberedTable, table_value, limited, tables, table_at},
  indexers.specs.pick.Rows.{rows_of},
  frame_select.{specs.Chosen.{chosen}, proofs.CutLaws.{table_is_settled, read_is, own_headings, own_given, chosen_rows, places_count, places_inside}},
}
use Rattle.frame_select.proofs.selecting.sliced.Goals as goal

pub cut_within-requires-clause-taken : goal.cut_within-requires-clause-taken
cut_within-requires-clause-taken c = grind (arith, places_inside, places_count, read_is)

pub returns : goal.returns
returns c = λ texts settled.
    let t = table_at (tables c.args.store.now) c.args.on.0 in
    let own : c.in_ok-headings.headings ≡ own_headings t = grind arith in
    let seen = ap (λ (s : Shape). limited (table_value texts (chosen s c.in_ok-headings.headings (rows_of c.args.rows) c.in_ok-columns.columns t))) (c.shape-shape.ensures ∙ ap (λ (n : NumberedTable). n.shape) (read_is _ _ c.read-source.ensures.table)) ∙ ap limited (chosen_rows _ _ _ _ t own (c.in_ok-columns.ensures ∙ ap (range_with_len 0) (grind arith))) in
    rw seen at (c.cut_within.ensures texts settled (own_given _ t _ own (table_is_settled _ _ _ c.requires.live settled)))
