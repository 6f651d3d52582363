use Rattle.{
  column_core.proofs.cells.Common.{◌≡◌, ◌+◌, ◌∷◌, ◌++◌, [], ap, sym, ◌∙◌, arith, Some, tabulate, rules, w64, to_z, of_z},
  std.proofs.lemmas.Int.{to_z-of_z},
  nullable_array.proofs.PairRows.{row_pushed},
  rolling.proofs.ColumnLaws.{tabulate_more},
}
use Rattle.rolling.proofs.columns.answered_rows.Goals as goal

pub loop-row-preserved : goal.loop-row-preserved
loop-row-preserved g c =
    let row = g.A.Source.row_of c.args.a.now in
    let so_far = c.loop-row.invariant in
    let more : tabulate (c.loop-row.row + 1) row ≡ tabulate c.loop-row.row row ++ c.get.result ∷ [] = tabulate_more row c.loop-row.row ∙ ap (λ x. tabulate c.loop-row.row row ++ x ∷ []) (sym c.get.ensures) in
    let value : g.W.Answering.answer_of c.args.window.now (tabulate (c.loop-row.row + 1) row) ≡ c.answer-value.result = rw more (sym (c.answer-value.ensures.answer _ so_far.taken ∙ so_far.same _)) in
    let fits : to_z w64 (of_z w64 c.unwrap_or.result) ≡ c.unwrap_or.result = to_z-of_z w64 _ (search rules) in
    record {
      values = grind arith;
      present = grind arith;
      counted = grind arith;
      marked = grind arith;
      room = grind arith;
      places = grind arith;
      taken = rw more (c.answer-value.ensures.taken _ so_far.taken);
      same = λ rows. c.answer-value.ensures.same rows ∙ so_far.same rows;
      written = rw (c.push_reserved.ensures.items, c.push_reserved-in-loop-row.ensures.items, fits, c.unwrap_or.ensures, c.is_some.ensures) (row_pushed _ _ _ _ _ _ so_far.written so_far.values so_far.present (ap Some value));
    }
