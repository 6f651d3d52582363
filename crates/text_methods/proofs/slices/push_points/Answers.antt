use Rattle.{column_core.proofs.cells.Common.{◌∙◌, ap, slice_index_or, arith, place_from}, std.proofs.lemmas.List.{get_or_read}, meaning_text.proofs.SliceLaws.{written_more}}
use Rattle.text_methods.proofs.slices.push_points.Goals as goal

pub loop-row-preserved : goal.loop-row-preserved
loop-row-preserved c =
    let points = c.args.points.now in
    let read = get_or_read points c.place_of.result c.index-points-place_of.result (grind arith) c.index-points-place_of.is 0 in
    c.in_ok-push.ensures.bytes
    ∙ written_more _ _ (λ k. slice_index_or points (place_from c.args.rows.start c.args.rows.step k) 0) c.loop-row.row _ c.loop-row.invariant
    (read ∙ ap (λ place. slice_index_or points place 0) c.place_of.ensures)
