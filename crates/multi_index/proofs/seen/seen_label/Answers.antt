use Rattle.{
  index_core.proofs.cells.Common.{◌<◌, ◌∙◌, ap, sym, length, arith, Some, get_or_from_slice_get},
  cell_core.specs.declared.cell.Label.TheVariants.{Na},
  multi_index.proofs.{SeenLaws.{new_at, count_new, count_old}, seen.seen_label.Goals.{then-is_new+else-count-code, else-is_new}},
}
use Rattle.multi_index.proofs.seen.seen_label.Goals as goal

pub returns-then-count-code : goal.returns-then-count-code
returns-then-count-code c =
    let rows = c.args.rows.now in
    let row = c.loop-row.row in
    rw (← c.if-count-code.true, c.loop-row.invariant.counted)
    (new_at rows row (omega arith) (sym c.is_new.ensures ∙ c.if-is_new.true) ∙ ap Some (get_or_from_slice_get rows row c.label.result Na c.label.ensures))

pub loop-row-preserved : goal.loop-row-preserved
loop-row-preserved c =
    let rows = c.args.rows.now in
    let row = c.loop-row.row in
    let lt : row < length rows = omega arith in
    elim c.if-is_new.branch [
      | then-is_new+else-count-code w ↦ record {
        counted = count_new rows row lt _ _ (sym c.is_new.ensures ∙ w.if-is_new.true) c.loop-row.invariant.counted w.count-is;
        few = omega (arith, w.count-is, c.loop-row.invariant.few);
        before = omega (arith, w.count-is, c.loop-row.invariant.before, w.if-count-code.false);
      }
      | else-is_new w ↦ record {
        counted = count_old rows row lt _ _ (sym c.is_new.ensures ∙ w.if-is_new.false) c.loop-row.invariant.counted w.count-is;
        few = omega (arith, w.count-is, c.loop-row.invariant.few);
        before = omega (arith, w.count-is, c.loop-row.invariant.before);
      }
    ]
