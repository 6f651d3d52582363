use Rattle.{
  index_core.proofs.cells.Common.{◌<◌, ◌∙◌, sym, length, arith},
  multi_index.proofs.{SeenLaws.{count_new, count_old}, seen.seen_count.Goals.{then-is_new, else-is_new}},
}
use Rattle.multi_index.proofs.seen.seen_count.Goals as goal

pub loop-row-preserved : goal.loop-row-preserved
loop-row-preserved c =
    let rows = c.args.rows.now in
    let row = c.loop-row.row in
    let lt : row < length rows = omega arith in
    elim c.if-is_new.branch [
      | then-is_new w ↦ record {
        counted = count_new rows row lt _ _ (sym c.is_new.ensures ∙ w.if-is_new.true) c.loop-row.invariant.counted w.count-is;
        few = omega (arith, w.count-is, c.loop-row.invariant.few);
      }
      | else-is_new w ↦ record {
        counted = count_old rows row lt _ _ (sym c.is_new.ensures ∙ w.if-is_new.false) c.loop-row.invariant.counted w.count-is;
        few = omega (arith, w.count-is, c.loop-row.invariant.few);
      }
    ]
