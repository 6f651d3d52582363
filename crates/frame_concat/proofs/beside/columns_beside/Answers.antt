use Rattle.{
  frame_parts.proofs.Common.{arith},
  frame_concat.proofs.{PartLaws.{item_known}, BesideLaws.{part_added, columns_added}},
}
use Rattle.frame_concat.proofs.beside.columns_beside.Goals as goal

pub loop-part-preserved : goal.loop-part-preserved
loop-part-preserved c =
    let t = c.part-item.result in
    record {
      blocks = rw c.in_ok-rows.ensures.count at (part_added _ t _ _ _ (item_known _ _ _ t c.requires.known c.loop-part-test.true c.part-item.is) c.in_ok-rows.ensures.below (grind arith) c.in_ok-made.ensures.single (rw c.table.ensures at c.in_ok-made.ensures.columns));
      columns = grind (arith, columns_added);
    }
