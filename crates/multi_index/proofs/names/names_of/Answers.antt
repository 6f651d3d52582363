use Rattle.{
  index_core.proofs.cells.Common.{◌<◌, length, sym, arith, length-set, get_or_from_slice_get},
  multi_index.proofs.LevelLaws.{one_read_more},
}
use Rattle.multi_index.proofs.names.names_of.Goals as goal

pub loop-k-preserved : goal.loop-k-preserved
loop-k-preserved c =
    let lt : c.loop-k.k < length c.args.order.now = omega arith in
    let room : c.loop-k.k < length c.loop-k.names = omega (arith, c.loop-k.invariant.room, c.requires.few) in
    record {
      room = search length-set;
      so_far = one_read_more _ _ _ _ _ room lt
          (sym (search get_or_from_slice_get)) c.loop-k.invariant.so_far;
    }
