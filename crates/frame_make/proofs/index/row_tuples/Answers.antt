use Rattle.{
  frame_parts.proofs.Common.{◌≡◌, ◌<◌, [], ◌∷◌, ◌++◌, length, None, arith, append_assoc, map-append, All-push, drop-cons},
  frame_make.proofs.FrameLaws.{row_fits},
}
use Rattle.frame_make.proofs.index.row_tuples.Goals as goal

pub of-requires : goal.of-requires
of-requires c =
    let count : length c.as_slice.result.now ≡ c.args.levels = cc (c.as_slice.ensures.value, row_fits _ _ _ _ _ _ c.requires.alike (omega arith) c.row-item.is (c.in_ok-put_labels.ensures (λ id. None) [])) in
    record { some = omega (arith, count); few = omega (arith, count) }

pub loop-row-preserved : goal.loop-row-preserved
loop-row-preserved c =
    let lt : c.loop-row.row-index < length c.args.index.now = omega arith in
    let pushed : c.push.new.self ≡ c.loop-row.tuples ++ c.put_labels.new.labels.items ∷ [] = grind arith in
    record {
      levels = rw pushed (All-push (λ l. length l ≡ c.args.levels) _ _ c.loop-row.invariant.levels (row_fits _ _ _ _ _ _ c.requires.alike lt c.row-item.is (c.in_ok-put_labels.ensures (λ id. None) [])));
      labels = λ texts. grind (arith, map-append, append_assoc, drop-cons c.args.index.now c.loop-row.row-index c.row-item.result lt, c.in_ok-put_labels.ensures (λ id. None) texts, c.loop-row.invariant.labels texts);
    }
