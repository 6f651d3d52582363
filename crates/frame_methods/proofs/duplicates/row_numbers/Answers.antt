use Rattle.{
  frame_parts.proofs.Common.{◌≡◌, ◌<◌, ◌+◌, ◌++◌, ◌∷◌, [], subst, length, take, arith, take_more, get_or_from_slice_get},
  column_core.proofs.cells.Common.{take_at},
  frame_methods.specs.Rows.{AreNumbers},
}
use Rattle.frame_methods.proofs.duplicates.row_numbers.Goals as goal

pub loop-k-preserved : goal.loop-k-preserved
loop-k-preserved c =
    let lt : c.loop-k.k < length c.args.places.now = omega arith in
    let t = c.args.on.now in
    let places = c.args.places.now in
    let k = c.loop-k.k in
    let numbers = c.number_cells.new.numbers in
    let next : take k places ++ c.at.result.now ∷ [] ≡ take (k + 1) places = cc (get_or_from_slice_get places k c.at.result.now 0 c.at.ensures, take_more places k 0 lt) in
    let before : AreNumbers t (take k places) c.deref_mut.result.now = grind arith in
    let size : length numbers ≡ c.loop-k.numbers.len = omega arith in
    subst (AreNumbers t (take (k + 1) places)) (search take_at)
    (rw next at (c.in_ok-number_cells.ensures (take k places) before))
