use Rattle.{
  column_core.proofs.cells.Common.{take_all, take_more, length-take-le, fill_by_all, ◌≡◌, ◌<◌, None, length, take, arith, slice_index_or},
  factorize.{specs.Numbers.{placed}, proofs.PlaceLaws.{placed_more}},
}
use Rattle.factorize.proofs.places.place_all.Goals as goal

pub loop-place-preserved : goal.loop-place-preserved
loop-place-preserved c =
    let kept = c.args.kept.now in
    let place = c.loop-place.place in
    let number = slice_index_or kept place 0 in
    let below : number < length c.args.places.now = grind arith in
    let is : c.place_first.new.places ≡ placed c.loop-place.places number (length (take place kept)) = grind (arith, length-take-le) in
    record {
      size = search;
      at = λ n below'. cc (take_more kept place 0 (omega arith), placed_more (take place kept) (length c.args.places.now) number c.loop-place.places c.place_first.new.places below c.loop-place.invariant.size c.loop-place.invariant.at is n below');
    }

pub returns : goal.returns
returns c =
    fill_by_all _ c.loop-place.places _ None c.loop-place.invariant.size
    (λ n lt. grind (arith, take_all))
