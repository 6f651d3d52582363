use Rattle.{
  column_core.proofs.cells.Common.{◌≡◌, ◌∙◌, ◌+◌, ◌<◌, suc, length, ap, arith, length-map},
  merge_concat.{specs.Axes.{tuples_of_each}, proofs.UnitedLaws.{keys_more, tuples_there}},
}
use Rattle.merge_concat.proofs.axes.keys_by_row.Goals as goal

pub loop-place-preserved : goal.loop-place-preserved
loop-place-preserved c =
    let lists = tuples_of_each c.args.axes.now in
    let place = c.loop-place.place in
    let in_lists : place < length lists = omega (arith, length-map c.args.axes.now (λ axis. axis.now.tuples), c.loop-place-test.true) in
    let many = c.len.ensures ∙ ap length (tuples_there _ _ _ c.loop-place-test.true c.index-axes-place.is) in
    let next : suc place ≡ place + 1 = omega arith in
    grind (arith, keys_more)
