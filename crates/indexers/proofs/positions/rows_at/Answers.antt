use Rattle.{
  column_core.proofs.cells.Common.{◌∙◌, ◌<◌, ap, length, pos, Ok, arith, rules, w64, FitsSigned, get_or_from_slice_get, to_z-of_z, err_from_is_err_and},
  index_core.specs.pick.{Faults.{then_pick}, Keys.{listed_pick}, Positions.{row_at}},
  indexers.{specs.Picks.{as_it_is, pick_of}, proofs.{AnswerLaws.{handed_on}, TurnLaws.{place_more, place_refused}}},
}
use Rattle.indexers.proofs.positions.rows_at.Goals as goal

pub returns-in_err-row_at-clause-picked : goal.returns-in_err-row_at-clause-picked
returns-in_err-row_at-clause-picked c =
    let lt : c.loop-k.k < length c.args.positions.now = omega arith in
    let here = get_or_from_slice_get c.args.positions.now c.loop-k.k c.at.result.now (pos 0) c.at.ensures in
    let fits : FitsSigned w64 c.at.result.now = search rules in
    let p = err_from_is_err_and c.from_residual.result c.from_residual.ensures.1 in
    rw (p.1, p.2) (handed_on as_it_is pick_of _ _ _
    (λ f is. ap (λ r. then_pick r (λ rows. Ok (listed_pick rows))) (place_refused _ _ c.loop-k.places _ _ f _ lt (ap (row_at c.args.count) here ∙ is) c.loop-k.invariant))
    (simp to_z-of_z at c.in_err-row_at.ensures))

pub loop-k-preserved : goal.loop-k-preserved
loop-k-preserved c =
    let lt : c.loop-k.k < length c.args.positions.now = omega arith in
    let here = get_or_from_slice_get _ c.loop-k.k _ (pos 0) c.at.ensures in
    let fits : FitsSigned w64 c.at.result.now = search rules in
    place_more c.args.count _ c.loop-k.places c.push.new.self _ c.loop-k.k (pos 0) _ lt (grind (arith, to_z-of_z)) c.in_ok-push.ensures.ok c.loop-k.invariant
