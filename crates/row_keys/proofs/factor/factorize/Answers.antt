use Rattle.{
  multi_index.proofs.cells.Common.{◌≡◌, ◌<◌, ◌++◌, ◌∷◌, [], length, arith, cond, get_or_from_slice_get},
  row_keys.proofs.{DistinctLaws.{numbers_more, seen_more}, factor.factorize.Goals.{then-new+in_ok-push-2, else-new}},
}
use Rattle.row_keys.proofs.factor.factorize.Goals as goal

pub loop-row-preserved : goal.loop-row-preserved
loop-row-preserved g c =
    let lt : c.loop-row.row < length (g.R.KeyRows.keys _) = omega (arith, c.loop-row-test.true, c.count-count.ensures) in
    let grown : c.if-new.firsts.items ≡ cond c.in_ok-code.new (c.loop-row.firsts.items ++ c.loop-row.row ∷ []) c.loop-row.firsts.items
    = elim c.if-new.branch [
      | then-new+in_ok-push-2 w ↦ grind arith
      | else-new w ↦ grind arith
    ] in
    let here = get_or_from_slice_get (g.R.KeyRows.keys c.args.rows.now) _ _ c.key.result c.key.ensures in
    record {
      seen = seen_more _ g.met.K.Eq.laws _ _ _ _ _ lt here c.loop-row.invariant.seen c.in_ok-code.ensures.keys;
      numbers = numbers_more _ g.met.K.Eq.laws _ _ _ _ _ _ _ _ _ _ lt here c.loop-row.invariant.numbers c.loop-row.invariant.seen c.in_ok-code.ensures.added c.in_ok-code.ensures.index c.in_ok-push.ensures.items grown;
    }
