use Rattle.{
  std.proofs.{Common.{mod-lt}, lemmas.Option.{slice_get-get_or}},
  frame_parts.proofs.Common.{◌≡◌, ◌∙◌, ◌<◌, sym, length, arith, true, false, rules},
  frame_set.proofs.FillLaws.{fit_done, fit_fails, fit_more, kind_is, column_next, column_first},
}
use Rattle.frame_set.proofs.filling.expect_fit.Goals as goal
use Rattle.frame_set.proofs.filling.expect_fit.Goals.{then-column-kinds, else-column-kinds}

pub returns-then-not-holds : goal.returns-then-not-holds
returns-then-not-holds c = λ texts grown columns are.
    let kinds = c.args.kinds.now in
    let some : 0 < length kinds = omega arith in
    let inside : c.loop-value.column < length kinds = omega (arith, mod-lt c.loop-value.value-index some, c.loop-value.invariant.column) in
    let other : c.holds.result ≡ false = search rules in
    let kind = kind_is grown columns kinds _ _ _ are c.loop-value.invariant.column (slice_get-get_or kinds _ _ inside) in (
      fit_fails _ _ _ _ _ _ _ _ _ c.loop-value-test.true (slice_get-get_or _ _ _ c.loop-value-test.true) kind (c.holds.ensures texts) other (c.loop-value.invariant.fits texts grown columns are),
      search,
    )

pub loop-value-preserved : goal.loop-value-preserved
loop-value-preserved c =
    let kinds = c.args.kinds.now in
    let k = c.loop-value.value-index in
    let column = c.loop-value.invariant.column in
    let some : 0 < length kinds = omega arith in
    let inside : c.loop-value.column < length kinds = omega (arith, mod-lt k some, column) in
    let so : c.holds.result ≡ true = search rules in
    record {
      column = elim c.if-column-kinds.branch [
        | then-column-kinds w ↦ w.column-is ∙ sym (column_first k (length kinds) some (omega (arith, w.if-column-kinds.true, column)))
        | else-column-kinds w ↦ omega (arith, w.column-is, column, column_next k (length kinds) (omega (arith, inside, column, w.if-column-kinds.false)))
      ];
      fits = λ texts grown columns are.
          let kind = kind_is grown columns kinds _ _ _ are column (slice_get-get_or kinds _ _ inside) in
          fit_more _ _ _ _ _ _ _ _ _ c.loop-value-test.true (slice_get-get_or _ _ _ c.loop-value-test.true) kind (c.holds.ensures texts) so (c.loop-value.invariant.fits texts grown columns are);
    }

pub returns : goal.returns
returns c = λ texts grown columns are.
    let end : c.loop-value.value-index ≡ length c.args.values.now = omega arith in
    fit_done _ _ _ _ _ _ end (c.loop-value.invariant.fits texts grown columns are)
