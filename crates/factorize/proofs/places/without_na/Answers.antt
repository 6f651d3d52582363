use Rattle.{
  column_core.proofs.cells.Common.{◌≡◌, ◌∙◌, ◌≤◌, ℕ, Bool, not, filter, length, ap, arith, slice_index_or, take_all, filter_more},
  factorize.specs.Numbers.{first_row, row_holds_na},
}
use Rattle.factorize.proofs.places.without_na.Goals as goal

pub loop-number-preserved : goal.loop-number-preserved
loop-number-preserved g c = λ texts.
    let numbers = c.args.numbers.now in
    let i = c.loop-number.number-index in
    let stays : ℕ → Bool = λ n. not (row_holds_na texts (g.R.KeyLevels.keys c.args.rows.now) c.args.levels (first_row c.args.firsts.now n)) in
    let told : not c.holds_na-stays.result ≡ stays (slice_index_or numbers i 0) = cc (c.holds_na-stays.ensures texts, c.row_of.ensures) in
    cc (c.in_ok-push_if.ensures, c.loop-number.invariant texts, filter_more stays numbers i 0 (omega arith))

pub returns : goal.returns
returns g c = λ texts.
    let end : length c.args.numbers.now ≤ c.loop-number.number-index = omega arith in
    c.from.ensures ∙ c.loop-number.invariant texts
    ∙ ap (filter (λ n. not (row_holds_na texts (g.R.KeyLevels.keys _) c.args.levels (first_row c.args.firsts.now n)))) (take_all _ _ end)
