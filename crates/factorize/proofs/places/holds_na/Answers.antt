use Rattle.{
  column_core.proofs.cells.Common.{◌≡◌, ◌∙◌, ◌<◌, ◌||◌, ap, sym, arith, ℕ, false, [], map, slice_index_or, list_any-append, map-range_with_len_more, list_any, range_with_len, LabelValue, na, label_datum},
  row_keys.{specs.Keys.{label_in}, proofs.KeyLaws.{any_at}},
  label_align.{specs.Tuples.{labels_of}, proofs.OrderLaws.{label_there, labels_counted}},
  meaning_group.specs.Keys.{is_na},
}
use Rattle.factorize.proofs.places.holds_na.Goals as goal

pub returns-then-eq : goal.returns-then-eq
returns-then-eq g c = λ texts.
    let keys = g.R.KeyLevels.keys _ in
    let level = c.loop-level.level in
    let lt : level < c.args.levels = omega arith in
    sym (any_at _ (labels_of texts keys c.args.levels c.args.row) level na (omega (arith, lt, labels_counted texts keys c.args.levels c.args.row))
    (grind (arith, label_there)))

pub loop-level-preserved : goal.loop-level-preserved
loop-level-preserved g c = λ texts.
    let level = c.loop-level.level in
    let label : ℕ → LabelValue = λ l. label_datum texts (label_in l (slice_index_or (g.R.KeyLevels.keys _) _ [])) in
    let present : is_na (label level) ≡ false = grind arith in
    ap (list_any is_na) (map-range_with_len_more label 0 level level (omega arith))
    ∙ list_any-append _ (map label (range_with_len 0 level)) _
    ∙ (λ i. c.loop-level.invariant texts i || (present i || false))

pub returns : goal.returns
returns g c = λ texts.
    let label : ℕ → LabelValue = λ l. label_datum texts (label_in l (slice_index_or (g.R.KeyLevels.keys _) _ [])) in
    let end : c.loop-level.level ≡ c.args.levels = omega arith in
    sym (c.loop-level.invariant texts) ∙ ap (λ n. list_any is_na (map label (range_with_len 0 n))) end
