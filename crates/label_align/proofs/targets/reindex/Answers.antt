use Rattle.{
  meaning_align.proofs.cells.Common.{arith, ◌∙◌, sym, get_or_from_slice_get},
  row_keys.proofs.PartnerLaws.{firsts_counted, left_is, right_is, left_below, right_below, buckets_counted},
  label_align.proofs.TargetLaws.{repeated, found},
}
use Rattle.label_align.proofs.targets.reindex.Goals as goal

pub rows_by_code-requires-clause-known : goal.rows_by_code-requires-clause-known
rows_by_code-requires-clause-known g c = search (left_below, left_is, firsts_counted, c.deref-codes.ensures.value ∙ c.in_ok-numbers.ensures.codes, c.deref-firsts.ensures.value ∙ c.in_ok-numbers.ensures.firsts)

pub first_repeat-requires : goal.first_repeat-requires
first_repeat-requires g c =
    left_below c.args.a.now.tuples (g.R.LevelRows.tuples c.args.target.now) _ _ (search (left_is, c.deref-codes.ensures.value ∙ c.in_ok-numbers.ensures.codes))
    (grind (arith, buckets_counted, firsts_counted))

pub returns-in-Some : goal.returns-in-Some
returns-in-Some g c =
    let coded = c.deref-codes.ensures.value ∙ c.in_ok-numbers.ensures.codes in
    repeated c.args.a.now.tuples (g.R.LevelRows.tuples _) _ _
    (grind (arith, firsts_counted, left_is))
    (search left_is)
    c.has_tuples.result _ _ c.has_tuples.ensures c.if-has_tuples.false c.in-Some.ensures (sym (search get_or_from_slice_get))

pub rows_of_codes-requires : goal.rows_of_codes-requires
rows_of_codes-requires g c =
    right_below c.args.a.now.tuples (g.R.LevelRows.tuples c.args.target.now) _ _ (search (right_is, c.deref-codes.ensures.value ∙ c.in_ok-numbers.ensures.codes))
    (grind (arith, buckets_counted, firsts_counted))

pub returns : goal.returns
returns g c =
    let coded = c.deref-codes.ensures.value ∙ c.in_ok-numbers.ensures.codes in
    found c.args.a.now.tuples (g.R.LevelRows.tuples _) _ _
    (grind (arith, firsts_counted, left_is))
    (search left_is)
    c.has_tuples.result _ _ c.has_tuples.ensures c.if-has_tuples.false c.in_default.ensures (search right_is) c.in_ok-gaps-2.ensures
