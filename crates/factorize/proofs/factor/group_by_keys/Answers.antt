use Rattle.{
  column_core.proofs.cells.Common.{arith, ◌∙◌, ap, rules},
  factorize.proofs.{KeyNumberLaws.{sight_firsts, all_codes}, GroupLaws.{below_count, codes_below, codes_are, groups_counted, rows_are, law_of}},
}
use Rattle.factorize.proofs.factor.group_by_keys.Goals as goal

pub groups_of_all-requires : goal.groups_of_all-requires
groups_of_all-requires g c =
    codes_below c.args.dict.now _ _ c.levels-levels.ensures.alike c.args.sorted c.args.dropna
    _ c.in_ok-numbers.ensures.firsts c.in_ok-numbers.numbers.codes.items c.in_ok-numbers.ensures.codes

pub returns-then-not-dropna-clause-codes : goal.returns-then-not-dropna-clause-codes
returns-then-not-dropna-clause-codes g c = grind (arith, c.in_ok-all.ensures.groups, all_codes c.args.dict.now (g.R.KeyLevels.keys c.args.rows.now) c.args.sorted c.args.dropna (search rules) (search rules) c.in_ok-numbers.numbers.codes.items c.in_ok-numbers.ensures.codes)

pub returns-then-not-dropna-clause-firsts : goal.returns-then-not-dropna-clause-firsts
returns-then-not-dropna-clause-firsts = grind (arith, sight_firsts)

pub returns-then-not-dropna-clause-law : goal.returns-then-not-dropna-clause-law
returns-then-not-dropna-clause-law g c =
    law_of _ _ _ _ c.in_ok-all.all.firsts _
    (returns-then-not-dropna-clause-firsts g c) (returns-then-not-dropna-clause-codes g c)

pub groups_of_kept-requires-clause-kept : goal.groups_of_kept-requires-clause-kept
groups_of_kept-requires-clause-kept g c =
    below_count _ _ _ c.levels-levels.ensures.alike _ _
    _ c.in_ok-numbers.ensures.firsts _ (c.as_slice.ensures ∙ c.in_ok-kept.ensures)

pub groups_of_kept-requires-clause-codes : goal.groups_of_kept-requires-clause-codes
groups_of_kept-requires-clause-codes g c =
    codes_below c.args.dict.now _ _ c.levels-levels.ensures.alike c.args.sorted c.args.dropna
    _ c.in_ok-numbers.ensures.firsts c.in_ok-numbers.numbers.codes.items c.in_ok-numbers.ensures.codes

pub returns-clause-count : goal.returns-clause-count
returns-clause-count g c = grind (arith, c.in_ok-made.ensures.groups, groups_counted c.args.dict.now (g.R.KeyLevels.keys c.args.rows.now) c.levels-levels.result c.levels-levels.ensures.alike c.args.sorted c.args.dropna c.in_ok-numbers.numbers.firsts.items c.in_ok-numbers.ensures.firsts c.as_slice.result.now (c.as_slice.ensures ∙ c.in_ok-kept.ensures))

pub returns-clause-codes : goal.returns-clause-codes
returns-clause-codes g c =
    codes_are _ _ _ c.levels-levels.ensures.alike _ _
    _ c.in_ok-numbers.ensures.firsts _ (c.as_slice.ensures ∙ c.in_ok-kept.ensures)
    c.in_ok-numbers.numbers.codes.items c.in_ok-numbers.ensures.codes c.in_ok-made.made.groups.codes (ap (λ v. v.codes) c.in_ok-made.ensures.groups)

pub returns-clause-firsts : goal.returns-clause-firsts
returns-clause-firsts g c =
    rows_are _ _ _ c.levels-levels.ensures.alike _ _
    _ c.in_ok-numbers.ensures.firsts _ (c.as_slice.ensures ∙ c.in_ok-kept.ensures)
    c.in_ok-made.made.firsts c.in_ok-made.ensures.firsts

pub returns-clause-law : goal.returns-clause-law
returns-clause-law g c =
    law_of _ _ _ _ c.in_ok-made.made.firsts _
    (returns-clause-firsts g c) (returns-clause-codes g c)
