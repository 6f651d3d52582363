use Rattle.{
  column_core.proofs.cells.Common.{◌∙◌, sym, ap, arith, true, false, Err, []},
  factorize.{proofs.GroupLaws.{rows_inside, tuples_there}, specs.multi_index.Axes.{tuples_at}},
  meaning_shapes.specs.Reshape.{duplicate_entry},
  reshape.proofs.UnstackLaws.{repeated_inside, is_repeated, is_too_large, is_made, made_is_unstacking},
}
use Rattle.reshape.proofs.unstack.unstack_rows.Goals as goal

pub entry_of_row-requires-clause-key : goal.entry_of_row-requires-clause-key
entry_of_row-requires-clause-key g c = repeated_inside c.args.dict.now _ _ c.requires.count c.requires.alike c.requires.one _ c.in_ok-keys.ensures.codes _ c.in_ok-row.ensures.row c.in-Some.row c.in-Some.is c.in_ok-row.ensures.below

pub entry_of_row-requires-clause-label : goal.entry_of_row-requires-clause-label
entry_of_row-requires-clause-label g c = omega (arith, entry_of_row-requires-clause-key g c)

pub entry_of_row-requires-clause-one : goal.entry_of_row-requires-clause-one
entry_of_row-requires-clause-one g c = c.requires.one c.in-Some.row [] (omega (arith, entry_of_row-requires-clause-key g c))

pub returns-in-Some-clause-places : goal.returns-in-Some-clause-places
returns-in-Some-clause-places g c =
    let below = repeated_inside c.args.dict.now (g.R.KeyLevels.keys c.args.rest.now) (g.C.KeyLevels.keys c.args.spread.now) c.requires.count c.requires.alike c.requires.one _ c.in_ok-keys.ensures.codes _ c.in_ok-row.ensures.row c.in-Some.row c.in-Some.is c.in_ok-row.ensures.below in
    is_repeated c.args.dict.now _ _ c.requires.count c.requires.alike c.requires.one _ c.in_ok-keys.ensures.codes _ c.in_ok-row.ensures.row c.in-Some.row c.in-Some.is below
    ∙ ap (λ entry. Err (duplicate_entry entry)) (sym c.entry_of_row.ensures)

pub returns-in_default-cells_within_limits-clause-places : goal.returns-in_default-cells_within_limits-clause-places
returns-in_default-cells_within_limits-clause-places g c =
    is_too_large c.args.dict.now _ _ c.requires.count c.requires.alike c.requires.one _ c.in_ok-keys.ensures.codes _ c.in_ok-row.ensures.row c.in_default.is _ _ (c.count.ensures ∙ c.in_ok-keys.ensures.count) (c.count-2.ensures ∙ c.in_ok-labels.ensures.count)
    c.in_default-cells_within_limits.ensures

pub keys_at-requires-clause-rows : goal.keys_at-requires-clause-rows
keys_at-requires-clause-rows g c = rw c.in_ok-keys.ensures.firsts (rows_inside c.args.dict.now _ true false)

pub keys_at-requires-2-clause-rows : goal.keys_at-requires-2-clause-rows
keys_at-requires-2-clause-rows g c = rw c.in_ok-labels.ensures.firsts (rows_inside c.args.dict.now _ true false)

pub returns-clause-places : goal.returns-clause-places
returns-clause-places g c =
    let its_rows = c.in_ok-rows.ensures ∙ ap (tuples_at (g.R.KeyLevels.keys c.args.rest.now)) c.in_ok-keys.ensures.firsts ∙ tuples_there c.args.dict.now (g.R.KeyLevels.keys c.args.rest.now) true false in
    let its_columns = c.in_ok-columns.ensures ∙ ap (tuples_at (g.C.KeyLevels.keys c.args.spread.now)) c.in_ok-labels.ensures.firsts ∙ tuples_there c.args.dict.now (g.C.KeyLevels.keys c.args.spread.now) true false in
    is_made c.args.dict.now _ _ c.requires.count c.requires.alike c.requires.one _ c.in_ok-keys.ensures.codes _ c.in_ok-row.ensures.row c.in_default.is _ _ (c.count.ensures ∙ c.in_ok-keys.ensures.count) (c.count-2.ensures ∙ c.in_ok-labels.ensures.count)
    c.in_ok-keys.keys.groups c.in_ok-labels.labels.groups c.in_ok-keys.ensures.codes c.in_ok-labels.ensures.codes c.in_ok-labels.ensures.count
    record { rows = c.in_ok-rows.rows; columns = c.in_ok-columns.columns; places = c.in_ok-places.places } its_rows its_columns _ c.in-Some-cells_within_limits.ensures.0 c.in_ok-places.ensures c.in-Some-cells_within_limits.ensures.1

pub returns-clause-law : goal.returns-clause-law
returns-clause-law g c =
    let its_rows = c.in_ok-rows.ensures ∙ ap (tuples_at (g.R.KeyLevels.keys c.args.rest.now)) c.in_ok-keys.ensures.firsts ∙ tuples_there c.args.dict.now (g.R.KeyLevels.keys c.args.rest.now) true false in
    let its_columns = c.in_ok-columns.ensures ∙ ap (tuples_at (g.C.KeyLevels.keys c.args.spread.now)) c.in_ok-labels.ensures.firsts ∙ tuples_there c.args.dict.now (g.C.KeyLevels.keys c.args.spread.now) true false in
    made_is_unstacking c.args.dict.now _ _ c.requires.count c.requires.alike c.requires.one _ c.in_ok-keys.ensures.codes _ c.in_ok-row.ensures.row c.in_default.is _ _ (c.count.ensures ∙ c.in_ok-keys.ensures.count) (c.count-2.ensures ∙ c.in_ok-labels.ensures.count)
    c.in_ok-keys.keys.groups c.in_ok-labels.labels.groups c.in_ok-keys.ensures.codes c.in_ok-labels.ensures.codes c.in_ok-labels.ensures.count
    record { rows = c.in_ok-rows.rows; columns = c.in_ok-columns.columns; places = c.in_ok-places.places } its_rows its_columns _ c.in-Some-cells_within_limits.ensures.0 c.in_ok-places.ensures
