use Rattle.{
  frame_parts.proofs.Common.{arith, rules, ◌≡◌, ◌∙◌, sym, subst, true, nat_lt, [], ◌∷◌, length, length-range_with_len, headings_part, Makes},
  factorize.specs.Keys.{column_keys},
  frame_select.{specs.Selected.{headings_at}, proofs.PlaceLaws.{heading_settled}},
  frame_labels.proofs.{IndexingLaws.{all_rows}, KeyLaws.{keys_are}},
  frame_reshape.proofs.{GroupCells.{place_given}, PivotLaws.{rest_levels, rest_few, labels_one, names_given, entries_are, made_so, pivot_is}},
}
use Rattle.frame_reshape.proofs.pivoting.pivot.Goals as goal

pub unstack_rows-spread-requires-clause-alike : goal.unstack_rows-spread-requires-clause-alike
unstack_rows-spread-requires-clause-alike c =
    let t = c.args.on.now in
    let p = c.args.told.now in
    let few : nat_lt (length p.index) 4 ≡ true = search rules in
    let rest = column_keys c.of-index.result.columns.now c.of-index.result.count in
    let labels = column_keys c.of-of_columns.result.columns.now c.of-of_columns.result.count in
    let rest_are = keys_are t p.index c.of-index.result.columns.now (grind arith) c.of-index.result.count (c.of-index.ensures.count ∙ c.rows.ensures) in
    let labels_are = keys_are t (p.columns ∷ []) c.of-of_columns.result.columns.now (grind arith) c.of-of_columns.result.count (c.of-of_columns.ensures.count ∙ c.rows-2.ensures) in
    rest_levels c.args.dict.now t p c.requires.known.given c.requires.told few (all_rows t) rest labels rest_are labels_are (headings_at t p.index) (λ i. headings_at t p.index)

pub unstack_rows-spread-requires-clause-few : goal.unstack_rows-spread-requires-clause-few
unstack_rows-spread-requires-clause-few c =
    let t = c.args.on.now in
    let p = c.args.told.now in
    let few : nat_lt (length p.index) 4 ≡ true = search rules in
    let rest = column_keys c.of-index.result.columns.now c.of-index.result.count in
    let labels = column_keys c.of-of_columns.result.columns.now c.of-of_columns.result.count in
    let rest_are = keys_are t p.index c.of-index.result.columns.now (grind arith) c.of-index.result.count (c.of-index.ensures.count ∙ c.rows.ensures) in
    let labels_are = keys_are t (p.columns ∷ []) c.of-of_columns.result.columns.now (grind arith) c.of-of_columns.result.count (c.of-of_columns.ensures.count ∙ c.rows-2.ensures) in
    rest_few c.args.dict.now t p c.requires.known.given c.requires.told few (all_rows t) rest labels rest_are labels_are (headings_at t p.index) (λ i. headings_at t p.index)

pub unstack_rows-spread-requires-clause-one : goal.unstack_rows-spread-requires-clause-one
unstack_rows-spread-requires-clause-one c =
    let t = c.args.on.now in
    let p = c.args.told.now in
    let few : nat_lt (length p.index) 4 ≡ true = search rules in
    let rest = column_keys c.of-index.result.columns.now c.of-index.result.count in
    let labels = column_keys c.of-of_columns.result.columns.now c.of-of_columns.result.count in
    let rest_are = keys_are t p.index c.of-index.result.columns.now (grind arith) c.of-index.result.count (c.of-index.ensures.count ∙ c.rows.ensures) in
    let labels_are = keys_are t (p.columns ∷ []) c.of-of_columns.result.columns.now (grind arith) c.of-of_columns.result.count (c.of-of_columns.ensures.count ∙ c.rows-2.ensures) in
    labels_one c.args.dict.now t p c.requires.known.given c.requires.told few (all_rows t) rest labels rest_are labels_are (headings_at t p.index) (λ i. headings_at t p.index)

pub spread_table-requires-clause-names : goal.spread_table-requires-clause-names
spread_table-requires-clause-names c =
    let t = c.args.on.now in
    let p = c.args.told.now in
    let few : nat_lt (length p.index) 4 ≡ true = search rules in
    let rest = column_keys c.of-index.result.columns.now c.of-index.result.count in
    let labels = column_keys c.of-of_columns.result.columns.now c.of-of_columns.result.count in
    let rest_are = keys_are t p.index c.of-index.result.columns.now (grind arith) c.of-index.result.count (c.of-index.ensures.count ∙ c.rows.ensures) in
    let labels_are = keys_are t (p.columns ∷ []) c.of-of_columns.result.columns.now (grind arith) c.of-of_columns.result.count (c.of-of_columns.ensures.count ∙ c.rows-2.ensures) in
    names_given c.args.dict.now t p c.requires.known.given c.requires.told few (all_rows t) rest labels rest_are labels_are c.as_slice.result.now (c.as_slice.ensures.value ∙ c.in_ok-names.ensures)

pub spread_table-requires-clause-name : goal.spread_table-requires-clause-name
spread_table-requires-clause-name c = heading_settled _ c.args.on.now.headings c.args.told.now.columns _ c.heading-name.ensures.value (headings_part _ c.args.on.now c.requires.known.given)

pub spread_table-requires-clause-cells : goal.spread_table-requires-clause-cells
spread_table-requires-clause-cells c = place_given _ c.args.on.now c.args.told.now.values _ c.requires.known.given c.requires.told.values c.column-cells.ensures.column

pub spread_table-requires-clause-spread : goal.spread_table-requires-clause-spread
spread_table-requires-clause-spread c =
    let t = c.args.on.now in
    let p = c.args.told.now in
    let few : nat_lt (length p.index) 4 ≡ true = search rules in
    let rest = column_keys c.of-index.result.columns.now c.of-index.result.count in
    let labels = column_keys c.of-of_columns.result.columns.now c.of-of_columns.result.count in
    let rest_are = keys_are t p.index c.of-index.result.columns.now (grind arith) c.of-index.result.count (c.of-index.ensures.count ∙ c.rows.ensures) in
    let labels_are = keys_are t (p.columns ∷ []) c.of-of_columns.result.columns.now (grind arith) c.of-of_columns.result.count (c.of-of_columns.ensures.count ∙ c.rows-2.ensures) in
    (rest, labels, (entries_are c.args.dict.now t p c.requires.known.given c.requires.told few (all_rows t) rest labels rest_are labels_are c.as_slice.result.now (c.as_slice.ensures.value ∙ c.in_ok-names.ensures) _ (c.column-cells.ensures.rows ∙ sym (length-range_with_len 0 (length t.labels)))), c.unstack_rows-spread.ensures.places)

pub returns : goal.returns
returns c =
    let t = c.args.on.now in
    let p = c.args.told.now in
    let few : nat_lt (length p.index) 4 ≡ true = search rules in
    let rest = column_keys c.of-index.result.columns.now c.of-index.result.count in
    let labels = column_keys c.of-of_columns.result.columns.now c.of-of_columns.result.count in
    let rest_are = keys_are t p.index c.of-index.result.columns.now (grind arith) c.of-index.result.count (c.of-index.ensures.count ∙ c.rows.ensures) in
    let labels_are = keys_are t (p.columns ∷ []) c.of-of_columns.result.columns.now (grind arith) c.of-of_columns.result.count (c.of-of_columns.ensures.count ∙ c.rows-2.ensures) in
    subst (λ r. Makes c.args.dict.now c.spread_table.result r) (sym (pivot_is c.args.dict.now t p c.column-cells.result few c.column-cells.ensures.column))
    (made_so c.args.dict.now t p c.requires.known.given c.requires.told few (all_rows t) rest labels rest_are labels_are c.as_slice.result.now (c.as_slice.ensures.value ∙ c.in_ok-names.ensures) c.heading-name.result c.column-cells.result c.spread_table.result c.heading-name.ensures.value
    (c.spread_table.ensures rest labels (entries_are c.args.dict.now t p c.requires.known.given c.requires.told few (all_rows t) rest labels rest_are labels_are c.as_slice.result.now (c.as_slice.ensures.value ∙ c.in_ok-names.ensures) _ (c.column-cells.ensures.rows ∙ sym (length-range_with_len 0 (length t.labels)))) c.unstack_rows-spread.ensures.places))
