use Rattle.{frame_parts.proofs.Common.{rules, ◌≡◌, ◌∙◌, ap, sym, subst, map, true, nat_lt, length, headings_part, column_value, table_column, AreGiven, Makes}, frame_select.{specs.Selected.{headings_at}, proofs.PlaceLaws.{heading_settled}}, frame_labels.specs.Levels.{row_labels}, group_by.specs.Operations.{reduction_of}, frame_reshape.proofs.PivotLaws.{rest_levels, rest_few, labels_one, names_given, entries_are, made_so, table_is, spread_by}}
use Rattle.frame_reshape.proofs.pivoting.pivot_table.Goals as goal

pub unstack_places-spread-requires-clause-alike : goal.unstack_places-spread-requires-clause-alike
unstack_places-spread-requires-clause-alike c =
    let t = c.args.on.now in
    let p = c.args.told.now in
    let few : nat_lt (length p.index) 4 ≡ true = search rules in
    let rows = c.in_ok-rows.field-0.rows in
    let labels_are = c.in_ok-labels.ensures ∙ ap (λ places. map (row_labels t places) rows) c.in_ok-places.ensures in
    rest_levels c.args.dict.now t p c.requires.known.given c.requires.told few rows c.in_ok-index.index c.in_ok-labels.labels c.in_ok-index.ensures labels_are (headings_at t p.index) (λ i. headings_at t p.index)

pub unstack_places-spread-requires-clause-few : goal.unstack_places-spread-requires-clause-few
unstack_places-spread-requires-clause-few c =
    let t = c.args.on.now in
    let p = c.args.told.now in
    let few : nat_lt (length p.index) 4 ≡ true = search rules in
    let rows = c.in_ok-rows.field-0.rows in
    let labels_are = c.in_ok-labels.ensures ∙ ap (λ places. map (row_labels t places) rows) c.in_ok-places.ensures in
    rest_few c.args.dict.now t p c.requires.known.given c.requires.told few rows c.in_ok-index.index c.in_ok-labels.labels c.in_ok-index.ensures labels_are (headings_at t p.index) (λ i. headings_at t p.index)

pub unstack_places-spread-requires-clause-one : goal.unstack_places-spread-requires-clause-one
unstack_places-spread-requires-clause-one c =
    let t = c.args.on.now in
    let p = c.args.told.now in
    let few : nat_lt (length p.index) 4 ≡ true = search rules in
    let rows = c.in_ok-rows.field-0.rows in
    let labels_are = c.in_ok-labels.ensures ∙ ap (λ places. map (row_labels t places) rows) c.in_ok-places.ensures in
    labels_one c.args.dict.now t p c.requires.known.given c.requires.told few rows c.in_ok-index.index c.in_ok-labels.labels c.in_ok-index.ensures labels_are (headings_at t p.index) (λ i. headings_at t p.index)

pub spread_table-requires-clause-names : goal.spread_table-requires-clause-names
spread_table-requires-clause-names c =
    let t = c.args.on.now in
    let p = c.args.told.now in
    let few : nat_lt (length p.index) 4 ≡ true = search rules in
    let rows = c.in_ok-rows.field-0.rows in
    let labels_are = c.in_ok-labels.ensures ∙ ap (λ places. map (row_labels t places) rows) c.in_ok-places.ensures in
    names_given c.args.dict.now t p c.requires.known.given c.requires.told few rows c.in_ok-index.index c.in_ok-labels.labels c.in_ok-index.ensures labels_are c.as_slice.result.now (c.as_slice.ensures.value ∙ c.in_ok-names.ensures)

pub spread_table-requires-clause-name : goal.spread_table-requires-clause-name
spread_table-requires-clause-name c = heading_settled _ c.args.on.now.headings c.args.told.now.columns _ c.heading-name.ensures.value (headings_part _ c.args.on.now c.requires.known.given)

pub spread_table-requires-clause-cells : goal.spread_table-requires-clause-cells
spread_table-requires-clause-cells c = subst (λ a. AreGiven c.args.dict.now a.cells) (sym c.as_ref.ensures) c.in_ok-rows.ensures.given

pub spread_table-requires-clause-spread : goal.spread_table-requires-clause-spread
spread_table-requires-clause-spread c =
    let t = c.args.on.now in
    let p = c.args.told.now in
    let few : nat_lt (length p.index) 4 ≡ true = search rules in
    let rows = c.in_ok-rows.field-0.rows in
    let labels_are = c.in_ok-labels.ensures ∙ ap (λ places. map (row_labels t places) rows) c.in_ok-places.ensures in
    (c.in_ok-index.index, c.in_ok-labels.labels, (entries_are c.args.dict.now t p c.requires.known.given c.requires.told few rows c.in_ok-index.index c.in_ok-labels.labels c.in_ok-index.ensures labels_are c.as_slice.result.now (c.as_slice.ensures.value ∙ c.in_ok-names.ensures) _ (ap (λ a. length a.cells) c.as_ref.ensures ∙ c.in_ok-rows.ensures.count)), c.unstack_places-spread.ensures.places)

pub returns : goal.returns
returns c =
    let t = c.args.on.now in
    let p = c.args.told.now in
    let few : nat_lt (length p.index) 4 ≡ true = search rules in
    let rows = c.in_ok-rows.field-0.rows in
    let labels_are = c.in_ok-labels.ensures ∙ ap (λ places. map (row_labels t places) rows) c.in_ok-places.ensures in
    let told = table_is c.args.dict.now t p (reduction_of c.args.op) c.in_ok-rows.field-0 few c.in_ok-rows.ensures.answer in
    let same = told ∙ ap (λ a. spread_by c.args.dict.now t p rows (column_value c.args.dict.now (table_column a))) (sym c.as_ref.ensures) in
    subst (λ r. Makes c.args.dict.now c.spread_table.result r) (sym same)
    (made_so c.args.dict.now t p c.requires.known.given c.requires.told few rows c.in_ok-index.index c.in_ok-labels.labels c.in_ok-index.ensures labels_are c.as_slice.result.now (c.as_slice.ensures.value ∙ c.in_ok-names.ensures) c.heading-name.result c.as_ref.result c.spread_table.result c.heading-name.ensures.value
    (c.spread_table.ensures c.in_ok-index.index c.in_ok-labels.labels (entries_are c.args.dict.now t p c.requires.known.given c.requires.told few rows c.in_ok-index.index c.in_ok-labels.labels c.in_ok-index.ensures labels_are c.as_slice.result.now (c.as_slice.ensures.value ∙ c.in_ok-names.ensures) _ (ap (λ a. length a.cells) c.as_ref.ensures ∙ c.in_ok-rows.ensures.count)) c.unstack_places-spread.ensures.places))
