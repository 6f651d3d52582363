use Rattle.{frame_parts.{proofs.Common.{arith, ◌≡◌, ◌∙◌, ap, sym, refl, then_value, table_value, on, table_at, world, object_settled}, specs.form.Select.{argument_columns}}, meaning_call.specs.Binding.{truth_in}, frame_labels.{specs.{method.Rows.{dropna_result, duplicated_result, subset_places, sort_values_result, sort_by_result, all_places, labels_in}, Named.{first_in}}, proofs.NamedLaws.{all_are}}, frame_methods.{specs.Rows.{duplicated_among}, proofs.AnswerLaws.{makes_by}}}
use Rattle.meaning_call.specs.declared.Method.TheVariants as method
use Rattle.frame_methods.proofs.calling.rows_made.Goals as goal

pub returns-in-Dropna : goal.returns-in-Dropna
returns-in-Dropna c =
    let w = world c.args.store.now c.args.dict.now in
    makes_by w _ _ c.args.bound.now _ _ _ (λ a t. dropna_result t) _ c.read-source.ensures.table (ap method.Rows c.in-Dropna.is) c.requires.call.parameters (λ v. refl) refl
    (c.dropna.ensures w.texts (object_settled _ _ _ _ c.read-source.ensures.table c.requires.settled))

-- the columns of a Series
pub duplicated-requires-clause-known : goal.duplicated-requires-clause-known
duplicated-requires-clause-known c = search object_settled

pub duplicated-requires-in-DuplicatedFrame-clause-known : goal.duplicated-requires-in-DuplicatedFrame-clause-known
duplicated-requires-in-DuplicatedFrame-clause-known c = search object_settled

pub sort_values-requires-clause-known : goal.sort_values-requires-clause-known
sort_values-requires-clause-known c = search object_settled

pub sort_values-requires-in-SortValuesFrame-clause-known : goal.sort_values-requires-in-SortValuesFrame-clause-known
sort_values-requires-in-SortValuesFrame-clause-known c = search object_settled

pub sort_index-requires-clause-known : goal.sort_index-requires-clause-known
sort_index-requires-clause-known c = search object_settled

-- the columns that are named, or all
pub returns-in_ok-places-in-DuplicatedFrame : goal.returns-in_ok-places-in-DuplicatedFrame
returns-in_ok-places-in-DuplicatedFrame c =
    let w = world c.args.store.now c.args.dict.now in
    let s = table_value w.texts c.read-source.result in
    let at : c.read-source.result ≡ table_at w.tables c.args.on.0 = grind arith in
    let g = first_in w c.args.bound.now in
    makes_by w _ _ c.args.bound.now _ _ _ (λ a t. duplicated_result t (a 0)) _ c.read-source.ensures.table (ap method.Rows c.in-DuplicatedFrame.is) c.requires.call.parameters (λ v. refl)
    (ap (λ r. then_value r (duplicated_among s)) (sym (ap (λ n. subset_places (table_value w.texts n) g) at ∙ c.in_ok-places-in-DuplicatedFrame.ensures.0)))
    c.duplicated-in-DuplicatedFrame.ensures

-- in the order of their cells
pub returns-in_ok-places-in-SortValuesSeries : goal.returns-in_ok-places-in-SortValuesSeries
returns-in_ok-places-in-SortValuesSeries c =
    let w = world c.args.store.now c.args.dict.now in
    makes_by w _ _ c.args.bound.now _ _ _ (λ a t. on (truth_in (a 0)) (λ b. sort_values_result t b (all_places t))) _ c.read-source.ensures.table (ap method.Rows c.in-SortValuesSeries.is) c.requires.call.parameters (λ v. refl)
    (grind (arith, all_are w.texts c.read-source.result c.in_ok-places-in-SortValuesSeries.places c.columns-in-SortValuesSeries.result c.in_ok-places-in-SortValuesSeries.ensures c.columns-in-SortValuesSeries.ensures, c.truth.ensures w.tables w.texts))
    c.sort_values.ensures

pub returns-in_ok-places-in-SortValuesFrame : goal.returns-in_ok-places-in-SortValuesFrame
returns-in_ok-places-in-SortValuesFrame c =
    let w = world c.args.store.now c.args.dict.now in
    let s = table_value w.texts c.read-source.result in
    let at : c.read-source.result ≡ table_at w.tables c.args.on.0 = grind arith in
    let g = first_in w c.args.bound.now in
    makes_by w _ _ c.args.bound.now _ _ _ (λ a t. on (truth_in (a 1)) (λ b. sort_by_result t b (a 0))) _ c.read-source.ensures.table (ap method.Rows c.in-SortValuesFrame.is) c.requires.call.parameters (λ v. refl)
    (ap (λ r. then_value r (sort_values_result s c.truth-ascending.result)) (sym (ap (λ n. argument_columns (table_value w.texts n) (labels_in g)) at ∙ c.in_ok-places-in-SortValuesFrame.ensures.0))
    ∙ ap (λ o. on o (λ b. sort_by_result s b g)) (c.truth-ascending.ensures w.tables w.texts))
    c.sort_values-in-SortValuesFrame.ensures
