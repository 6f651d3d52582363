-- The constructors make valid tables.
use Rattle.{
  meaning_script.{proofs.{cells.Common.{◌≡◌, refl, sym, subst, ℕ, ◌≤◌, List, [], ◌∷◌, length, arith, nat_tests, length-map, length-replicate, All-nil, Option, Some, None, Result, IfOk, All, LabelValue, Kind, FaultValue}, call.{BoundLaws.{bound_list}, IndexLaws.{GivesAlike, index_taken}}}, specs.{tables.Value.{Entry, Given, GivenList, NamedGiven, list_in}, call.{Signature.{function_parameters}, Binding.{Bound, bound, argument_at, on_bound}, Functions.{series_call, frame_call}}, form.{Finish.{limited}, Select.{cells_of}, Set.{list_column}, Make.{index_labels, level_count, nameless, AreAlike, few_levels, with_index, series_table, frame_table, series_of, series_result, cells_given, all_of_length, labels_given, frame_with, frame_of, frame_result}}}},
  meaning_laws.{specs.Validity.{IsValidEntry}, proofs.{Words.{Keeps, Column, Name, Tuple, Levelled}, ListLaws.{all_mapped, then_keeps, try_keeps, of_length_keeps, on_keeps}, ColumnLaws.{IsColumn, list_keeps, cast_to_keeps}, TableLaws.{IsShaped, limited_keeps, frame_headings}, SetLaws.{length_default, default_levels}}},
}
use Rattle.meaning_script.specs.call.declared.Function.TheVariants as function

-- a column of its own number of rows
abbrev IsOwnColumn : Column → Type 0
IsOwnColumn c = IsColumn (length c.cells) c

own : (rows : ℕ) (r : Result Column FaultValue) → IfOk r (IsColumn rows) → IfOk r IsOwnColumn
own = grind arith

-- labels of rows, of one to four levels
record AreRowLabels (rows : ℕ) (labels : List Tuple) : Type 0 where
  count : length labels ≡ rows
  alike : AreAlike labels
  few : level_count labels ≤ 4

one_level : (labels : List Tuple) → Levelled 1 labels → level_count labels ≡ 1
one_level = grind arith

single_are : (rows : ℕ) (labels : List Tuple) → length labels ≡ rows → Levelled 1 labels → AreRowLabels rows labels
single_are = grind arith

few_keeps : (labels : List Tuple) (rest : Result Entry FaultValue) → (level_count labels ≤ 4 → Keeps rest) → Keeps (few_levels labels rest)
few_keeps = grind (arith, nat_tests)

index_keeps : (rows : ℕ) (index : Option GivenList) (go : List Tuple → Result Entry FaultValue) → GivesAlike index → ((labels : List Tuple) → AreRowLabels rows labels → Keeps (go labels))
    → Keeps (with_index rows index go)
index_keeps rows None go alike h = search (single_are, length_default, default_levels)
index_keeps rows (Some parts) go alike h =
    let labels = index_labels parts in
    of_length_keeps _ _ _ _
    (λ e. few_keeps _ _ (λ few. h labels record { count = sym e; alike = alike; few = few }))

-- as many levels as labels
names_count : {L : Type 0} (labels : List (List L)) → length (nameless labels) ≡ level_count labels
names_count = search length-replicate

named_levels : (rows : ℕ) (labels : List Tuple) → AreRowLabels rows labels → Levelled (length (nameless labels)) labels
named_levels = grind (arith, names_count)

series_shaped : (name : Name) (labels : List Tuple) (c : Column) → IsOwnColumn c → AreRowLabels (length c.cells) labels → IsShaped (series_table name labels c)
series_shaped = grind (arith, length-replicate)

series_of_keeps : (values : GivenList) (index : Option GivenList) (name : Name) (kind : Option Kind) → GivesAlike index → Keeps (series_of values index name kind)
series_of_keeps values index name kind alike =
    then_keeps IsOwnColumn IsValidEntry (list_column (cells_of values)) _ (grind (arith, own, list_keeps))
    (λ c h. then_keeps _ _ _ _ (own _ _ (cast_to_keeps kind (length c.cells) c h))
    (λ c h. index_keeps (length c.cells) index _ alike (λ labels rows. limited_keeps _ (series_shaped name labels c h rows))))

series_result_keeps : (values index name dtype : Given) → GivesAlike (list_in index) → Keeps (series_result (values ∷ index ∷ name ∷ dtype ∷ []))
series_result_keeps = search (on_keeps, series_of_keeps)

-- columns of one length
lengths_keep : (expected : ℕ) (cs : List Column) (rest : Result Entry FaultValue) → (All (λ (c : Column). expected ≡ length c.cells) cs → Keeps rest)
    → Keeps (all_of_length expected cs rest)
lengths_keep expected [] rest h = grind arith
lengths_keep expected (c ∷ cs) rest h =
    of_length_keeps IsValidEntry expected _ _
    (λ e. lengths_keep expected cs rest (λ more. h (grind arith)))

frame_shaped : (rows : ℕ) (labels : List Tuple) (headings : Tuple) (columns : List Column) → AreRowLabels rows labels → length headings ≡ length columns → All (IsColumn (length labels)) columns
    → IsShaped (frame_table labels headings columns)
frame_shaped rows labels headings columns are size h = search (names_count, named_levels, length-map, frame_headings, all_mapped)

frame_with_keeps : (headings : Tuple) (columns : List Column) (index : Option GivenList) → GivesAlike index → length headings ≡ length columns → All IsOwnColumn columns
    → Keeps (frame_with headings columns index)
frame_with_keeps headings [] index alike size h =
    let labels = labels_given index in
    few_keeps _ _
    (λ few. limited_keeps (frame_table labels headings [])
    (frame_shaped (length labels) labels headings [] record { count = refl; alike = grind arith; few = few } size (All-nil (IsColumn (length labels)))))
frame_with_keeps headings (c ∷ cs) index alike size h =
    lengths_keep _ cs _
    (λ same. index_keeps (length c.cells) index (λ labels. limited (frame_table labels headings (c ∷ cs))) alike
    (λ labels rows. limited_keeps (frame_table labels headings (c ∷ cs)) (frame_shaped _ _ _ _ rows size
    (grind arith))))

frame_of_keeps : (pairs : List (LabelValue × Given)) (index : Option GivenList) → GivesAlike index → Keeps (frame_of pairs index)
frame_of_keeps pairs index alike =
    let made = try_keeps (λ p. Unit {0}) IsOwnColumn (λ p. list_column (cells_given p.1)) (λ p _. own _ (list_column (cells_given p.1)) (list_keeps (cells_given p.1))) pairs (λ k d lt. tt) in
    grind (arith, then_keeps, frame_with_keeps, length-map)

frame_result_keeps : (columns index : Given) → GivesAlike (list_in index) → Keeps (frame_result (columns ∷ index ∷ []))
frame_result_keeps = search (on_keeps, frame_of_keeps)

-- arguments that are bound
bound_keeps : (b : Bound) (go : List Given → Result Entry FaultValue) → ((l : List Given) → b ≡ bound l → Keeps (go l)) → Keeps (on_bound b go)
bound_keeps = grind arith

module _ (gs : List NamedGiven) where
  pub series_call_keeps : Keeps (series_call gs)
  series_call_keeps =
      let ps = function_parameters function.Series in
      bound_keeps _ _
      (λ l is. subst (λ l. Keeps (series_result l)) (sym (bound_list ps gs l is))
      (series_result_keeps (argument_at ps gs 0) _ _ _ (index_taken ps gs 1 _ l is refl refl)))

  pub frame_call_keeps : Keeps (frame_call gs)
  frame_call_keeps =
      let ps = function_parameters function.DataFrame in
      bound_keeps _ _
      (λ l is. subst (λ l. Keeps (frame_result l)) (sym (bound_list ps gs l is))
      (frame_result_keeps (argument_at ps gs 0) _ (index_taken ps gs 1 _ l is refl refl)))
