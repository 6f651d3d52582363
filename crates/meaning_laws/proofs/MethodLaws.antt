-- Methods make valid tables of valid ones.
use Rattle.{
  meaning_script.{proofs.{cells.Common.{◌≡◌, ◌∙◌, refl, sym, ℕ, pos, List, [], ◌∷◌, length, map, arith, length-map, All-head, All-tail, Bool, true, false, unwrap_or, Option, Some, None, IsSome, Result, IfOk, All, Shape, Series, Frame, Text, LabelValue, int, Kind, FaultValue}, tables.KindLaws.{kind_is}, call.ShapeLaws.{of_series, of_frame}}, specs.{tables.{Table.{Table, column_at}, Value.{Entry, Given, NamedGiven}}, call.{declared.Method.{Method}, Signature.{method_names, fits_shape}, Binding.{Bound, on_bound}}, form.Finish.{limited, across_columns}, method.{Methods.{each_column, Summary, summary_cell, summary_kind, kind_for, summary_as, summary_of, summary, renamed_series, renamed_heading, renamed_frame, as_frame, reset_index_result, csv_answer, answer_for}, Calls.{called}}}},
  meaning_laws.{specs.Validity.{IsValidEntry}, proofs.{Words.{AllOf, Keeps, Column, Name, Cells, IsFrame, IsSeries}, ListLaws.{all_made, all_mapped, then_keeps, try_keeps, on_keeps}, ColumnLaws.{IsColumn, column_answers, Held, held_cell, wrap_fits, reduction_held}, TableLaws.{IsShaped, limited_keeps, with_columns_shaped, column_of_table, series_heading, frame_headings, one_column}, RowLaws.{head_keeps, tail_keeps, dropna_keeps, duplicated_keeps, sort_values_keeps, sort_by_keeps, sorted_keeps, drop_keeps}, LevelLaws.{rename_axis_keeps, set_index_keeps, renumbered_keeps, levels_reset_keeps, droplevel_keeps, swaplevel_keeps, xs_keeps, reindex_keeps}}},
}
use Rattle.meaning_script.specs.call.declared.Method.TheVariants as method
use Rattle.meaning_script.specs.call.declared.ColumnMethod.TheVariants as column_method
use Rattle.meaning_script.specs.call.declared.RowMethod.TheVariants as row_method
use Rattle.meaning_script.specs.call.declared.LevelMethod.TheVariants as level_method
use Rattle.meaning_script.specs.call.declared.LabelMethod.TheVariants as label_method
use Rattle.meaning_script.specs.call.declared.TableMethod.TheVariants as table_method

-- each column by itself
pub each_keeps : (f : Column → Result Column FaultValue) (t : Table) → IsShaped t → ((rows : ℕ) (c : Column) → IsColumn rows c → IfOk (f c) (IsColumn rows)) → Keeps (each_column f t)
each_keeps f t s so =
    let made = try_keeps _ _ f (so (length t.labels)) t.columns s.columns in
    grind (arith, limited_keeps, with_columns_shaped)

-- summaries

series_shaped : (t : Table) (kind : Kind) (cells : Cells) → length cells ≡ length t.headings → All (Held kind) cells → IsShaped (across_columns t None kind cells)
series_shaped t kind cells size h = record {
  some = omega arith;
  few = omega arith;
  levels = search all_mapped;
  headed = refl;
  columns = grind (arith, length-map);
  headings = search series_heading;
}

summary_of_keeps : (p : Shape) (op : Summary) (t : Table) → IsShaped t → t.shape ≡ p → Keeps (summary_of p op t)
summary_of_keeps Series op t s is =
    let c = column_at t.columns 0 in
    then_keeps (Held (summary_kind op c.kind)) IsValidEntry (summary_cell op c) _ (grind (arith, reduction_held, wrap_fits, column_of_table, one_column))
    (λ x h. held_cell (summary_kind op c.kind) x h)
summary_of_keeps Frame op t s is =
    let kind = kind_for op t.columns in
    then_keeps (AllOf (Held kind) (length t.columns)) _ _ _
    (try_keeps (λ c. All (Held c.kind) c.cells) (Held kind) (summary_as op kind) (grind (arith, kind_is, reduction_held, wrap_fits)) t.columns (grind arith))
    (λ cells made. limited_keeps _ (series_shaped t kind cells (made.0 ∙ sym s.headed) made.1))

summary_keeps : (op : Summary) (t : Table) → IsShaped t → Keeps (summary op t)
summary_keeps = search summary_of_keeps

-- names

renamed_series_keeps : (t : Table) (name : Name) → IsShaped t → IsSeries t → Keeps (limited (renamed_series t name))
renamed_series_keeps = grind arith

renamed_frame_keeps : (t : Table) (pairs : List (LabelValue × Given)) → IsShaped t → IsFrame t → Keeps (renamed_frame t pairs)
renamed_frame_keeps t pairs s is =
    let some = all_made IsSome IsSome (renamed_heading pairs) (grind arith) t.headings (s.headings.labelled is) in
    grind (arith, limited_keeps, length-map, frame_headings)

heading_kept : (h : Name) → IsSome h → Some (unwrap_or h (int (pos 0))) ≡ h
heading_kept = grind arith

headings_kept : (hs : List Name) → All IsSome hs → map (λ h. Some (unwrap_or h (int (pos 0)))) hs ≡ hs
headings_kept [] some = refl
headings_kept (h ∷ hs) some = cc (heading_kept h (All-head IsSome h hs some), headings_kept hs (All-tail IsSome h hs some))

as_frame_shaped : (p : Shape) (t : Table) → IsShaped t → t.shape ≡ p → IsShaped (as_frame t)
as_frame_shaped Series t s is =
    record {
      some = s.some;
      few = s.few;
      levels = s.levels;
      headed = search length-map;
      columns = s.columns;
      headings = frame_headings _ _ _ refl (search all_mapped);
    }
as_frame_shaped Frame t s is = grind (arith, length-map, headings_kept)

as_frame_keeps : (t : Table) → IsShaped t → Keeps (limited (as_frame t))
as_frame_keeps = grind (arith, as_frame_shaped)

reset_index_keeps : (t : Table) (drop : Bool) → IsShaped t → Keeps (reset_index_result t drop)
reset_index_keeps t true s = renumbered_keeps t s
reset_index_keeps t false s = levels_reset_keeps _ (as_frame_shaped _ t s refl) refl

csv_keeps : (index : Bool) (t : Table) → Keeps (csv_answer index t)
csv_keeps = grind arith

ruleset answers = (
  on_keeps,
  limited_keeps,
  each_keeps,
  column_answers,
  summary_keeps,
  head_keeps,
  tail_keeps,
  dropna_keeps,
  duplicated_keeps,
  sort_values_keeps,
  sort_by_keeps,
  rename_axis_keeps,
  reset_index_keeps,
  droplevel_keeps,
  swaplevel_keeps,
  xs_keeps,
  as_frame_keeps,
  csv_keeps,
)

-- by the method and how many arguments it has; those that a shape alone has say which, and one of each family has them told apart
answer_keeps : (m : Method) (gs : List Given) (t : Table) → IsShaped t → fits_shape m t.shape ≡ true → Keeps (answer_for m gs t)
unfolding method_names
answer_keeps (method.Rows row_method.SortIndex) (ascending ∷ []) t s fit = search (on_keeps, sorted_keeps)
answer_keeps (method.Table table_method.RenameSeries) (name ∷ []) t s fit = search (renamed_series_keeps, of_series)
answer_keeps (method.Table table_method.RenameFrame) (columns ∷ []) t s fit = search (on_keeps, renamed_frame_keeps, of_frame)
answer_keeps (method.Levels level_method.SetIndex) (keys ∷ []) t s fit = search (set_index_keeps, of_frame)
answer_keeps (method.Labels label_method.ReindexSeries) (index ∷ []) t s fit = grind (arith, reindex_keeps)
answer_keeps (method.Labels label_method.ReindexFrame) (index ∷ columns ∷ []) t s fit = search (reindex_keeps, of_frame)
answer_keeps (method.Table table_method.DropColumns) (columns ∷ []) t s fit = search (drop_keeps, of_frame)
answer_keeps (method.Columns column_method.Isna) gs t s fit = search answers
answer_keeps m [] t s fit = search answers depth 9
answer_keeps m (a ∷ []) t s fit = search answers depth 9
answer_keeps m (a ∷ b ∷ []) t s fit = search answers depth 9
answer_keeps m gs t s fit = search answers

pub on_bound_keeps : (b : Bound) (go : List Given → Result Entry FaultValue) → ((gs : List Given) → Keeps (go gs)) → Keeps (on_bound b go)
on_bound_keeps = grind arith

pub called_keeps : (o : Option Method) (name : Text) (gs : List NamedGiven) (t : Table) → IsShaped t → ((m : Method) → o ≡ Some m → fits_shape m t.shape ≡ true) → Keeps (called o name gs t)
called_keeps = grind (arith, on_bound_keeps, answer_keeps)
