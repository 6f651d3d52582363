-- Methods that a Series or a frame alone has.
use Rattle.{
  frame_parts.proofs.Common.{arith, ◌≡◌, true, Shape, Series, Frame},
  meaning_call.{specs.{declared.{TableMethod.{TableMethod}, LevelMethod.{LevelMethod}, LabelMethod.{LabelMethod}}, Signature.{method_names, fits_shape}}, proofs.ShapeLaws.{of_series}},
}
use Rattle.meaning_call.specs.declared.Method.TheVariants as method
use Rattle.meaning_call.specs.declared.TableMethod.TheVariants as table_method
use Rattle.meaning_call.specs.declared.LevelMethod.TheVariants as level_method
use Rattle.meaning_call.specs.declared.LabelMethod.TheVariants as label_method

module _ (m : TableMethod) (s : Shape) (fits : fits_shape (method.Table m) s ≡ true) where
  pub rename_of_series : m ≡ table_method.RenameSeries → s ≡ Series
  unfolding method_names
  rename_of_series = grind (arith, of_series)

  pub to_frame_of_series : m ≡ table_method.ToFrame → s ≡ Series
  unfolding method_names
  to_frame_of_series = grind (arith, of_series)

  pub rename_of_frame : m ≡ table_method.RenameFrame → s ≡ Frame
  unfolding method_names
  rename_of_frame = grind arith

  pub drop_of_frame : m ≡ table_method.DropColumns → s ≡ Frame
  unfolding method_names
  drop_of_frame = grind arith

pub set_index_of_frame : (m : LevelMethod) (s : Shape) → m ≡ level_method.SetIndex → fits_shape (method.Levels m) s ≡ true → s ≡ Frame
unfolding method_names
set_index_of_frame = grind arith

pub reindex_of_frame : (m : LabelMethod) (s : Shape) → m ≡ label_method.ReindexFrame → fits_shape (method.Labels m) s ≡ true → s ≡ Frame
unfolding method_names
reindex_of_frame = grind arith
