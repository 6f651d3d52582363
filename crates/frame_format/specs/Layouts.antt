-- The measured widths of a table.
use Rattle.std.specs.Prelude.{◌≡◌, ◌-◌, ◌++◌, ℕ, zero, suc, [], length, map}
use Rattle.std.specs.List.{flat_map}
use Rattle.meaning_format.specs.cells.Text.{Text}
use Rattle.meaning_format.specs.tables.Table.{Table}
use Rattle.meaning_format.specs.Print.{series_width, column_width, level_width, levels_width, index_width, titled_width, right_set, spaces, places}
use Rattle.frame_format.specs.declared.series.SeriesLayout.{SeriesLayout}
use Rattle.frame_format.specs.declared.frame.FrameLayout.{FrameLayout}

pub record IsSeriesLayout (t : Table) (layout : SeriesLayout) : Type 0 where
  pub levels : layout.levels.items ≡ map (series_width t) (places (length t.level_names))
  pub values : layout.values ≡ column_width t 0

pub record IsFrameLayout (t : Table) (layout : FrameLayout) : Type 0 where
  pub levels : layout.levels.items ≡ map (level_width t) (places (length t.level_names))
  pub index : layout.index ≡ index_width t
  pub filling : layout.filling ≡ index_width t - levels_width t
  pub columns : layout.columns.items ≡ map (titled_width t) (places (length t.columns))

-- a text for each column, set to the right of its width, behind two spaces
abbrev pub set_columns : ℕ → (ℕ → ℕ) → (ℕ → Text) → Text
set_columns columns widths texts = flat_map (λ column. spaces 2 ++ right_set (widths column) (texts column)) (places columns)

-- what stands before the part at this place
abbrev pub gap_before : Text → ℕ → Text
gap_before gap zero = []
gap_before gap (suc place) = gap
