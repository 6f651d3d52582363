-- Tables whose parts fit one another.
use Rattle.std.specs.Prelude.{◌≡◌, ◌≤◌, ℕ, ◌*◌, ◌^◌, nat_le, ◌&&◌, Bool, true, List, length, Option, None, IsSome, All}
use Rattle.meaning_cells.specs.cell_core.declared.grid.Shape.{Shape}
use Rattle.meaning_cells.specs.cell_core.declared.grid.Shape.TheVariants.{Series, Frame}
use Rattle.meaning_cells.specs.Cell.{holds}
use Rattle.meaning_tables.specs.Table.{TableOf, Table}

-- a Series has one column, and its columns no name; each column of a frame has a label, which others may have too
pub record AreHeadings {L : Type 0} (shape : Shape) (columns_name : Option L) (headings : List (Option L)) : Type 0 where
  pub single : shape ≡ Series → length headings ≡ 1
  pub nameless : shape ≡ Series → columns_name ≡ None
  pub labelled : shape ≡ Frame → All IsSome headings

-- each column has a heading and a cell for each row
pub record IsWhole {L C : Type 0} (t : TableOf L C) : Type 0 where
  pub headed : length t.headings ≡ length t.columns
  pub filled : All (λ c. length c.cells ≡ length t.labels) t.columns
  pub headings : AreHeadings t.shape t.columns_name t.headings

-- at most 2^26 rows, 2^16 columns, and 2^26 cells
abbrev pub within_limits : ℕ → ℕ → Bool
within_limits rows columns = nat_le rows (2 ^ 26) && nat_le columns (2 ^ 16) && nat_le (rows * columns) (2 ^ 26)

-- one to four levels, a label for each level of each row, cells that their column's kind holds, and no more than the limits allow
pub record IsValid (t : Table) : Type 0 where
  pub some : 1 ≤ length t.level_names
  pub few : length t.level_names ≤ 4
  pub levels : All (λ tuple. length tuple ≡ length t.level_names) t.labels
  pub whole : IsWhole t
  pub held : All (λ c. All (λ cell. holds c.kind cell ≡ true) c.cells) t.columns
  pub limited : within_limits (length t.labels) (length t.columns) ≡ true
