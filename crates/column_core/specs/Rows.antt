-- Rows that are made one after another, each of which may be refused.
use Rattle.std.specs.Prelude.{◌≡◌, ℕ, ◌<◌, Bool, List, map, Option, Some, None, option_map, IsSome, Result, Ok, Err, if◌then◌else◌}
use Rattle.std.specs.List.{range_with_len}
use Rattle.meaning_cells.specs.Column.{try_each, tabulate}
use Rattle.column_core.specs.declared.rows.RowFault.{RowFault}
use Rattle.column_core.specs.declared.rows.RowFault.TheVariants.{Row, Memory}
use Rattle.cell_core.specs.declared.cell.TextId.{TextId}
use Rattle.meaning_cells.specs.Cell.{text_of, IsGiven}
use Rattle.column_core.specs.Lanes.{option_at}
use Rattle.column_core.specs.Columns.{text_cell}

-- the rows below count, or the first of them that is refused
abbrev pub try_rows : {C : Type 0} → ℕ → (ℕ → Option C) → Result (List C) ℕ
try_rows count at = try_each at 0 (range_with_len 0 count)

-- the rows of values that were made
abbrev pub made_rows : {U : Type 0} → ℕ → List U → List Bool → List (Option U)
made_rows count values present = tabulate count (option_at values present)

-- each row below count is what was written
abbrev pub AreWritten : {U : Type 0} → (ℕ → Option (Option U)) → ℕ → List U → List Bool → Type 0
AreWritten at count values present = (k : ℕ) → k < count → at k ≡ Some (option_at values present k)

-- the row is the first that is refused
pub record IsFirstRefused {C : Type 0} (at : ℕ → Option C) (count row : ℕ) : Type 0 where
  pub within : row < count
  pub refused : at row ≡ None
  pub before : (k : ℕ) → k < row → IsSome (at k)

-- what a fault says of the rows that were to be made
abbrev pub Refuses : {C : Type 0} → Result C ℕ → RowFault → Type 0
Refuses whole (Row row) = whole ≡ Err row
Refuses whole Memory = Unit {0}

-- each of the rows as something else
abbrev pub map_rows : {B C : Type 0} → (B → C) → Result (List B) ℕ → Result (List C) ℕ
map_rows f (Ok rows) = Ok (map f rows)
map_rows f (Err row) = Err row

-- a text, where one was written
abbrev pub text_if : Bool → List ℕ → Option (List ℕ)
text_if some text = if some then Some text else None

-- the number was given, and its text is this one
abbrev pub IsTextRow : List (List ℕ) → Option (List ℕ) → Option TextId → Type 0
IsTextRow texts text id = (option_map (text_of texts) id ≡ text) × IsGiven texts (text_cell id)

-- the numbers below count were given, and their texts are these
abbrev pub AreTexts : List (List ℕ) → (ℕ → Option (List ℕ)) → ℕ → List TextId → List Bool → Type 0
AreTexts texts at count values present = (k : ℕ) → k < count → IsTextRow texts (at k) (option_at values present k)

-- a value where its flag is true
abbrev pub flagged : {T : Type 0} → Bool → T → Option T
flagged present x = if present then Some x else None
