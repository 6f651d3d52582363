-- The records of a file, and those that a reader has left.
use Rattle.std.specs.Prelude.{◌≡◌, ℕ, ◌+◌, true, false, Bool, List, [], ◌∷◌, drop, length, Option, Some, None}
use Rattle.std.specs.Borrow.{Bor}
use Rattle.csv.specs.Machine.{ends_at_end}
use Rattle.csv.specs.Reading.{Ready, default_config, records, records_from, source_of, strip_bom}
use Rattle.csv.specs.declared.reader.Reader.{Reader}
use Rattle.csv.specs.declared.reader.Trim.TheVariants as trim
use Rattle.column_core.specs.cells.Text.{Text}

-- the records of a file, the first of them the header
abbrev pub file_records : List ℕ → List (List Text)
file_records bytes = records default_config (strip_bom bytes)

-- the records after the header
abbrev pub rows_under : List (List Text) → List (List Text)
rows_under records = drop 1 records

abbrev pub file_rows : List ℕ → List (List Text)
file_rows bytes = rows_under (file_records bytes)

-- the bytes of a slice, which are known
abbrev pub known : Bor (List ℕ) → Option (List ℕ)
known s = Some s.now

-- the bytes that a reader has left
abbrev pub bytes_left : Reader (Bor (List ℕ)) → Option (List ℕ)
bytes_left s = source_of known s

-- the records that these bytes have for a reader
abbrev pub records_after : Reader (Bor (List ℕ)) → Option (List ℕ) → List (List Text)
records_after s None = []
records_after s (Some bytes) = records_from default_config (length bytes + 1) s.state bytes

-- the records that a reader has left
abbrev pub rows_left : Reader (Bor (List ℕ)) → List (List Text)
rows_left s = records_after s (bytes_left s)

-- it reads records as they are, of any length, from bytes that are known, and has none begun
pub record Reads (s : Reader (Bor (List ℕ))) : Type 0 where
  pub trim : s.trim ≡ trim.None
  pub ready : Ready s
  pub config : s.config ≡ default_config
  pub quiet : ends_at_end s.state ≡ false
  pub known : (bytes : List ℕ) × (bytes_left s ≡ Some bytes)

-- the next record was the first of those that were left, and the reader goes on after it; or none was left
abbrev pub IsNext : Reader (Bor (List ℕ)) → Bool → List Text → Reader (Bor (List ℕ)) → Type 0
IsNext before true row after = (rows_left before ≡ row ∷ rows_left after) × Reads after
IsNext before false row after = rows_left before ≡ []
