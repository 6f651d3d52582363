-- Laws of reading a file.
use Rattle.{
  column_core.proofs.cells.Common.{◌≡◌, ◌≤◌, ◌^◌, ℕ, List, length, take, true, false, arith, take-append_seam, Result, IsLonger, Kind, Text},
  std.{proofs.lemmas.Str.{utf8_valid_len-IsUtf8}, specs.Prelude.{IsUtf8, is_err}},
  meaning_csv.specs.CsvRead.{CsvValue, CsvRefusal, columns_of_records, columns_of_file},
  csv_frames.specs.{Rows.{file_records}, Views.{ReadsAs, ReadAnswers}, declared.table.{CsvTable.{CsvTable}, CsvFault.{CsvFault}}},
}

front : (old inner : List Text) → IsLonger old inner → take (length old) inner ≡ old
front = grind (arith, take-append_seam)

pub refused : (old inner new : List Text) (known : ℕ) (result : Result CsvTable CsvFault) (meant : Result CsvValue CsvRefusal) → IsLonger old inner → known ≡ length old → new ≡ take known inner → is_err result ≡ true → ReadsAs inner result meant → ReadAnswers old new result meant
refused = grind (arith, front)

pub answered : (old new : List Text) (result : Result CsvTable CsvFault) (meant : Result CsvValue CsvRefusal) → is_err result ≡ false → ReadsAs new result meant → ReadAnswers old new result meant
answered = grind arith

-- a file that is a text and isn't too long
pub file_read : (bytes : List ℕ) (entries : List (Text × Kind)) → length bytes ≤ 2 ^ 28 → IsUtf8 bytes → columns_of_records entries (file_records bytes) ≡ columns_of_file bytes entries
file_read = grind (arith, utf8_valid_len-IsUtf8)
