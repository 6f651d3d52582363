-- Files that are read.
use Rattle.{
  frame_parts.proofs.Common.{◌≡◌, ◌≤◌, ◌^◌, ap, ℕ, Bool, true, List, [], ◌∷◌, length, if◌then◌else◌, Result, Ok, Err, arith, nat_tests, length-map, Kind, Label, Text, LabelValue, HaveLevels, within_limits, NamedGiven, dict_in, World},
  column_core.proofs.cells.Common.{nat_le},
  csv.specs.Reading.{records},
  meaning_call.specs.{Signature.{function_parameters}, Binding.{bound, bound_of}},
  frame_signatures.specs.{Bound.{given_in, stands_at}, declared.bound.Bound.{Bound}},
  meaning_method.specs.{Readers.{kinds_given, frame_or_fault, read_result}, csv.CsvRead.{CsvValue, CsvRefusal, columns_of_records, columns_of_file}},
  csv_frames.specs.{Views.{label_tuples, tuples_seen, csv_seen}, declared.table.CsvTable.{CsvTable}},
}
use Rattle.meaning_call.specs.declared.Function.TheVariants as function

-- what reading a file answers
abbrev Read : Type 0
Read = Result CsvValue CsvRefusal

-- what is read has few enough rows, and labels that are tuples of their own
pub record IsRead (read : CsvValue) : Type 0 where
  pub few : read.rows ≤ 2 ^ 26
  pub labels : List Text
  pub single : read.labels ≡ label_tuples labels

unless_first : (b : Bool) (refusal : CsvRefusal) (rest : Read) (read : CsvValue) → (if b then Err refusal else rest) ≡ Ok read → rest ≡ Ok read
unless_first = grind arith

few_rows : (rows columns : ℕ) → within_limits rows columns ≡ true → rows ≤ 2 ^ 26
few_rows = grind (arith, nat_le, nat_tests)

records_read : (kinds : List (Text × Kind)) (records : List (List Text)) (read : CsvValue) → columns_of_records kinds records ≡ Ok read → IsRead read
records_read _ records = grind (arith, few_rows, unless_first)

file_read : (bytes : List ℕ) (kinds : List (Text × Kind)) (read : CsvValue) → columns_of_file bytes kinds ≡ Ok read → IsRead read
file_read _ _ _ is = search (records_read, unless_first)

pub rows_few : (texts : List Text) (read : CsvTable) (bytes : List ℕ) (kinds : List (Text × Kind)) → columns_of_file bytes kinds ≡ Ok (csv_seen texts read) → read.rows ≤ 2 ^ 63
rows_few = grind (arith, file_read)

abbrev first_length : List (List LabelValue) → ℕ
first_length [] = 0
first_length (t ∷ ts) = length t

abbrev after_first : List (List LabelValue) → List (List LabelValue)
after_first [] = []
after_first (t ∷ ts) = ts

single_labels : (texts : List Text) (tuples : List (List Label)) (labels : List Text) → tuples_seen texts tuples ≡ label_tuples labels → HaveLevels 1 tuples
single_labels _ [] _ is = grind arith
single_labels _ (t ∷ ts) [] is = cc
single_labels texts (t ∷ ts) (l ∷ ls) is = grind (arith, length-map, single_labels texts ts ls (ap after_first is))

pub labels_single : (texts : List Text) (read : CsvTable) (bytes : List ℕ) (kinds : List (Text × Kind)) → columns_of_file bytes kinds ≡ Ok (csv_seen texts read) → HaveLevels 1 read.labels
labels_single = grind (arith, file_read, single_labels)

-- arguments that are bound
pub read_bound : (bytes : List ℕ) (gs : List NamedGiven) (w : World) (b : Bound) (kinds : List (Text × Kind)) → b.parameters.now ≡ function_parameters function.ReadCsv
    → bound_of (function_parameters function.ReadCsv) gs ≡ bound (given_in w b) → kinds ≡ kinds_given (dict_in (stands_at w.tables w.texts b 2))
    → frame_or_fault (columns_of_file bytes kinds) ≡ read_result bytes gs
read_bound = grind arith
