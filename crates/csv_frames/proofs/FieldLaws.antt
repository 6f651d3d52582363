-- Laws of the fields of a record.
use Rattle.{
  column_core.proofs.cells.Common.{◌≡◌, ℕ, zero, suc, refl, List, [], ◌∷◌, unwrap_or, Text},
  csv.specs.Records.{field_at},
  meaning_csv.specs.CsvRead.{field_in},
}

-- the field at a place of all fields
pub field_unwrapped : (fields : List Text) (place : ℕ) → unwrap_or (field_at fields place) [] ≡ field_in place fields
unfolding field_at
field_unwrapped [] _ = refl
field_unwrapped (f ∷ fs) zero = refl
field_unwrapped (f ∷ fs) (suc place) = field_unwrapped fs _
