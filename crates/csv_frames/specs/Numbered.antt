-- The labels of columns, said of the header as a whole.
use Rattle.std.specs.Prelude.{◌≡◌, ℕ, ◌<◌, ◌≤◌, Bool, true, false, ◌||◌, List, length, take, slice_get, Some}
use Rattle.std.specs.List.{list_any, IsDistinct}
use Rattle.column_core.specs.cells.Text.{Text, same_text}
use Rattle.meaning_csv.specs.CsvRead.{with_number}

abbrev pub has_text : List Text → Text → Bool
has_text texts t = list_any (same_text t) texts

-- the text is a label of the header, or the label of a column before this place
abbrev pub is_used : List Text → List Text → ℕ → Text → Bool
is_used header labels place t = has_text header t || has_text (take place labels) t

-- the label at the place has the least number from 1 that gives one that isn't used
pub record IsNumbered (header labels : List Text) (place : ℕ) (label : Text) : Type 0 where
  pub number : ℕ
  pub some : 1 ≤ number
  pub is : slice_get labels place ≡ Some (with_number label number)
  pub free : is_used header labels place (with_number label number) ≡ false
  pub least : (n : ℕ) → 1 ≤ n → n < number → is_used header labels place (with_number label n) ≡ true

-- each label of the header stays where it stands for the first time, and gets a number where it stands again; all differ then
pub record AreNumbered (header labels : List Text) : Type 0 where
  pub count : length labels ≡ length header
  pub first : (place : ℕ) (label : Text) → slice_get header place ≡ Some label → has_text (take place header) label ≡ false → slice_get labels place ≡ Some label
  pub again : (place : ℕ) (label : Text) → slice_get header place ≡ Some label → has_text (take place header) label ≡ true → IsNumbered header labels place label
  pub different : IsDistinct same_text labels
