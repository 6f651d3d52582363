-- The labels of a range, one by one.
use Rattle.{
  meaning_pick.proofs.cells.Common.{◌≡◌, ℕ, ◌<◌, List, length, slice_get, Some, arith, length-map-range_with_len, get_or-map-range_with_len, slice_get-get_or, Label},
  index_core.specs.Ranges.{number_label, range_labels},
}

-- how many labels a range has
pub length-range_labels : (n : ℕ) → length (range_labels n) ≡ n
length-range_labels n = length-map-range_with_len _ 0 n

-- the label at a place is that place
pub label_of_range : (labels : List Label) (n place : ℕ) → range_labels n ≡ labels → place < length labels → slice_get labels place ≡ Some (number_label place)
label_of_range _ n place seen inside =
    let below : place < n = grind (arith, length-range_labels) in
    let within : place < length (range_labels n) = omega (arith, length-range_labels n) in
    cc (slice_get-get_or (range_labels n) place (number_label 0) within, get_or-map-range_with_len number_label 0 n place place (number_label 0) below (omega arith))
