-- The labels of an axis as keys of rows.
use Rattle.{frame_parts.proofs.Common.{arith, label_there, ◌≡◌, ◌<◌, ◌≤◌, refl, sym, zero, suc, ℕ, List, [], ◌∷◌, map, length, slice_index_or, Some, All-map, Label, AxisValue, HaveLevels}, column_core.proofs.cells.Common.{get_or_past}, cell_core.specs.declared.cell.Label.TheVariants.{Na}, multi_index.specs.Axes.{label_at}, factorize.proofs.LabelLaws.{no_row}, reshape.specs.row_keys.Keys.{label_in}, frame_reshape.specs.Keys.{level_keys}}

-- the label of a row at a level, and none behind the last row or level
pub label_read : (axis : AxisValue) (row level : ℕ) (l : Label) → row < length axis.tuples → label_at axis row level ≡ Some l → l ≡ label_in level (slice_index_or axis.tuples row [])
label_read axis row level l lt at = sym (label_there axis row level l lt at)

pub no_level : (axis : AxisValue) (levels row level : ℕ) → HaveLevels levels axis.tuples → row < length axis.tuples → levels ≤ level → Na ≡ label_in level (slice_index_or axis.tuples row [])
no_level axis levels row level alike lt past = grind (arith, alike row [] lt, get_or_past)

-- the keys of one level
pub one_label : (axis : AxisValue) (level : ℕ) → HaveLevels 1 (level_keys axis level)
one_label axis level = All-map (λ t. length t ≡ 1) (λ tuple. label_in level tuple ∷ []) axis.tuples (λ k d lt. refl)

no_label : (level : ℕ) (tuples : List (List Label)) (row other : ℕ) → Na ≡ label_in (suc other) (slice_index_or (map (λ tuple. label_in level tuple ∷ []) tuples) row [])
no_label level [] row other = refl
no_label level (t ∷ ts) zero other = refl
no_label level (t ∷ ts) (suc row) other = no_label level ts row other

pub no_key : (axis : AxisValue) (level row other : ℕ) → 0 < other → Na ≡ label_in other (slice_index_or (level_keys axis level) row [])
no_key axis level row zero some = grind arith
no_key axis level row (suc other) some = no_label level axis.tuples row other

pub ruleset axis_label = (label_read, no_level, no_row)
