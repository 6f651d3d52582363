-- The tuples of an axis.
use Rattle.{index_core.{proofs.cells.Common.{◌≡◌, ℕ, ◌<◌, List, [], ◌∷◌, length, slice_get, slice_index_or, Some, All, arith, All-map, Label}}, multi_index.specs.Axes.{HaveLevels, tuples_at}}

-- tuples that are taken have as many labels as before
pub levels_of_taken : (tuples : List (List Label)) (places : List ℕ) (levels : ℕ) → HaveLevels levels tuples → All (λ place. place < length tuples) places → HaveLevels levels (tuples_at tuples places)
levels_of_taken tuples places levels alike inside =
    All-map (λ t. length t ≡ levels) (λ place. slice_index_or tuples place []) places (λ k d h. alike (slice_index_or places k d) [] (inside k d h))

-- a tuple of one label
pub only_label_is : (t : List Label) (l : Label) → length t ≡ 1 → slice_get t 0 ≡ Some l → t ≡ l ∷ []
only_label_is (x ∷ []) l one at = search
only_label_is t l one at = absurd (omega arith)
