-- Axes whose tuples are the same.
use Rattle.{
  index_core.proofs.{cells.Common.{◌≡◌, ◌∙◌, ℕ, ◌<◌, Bool, List, [], ◌∷◌, length, refl, ap, sym, arith, Some, slice_index_or, slice_get-get_or, slice_get, Decides, Label}, SameLaws.{all_same}},
  multi_index.specs.Axes.{AxisValue, HaveLevels, single_tuples, label_at},
}

abbrev heads : List (List Label) → List Label
heads [] = []
heads ([] ∷ ts) = heads ts
heads ((l ∷ ls) ∷ ts) = l ∷ heads ts

heads_single : (labels : List Label) → heads (single_tuples labels) ≡ labels
heads_single [] = refl
heads_single (l ∷ ls) = cc (heads_single ls)

-- two axes of one level
pub singles_same : (a b : List Label) (x y : List (List Label)) (r : Bool) → single_tuples a ≡ x → single_tuples b ≡ y → Decides r (a ≡ b) → Decides r (x ≡ y)
singles_same a b x y r e f is = (
  grind arith,
  λ same. is.1 (sym (heads_single a) ∙ ap heads (e ∙ same ∙ sym f) ∙ heads_single b),
)

-- a tuple of an axis
pub tuple_there : (axis : AxisValue) (row : ℕ) → row < length axis.tuples → slice_get axis.tuples row ≡ Some (slice_index_or axis.tuples row [])
tuple_there = search slice_get-get_or

-- the same labels at each level are the same tuple
pub same_at_row : (a b : AxisValue) (row levels : ℕ) → row < length a.tuples → row < length b.tuples → HaveLevels levels a.tuples → HaveLevels levels b.tuples
    → ((level : ℕ) → level < levels → label_at a row level ≡ label_at b row level) → slice_get a.tuples row ≡ slice_get b.tuples row
same_at_row a b row _ lt lt' alike alike' same =
    let x = slice_index_or a.tuples row [] in
    let y = slice_index_or b.tuples row [] in
    let e = tuple_there a _ lt in
    let f = tuple_there b _ lt' in
    let m = alike row [] lt in
    let n = alike' row [] lt' in
    let at : (level : ℕ) → level < length x → slice_get x level ≡ slice_get y level =
    λ level inside. cc (same level (omega arith)) in
    cc (all_same x y (m ∙ sym n) at)
