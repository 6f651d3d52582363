-- Lists that are the same place by place.
use Rattle.{
  meaning_pick.proofs.cells.Common.{◌≡◌, ℕ, suc, ◌+◌, ◌<◌, Bool, true, List, [], ◌∷◌, ◌++◌, length, take, slice_index_or, refl, arith, Option, Some, None, take_more, map-append, get_or_from_slice_get, slice_get, Decides, Label},
  cell_core.specs.declared.cell.Label.TheVariants.{Na},
  index_core.{specs.{Labels.{labels_at}, Ranges.{range_labels}}, proofs.RangeLaws.{length-range_labels}},
}

pub holds : {P : Type 0} → P → Decides true P
holds p = (λ e. p, λ q. refl)

module _ {X : Type 0} where
  abbrev some_or : X → Option X → X
  some_or d None = d
  some_or d (Some x) = x

  pub all_same : (xs ys : List X) → length xs ≡ length ys → ((k : ℕ) → k < length xs → slice_get xs k ≡ slice_get ys k) → xs ≡ ys
  all_same [] [] e h = refl
  all_same (x ∷ xs) (y ∷ ys) e h =
      let first : x ≡ y = cc (h 0 (omega arith)) in
      search (all_same xs ys (omega arith) (λ k lt. h (suc k) (omega arith)))
  all_same _ _ e h = search

-- two ranges
pub ranges_same : (a b : List Label) (m n : ℕ) (r : Bool) → range_labels m ≡ a → range_labels n ≡ b → Decides r (m ≡ n) → Decides r (a ≡ b)
ranges_same a b m n r e f is = (
  grind arith,
  λ same. is.1 (cc (length-range_labels m, length-range_labels n)),
)

-- one more label is taken
pub one_more_label : (labels taken taken' : List Label) (places : List ℕ) (k : ℕ) (label : Label)
    → taken ≡ labels_at labels (take k places) → k < length places → slice_get labels (slice_index_or places k 0) ≡ Some label → taken' ≡ taken ++ label ∷ []
    → taken' ≡ labels_at labels (take (k + 1) places)
one_more_label labels _ _ places k label before inside is pushed =
    let same : slice_index_or labels (slice_index_or places k 0) Na ≡ label = grind (arith, get_or_from_slice_get) in
    cc (take_more places k 0 inside, map-append (λ p. slice_index_or labels p Na) (take k places) (slice_index_or places k 0 ∷ []))
