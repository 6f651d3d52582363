-- Two lists side by side.
use Rattle.{
  multi_index.proofs.cells.Common.{◌≡◌, ◌<◌, ℕ, List, map, length, slice_index_or, slice_get, Some, min, arith, get_or-map, length-map, slice_get-get_or, get_or_from_slice_get, zip},
  std.proofs.lemmas.Slice.Zip.{length-zip, get_or-zip},
}

module _ {A B : Type 0} (a : List A) (b : List B) where
  pub length_zip : length (zip a b) ≡ min (length a) (length b)
  length_zip = length-zip a b

  module _ (i : ℕ) where
    pub zip_right : i < length (zip a b) → i < length b
    zip_right = grind (arith, length-zip)

    pub zip_left : i < length (zip a b) → i < length a
    zip_left = grind (arith, length-zip)

    pub zip_get : (d : A) (e : B) → i < length (zip a b) → slice_get (zip a b) i ≡ Some (slice_index_or a i d, slice_index_or b i e)
    zip_get d e = grind (arith, length-zip, slice_get-get_or (zip a b) i (d, e), get_or-zip a b i (d, e))

-- a list seen by f, and codes
module _ {X A : Type 0} (f : X → A) (xs : List X) (codes : List ℕ) (i : ℕ) where
  pub row_of_zip : i < length (zip (map f xs) codes) → i < length xs
  row_of_zip = grind (arith, length-zip, length-map)

  pub zip_get_map : (x : X) (a : A) → i < length (zip (map f xs) codes) → slice_get xs i ≡ Some x → a ≡ f x → slice_get (zip (map f xs) codes) i ≡ Some (a, slice_index_or codes i 0)
  zip_get_map x a = grind (arith, zip_get (map f xs) codes i a 0, get_or-map f xs i x, row_of_zip, get_or_from_slice_get)
