-- Texts one after the other, and the widest of them.
use Rattle.{
  meaning_format.{proofs.cells.Common.{OnOk, Result, ◌≡◌, ℕ, ◌+◌, ◌<◌, max, List, [], ◌∷◌, ◌++◌, length, map, get_or, refl, ap, sym, ◌∙◌, append_assoc, arith, map-id, flat_map-map, length-map-range_with_len, get_or-map-range_with_len, map-range_with_len_more, fill_by_all, flat_map, join_by, Text}, specs.Print.{width, widest, side_by_side, places}},
  std.proofs.{Common.{append-nil}, lemmas.Grind.{flat_map-append}},
  frame_format.specs.Layouts.{set_columns},
}

pub places_more : (n : ℕ) → places (n + 1) ≡ places n ++ n ∷ []
places_more n = simp map-id at (map-range_with_len_more (λ (k : ℕ). k) 0 n n (omega arith))

pub map_more : {X : Type 0} (f : ℕ → X) (n : ℕ) → map f (places (n + 1)) ≡ map f (places n) ++ f n ∷ []
map_more f n = map-range_with_len_more f 0 n n (omega arith)

-- a piece more
pub flat_more : (f : ℕ → Text) (n : ℕ) → flat_map f (places (n + 1)) ≡ flat_map f (places n) ++ f n
flat_more = search (places_more, flat_map-append, append-nil)

widest-append : (xs : List Text) (t : Text) → widest (xs ++ t ∷ []) ≡ max (widest xs) (width t)
widest-append [] t = omega arith
widest-append (x ∷ xs) t = grind (arith, widest-append xs t)

-- a text more to be measured
pub widest_more : (f : ℕ → Text) (n : ℕ) → widest (map f (places (n + 1))) ≡ max (widest (map f (places n))) (width (f n))
widest_more = search (map_more, widest-append)

-- two pieces written one after the other, the second perhaps by the last call
pub both : (o o' o'' a b : Text) → o' ≡ o ++ a → o'' ≡ o' ++ b → o'' ≡ o ++ (a ++ b)
both o _ _ a b first second = cc (append_assoc o a b)

pub both_at_last : {T E : Type 0} (r : Result T E) (o o' o'' a b : Text) → o' ≡ o ++ a → OnOk r (o'' ≡ o' ++ b) → OnOk r (o'' ≡ o ++ (a ++ b))
both_at_last = grind (arith, append_assoc)

-- the last piece, under another spelling
pub at_last : {T E : Type 0} (r : Result T E) (o o' a b : Text) → a ≡ b → OnOk r (o' ≡ o ++ a) → OnOk r (o' ≡ o ++ b)
at_last = grind arith

-- what is the same at each place
module _ (f g : ℕ → Text) (n : ℕ) (same : (k : ℕ) → k < n → f k ≡ g k) where
  same_texts : map f (places n) ≡ map g (places n)
  same_texts = fill_by_all g (map f (places n)) n [] (length-map-range_with_len f 0 n) (grind (arith, get_or-map-range_with_len))

  join_same : (gap : Text) → join_by f gap (places n) ≡ join_by g gap (places n)
  join_same gap = joined f _ ∙ ap (join_by (λ t. t) gap) same_texts ∙ sym (joined g _)
    where
      joined : (h : ℕ → Text) (xs : List ℕ) → join_by h gap xs ≡ join_by (λ t. t) gap (map h xs)
      joined h [] = refl
      joined h (x ∷ xs) = grind (arith, flat_map-map)

  flat_same : flat_map f (places n) ≡ flat_map g (places n)
  flat_same = cc (flat_map-map (λ t. t) f (places n), same_texts, flat_map-map (λ t. t) g (places n))

-- with the widths that were measured
module _ (ws : List ℕ) (f : ℕ → ℕ) (n : ℕ) (is : ws ≡ map f (places n)) where
  pub sides_measured : (gap : Text) (texts : ℕ → Text) → side_by_side gap n (λ k. get_or ws k 0) texts ≡ side_by_side gap n f texts
  sides_measured = grind (arith, join_same, get_or-map-range_with_len)

  pub columns_measured : (texts : ℕ → Text) → set_columns n (λ k. get_or ws k 0) texts ≡ set_columns n f texts
  columns_measured = grind (arith, flat_same, get_or-map-range_with_len)

  -- how many were measured
  pub length_measured : length ws ≡ n
  length_measured = grind (arith, length-map-range_with_len)
