-- The places of a range: by the number of a label, and by the numbers of two bounds.
use Rattle.{
  meaning_pick.{proofs.{cells.Common.{◌≡◌, ◌∙◌, ap, sym, refl, arith, rules, ℕ, zero, suc, ◌+◌, ◌-◌, ◌<◌, ◌≤◌, ℤ, pos, negsuc, Bool, true, false, not, cond, List, [], ◌∷◌, length, slice_index_or, Some, min, nat_lt, map, nat_tests, get_or-map-range_with_len, unsigned_abs, int_lt as lt_z, Decides, range_with_len, is_lt, Less, Equal, Greater, Label, place_from, Text}, RowLaws.{rows_in_interval}}, specs.{Rows.{rows_where, rows_of, rows_between}, Slices.{goes_on_in_order, is_in_order}}},
  index_core.{specs.{Labels.{same_number, order_in}, Ranges.{number_label, range_labels}, Splits.{IsSplitAt, BeginsAt, EndsAt}}, proofs.RangeLaws.{length-range_labels}},
}
use Rattle.cell_core.specs.declared.cell.Label.TheVariants as label

pub label_decides : (a b : Label) → Decides (same_number a b) (a ≡ b)
label_decides = search rules

pub not_same : {P : Type 0} (r : Bool) → Decides r P → (P → ⊥) → r ≡ false
not_same = grind arith

-- the label at a place
pub number_at : (n k : ℕ) (d : Label) → k < n → slice_index_or (range_labels n) k d ≡ number_label k
number_at = grind (arith, get_or-map-range_with_len)

inside : (n k : ℕ) → k < length (range_labels n) → k < n
inside n = omega (arith, length-range_labels n)

-- a label that is none of the numbers
pub nowhere : (n : ℕ) (l : Label) → ((k : ℕ) → k < n → same_number l (number_label k) ≡ false) → [] ≡ rows_where (same_number l) 0 (range_labels n)
nowhere n l none =
    sym (
    rows_in_interval (same_number l) label.Na 0 0 0 _ (omega arith) (λ k lt in'. absurd (omega arith)) (λ k le lt. absurd (omega arith))
    (λ k le lt. cc (number_at n k label.Na (inside n k lt), none k (inside n k lt)))
    )

pub same_pos : (m k : ℕ) → label.Int (pos m) ≡ number_label k → m ≡ k
same_pos m k e = cc

-- a number that is one of them
pub number_there : (n m : ℕ) → m < n → m ∷ [] ≡ rows_where (same_number (label.Int (pos m))) 0 (range_labels n)
number_there n m lt =
    let count : m + 1 - m ≡ 1 = omega arith in
    let start : 0 + m ≡ m = omega arith in
    sym (
    rows_in_interval _ label.Na 0 m _ (range_labels n) (omega (arith, length-range_labels n))
    (λ k less in'. grind (arith, number_at, inside, not_same, label_decides, same_pos))
    (λ k le less. grind (arith, number_at, label_decides))
    (λ k le in'. cc (number_at n k label.Na (inside n k in'), not_same (same_number (label.Int (pos m)) (number_label k)) (search label_decides) (λ e. let eq : m ≡ k = same_pos m k e in omega arith)))
    ∙ ap (range_with_len (0 + m)) count
    ∙ ap (λ a. range_with_len a 1) start
    )

-- where the numbers are split by a test of a place
pub split_numbers : (p : Label → Bool) (n place : ℕ) → place ≤ n → ((k : ℕ) → k < place → p (number_label k) ≡ false) → ((k : ℕ) → place ≤ k → k < n → p (number_label k) ≡ true) → IsSplitAt p (range_labels n) place
split_numbers = grind (arith, length-range_labels, number_at, inside)

-- by a test that all numbers pass, or none does
pub all_pass : (p : Label → Bool) (n : ℕ) → ((k : ℕ) → p (number_label k) ≡ true) → IsSplitAt p (range_labels n) 0
all_pass p n pass = split_numbers p n 0 (omega arith) (λ k lt. absurd (omega arith)) (λ k le lt. pass k)

pub none_passes : (p : Label → Bool) (n : ℕ) → ((k : ℕ) → p (number_label k) ≡ false) → IsSplitAt p (range_labels n) n
none_passes p n fail = split_numbers p n n (omega arith) (λ k lt. fail k) (λ k le lt. absurd (omega arith))

pub no_number : (n : ℕ) (z : ℤ) → lt_z z (pos 0) ≡ true → [] ≡ rows_where (same_number (label.Int z)) 0 (range_labels n)
no_number = grind (arith, nat_tests, nowhere)

module _ (texts : List Text) (n : ℕ) where
  -- the first number that isn't below a number
  pub reached_number : (z : ℤ) (distance place : ℕ) → lt_z z (pos 0) ≡ false → distance ≡ unsigned_abs z → place ≡ min n distance → BeginsAt texts (Some (label.Int z)) (range_labels n) place
  reached_number (pos m) _ _ ge is at = rw (at ∙ ap (min n) is) (split_numbers _ n (min n m) (omega arith) (λ k lt. grind (arith, nat_tests)) (λ k le lt. grind (arith, nat_tests)))
  reached_number (negsuc m) _ _ ge is at = cc

  pub reached_below : (z : ℤ) → lt_z z (pos 0) ≡ true → BeginsAt texts (Some (label.Int z)) (range_labels n) 0
  reached_below (pos m) lt = absurd (grind (arith, nat_tests))
  reached_below (negsuc m) _ = all_pass _ n (λ k. refl)

  -- the number behind the last one that isn't above a number
  pub left_number : (z : ℤ) (distance place : ℕ) → lt_z z (pos 0) ≡ false → distance ≡ unsigned_abs z → place ≡ min n (distance + 1) → EndsAt texts (Some (label.Int z)) (range_labels n) place
  left_number (pos m) _ _ ge is at = rw (at ∙ ap (λ k. min n (k + 1)) is) (split_numbers _ n (min n (m + 1)) (omega arith) (λ k lt. grind (arith, nat_tests)) (λ k le lt. grind (arith, nat_tests)))
  left_number (negsuc m) _ _ ge is at = cc

  pub left_below : (z : ℤ) → lt_z z (pos 0) ≡ true → EndsAt texts (Some (label.Int z)) (range_labels n) 0
  left_below (pos m) lt = absurd (grind (arith, nat_tests))
  left_below (negsuc m) _ = all_pass _ n (λ k. refl)

-- numbers go on in order
goes_on : (texts : List Text) (a n : ℕ) → goes_on_in_order (order_in texts) (number_label a) (map number_label (range_with_len (a + 1) n)) ≡ true
goes_on _ a zero = refl
goes_on texts a (suc n) = grind (arith, nat_tests, goes_on texts (a + 1) n)

pub range_in_order : (texts : List Text) (n : ℕ) → is_in_order (order_in texts) (range_labels n) ≡ true
range_in_order = grind (arith, goes_on)

-- rows with a step of 1
ones : (first start count : ℕ) → map (place_from first (pos 1)) (range_with_len start count) ≡ range_with_len (first + start) count
ones _ _ zero = refl
ones first start (suc count) = grind (arith, ones first (start + 1) count)

pub run_rows : (first end count : ℕ) → count ≡ end - first → rows_of record { start = first; step = pos 1; count = count } ≡ rows_between first end
run_rows = grind (arith, ones)
