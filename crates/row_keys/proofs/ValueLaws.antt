-- Labels of one class have equal numbers exactly where they are equal.
use Rattle.{
  multi_index.{proofs.cells.Common.{rules, ◌≡◌, ◌<◌, ◌≤◌, ◌+◌, ℕ, ℤ, Some, List, map, take, length, slice_index_or, arith, All, nat_tests, length-map, get_or-map, take_all, All-map, All-more, ◌-ℤ◌, Label}, specs.index_core.Labels.{same_number}},
  std.{proofs.lemmas.Int.{ints}, specs.{Prelude.{◌≤ℤ◌}, Int.RustNames.{unsigned_abs}}},
  row_keys.specs.{Numbers.{StandFor}, Values.{value_in, IsSpanned, number_in}, declared.values.Class.{Class}},
}
use Rattle.cell_core.specs.declared.cell.Label.TheVariants as label

pub label_below : (class : Class) (low high : ℤ) (l : Label) → IsSpanned class low high l → number_in class low l ≤ unsigned_abs (high -ℤ low) + 1
label_below = grind (arith, ints)

-- a label in a span
pub spanned : (class : Class) (low high : ℤ) (l : Label) (v : ℤ) → value_in class l ≡ Some v → low ≤ℤ v → v ≤ℤ high → IsSpanned class low high l
spanned = grind arith

wider : (class : Class) (low high low' high' : ℤ) (l : Label) → low' ≤ℤ low → high ≤ℤ high' → IsSpanned class low high l → IsSpanned class low' high' l
wider = search (rules, ints)

-- one label more
pub spanned_more : (class : Class) (keys : List Label) (i : ℕ) (l : Label) (low high low' high' : ℤ) → i < length keys → slice_index_or keys i l ≡ l → low' ≤ℤ low → high ≤ℤ high' → IsSpanned class low' high' l → All (IsSpanned class low high) (take i keys)
    → All (IsSpanned class low' high') (take (i + 1) keys)
spanned_more class keys i l low high low' high' lt here down up at within = All-more (IsSpanned class low' high') keys i l lt (λ k d below. wider class low high low' high' _ down up (within k d below)) (rw here at)

module _ (class : Class) (low high : ℤ) (keys : List Label) (numbers : List ℕ) (i : ℕ) (end : length keys ≤ i) (within : All (IsSpanned class low high) keys) (made : numbers ≡ map (number_in class low) (take i keys)) where
  pub labels_below : (most : ℕ) → most ≡ unsigned_abs (high -ℤ low) + 1 → All (λ n. n ≤ most) numbers
  labels_below _ is = rw (made, take_all, is) (All-map (λ n. n ≤ unsigned_abs (high -ℤ low) + 1) (number_in class low) keys (λ k d lt. label_below class low high _ (within k d lt)))

  pub labels_stand : StandFor same_number label.Na keys numbers
  labels_stand = rw (made, take_all) (record {
    count = length-map keys _;
    tells = λ i j hi hj. grind (arith, nat_tests, ints, get_or-map);
  })
