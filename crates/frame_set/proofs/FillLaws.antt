-- Values for the cells that a setting reaches.
use Rattle.{
  std.proofs.lemmas.{Nat.{div-add-mod', mod-mul-add}, Option.{same_Some, slice_get-get_or, slice_get-map}},
  std.{proofs.Common.{suc-mul}, specs.Prelude.{◌*◌}},
  frame_parts.proofs.Common.{column_listed, slice_get_within, get_or_from_slice_get, drop_more, take_more, ◌≡◌, ℕ, ◌+◌, ◌<◌, ◌%◌, ◌/◌, Bool, true, false, List, [], ◌∷◌, ◌++◌, map, length, length-map, subst, sym, ap, ◌∙◌, option_map, take, drop, arith, Some, Result, Ok, drop-length, slice_get, slice_index, Cell, Na, Kind, Text, CellValue, datum, holds, FaultValue, then_value, ColumnOf, NumberedTable, Table, column_at, MakesBy, OpFault, cells_value},
  frame_select.specs.{select.Set.{fit_from}, Selected.{as_it_is}},
  frame_set.specs.Values.{kind_there, AreKindsOf, HasKinds},
}

-- cells so far

pub cell_more : (xs : List Cell) (k : ℕ) (c : Cell) (before after : List Cell) → k < length xs → slice_get xs k ≡ Some c → before ≡ take k xs → after ≡ before ++ c ∷ [] → after ≡ take (k + 1) xs
cell_more xs k c _ _ lt at = grind (arith, take_more xs k Na lt, get_or_from_slice_get xs k c Na at)

-- the kind of a list
pub kind_listed : (texts : List Text) (cells : List Cell) (r : Result Kind OpFault) (meant : Result (ColumnOf CellValue) FaultValue) → MakesBy (column_listed cells) texts r meant → MakesBy as_it_is texts r (then_value meant (λ c. Ok c.kind))
kind_listed = grind arith

-- values that fit the kinds of their columns

pub kind_is : (grown : Table) (places : List ℕ) (kinds : List Kind) (k column : ℕ) (kind : Kind) → AreKindsOf grown places kinds → column ≡ k % length kinds → slice_get kinds column ≡ Some kind → (column_at grown.columns (slice_index places (k % length places))).kind ≡ kind
kind_is grown places kinds k column kind are at is = grind (arith, are.each column kind is, are.count)

-- the next value's column
pub column_next : (k w : ℕ) → k % w + 1 < w → (k + 1) % w ≡ k % w + 1
column_next k w lt =
    let split : k + 1 ≡ k / w * w + (k % w + 1) = omega (arith, div-add-mod' k w) in
    ap (λ (n : ℕ). n % w) split ∙ mod-mul-add (k / w) w (k % w + 1) lt

pub column_first : (k w : ℕ) → 0 < w → k % w + 1 ≡ w → (k + 1) % w ≡ 0
column_first k w some is =
    let split : k + 1 ≡ (k / w + 1) * w + 0 = omega (arith, div-add-mod' k w, suc-mul (k / w) w) in
    ap (λ (n : ℕ). n % w) split ∙ mod-mul-add (k / w + 1) w 0 some

-- the kinds of the columns at places
pub kinds_are : (grown : Table) (t : NumberedTable) (added : Kind) (places : List ℕ) (kinds : List Kind) → kinds ≡ map (λ place. kind_there t place added) places → HasKinds grown t added places → AreKindsOf grown places kinds
kinds_are grown t added places kinds are has =
    let there = λ (place : ℕ). kind_there t place added in
    let many : length kinds ≡ length places = rw are (length-map places there) in
    record {
      count = many;
      each = λ k kind at.
          let lt : k < length places = omega (arith, slice_get_within kinds k kind at, many) in
          let seen : Some kind ≡ Some (there (slice_index places k)) = sym at ∙ ap (λ (l : List Kind). slice_get l k) are ∙ slice_get-map there places k ∙ ap (option_map there) (slice_get-get_or places k 0 lt) in
          has k lt ∙ sym (same_Some kind (there (slice_index places k)) seen);
    }

pub kinds_read : (grown : Table) (places : List ℕ) (kinds read : List Kind) → read ≡ kinds → AreKindsOf grown places kinds → AreKindsOf grown places read
kinds_read grown places kinds read is = subst (λ (l : List Kind). AreKindsOf grown places l) (sym is)

module _ (texts : List Text) (grown : Table) (places : List ℕ) (values : List Cell) (k : ℕ) (c : Cell) (kind : Kind) (b whole : Bool) (lt : k < length values) (at : slice_get values k ≡ Some c)
    (is : (column_at grown.columns (slice_index places (k % length places))).kind ≡ kind) (same : b ≡ holds kind (datum texts c)) where
  pub fit_more : b ≡ true → fit_from k grown places (cells_value texts (drop k values)) ≡ whole → fit_from (k + 1) grown places (cells_value texts (drop (k + 1) values)) ≡ whole
  fit_more = grind (arith, drop_more values k Na lt, get_or_from_slice_get values k c Na at)

  pub fit_fails : b ≡ false → fit_from k grown places (cells_value texts (drop k values)) ≡ whole → whole ≡ false
  fit_fails = grind (arith, drop_more values k Na lt, get_or_from_slice_get values k c Na at)

pub fit_read : (texts : List Text) (grown : Table) (places : List ℕ) (values read : List Cell) (b : Bool) → read ≡ values → fit_from 0 grown places (cells_value texts read) ≡ b → fit_from 0 grown places (cells_value texts values) ≡ b
fit_read texts grown places values read b is = subst (λ (l : List Cell). fit_from 0 grown places (cells_value texts l) ≡ b) is

pub fit_done : (texts : List Text) (grown : Table) (places : List ℕ) (values : List Cell) (k : ℕ) (whole : Bool) → k ≡ length values → fit_from k grown places (cells_value texts (drop k values)) ≡ whole → whole ≡ true
fit_done _ _ _ values k _ end before = cc (drop-length values)
