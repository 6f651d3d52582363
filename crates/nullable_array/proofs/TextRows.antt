-- Laws of the texts of rows.
use Rattle.{
  column_core.{proofs.{cells.Common.{◌≡◌, ℕ, ◌+◌, ◌<◌, List, ◌++◌, length, take, slice_set, arith, append_assoc, Bool, Option, is_some, unwrap_or, inl, inr, get_or-append, cases_eq, take_at, TextId, text_of, AreGiven, IsLonger, tabulate}, ColumnLaws.{given-tabulate}, CellRows.{map-map, range-same}, RowsMade.{option-set_same, option-set_other}}, specs.{Lanes.{option_at}, Columns.{CellColumn, text_cell, text_value, column_value, column_with}, Rows.{IsTextRow, AreTexts}}},
  std.proofs.lemmas.List.{length-append},
  cell_core.specs.declared.cell.Kind.TheVariants.{Text as string},
}

pub longer_trans : (a b c : List (List ℕ)) → IsLonger a b → IsLonger b c → IsLonger a c
longer_trans a b c (m, e) (n, f) = grind (arith, append_assoc)

-- a given text stays in a longer dictionary, and so does a row's
pub text_stays : (earlier later : List (List ℕ)) (id : TextId) → IsLonger earlier later → id.0 < length earlier → text_of later id ≡ text_of earlier id
text_stays _ _ _ (more, e) = grind (arith, get_or-append)

row_stays : (earlier later : List (List ℕ)) (text : Option (List ℕ)) (id : Option TextId) → IsLonger earlier later → IsTextRow earlier text id → IsTextRow later text id
row_stays = grind (arith, text_stays, length-append)

-- one more row
pub text_written : (earlier later : List (List ℕ)) (at : ℕ → Option (List ℕ)) (i : ℕ) (values : List TextId) (present : List Bool) (o : Option TextId) (blank : TextId) → IsLonger earlier later
    → AreTexts earlier at i values present → i < length values → i < length present → IsTextRow later (at i) o
    → AreTexts later at (i + 1) (slice_set values i (unwrap_or o blank)) (slice_set present i (is_some o))
text_written _ _ _ i values present o blank longer w hv hp row k h =
    elim (cases_eq k i) [
      | inl same ↦ grind (arith, slice_set, unwrap_or, is_some, option-set_same)
      | inr other ↦ rw (option-set_other values present i k (unwrap_or o blank) (is_some o) other) (row_stays _ _ _ _ longer (w k (omega (arith, other))))
    ]

-- a column of texts, made through the fronts of vectors: its texts are those that were to be written, and they are given
pub text_made : (texts : List (List ℕ)) (at : ℕ → Option (List ℕ)) (count n m : ℕ) (values ws : List TextId) (present qs : List Bool) (col : CellColumn) → AreTexts texts at count values present
    → col ≡ column_with string text_cell (length (take n (values ++ ws))) (option_at (take n (values ++ ws)) (take m (present ++ qs))) → count ≡ n → length values ≡ n → length present ≡ m
    → (column_value texts col ≡ record { kind = string; cells = tabulate count (λ k. text_value (at k)) }) × AreGiven texts col.cells
text_made texts at count n m values ws present qs col w e same hv hp =
    let made : col ≡ column_with string text_cell count (option_at values present) = cc (take_at values ws n hv, take_at present qs m hp) in
    (grind (arith, map-map, range-same), rw made (given-tabulate _ _ _ (λ k lt. (w k lt).1)))
