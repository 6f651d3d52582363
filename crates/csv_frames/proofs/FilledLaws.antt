-- Columns that have a label of their own, and a cell for each row.
use Rattle.{
  column_core.{proofs.cells.Common.{◌≡◌, ℕ, suc, refl, ap, List, [], ◌∷◌, length, All, AllPairs, Option, ◌≢◌, arith, length-map, get_or-map, apart_from_distinct, bytes_eq-Decides, IsDistinct, Kind, Label, Text, same_text, text}, specs.Columns.{CellColumn}},
  meaning_csv.specs.{tables.Table.{tuple_value}, CsvRead.{columns_from}},
  csv_frames.specs.Views.{columns_seen, tuples_seen, label_tuples},
}

abbrev others : {X : Type 0} → List X → List X
others [] = []
others (x ∷ xs) = xs

module _ (texts : List Text) (rows : List (List Text)) where
  count_from : (place : ℕ) (kinds : List (Option Kind)) → length (columns_from place kinds rows) ≡ length kinds
  count_from _ [] = refl
  count_from place (k ∷ ks) = ap suc (count_from (suc place) ks)

  pub count_columns : (place : ℕ) (kinds : List (Option Kind)) (columns : List CellColumn) → columns_seen texts columns ≡ columns_from place kinds rows → length columns ≡ length kinds
  count_columns = grind (arith, length-map, count_from)

  pub filled : (place : ℕ) (kinds : List (Option Kind)) (columns : List CellColumn) → columns_seen texts columns ≡ columns_from place kinds rows → All (λ (c : CellColumn). length c.cells ≡ length rows) columns
  filled place (k ∷ ks) (c ∷ cs) read = grind (arith, length-map, filled (suc place) ks cs (ap others read))
  filled _ [] (c ∷ cs) read = Prim.cc
  filled _ _ _ _ = grind arith

module _ (texts labels : List Text) (tuples : List (List Label)) (read : tuples_seen texts tuples ≡ label_tuples labels) where
  pub count_tuples : length tuples ≡ length labels
  count_tuples = grind (arith, length-map)

  -- labels whose texts differ
  pub tuples_differ : IsDistinct same_text labels → AllPairs (λ a b. a ≢ b) tuples
  tuples_differ distinct i j d lt below alike =
      let size = count_tuples in
      let label_at = λ (k : ℕ). get_or-map (tuple_value texts) tuples k d [] in
      grind (arith, get_or-map (λ l. text l ∷ []) labels i [] [], get_or-map (λ l. text l ∷ []) labels j [] [], label_at i, label_at j, apart_from_distinct same_text labels i j [] distinct lt, bytes_eq-Decides)
