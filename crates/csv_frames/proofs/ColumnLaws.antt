-- Laws of the columns that all records have.
use Rattle.{
  column_core.{proofs.cells.Common.{◌≡◌, ◌+◌, ◌<◌, ℕ, suc, refl, true, false, List, [], ◌∷◌, length, map, get_or, Option, Some, None, unwrap_or, arith, length-map, get_or-map, list_all, list_any, Text, Kind, Int64}, specs.Columns.{CellColumn}},
  meaning_csv.specs.{tables.{Settled.{IsSettled}, Valid.{within_limits}}, CsvRead.{is_missing, kind_of_fields, cell_of_field, column_of_fields, columns_from}},
  csv_frames.{specs.{Views.{column_fields, column_seen, columns_seen}, Growing.{is_mixed, kind_so_far, column_so_far, Grown, AreGrown, GrownTo}, declared.{growing.Growing.{Growing}, growth.Growth.{Growth}}}, proofs.{KindsLaws.{all_na, kind_missing}, GrowingLaws.{na_seen}}},
}
use Rattle.csv_frames.specs.declared.growing.Growing.TheVariants as growing

missing_column : (named : Option Kind) (fields : List Text) → named ≡ None → list_all is_missing fields ≡ true → record { kind = Int64; cells = map (cell_of_field Int64) fields } ≡ column_of_fields named fields
missing_column = grind (arith, kind_missing)

module _ (texts : List Text) (named : Option Kind) (fields : List Text) where
  column_right : (g : Growing) → Grown texts named fields g → is_mixed g ≡ false → column_seen texts (column_so_far (length fields) g) ≡ column_of_fields named fields
  column_right growing.Missing grown _ = grind (arith, na_seen texts (length fields), all_na Int64 fields grown.1, missing_column named fields grown.0 grown.1)
  column_right (growing.Cells column) grown _ = grown.1
  column_right growing.Mixed grown kept = search

  column_settled : (g : Growing) → Grown texts named fields g → IsSettled column_seen texts (column_so_far (length fields) g)
  column_settled growing.Missing grown = search na_seen
  column_settled (growing.Cells column) grown = grown.0
  column_settled growing.Mixed _ = λ more. refl

  kind_right : (g : Growing) → Grown texts named fields g → kind_so_far g ≡ unwrap_or named (kind_of_fields fields)
  kind_right = grind (arith, missing_column)

never_mixed : (texts : List Text) (kind : Kind) (fields : List Text) (g : Growing) → Grown texts (Some kind) fields g → is_mixed g ≡ false
never_mixed = grind arith

-- columns from a place on
abbrev EachGrown : List Text → List (List Text) → ℕ → List (Option Kind) → List Growing → Type 0
EachGrown texts rows start kinds columns = (k place : ℕ) → k < length kinds → place ≡ start + k → Grown texts (get_or kinds k None) (column_fields place rows) (get_or columns k growing.Missing)

module _ (texts : List Text) (rows : List (List Text)) where
  -- the columns are those that are meant, and settled, and the same with each kind named
  all_columns : (start count : ℕ) → count ≡ length rows → (kinds : List (Option Kind)) (columns : List Growing) → length columns ≡ length kinds → EachGrown texts rows start kinds columns
      → (list_any is_mixed columns ≡ false → columns_seen texts (map (column_so_far count) columns) ≡ columns_from start kinds rows) × IsSettled columns_seen texts (map (column_so_far count) columns)
      × (columns_from start (map (λ g. Some (kind_so_far g)) columns) rows ≡ columns_from start kinds rows)
  all_columns start count size (k ∷ ks) (g ∷ gs) same each =
      let long : count ≡ length (column_fields start rows) = search length-map in
      let first = each 0 start (omega arith) (omega arith) in
      let rest = all_columns (suc start) count size ks gs (omega arith) (λ n place lt is. each (suc n) place (omega arith) (omega arith)) in (
        λ kept. grind (arith, column_right texts k (column_fields start rows) g first, rest.0),
        λ further. grind (arith, column_settled texts k (column_fields start rows) g first further, rest.1 further),
        grind (arith, kind_right texts k (column_fields start rows) g first, rest.2),
      )
  all_columns start count size ks [] same each = (λ kept. search, grind arith, search)
  all_columns start count size [] gs same each = (λ kept. search, grind arith, search)

none_mixed : (columns : List Growing) → ((k : ℕ) → k < length columns → is_mixed (get_or columns k growing.Missing) ≡ false) → list_any is_mixed columns ≡ false
none_mixed [] _ = refl
none_mixed (g ∷ gs) each = cc (each 0 (omega arith), none_mixed gs (λ k lt. each (suc k) (omega arith)))

module _ (texts : List Text) (kinds : List (Option Kind)) (rows : List (List Text)) (columns : List Growing) (grown : AreGrown texts kinds rows columns) where
  each_grown : EachGrown texts rows 0 kinds columns
  each_grown = grind arith

  module _ (count : ℕ) (size : count ≡ length rows) (made : List CellColumn) (is : made ≡ map (column_so_far count) columns) where
    pub columns_settled : IsSettled columns_seen texts made
    columns_settled = rw is (all_columns _ _ 0 _ size kinds columns grown.count each_grown).1

    pub columns_right : list_any is_mixed columns ≡ false → columns_seen texts made ≡ columns_from 0 kinds rows
    columns_right kept = cc ((all_columns texts rows 0 count size kinds columns grown.count each_grown).0 kept)

  -- the records once more, with each kind named
  module _ (new : List Text) (found : List (Option Kind)) (are : found ≡ map (λ g. Some (kind_so_far g)) columns) (again : Growth) (within : within_limits (length rows) (length kinds) ≡ true) (read : GrownTo new found rows again) where
    as_many : length kinds ≡ length found
    as_many = grind (arith, length-map)

    pub again_grown : AreGrown new found rows again.columns.items
    again_grown = grind (arith, as_many)

    pub again_kept : list_any is_mixed again.columns.items ≡ false
    again_kept = none_mixed _ (λ k lt.
        let few : k < length found = omega (arith, again_grown.count) in
        let named : get_or found k None ≡ Some (kind_so_far (get_or columns k growing.Missing)) = grind (arith, get_or-map, as_many) in
        never_mixed new _ (column_fields k rows) _ (rw named at (again_grown.each k few)))

    pub again_same : columns_from 0 found rows ≡ columns_from 0 kinds rows
    again_same = cc (all_columns texts rows 0 (length rows) refl kinds columns grown.count each_grown).2
