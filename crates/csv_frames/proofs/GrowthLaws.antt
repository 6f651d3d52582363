-- Laws of columns that grow record by record.
use Rattle.{
  column_core.proofs.cells.Common.{append_assoc, ◌≡◌, ◌∙◌, ◌+◌, ◌<◌, ◌≤◌, ℕ, List, [], ◌∷◌, ◌++◌, length, get_or, set, Option, None, arith, map-append, length-set, get_or-set_other, IsLonger, Text, Kind},
  std.proofs.lemmas.{Bool.{cases_order}, List.{length-append}, Grind.{get_or-set_at}},
  meaning_csv.specs.CsvRead.{field_in, first_long},
  csv_frames.{specs.{Views.{column_fields, column_seen}, Growing.{Grown}, declared.growing.Growing.{Growing}}, proofs.SettledLaws.{settled_later, seen_later}},
}
use Rattle.csv_frames.specs.declared.growing.Growing.TheVariants as growing

-- a column stays what it is where further texts get numbers
pub grown_later : (old new : List Text) (named : Option Kind) (fields : List Text) (g : Growing) → IsLonger old new → Grown old named fields g → Grown new named fields g
grown_later _ _ _ _ growing.Missing _ grown = grown
grown_later old new _ _ (growing.Cells column) longer grown = (search settled_later, seen_later column_seen old new _ longer grown.0 ∙ grown.1, grown.2)
grown_later _ _ _ _ growing.Mixed _ grown = grown

-- the columns up to a place have a record more
pub record ArePushed (texts : List Text) (kinds : List (Option Kind)) (before : List (List Text)) (row : List Text) (place : ℕ) (columns : List Growing) : Type 0 where
  pub count : length columns ≡ length kinds
  pub done : (k : ℕ) → k < place → Grown texts (get_or kinds k None) (column_fields k (before ++ row ∷ [])) (get_or columns k growing.Missing)
  pub left : (k : ℕ) → place ≤ k → k < length kinds → Grown texts (get_or kinds k None) (column_fields k before) (get_or columns k growing.Missing)

module _ (kinds : List (Option Kind)) (before : List (List Text)) (row : List Text) where
  -- one column more
  pub push_one : (old new : List Text) (columns : List Growing) (place : ℕ) (g : Growing) → IsLonger old new → place < length kinds
      → (Grown old (get_or kinds place None) (column_fields place before) (get_or columns place growing.Missing) → Grown new (get_or kinds place None) (column_fields place before ++ field_in place row ∷ []) g)
      → ArePushed old kinds before row place columns → ArePushed new kinds before row (place + 1) (set columns place g)
  push_one old new columns place g longer lt put pushed = record {
    count = search length-set;
    done = λ k below. grind (arith, cases_order k place, get_or-set_other, get_or-set_at, grown_later, map-append, pushed.done k);
    left = λ k above within. grind (arith, get_or-set_other, grown_later, pushed.left k);
  }

module _ (width : ℕ) (file before rows rest : List (List Text)) (row : List Text) (next : rows ≡ row ∷ rest) where
  -- the records so far and those after them
  pub more_read : before ++ rows ≡ file → (before ++ row ∷ []) ++ rest ≡ file
  more_read = grind (arith, append_assoc)

  pub still_short : length row ≤ width → first_long width (2 + length before) rows ≡ first_long width 2 file → first_long width (2 + length (before ++ row ∷ [])) rest ≡ first_long width 2 file
  still_short = grind (arith, length-append)
