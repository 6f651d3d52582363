-- Labels of columns, labels of rows that are those of columns, and tables under the headings that an operator gives them.
use Rattle.{frame_parts.proofs.{Common.{Makes, headings_value, labels_value, HeadingList, block_column, table_with, axis_of, columns_name_part, headings_part, ◌≡◌, ℕ, ◌+◌, ◌<◌, Bool, true, false, List, [], ◌∷◌, ◌++◌, length, map, drop, refl, ap, sym, arith, nat_eq, add-one, Option, Some, None, slice_index_or, Result, Ok, drop-cons, length-map, nat_tests, ◌≢◌, Label, Shape, Series, Frame, IsLonger, Text, LabelValue, na, label_datum, CellValue, FaultValue, then_value, HaveLevels, IsSettled, heading_value, ColumnOf, NumberedTable, table_value, AreHeadings, IsWhole, same_heading, with_columns, are_headings, tuples_settled, made_is_settled, made_is_meant, blocks_value, AreColumns, CellBlock, unless_repeated, Refused, Refuses, AreDistinct}, TableMade.{under_settled, whole_under}}, frame_parts.specs.form.Finish.{first_repeated}, frame_select.{proofs.{HeadingLaws.{shared_seen}, RefusalLaws.{shared_settled}}, specs.Headings.{shared_heading, NamesRepeated}}, cell_core.specs.declared.code.Code.{Code}, column_core.proofs.cells.Common.{get_or-map}, frame_ops.specs.{declared.naming.Naming.{Naming, TheVariants.{Kept, Name, ColumnsName}}, Namings.{headings_by, named_by, IsNaming, IsSettledNaming}}}
use Rattle.cell_core.specs.declared.cell.Label.TheVariants as label
use Rattle.frame_store.specs.tables.Value as value

-- the label of a row on its one level
pub label_settled : (texts : List Text) (ls : List (List Label)) (l : Label) (k : ℕ) → IsSettled labels_value texts ls → HaveLevels 1 ls → k < length ls → l ≡ slice_index_or (slice_index_or ls k []) 0 label.Na → IsSettled heading_value texts (Some l)
label_settled texts ls l k settled alike lt is =
    let t = slice_index_or ls k [] in
    let inside : 0 < length t = omega (arith, alike k [] lt) in
    let tuple = tuples_settled _ ls settled k [] lt in
    rw is (λ more.
    ap Some (cc (get_or-map (label_datum (texts ++ more)) t 0 label.Na na inside, tuple more, get_or-map (label_datum texts) t 0 label.Na na inside)))

-- tables with columns of different numbers
labels_differ : (x : List (List LabelValue)) (y : List (Option LabelValue)) → length x ≢ length y → are_headings x y ≡ false
labels_differ [] _ n = grind arith
labels_differ (t ∷ ls) [] n = grind arith
labels_differ (t ∷ ls) (h ∷ hs) n = grind (arith, labels_differ ls hs)

-- another number of rows than of columns
pub other_rows : (texts : List Text) (ls : List (List Label)) (hs : List (Option Label)) → length ls ≢ length hs → false ≡ are_headings (labels_value texts ls) (headings_value texts hs)
other_rows = grind (arith, labels_differ, length-map)

-- labels of several levels are no headings, unless there are none
pub other_levels : (texts : List Text) (levels count : ℕ) (ls : List (List Label)) (hs : List (Option Label)) → HaveLevels levels ls → levels ≢ 1 → count ≡ length ls → length ls ≡ length hs
    → nat_eq count 0 ≡ are_headings (labels_value texts ls) (headings_value texts hs)
other_levels _ _ _ [] [] alike n is same = grind (arith, nat_tests)
other_levels _ _ _ ((l ∷ []) ∷ ls) (h ∷ hs) alike n is same = absurd (n (sym (alike 0 [] (omega arith))))
other_levels _ _ _ ls hs alike n is same = grind (arith, nat_tests)

pub one_label : (t : List Label) → length t ≡ 1 → t ≡ slice_index_or t 0 label.Na ∷ []
one_label (l ∷ []) e = refl
one_label t e = search

-- one more label that is a heading
pub one_more_heading : (texts : List Text) (ls : List (List Label)) (hs : List (Option Label)) (k : ℕ) (l : Label) (h : Option Label) (whole : Bool) → HaveLevels 1 ls → k < length ls → k < length hs
    → l ≡ slice_index_or (slice_index_or ls k []) 0 label.Na → h ≡ slice_index_or hs k None → same_heading (Some (label_datum texts l)) (heading_value texts h) ≡ true
    → are_headings (labels_value texts (drop k ls)) (headings_value texts (drop k hs)) ≡ whole → are_headings (labels_value texts (drop (k + 1) ls)) (headings_value texts (drop (k + 1) hs)) ≡ whole
one_more_heading = grind (arith, one_label, drop-cons, add-one)

-- a label that stands twice
module _ (texts : List Text) (hs : List (Option Label)) (distinct : AreDistinct texts) (settled : IsSettled headings_value texts hs) where
  pub repeated_is : (found : Option Label) → shared_heading hs [] ≡ found → first_repeated (headings_value texts hs) ≡ heading_value texts found
  repeated_is found is = cc (shared_seen texts hs [] distinct settled (λ more. refl))

  module _ {A : Type 0} (rest : Result A FaultValue) where
    abbrev meant : Result A FaultValue
    meant = unless_repeated (first_repeated (headings_value texts hs)) rest

    pub none_repeated : shared_heading hs [] ≡ None → meant ≡ rest
    none_repeated none = cc (repeated_is None none)

    pub one_repeated : (code : Code) → NamesRepeated (Refused code) (shared_heading hs []) → Refuses texts code meant
    one_repeated code named = (
      cc (repeated_is _ named.1, named.2),
      shared_settled texts code hs [] named.0 named.1 named.2 settled,
    )

-- Tables under the headings that an operator gives them.
-- a Series under a name, and a frame under a name of its columns
series_headings : (shape : Shape) (columns_name : Option Label) (headings : List (Option Label)) (name : Option Label) → shape ≡ Series → AreHeadings shape columns_name headings → AreHeadings shape columns_name (name ∷ [])
series_headings = grind arith

frame_headings : (shape : Shape) (columns_name : Option Label) (headings : List (Option Label)) (name : Option Label) → shape ≡ Frame → AreHeadings shape columns_name headings → AreHeadings shape name headings
frame_headings = grind arith

-- the headings that an operator gives are as many as the table has, and fit its shape
pub counted_by : (t : NumberedTable) (naming : Naming) → IsWhole t → IsNaming t naming → length (headings_by t naming).labels ≡ length t.headings
counted_by = grind arith

pub fits_by : (t : NumberedTable) (naming : Naming) → IsWhole t → IsNaming t naming → AreHeadings t.shape (headings_by t naming).columns_name (headings_by t naming).labels
fits_by = grind (arith, series_headings, frame_headings)

pub named_settled : (texts : List Text) (t : NumberedTable) (naming : Naming) → IsSettled table_value texts t → IsSettledNaming texts naming → IsSettled table_value texts (named_by t naming)
named_settled _ t Kept = search
named_settled _ t (Name n) = search (under_settled, columns_name_part)
named_settled _ t (ColumnsName n) = search (under_settled, headings_part)

-- the table may be made
pub whole_named : (texts : List Text) (t : NumberedTable) (naming : Naming) (blocks : List CellBlock) → IsWhole t → IsNaming t naming → AreColumns texts (length t.labels) (length t.columns) blocks
    → IsWhole (table_with t.shape (axis_of t) (headings_by t naming) (map block_column blocks))
whole_named = search (whole_under, counted_by, fits_by)

module _ (old new : List Text) (t made : NumberedTable) (naming : Naming) (h : HeadingList) (blocks : List CellBlock) (longer : IsLonger old new) (settled : IsSettled table_value old t) (name : IsSettledNaming old naming)
    (same : h ≡ headings_by t naming) (is : made ≡ table_with t.shape (axis_of t) h (map block_column blocks)) where
  made_by : made ≡ table_with t.shape (axis_of t) (headings_by t naming) (map block_column blocks)
  made_by = cc

  -- it is settled, and it is what is meant
  pub named_makes : (meant : Result (List (ColumnOf CellValue)) FaultValue) → meant ≡ Ok (blocks_value new blocks) → AreColumns new (length t.labels) (length t.columns) blocks
      → Makes new (Ok made) (then_value meant (λ columns. Ok (value.table (with_columns (table_value old (named_by t naming)) columns))))
  named_makes _ are columns = (grind (arith, made_is_meant, named_settled, made_by), search (made_by, made_is_settled, named_settled))
