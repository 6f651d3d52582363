-- Laws of columns that grow field by field.
use Rattle.{
  column_core.{proofs.{cells.Common.{rules, arith, ◌≡◌, ◌∙◌, ℕ, zero, suc, refl, ap, sym, Bool, true, false, List, [], ◌∷◌, ◌++◌, length, map, replicate, Option, None, unwrap_or, map-append, list_all-append, OnOk, Result, Ok, Err, IsLonger, Cell, TextId, Text, datum, na_cell, Kind, Int64}, CellRows.{pushed_column}}, specs.{cells.Cell.{string}, Columns.{CellColumn, number_cell, text_cell, column_with}, Lanes.{option_at}, declared.lanes.Owned.{Owned}}},
  meaning_csv.specs.{tables.Settled.{IsSettled}, CsvRead.{is_missing, is_of_kind, kind_of_fields, cell_of_field}},
  csv_frames.{specs.{Views.{column_seen, cells_seen}, Growing.{IsGrownBy, IsFirst, IsPut, IsTextPut, Grown, number_in}, declared.growing.Growing.{Growing}}, proofs.{SettledLaws.{settled_more, seen_later}, KindsLaws.{all_na, kind_first, kind_mixed}}},
}
use Rattle.cell_core.specs.declared.cell.Cell.TheVariants as cell
use Rattle.csv_frames.specs.declared.growing.Growing.TheVariants as growing

-- one cell more
pub grown_by : (old new : List Text) (before after : CellColumn) (field : Text) (c : Cell) → IsLonger old new → after ≡ record { kind = before.kind; cells = before.cells ++ c ∷ [] } → IsSettled datum new c → datum new c ≡ cell_of_field before.kind field
    → IsGrownBy old new field before after
grown_by old new before after _ c longer is settled made before_settled =
    let cells_settled : IsSettled cells_seen old before.cells = λ more. grind (arith, before_settled more) in
    let more = settled_more datum old new _ _ c longer cells_settled (ap (λ (w : CellColumn). w.cells) is) settled in (
      λ further i. record { kind = after.kind; cells = more further i },
      grind (arith, map-append (datum new) before.cells (c ∷ []), seen_later cells_seen old new before.cells longer cells_settled),
    )

-- the number of a field is its cell
pub number_seen : (texts : List Text) (field : Text) → datum texts (number_cell (number_in field)) ≡ cell_of_field Int64 field
number_seen = search rules

-- a column of what is kept
abbrev pub column_kept : {T : Type 0} → Kind → (Option T → Cell) → Owned T → CellColumn
column_kept kind cell rows = column_with kind cell (length rows.values.items) (option_at rows.values.items rows.present.items)

-- one value more
pub put_grown : {U E T : Type 0} (r : Result U E) (old new : List Text) (field : Text) (kind : Kind) (cell : Option T → Cell) (o : Option T) (rows rows' : Owned T) (before : CellColumn) → IsLonger old new → column_kept kind cell rows ≡ before
    → IsSettled datum new (cell o) → datum new (cell o) ≡ cell_of_field kind field → OnOk r (IsPut o rows rows') → OnOk r (IsGrownBy old new field before (column_kept kind cell rows'))
put_grown (Ok u) old new field kind cell o _ _ _ longer was settled seen put =
    grown_by old new _ _ field _ longer (pushed_column _ cell _ _ o _ _ _ put refl ∙ ap (λ (w : CellColumn). record { kind = w.kind; cells = w.cells ++ cell o ∷ [] }) was) settled (grind arith)
put_grown (Err e) _ _ _ _ cell o _ _ _ _ _ _ _ put = put

pub text_grown : {U E : Type 0} (r : Result U E) (old new : List Text) (field : Text) (rows rows' : Owned TextId) (before : CellColumn) → IsLonger old new → column_kept string text_cell rows ≡ before → OnOk r (IsTextPut new field rows rows')
    → OnOk r (IsGrownBy old new field before (column_kept string text_cell rows'))
text_grown (Ok u) old new field rows rows' _ longer was put = put_grown {E = Unit {0}} (Ok u) old new field _ text_cell _ rows rows' _ longer was put.1 put.2 put.3
text_grown (Err e) _ _ _ _ _ _ _ _ put = put

module _ (old new : List Text) (fields : List Text) (field : Text) where
  -- a column whose kind stays
  pub cells_grown : (named : Option Kind) (before after : CellColumn) → IsGrownBy old new field before after → Grown old named fields (growing.Cells before)
      → unwrap_or named (kind_of_fields (fields ++ field ∷ [])) ≡ unwrap_or named (kind_of_fields fields) → Grown new named (fields ++ field ∷ []) (growing.Cells after)
  cells_grown _ _ _ by grown same = grind (arith, by grown.0, map-append, list_all-append)

  -- the first value of a column for which no kind is named
  pub missing_grown : (named : Option Kind) (g : Growing) (rows : ℕ) (column : CellColumn) → g ≡ growing.Missing → is_missing field ≡ false → IsFirst new rows field column → length fields ≡ rows → Grown old named fields g
      → Grown new named (fields ++ field ∷ []) (growing.Cells column)
  missing_grown = grind (arith, kind_first, all_na, map-append, list_all-append)

  module _ (named : Option Kind) (g : Growing) (before : CellColumn) (fits : Bool) (is : g ≡ growing.Cells before) (test : fits ≡ is_of_kind before.kind field) (grown : Grown old named fields g) where
    -- numbers or truth values, and then a field of another kind
    pub mixed_grown : fits ≡ false → named ≡ None → (named ≡ None) × (kind_of_fields (fields ++ field ∷ []) ≡ string)
    mixed_grown = grind (arith, kind_mixed)

    same_kind : (k : Option Kind) → before.kind ≡ unwrap_or k (kind_of_fields fields) → (k ≡ None → fits ≡ true) → unwrap_or k (kind_of_fields (fields ++ field ∷ [])) ≡ unwrap_or k (kind_of_fields fields)
    same_kind = grind (arith, list_all-append)

    pub kept_grown : (after : CellColumn) → (named ≡ None → fits ≡ true) → IsGrownBy old new field before after → Grown new named (fields ++ field ∷ []) (growing.Cells after)
    kept_grown after fit by =
        let was : Grown old named fields (growing.Cells before) = rw is at grown in
        cells_grown named before after by was (same_kind named (grind arith) fit)

pub na_seen : (texts : List Text) (rows : ℕ) → map (datum texts) (replicate rows cell.Na) ≡ replicate rows na_cell
na_seen _ zero = refl
na_seen texts (suc n) = cc (na_seen texts n)

-- missing cells and a first value
pub first_is : (old new : List Text) (kind : Kind) (rows : ℕ) (field : Text) (before after : CellColumn) → kind ≡ kind_of_fields (field ∷ []) → before ≡ record { kind = kind; cells = replicate rows cell.Na } → IsGrownBy old new field before after → IsFirst new rows field after
first_is old _ kind rows field before _ is made by =
    let all_seen : (texts : List Text) → column_seen texts before ≡ record { kind = kind; cells = replicate rows na_cell } = λ texts. cc (made, na_seen texts rows) in
    let more = by (λ further. all_seen (old ++ further) ∙ sym (all_seen old)) in (
      more.0,
      more.1
          ∙ (λ i. record { kind = (all_seen old i).kind; cells = (all_seen old i).cells ++ cell_of_field (all_seen old i).kind field ∷ [] })
          ∙ (λ i. record { kind = is i; cells = replicate rows na_cell ++ cell_of_field (is i) field ∷ [] }),
    )
