-- Columns that move, with which a Series ends.
use Rattle.{
  frame_parts.proofs.Common.{nat_tests, arith, ◌≡◌, ℕ, true, List, [], ◌∷◌, length, refl, Option, Some, Ok, IsSome, IfSome, Series, Cell, Label, Text, label_datum, CellColumn, IsSettled, ColumnOf, NumberedTable, Table, table_value, column_at, with_column, IsWhole, one, table, same_tuples, Tables, with_object, labels_value, ObjId, columns_given, columns_part},
  frame_select.{proofs.AnswerLaws.{column_seen as first_column}, specs.select.Set.{SetValue, series_set, set_value}},
  frame_set.{specs.{Assigned.{put_places}, Changes.{ended, MayEnd}}, proofs.{PutCases.{has_column, series_fits}, PutLaws.{put_meant, put_settled}}},
}

-- what a Series is as a value

pub series_shape : (s : Table) (v : SetValue) → set_value (one (table s)) ≡ Ok v → s.shape ≡ Series
series_shape = grind arith

-- its column, as one of a kernel
abbrev pub kernel_column : ColumnOf Cell → CellColumn
kernel_column c = record { kind = c.kind; cells = c.cells }

pub move_meant : (texts : List Text) (t s : NumberedTable) (label : Label) (place rows : ℕ) → IsWhole t → rows ≡ length t.labels → length (column_at s.columns 0).cells ≡ length s.labels → same_tuples (labels_value texts t.labels) (labels_value texts s.labels) ≡ true
    → put_places rows (table_value texts t) (label_datum texts label) ≡ Ok (place ∷ [])
    → series_set (table_value texts t) (label_datum texts label) (table_value texts s) ≡ Ok (table_value texts (with_column t place (Some label) (column_at s.columns 0)))
move_meant texts t s label _ _ whole count many same placed = rw (series_fits texts t s (label_datum texts label) many same, first_column texts s.columns 0) (put_meant _ t _ _ _ _ _ whole count placed refl)

pub move_settled : (texts : List Text) (t s : NumberedTable) (label : Label) (place : ℕ) → IsSettled table_value texts t → IsSettled label_datum texts label → IsWhole s → s.shape ≡ Series → IsSettled table_value texts s
    → IsSettled table_value texts (with_column t place (Some label) (column_at s.columns 0))
move_settled texts t s label place settled named whole series given =
    put_settled texts t (place ∷ []) label (column_at s.columns 0) settled named (search (columns_given, columns_part, has_column))

pub others_kept : (old new : Tables) (on : ObjId) (t : NumberedTable) (ends : Option ObjId) → IfSome ends (MayEnd old on) → new ≡ with_object old on.0 (Some t) → IfSome ends (λ id. IsSome (new id.0))
others_kept = grind (arith, nat_tests)

pub ended_beside : (old new new' : Tables) (on : ObjId) (t : NumberedTable) (ends : Option ObjId) → IfSome ends (MayEnd old on) → new ≡ with_object old on.0 (Some t) → new' ≡ ended ends new → new' ≡ with_object (ended ends old) on.0 (Some t)
ended_beside = grind (arith, nat_tests)
