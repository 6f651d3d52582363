-- The columns of joined rows.
use Rattle.std.specs.Prelude.{ℕ, List, [], ◌∷◌, ◌++◌, map, length, is_some, Option, Some, None, if◌then◌else◌}
use Rattle.std.specs.List.{range_with_len}
use Rattle.column_core.specs.cells.Column.{gap_cell, taken}
use Rattle.frame_store.specs.tables.Table.{ColumnOf, column_at}
use Rattle.frame_labels.specs.method.Merge.{MergeKeys, right_key}

-- the cell of a key: that of the left side where it has the row, and else that of the right
abbrev pub key_cell_at : {C : Type 0} → C → List C → List C → Option ℕ → Option ℕ → C
key_cell_at na left right l r = if is_some l then gap_cell na left l else gap_cell na right r

abbrev pub key_cells : {C : Type 0} → C → List C → List C → List (Option ℕ) → List (Option ℕ) → List C
key_cells na left right (l ∷ ls) (r ∷ rs) = key_cell_at na left right l r ∷ key_cells na left right ls rs
key_cells na left right ls rs = []

-- the column at a place on other rows
abbrev pub column_on : {C : Type 0} → C → List (ColumnOf C) → List (Option ℕ) → ℕ → ColumnOf C
column_on na columns rows place = record { kind = (column_at columns place).kind; cells = taken na (column_at columns place).cells rows }

-- a column of the left side, with the key of the right that stands for it, if there is one
abbrev pub joined_or_left : {C : Type 0} → C → List (ColumnOf C) → List (ColumnOf C) → List (Option ℕ) → List (Option ℕ) → ℕ → Option ℕ → ColumnOf C
joined_or_left na l r lefts rights place None = column_on na l lefts place
joined_or_left na l r lefts rights place (Some other) =
    record { kind = (column_at l place).kind; cells = key_cells na (column_at l place).cells (column_at r other).cells lefts rights }

-- the columns of the left side, and of both
abbrev pub left_column_on : {C : Type 0} → C → List (ColumnOf C) → List (ColumnOf C) → MergeKeys → List (Option ℕ) → List (Option ℕ) → ℕ → ColumnOf C
left_column_on na l r keys lefts rights place = joined_or_left na l r lefts rights place (right_key keys place)

abbrev pub merged_columns : {C : Type 0} → C → List (ColumnOf C) → List (ColumnOf C) → MergeKeys → List ℕ → List (Option ℕ) → List (Option ℕ) → List (ColumnOf C)
merged_columns na l r keys places lefts rights = map (left_column_on na l r keys lefts rights) (range_with_len 0 (length l)) ++ map (column_on na r rights) places
