-- The rows that a mask keeps.
use Rattle.std.specs.Prelude.{ℕ, ◌+◌, Bool, false, List, [], ◌∷◌, slice_index_or, Option, Some, None, Result, Ok, Err, if◌then◌else◌}
use Rattle.std.specs.Cmp.Lexicographic.{pointwise}
use Rattle.meaning_cells.specs.cell_core.Values.{CellValue, truth_cell}
use Rattle.meaning_pick.specs.Faults.{PickFault, no_mask_label, then_pick}
use Rattle.meaning_pick.specs.Rows.{rows_where, only_row}

-- a missing cell counts as False
abbrev pub is_kept : CellValue → Bool
is_kept (truth_cell b) = b
is_kept c = false

-- the rows whose cell of the mask is True
abbrev pub kept_rows : List Bool → List ℕ
kept_rows mask = rows_where (λ kept. kept) 0 mask

-- the mask's cell at its only row with a label
abbrev pub cell_or_fault : {X : Type 0} → X → List Bool → Option ℕ → Result Bool (PickFault X)
cell_or_fault x mask None = Err (no_mask_label x)
cell_or_fault x mask (Some row) = Ok (slice_index_or mask row false)

abbrev pub cell_of_label : {X : Type 0} → (X → X → Bool) → List X → List Bool → X → Result Bool (PickFault X)
cell_of_label same labels mask x = cell_or_fault x mask (only_row (rows_where (same x) 0 labels))

-- the rows whose label the mask keeps, where the first one has this number
abbrev pub kept_by_label : {X : Type 0} → (X → X → Bool) → List X → List Bool → ℕ → List X → Result (List ℕ) (PickFault X)
kept_by_label same labels mask row [] = Ok []
kept_by_label same labels mask row (x ∷ xs) =
    then_pick (cell_of_label same labels mask x) (λ kept. then_pick (kept_by_label same labels mask (row + 1) xs) (λ rows. Ok (if kept then row ∷ rows else rows)))

-- the rows that a mask keeps: by position where it has the same labels, and else by label
abbrev pub masked_rows : {X : Type 0} → (X → X → Bool) → List X → List X → List Bool → Result (List ℕ) (PickFault X)
masked_rows same xs labels mask = if pointwise same xs labels then Ok (kept_rows mask) else kept_by_label same labels mask 0 xs
