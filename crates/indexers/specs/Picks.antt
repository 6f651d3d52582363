-- What a call answers for a key.
use Rattle.std.specs.Prelude.{◌≡◌, ℕ, Bool, false, List, length, map, Some, Result, Ok, Err, IfSome}
use Rattle.std.specs.Cmp.Lexicographic.{pointwise}
use Rattle.std.specs.Option.{is_some}
use Rattle.cell_core.specs.Grids.{AreRowsBelow}
use Rattle.cell_core.specs.declared.cell.Label.{Label}
use Rattle.cell_core.specs.declared.grid.Rows.{Rows}
use Rattle.index_core.specs.pick.Faults.{PickFault, not_there, bound_not_unique, out_of_range, no_mask_label, step_zero}
use Rattle.column_core.specs.cells.Text.{Text}
use Rattle.index_core.specs.pick.Keys.{Pick, LabelKey, picked_by_label}
use Rattle.index_core.specs.pick.Masks.{cell_or_fault, cell_of_label, kept_by_label, masked_rows}
use Rattle.index_core.specs.pick.Rows.{rows_of, only_row}
use Rattle.index_core.specs.Labels.{same_number, order_in}
use Rattle.multi_index.specs.Axes.{AxisValue}
use Rattle.multi_index.specs.declared.fault.AxisFault.{AxisFault}
use Rattle.multi_index.specs.declared.fault.AxisFault.TheVariants as axis
use Rattle.cell_core.specs.declared.cell.Cell.{Cell}
use Rattle.indexers.specs.Masks.{is_true}
use Rattle.indexers.specs.declared.keys.Picked.{Picked}
use Rattle.indexers.specs.declared.keys.KeyFault.{KeyFault}
use Rattle.indexers.specs.declared.keys.KeyFault.TheVariants as fault
pub use Rattle.index_core.specs.Picks.{as_it_is}

-- what is answered is what is meant, as it is seen, or the fault is. Want of memory may come in place of any answer
abbrev pub PicksBy : {A B : Type 0} → (A → B) → Result A KeyFault → Result B (PickFault (List Label)) → Type 0
PicksBy view (Ok made) meant = meant ≡ Ok (view made)
PicksBy view (Err (fault.NotThere key)) meant = meant ≡ Err (not_there key)
PicksBy view (Err (fault.BoundNotUnique key)) meant = meant ≡ Err (bound_not_unique key)
PicksBy view (Err (fault.OutOfRange z count)) meant = meant ≡ Err (out_of_range z count)
PicksBy view (Err (fault.NoMaskLabel key)) meant = meant ≡ Err (no_mask_label key)
PicksBy view (Err fault.StepZero) meant = meant ≡ Err step_zero
PicksBy view (Err fault.NoMemory) meant = Unit {0}

-- the fault of an axis that picks no rows, as the fault of a key
abbrev pub IsSameFault : AxisFault → KeyFault → Type 0
IsSameFault (axis.NotThere key) made = made ≡ fault.NotThere key
IsSameFault (axis.BoundNotUnique key) made = made ≡ fault.BoundNotUnique key
IsSameFault axis.TooManyLevels made = ⊥
IsSameFault axis.NoMemory made = made ≡ fault.NoMemory

-- what is picked, as it is meant
abbrev pub pick_of : Picked → Pick
pick_of picked = record { rows = picked.places; single = picked.single; dropped = picked.dropped; sliced = is_some picked.span }

-- the rows of a slice
abbrev pub span_of : Rows → Picked
span_of rows = record { places = rows_of rows; single = false; dropped = 0; span = Some rows }

-- rows at equal distances that are the places, and lie below a limit
pub record AreSpan (limit : ℕ) (places : List ℕ) (rows : Rows) : Type 0 where
  pub listed : rows_of rows ≡ places
  pub below : AreRowsBelow rows limit

-- a span is the places
abbrev pub IsSpanned : ℕ → Picked → Type 0
IsSpanned limit picked = IfSome picked.span (AreSpan limit picked.places)

-- what a key of `loc` picks, in the order of the texts
abbrev pub loc_pick : List Text → AxisValue → LabelKey (List Label) → Result Pick (PickFault (List Label))
loc_pick texts axis key = picked_by_label same_number (order_in texts) (length axis.names) axis.tuples key

-- the rows that the cells of a mask keep of an axis
abbrev pub mask_rows : AxisValue → AxisValue → List Cell → Result (List ℕ) (PickFault (List Label))
mask_rows axis mask_axis cells = masked_rows (pointwise same_number) axis.tuples mask_axis.tuples (map is_true cells)

-- the mask's cell at a tuple, which must stand there once
abbrev pub cell_at : List (List Label) → List Cell → List Label → Result Bool (PickFault (List Label))
cell_at tuples cells tuple = cell_of_label (pointwise same_number) tuples (map is_true cells) tuple

-- the cell at these rows of a mask, and the rows that it keeps
abbrev pub cell_there : List Label → List Cell → List ℕ → Result Bool (PickFault (List Label))
cell_there tuple cells rows = cell_or_fault tuple (map is_true cells) (only_row rows)

abbrev pub rows_by_tuple : List (List Label) → List Cell → List (List Label) → Result (List ℕ) (PickFault (List Label))
rows_by_tuple tuples cells axis = kept_by_label (pointwise same_number) tuples (map is_true cells) 0 axis
