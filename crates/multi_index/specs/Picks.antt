-- What an axis answers for leading labels or a slice.
use Rattle.std.specs.Prelude.{◌≡◌, ℕ, ◌<◌, List, [], ◌∷◌, length, Option, Result, Ok, Err}
use Rattle.cell_core.specs.declared.cell.Label.{Label}
use Rattle.index_core.specs.cells.Text.{Text}
use Rattle.index_core.specs.pick.Faults.{PickFault, not_there, bound_not_unique}
use Rattle.index_core.specs.pick.Labels.{rows_of_key}
use Rattle.index_core.specs.pick.Leading.{leads, leading_cmp}
use Rattle.index_core.specs.pick.Slices.{slice_on}
use Rattle.index_core.specs.Labels.{same_number, order_in}
use Rattle.index_core.specs.declared.fault.IndexFault.{IndexFault}
use Rattle.index_core.specs.declared.fault.IndexFault.TheVariants as index
use Rattle.multi_index.specs.Axes.{AxisValue}
use Rattle.multi_index.specs.declared.fault.AxisFault.{AxisFault}
use Rattle.multi_index.specs.declared.fault.AxisFault.TheVariants.{NotThere, BoundNotUnique, TooManyLevels, NoMemory}
pub use Rattle.index_core.specs.Picks.{as_it_is}

-- what is answered is what is meant, as it is seen, or the fault is; of want of memory the last word tells
abbrev pub PicksOr : {A B : Type 0} → Type 0 → (A → B) → Result A AxisFault → Result B (PickFault (List Label)) → Type 0
PicksOr want view (Ok made) meant = meant ≡ Ok (view made)
PicksOr want view (Err (NotThere key)) meant = meant ≡ Err (not_there key)
PicksOr want view (Err (BoundNotUnique key)) meant = meant ≡ Err (bound_not_unique key)
PicksOr want view (Err TooManyLevels) meant = ⊥
PicksOr want view (Err NoMemory) meant = want

-- want of memory may come in place of any answer
abbrev pub PicksBy : {A B : Type 0} → (A → B) → Result A AxisFault → Result B (PickFault (List Label)) → Type 0
PicksBy view result meant = PicksOr (Unit {0}) view result meant

-- it never comes
abbrev pub TellsBy : {A B : Type 0} → (A → B) → Result A AxisFault → Result B (PickFault (List Label)) → Type 0
TellsBy view result meant = PicksOr ⊥ view result meant

-- the fault of one level, with its label as a tuple
abbrev pub axis_fault : IndexFault → AxisFault
axis_fault (index.NotThere label) = NotThere (label ∷ [])
axis_fault (index.BoundNotUnique label) = BoundNotUnique (label ∷ [])
axis_fault index.NoMemory = NoMemory

-- the rows whose leading labels are a key
abbrev pub leading_rows : AxisValue → List Label → Result (List ℕ) (PickFault (List Label))
leading_rows axis key = rows_of_key (leads same_number) axis.tuples key

-- the rows of a slice between two keys, in the order of the texts
abbrev pub leading_slice : List Text → AxisValue → Option (List Label) → Option (List Label) → Result (List ℕ) (PickFault (List Label))
leading_slice texts axis lower upper = slice_on (length axis.names) (leading_cmp (order_in texts)) lower upper axis.tuples

-- one more level is answered where there are fewer than four, and refused where there are four
abbrev pub AddsLevel : ℕ → AxisValue → Result AxisValue AxisFault → Type 0
AddsLevel levels meant (Ok axis) = (levels < 4) × (axis ≡ meant)
AddsLevel levels meant (Err (NotThere key)) = ⊥
AddsLevel levels meant (Err (BoundNotUnique key)) = ⊥
AddsLevel levels meant (Err TooManyLevels) = levels ≡ 4
AddsLevel levels meant (Err NoMemory) = Unit {0}
