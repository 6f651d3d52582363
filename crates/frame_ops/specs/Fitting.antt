-- Columns of two frames that meet by their labels.
use Rattle.std.specs.Prelude.{◌≡◌, ℕ, Bool, true, false, ◌&&◌, List, [], ◌∷◌, Result, Err, if◌then◌else◌}
use Rattle.std.specs.List.{list_all}
use Rattle.cell_core.specs.declared.cell.Kind.{Kind}
use Rattle.column_core.specs.cells.Fault.{FaultValue, bad_value, not_aligned}
use Rattle.column_core.specs.cells.Symbol.{Binary}
use Rattle.label_align.specs.pick.Rows.{rows_where}
use Rattle.frame_store.specs.tables.Table.{ColumnOf, Table, column_at}
use Rattle.frame_store.specs.tables.Value.{Entry}
use Rattle.frame_parts.specs.form.Finish.{same_kind, first_repeated, unless_repeated}
use Rattle.frame_parts.specs.form.Infix.{on_levels, same_count, compares, frames_fit}

-- all columns of two sides are of the kind of the first one
abbrev pub is_of_kind : {C : Type 0} → Kind → ColumnOf C → Bool
is_of_kind kind c = same_kind c.kind kind

abbrev pub of_one_kind : {C : Type 0} → List (ColumnOf C) → List (ColumnOf C) → Bool
of_one_kind cs columns = list_all (is_of_kind (column_at cs 0).kind) cs && list_all (is_of_kind (column_at cs 0).kind) columns

-- there are no columns at these places, or the first is of the kind
abbrev pub fits_first : {C : Type 0} → Kind → List (ColumnOf C) → List ℕ → Bool
fits_first kind columns [] = true
fits_first kind columns (place ∷ places) = same_kind (column_at columns place).kind kind

-- each column is of the kind of the first one of another side under its label, if there is one
abbrev pub firsts_fit : {K C : Type 0} → (K → K → Bool) → List K → List (ColumnOf C) → List K → List (ColumnOf C) → Bool
firsts_fit same (key ∷ keys) (c ∷ cs) others columns = fits_first c.kind columns (rows_where (same key) 0 others) && firsts_fit same keys cs others columns
firsts_fit same keys cs others columns = true

-- the operator takes the columns of both and those of one label, their rows have as many levels, and they aren't compared
pub record MayWiden (op : Binary) (a b : Table) : Type 0 where
  pub fit : frames_fit op a b ≡ true
  pub levels : same_count a.level_names b.level_names ≡ true
  pub apart : compares op ≡ false

-- frames of other columns come to the rest after these tests
abbrev pub unequal_after : Binary → Table → Table → Result Entry FaultValue → Result Entry FaultValue
unequal_after op a b rest =
    on_levels (frames_fit op a b) (same_count a.level_names b.level_names)
    (if compares op then Err (bad_value not_aligned) else unless_repeated (first_repeated a.headings) (unless_repeated (first_repeated b.headings) rest))
