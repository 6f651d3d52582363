-- What an operation makes of the values of a row.
use Rattle.std.specs.Prelude.{ℕ, Bool, true, false, not, ℤ, pos, List, Option, Some, None, Result, if◌then◌else◌}
use Rattle.std.specs.Int.{int_wrap, w64}
use Rattle.std.specs.Ordering.{int_eq}
use Rattle.std.specs.declared.cmp.Ordering.{Ordering}
use Rattle.cell_core.specs.declared.cell.Kind.TheVariants.{Boolean}
use Rattle.column_core.specs.cells.Cell.{datum}
use Rattle.column_core.specs.cells.Column.{ColumnValue, ColumnFault, zero_division, column_of}
use Rattle.column_core.specs.Columns.{truth_cell}
use Rattle.column_core.specs.Rows.{try_rows, map_rows}
use Rattle.column_operators.specs.declared.ops.Relation.{Relation}
use Rattle.column_operators.specs.Tasks.{passes}

-- f of two values, where both are present
abbrev pub both : {A B C : Type 0} → (A → B → C) → Option A → Option B → Option C
both f (Some x) (Some y) = Some (f x y)
both f x y = None

-- a number of two numbers, which wraps
abbrev pub number_row : (ℤ → ℤ → ℤ) → Option ℤ → Option ℤ → Option (Option ℤ)
number_row f x y = Some (both (λ m n. int_wrap w64 (f m n)) x y)

abbrev pub divided : (ℤ → ℤ → ℤ) → ℤ → ℤ → Option (Option ℤ)
divided f x y = if int_eq y (pos 0) then None else Some (Some (int_wrap w64 (f x y)))

-- a number of a number and its divisor, which wraps; the divisor may not be 0
abbrev pub division_row : (ℤ → ℤ → ℤ) → Option ℤ → Option ℤ → Option (Option ℤ)
division_row f (Some x) (Some y) = divided f x y
division_row f x y = Some None

abbrev pub compare_row : {T : Type 0} → Relation → (T → T → Ordering) → Option T → Option T → Option (Option Bool)
compare_row r cmp x y = Some (both (λ a b. passes r (cmp a b)) x y)

-- which rows of two columns are in a relation
abbrev pub compared : {T : Type 0} → List (List ℕ) → Relation → (T → T → Ordering) → ℕ → (ℕ → Option T) → (ℕ → Option T) → Result ColumnValue ColumnFault
compared texts r cmp count p q = column_of Boolean zero_division (map_rows (λ z. datum texts (truth_cell z)) (try_rows count (λ k. compare_row r cmp (p k) (q k))))

abbrev pub and_row : Option Bool → Option Bool → Option (Option Bool)
and_row (Some false) y = Some (Some false)
and_row (Some true) y = Some y
and_row None (Some false) = Some (Some false)
and_row None y = Some None

abbrev pub or_row : Option Bool → Option Bool → Option (Option Bool)
or_row (Some true) y = Some (Some true)
or_row (Some false) y = Some y
or_row None (Some true) = Some (Some true)
or_row None y = Some None

abbrev pub xor_row : Option Bool → Option Bool → Option (Option Bool)
xor_row (Some true) (Some b) = Some (Some (not b))
xor_row (Some false) (Some b) = Some (Some b)
xor_row x y = Some None

abbrev pub not_row : Option Bool → Option (Option Bool)
not_row (Some b) = Some (Some (not b))
not_row None = Some None
