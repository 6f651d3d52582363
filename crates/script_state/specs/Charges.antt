-- What the calls of forms cost, as the code counts it.
use Rattle.std.specs.Prelude.{◌≡◌, ℕ, ◌*◌, ◌-◌, Bool, true, length, min, nat_lt, Result, Ok, Err, if◌then◌else◌}
use Rattle.outside_io.specs.Count.{last_count}
use Rattle.meaning_laws.specs.tables.Value.{Entry, GivenSub, cell, table}
use Rattle.meaning_laws.specs.call.declared.Method.{Method}
use Rattle.meaning_laws.specs.call.declared.Method.TheVariants as method
use Rattle.meaning_laws.specs.call.declared.LevelMethod.TheVariants as level_method
use Rattle.meaning_laws.specs.charge.Charge.{answer_charge, is_free_selection}
use Rattle.meaning_laws.specs.method.Charges.{is_free_method}
use Rattle.meaning_laws.specs.select.Select.{Way}
use Rattle.script_state.specs.Reads.{count_after}

-- a number of cells as 64 bits tell it
abbrev pub told : ℕ → ℕ
told cost = min cost last_count

-- the rows and the columns of a value; a scalar has none
abbrev pub rows_in : Entry → ℕ
rows_in (cell c) = 0
rows_in (table t) = length t.labels

abbrev pub columns_in : Entry → ℕ
columns_in (cell c) = 0
columns_in (table t) = length t.columns

-- whether a selection costs nothing
abbrev pub is_free_on : Entry → Way → GivenSub → Bool
is_free_on (cell c) way first = true
is_free_on (table t) way first = is_free_selection t.shape way first

-- a selection, which may cost nothing
abbrev pub selection_cost : Bool → Entry → ℕ
selection_cost free answer = if free then 0 else answer_charge answer

-- What a method costs, of a value with so many rows and columns. What `reset_index` makes of labels are columns that the
-- value hadn't.
abbrev pub method_cost : Method → ℕ → ℕ → Entry → ℕ
method_cost (method.Levels level_method.ResetIndex) rows columns answer = rows * (columns_in answer - columns)
method_cost m rows columns answer = if is_free_method m then 0 else answer_charge answer

-- what a setting costs that touches so many columns of a value with so many rows, and leaves this one
abbrev pub setting_cost : ℕ → ℕ → Entry → ℕ
setting_cost rows touched left = if nat_lt rows (rows_in left) then rows_in left * columns_in left else rows_in left * touched

-- the charge after a form that costs so much where it is done
abbrev pub Charges : {V F : Type 0} → Result V F → ℕ → ℕ → ℕ → Type 0
Charges (Ok v) cost old new = new ≡ count_after old cost
Charges (Err f) cost old new = new ≡ old
