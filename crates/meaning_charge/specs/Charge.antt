-- What forms cost, in cells. Labels and texts aren't counted. A form that is refused costs nothing.
use Rattle.std.specs.Prelude.{ℕ, suc, ◌*◌, nat_eq, nat_lt, Bool, true, false, List, [], ◌∷◌, length, Option, Some, None, Result, Ok, Err, if◌then◌else◌}
use Rattle.std.specs.List.{list_any}
use Rattle.meaning_form.specs.cell_core.declared.grid.Shape.{Shape}
use Rattle.meaning_form.specs.cell_core.declared.grid.Shape.TheVariants.{Series, Frame}
use Rattle.meaning_form.specs.cells.Operator.{cell_label}
use Rattle.meaning_form.specs.cells.Symbol.{Accessor, loc, iloc}
use Rattle.meaning_form.specs.cells.Fault.{FaultValue}
use Rattle.meaning_form.specs.tables.Table.{Table, cell_count}
use Rattle.meaning_form.specs.tables.Value.{Entry, cell, table, GivenSub, one, many, key_given, span_given}
use Rattle.meaning_select.specs.Select.{Way, plain, through}
use Rattle.meaning_select.specs.Set.{Reached, columns_set, places_to_put}
pub use Rattle.meaning_form.specs.tables.Cost.{answer_charge}

-- a slice, `:` among them
abbrev pub is_slice : GivenSub → Bool
is_slice (key_given g) = false
is_slice (span_given from to by) = true

-- a label or a list of labels
abbrev pub is_of_labels : GivenSub → Bool
is_of_labels (key_given (one (cell c))) = true
is_of_labels (key_given (many parts)) = true
is_of_labels k = false

-- What shares cells with what is there: columns by their labels, and rows by a slice, whatever columns they have. Of a
-- Series, brackets alone are `loc`.
abbrev pub is_free_item : Shape → GivenSub → Bool
is_free_item Series first = is_slice first
is_free_item Frame first = is_of_labels first

abbrev pub is_free_access : Accessor → GivenSub → Bool
is_free_access loc first = is_slice first
is_free_access iloc first = is_slice first
is_free_access by first = false

abbrev pub is_free_selection : Shape → Way → GivenSub → Bool
is_free_selection shape plain first = is_free_item shape first
is_free_selection shape (through by) first = is_free_access by first

-- a selection of these keys with this answer
abbrev pub select_charge : Entry → Way → GivenSub → Entry → ℕ
select_charge (cell c) way first answer = 0
select_charge (table t) way first answer = if is_free_selection t.shape way first then 0 else answer_charge answer

-- how many different numbers stand in a list
abbrev pub different_count : List ℕ → ℕ
different_count [] = 0
different_count (n ∷ ns) = if list_any (nat_eq n) ns then different_count ns else suc (different_count ns)

abbrev pub reached_count : Result Reached FaultValue → ℕ
reached_count (Ok reached) = different_count reached.places
reached_count (Err fault) = 0

-- How many different columns a setting touches: those that its column key picks, a new one, or all where none is given. In
-- brackets of a frame the key is one label.
abbrev pub touched_item : Table → GivenSub → Option GivenSub → ℕ
touched_item t (key_given (one (cell c))) None = length (places_to_put t (cell_label c))
touched_item t first second = 0

abbrev pub touched_access : Accessor → Table → Option GivenSub → ℕ
touched_access by t None = length t.columns
touched_access by t (Some second) = reached_count (columns_set by t second)

abbrev pub touched_in : Shape → Way → Table → GivenSub → Option GivenSub → ℕ
touched_in Series way t first second = 1
touched_in Frame plain t first second = touched_item t first second
touched_in Frame (through by) t first second = touched_access by t second

abbrev pub touched_columns : Entry → Way → GivenSub → Option GivenSub → ℕ
touched_columns (cell c) way first second = 0
touched_columns (table t) way first second = touched_in t.shape way t first second

-- a setting that leaves this table: its rows times the columns that it touches, or all where it adds a row
abbrev pub adds_row : Entry → Table → Bool
adds_row (cell c) left = false
adds_row (table t) left = nat_lt (length t.labels) (length left.labels)

abbrev pub setting_charge : Entry → Way → GivenSub → Option GivenSub → Table → ℕ
setting_charge v way first second left = if adds_row v left then cell_count left else length left.labels * touched_columns v way first second
