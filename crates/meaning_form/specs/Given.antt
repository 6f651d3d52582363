-- What an argument is, and equality of labels.
use Rattle.std.specs.Prelude.{ℕ, ◌+◌, Bool, true, false, ◌&&◌, ◌||◌, nat_eq, nat_lt}
use Rattle.std.specs.Ordering.{is_eq}
use Rattle.meaning_align.specs.cell_core.declared.grid.Shape.{Shape}
use Rattle.meaning_align.specs.cell_core.declared.grid.Shape.TheVariants.{Series, Frame}
use Rattle.meaning_tables.specs.cells.Cell.{CellValue, int_cell, truth_cell, text_cell, LabelValue, label_cmp}
use Rattle.meaning_tables.specs.Value.{cell, table, Given, GivenList, GivenPairs, nothing, one, row, many, entries, no_given, more_given, no_entries, more_entries}

-- what a part of a list is
abbrev pub is_scalar : Given → Bool
is_scalar (one (cell c)) = true
is_scalar (one (table t)) = false
is_scalar nothing = false
is_scalar (row parts) = false
is_scalar (many parts) = false
is_scalar (entries pairs) = false

abbrev pub is_object : Given → Bool
is_object (one (cell c)) = false
is_object (one (table t)) = true
is_object nothing = false
is_object (row parts) = false
is_object (many parts) = false
is_object (entries pairs) = false

abbrev pub each : (Given → Bool) → GivenList → Bool
each test no_given = true
each test (more_given g rest) = test g && each test rest

abbrev pub count_of : GivenList → ℕ
count_of no_given = 0
count_of (more_given g rest) = count_of rest + 1

-- a scalar, or a tuple of scalars alone
abbrev pub is_key : Given → Bool
is_key (row parts) = each is_scalar parts
is_key (one (cell c)) = true
is_key (one (table t)) = false
is_key nothing = false
is_key (many parts) = false
is_key (entries pairs) = false

-- a tuple of so many scalars
abbrev pub is_tuple_of : ℕ → Given → Bool
is_tuple_of n (row parts) = nat_eq (count_of parts) n && each is_scalar parts
is_tuple_of n (one v) = false
is_tuple_of n nothing = false
is_tuple_of n (many parts) = false
is_tuple_of n (entries pairs) = false

-- scalars alone, or tuples of two scalars or more, all as long as the first
abbrev pub are_alike : Given → GivenList → Bool
are_alike (row parts) rest = nat_lt 1 (count_of parts) && each is_scalar parts && each (is_tuple_of (count_of parts)) rest
are_alike (one (cell c)) rest = each is_scalar rest
are_alike (one (table t)) rest = false
are_alike nothing rest = false
are_alike (many parts) rest = false
are_alike (entries pairs) rest = false

abbrev pub are_row_labels : GivenList → Bool
are_row_labels no_given = true
are_row_labels (more_given g rest) = are_alike g rest

abbrev pub is_truth : CellValue → Bool
is_truth (truth_cell b) = true
is_truth c = false

abbrev pub is_whole : CellValue → Bool
is_whole (int_cell z) = true
is_whole c = false

abbrev pub is_text : CellValue → Bool
is_text (text_cell t) = true
is_text c = false

abbrev pub same_label : LabelValue → LabelValue → Bool
same_label a b = is_eq (label_cmp a b)

-- the key stands among the pairs
abbrev pub has_key : LabelValue → GivenPairs → Bool
has_key k no_entries = false
has_key k (more_entries key v rest) = same_label k key || has_key k rest

-- each value that isn't replaced by a later one of the same key
abbrev pub each_value : (Given → Bool) → GivenPairs → Bool
each_value test no_entries = true
each_value test (more_entries key v rest) = (has_key key rest || test v) && each_value test rest

abbrev pub is_frame : Shape → Bool
is_frame Series = false
is_frame Frame = true

abbrev pub is_given_text : Given → Bool
is_given_text (one (cell c)) = is_text c
is_given_text (one (table t)) = false
is_given_text nothing = false
is_given_text (row parts) = false
is_given_text (many parts) = false
is_given_text (entries pairs) = false
