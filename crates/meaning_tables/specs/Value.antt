-- Values of a script's expressions, and evaluated arguments and subscripts.
use Rattle.std.specs.Prelude.{Bool, true, false, List, [], ◌∷◌, Option, Some, None}
use Rattle.meaning_cells.specs.Text.{Text}
use Rattle.meaning_cells.specs.Cell.{CellValue, LabelValue}
use Rattle.meaning_tables.specs.Table.{Table}

-- a scalar or a whole table
pub data Entry : Type 0 where
  cell : CellValue → Entry
  table : Table → Entry

abbrev pub is_table : Entry → Bool
is_table (cell c) = false
is_table (table t) = true

-- an evaluated argument: None, a value, the parts of a tuple or a list, or the pairs of a dict
mutual
  pub data Given : Type 0 where
    nothing : Given
    one : Entry → Given
    row : GivenList → Given
    many : GivenList → Given
    entries : GivenPairs → Given

  pub data GivenList : Type 0 where
    no_given : GivenList
    more_given : Given → GivenList → GivenList

  pub data GivenPairs : Type 0 where
    no_entries : GivenPairs
    more_entries : LabelValue → Given → GivenPairs → GivenPairs

-- an argument of a call, with its name if it has one
pub record NamedGiven : Type 0 where
  pub name : Option Text
  pub value : Given

-- evaluated subscripts: a key, or the ends and the step of a slice, None where they are left out
pub data GivenSub : Type 0 where
  key_given : Given → GivenSub
  span_given : Given → Given → Given → GivenSub

-- a list of parts, and a list of pairs
abbrev pub given_list : List Given → GivenList
given_list [] = no_given
given_list (x ∷ xs) = more_given x (given_list xs)

abbrev pub given_pairs : List (LabelValue × Given) → GivenPairs
given_pairs [] = no_entries
given_pairs (x ∷ xs) = more_entries x.0 x.1 (given_pairs xs)

-- what an argument is
abbrev pub scalar_in : Given → Option CellValue
scalar_in (one (cell c)) = Some c
scalar_in (one (table t)) = None
scalar_in nothing = None
scalar_in (row parts) = None
scalar_in (many parts) = None
scalar_in (entries pairs) = None

abbrev pub object_in : Given → Option Table
object_in (one (table t)) = Some t
object_in (one (cell c)) = None
object_in nothing = None
object_in (row parts) = None
object_in (many parts) = None
object_in (entries pairs) = None

abbrev pub tuple_in : Given → Option GivenList
tuple_in (row parts) = Some parts
tuple_in (one v) = None
tuple_in nothing = None
tuple_in (many parts) = None
tuple_in (entries pairs) = None

abbrev pub list_in : Given → Option GivenList
list_in (many parts) = Some parts
list_in (one v) = None
list_in nothing = None
list_in (row parts) = None
list_in (entries pairs) = None

abbrev pub dict_in : Given → Option GivenPairs
dict_in (entries pairs) = Some pairs
dict_in (one v) = None
dict_in nothing = None
dict_in (row parts) = None
dict_in (many parts) = None
