-- Values, states and answers of which each table is valid.
use Rattle.std.specs.Prelude.{◌≡◌, ℕ, true, List, Option, Some, IfSome, All}
use Rattle.meaning_script.specs.cells.Text.{Text}
use Rattle.meaning_script.specs.cells.Cell.{CellValue, Int64, holds}
use Rattle.meaning_script.specs.cells.Operator.{scalar_kind}
use Rattle.meaning_script.specs.language.Tree as tree
use Rattle.meaning_script.specs.language.Tree.{Expr, Arg, Action}
use Rattle.meaning_script.specs.tables.Table.{Table}
use Rattle.meaning_script.specs.tables.Valid.{IsValid}
use Rattle.meaning_script.specs.tables.Value.{Entry, cell, table, Given, NamedGiven, nothing, one, row, many, entries}
use Rattle.meaning_script.specs.method.Concat.{tables_of}
use Rattle.meaning_script.specs.Expression.{cell_of}
use Rattle.meaning_script.specs.State.{State}
use Rattle.meaning_script.specs.Statement.{Answer, done, refused}

-- a column can hold the cell: a whole number has 64 bits
abbrev pub IsHeldCell : CellValue → Type 0
IsHeldCell c = holds (scalar_kind Int64 c) c ≡ true

-- a table is valid
abbrev pub IsValidObject : Entry → Type 0
IsValidObject (cell c) = Unit {0}
IsValidObject (table t) = IsValid t

-- a table is valid, and a column can hold a scalar
abbrev pub IsValidEntry : Entry → Type 0
IsValidEntry (cell c) = IsHeldCell c
IsValidEntry (table t) = IsValid t

-- an argument that is a value is valid; forms test the parts of lists and dicts themselves
abbrev pub IsValidGiven : Given → Type 0
IsValidGiven (one v) = IsValidEntry v
IsValidGiven nothing = Unit {0}
IsValidGiven (row parts) = Unit {0}
IsValidGiven (many parts) = Unit {0}
IsValidGiven (entries pairs) = Unit {0}

-- the table that an argument is, and those in a list, are valid; no call looks for one elsewhere
abbrev pub IsValidArgument : Given → Type 0
IsValidArgument (one v) = IsValidObject v
IsValidArgument (many parts) = All IsValid (tables_of parts)
IsValidArgument nothing = Unit {0}
IsValidArgument (row parts) = Unit {0}
IsValidArgument (entries pairs) = Unit {0}

abbrev pub AreValidArguments : List NamedGiven → Type 0
AreValidArguments gs = All (λ g. IsValidArgument g.value) gs

-- each table is valid, of objects by number
abbrev pub AreValid : (ℕ → Option Table) → Type 0
AreValid objects = (id : ℕ) (t : Table) → objects id ≡ Some t → IsValid t

-- the value of each name is valid
abbrev pub IsValidState : State → Type 0
IsValidState s = (n : Text) → IfSome (s.value n) IsValidEntry

-- where a statement is done, it leaves a valid state
abbrev pub LeavesValid : Answer → Type 0
LeavesValid (done s printed mark) = IsValidState s
LeavesValid (refused fault mark) = Unit {0}

-- the literals that may come into a value's tables have 64 bits if they are numbers
abbrev pub HasHeldLiterals : Expr → Type 0
HasHeldLiterals (tree.literal v) = IsHeldCell (cell_of v)
HasHeldLiterals (tree.unary o x) = HasHeldLiterals x
HasHeldLiterals (tree.binary o x y) = HasHeldLiterals x × HasHeldLiterals y
HasHeldLiterals (tree.after x step) = HasHeldLiterals x
HasHeldLiterals (tree.paren x) = HasHeldLiterals x
HasHeldLiterals x = Unit {0}

abbrev pub IsHeldArgument : Arg → Type 0
IsHeldArgument (tree.expr x) = HasHeldLiterals x
IsHeldArgument a = Unit {0}

abbrev pub IsHeldAction : Action → Type 0
IsHeldAction tree.import_pandas = Unit {0}
IsHeldAction (tree.bind x e) = HasHeldLiterals e
IsHeldAction (tree.put x step a) = HasHeldLiterals x × IsHeldArgument a
IsHeldAction (tree.drop_name n) = Unit {0}
IsHeldAction (tree.drop_column n x) = Unit {0}
IsHeldAction (tree.print x end) = Unit {0}
