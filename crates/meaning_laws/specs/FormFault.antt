-- The faults that forms on values have.
use Rattle.std.specs.Prelude.{Result, Ok, Err}
use Rattle.meaning_script.specs.cells.Fault.{FaultValue, no_file}

-- not that a file isn't there
abbrev pub IsOfForm : FaultValue → Type 0
IsOfForm (no_file n) = ⊥
IsOfForm f = Unit {0}

-- an answer whose fault is of a form
abbrev pub HasFormFault : {A : Type 0} → Result A FaultValue → Type 0
HasFormFault (Ok a) = Unit {0}
HasFormFault (Err f) = IsOfForm f
