-- Why rows don't meet.
use Rattle.std.specs.Prelude.{List, Result, Ok, Err}
use Rattle.meaning_pick.specs.cells.Cell.{LabelValue}
use Rattle.meaning_pick.specs.cells.Fault.{FaultValue, bad_value, repeated, limit}

pub data AlignRefusal (K : Type 0) : Type 0 where
  -- a key stands twice where each may stand once
  duplicate_labels : K → AlignRefusal K
  -- there are more rows than a table may have
  too_large : AlignRefusal K

-- the fault of a form whose rows don't meet
abbrev pub fault_of_align : AlignRefusal (List LabelValue) → FaultValue
fault_of_align (duplicate_labels key) = bad_value (repeated key)
fault_of_align too_large = limit

-- how rows meet, or the fault
abbrev pub met_rows : {A : Type 0} → Result A (AlignRefusal (List LabelValue)) → Result A FaultValue
met_rows (Ok rows) = Ok rows
met_rows (Err refusal) = Err (fault_of_align refusal)
