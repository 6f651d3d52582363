-- Columns as kernels see them, and lists that are made item by item.
use Rattle.std.specs.Prelude.{List, ◌++◌, Result, Ok}
use Rattle.column_core.specs.cells.Fault.{FaultValue, then_value}

-- these, and then what the others come to
abbrev pub with_front : {B : Type 0} → List B → Result (List B) FaultValue → Result (List B) FaultValue
with_front made rest = then_value rest (λ ys. Ok (made ++ ys))
