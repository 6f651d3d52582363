-- The operations by name, and what each is made on.
use Rattle.std.specs.Prelude.{ℕ, List, bytes_eq, codes, Option, Some, None, if◌then◌else◌}
use Rattle.column_core.specs.cells.Column.{tabulate}
use Rattle.column_operators.specs.declared.ops.Operator.TheVariants as binary
use Rattle.column_bench.specs.Data.{data_column, place_at}
use Rattle.column_bench.specs.declared.data.Data.TheVariants.{Numbers, Divisors, Truths, OtherTruths, Bits}
use Rattle.column_bench.specs.declared.operation.Operation.{Operation}
use Rattle.column_bench.specs.declared.operation.Operation.TheVariants.{Add, FloorDiv, Lt, And, Sum, Cumsum, Shift, Take, Cast}
use Rattle.column_bench.specs.declared.work.Work.{Work}
use Rattle.column_bench.specs.declared.work.Work.TheVariants as work

abbrev pub name_of : Operation → List ℕ
name_of Add = codes "add"
name_of FloorDiv = codes "floor_div"
name_of Lt = codes "lt"
name_of And = codes "and"
name_of Sum = codes "sum"
name_of Cumsum = codes "cumsum"
name_of Shift = codes "shift"
name_of Take = codes "take"
name_of Cast = codes "cast"

-- the operation where the name is this, else what the rest gives
abbrev pub or_named : List ℕ → Operation → Option Operation → Option Operation
or_named word operation rest = if bytes_eq word (name_of operation) then Some operation else rest

abbrev pub operation_named : List ℕ → Option Operation
operation_named word =
    or_named word Add (or_named word FloorDiv (or_named word Lt (or_named word And (or_named word Sum (or_named word Cumsum (or_named word Shift (or_named word Take (or_named word Cast None))))))))

-- what an operation is made on, with so many rows
abbrev pub work_of : Operation → ℕ → Work
work_of Add count = work.Pair binary.Add (data_column Numbers count) (data_column Divisors count)
work_of FloorDiv count = work.Pair binary.FloorDiv (data_column Numbers count) (data_column Divisors count)
work_of Lt count = work.Pair binary.Lt (data_column Numbers count) (data_column Divisors count)
work_of And count = work.Pair binary.And (data_column Truths count) (data_column OtherTruths count)
work_of Sum count = work.Total (data_column Numbers count)
work_of Cumsum count = work.Running (data_column Numbers count)
work_of Shift count = work.Shifted (data_column Numbers count)
work_of Take count = work.Taken (data_column Numbers count) (tabulate count place_at)
work_of Cast count = work.Truths (data_column Bits count)
