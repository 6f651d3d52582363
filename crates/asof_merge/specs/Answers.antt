-- What an as-of merge answers for what is meant.
use Rattle.std.specs.Prelude.{◌≡◌, ℕ, List, Option, Result, Ok, Err}
use Rattle.column_core.specs.cells.FaultOf.{side_of}
use Rattle.meaning_asof.specs.AsOf.{UnsortedKey}
use Rattle.asof_merge.specs.declared.fault.AsofFault.{AsofFault}
use Rattle.asof_merge.specs.declared.fault.AsofFault.TheVariants.{Unsorted, NoMemory}

-- the rows that are meant are answered, or the fault is; want of memory may come in place of any answer
abbrev pub MatchesBy : Result (List (Option ℕ)) AsofFault → Result (List (Option ℕ)) UnsortedKey → Type 0
MatchesBy (Ok rows) meant = meant ≡ Ok rows
MatchesBy (Err (Unsorted side row)) meant = meant ≡ Err record { side = side_of side; row = row }
MatchesBy (Err NoMemory) meant = Unit {0}
