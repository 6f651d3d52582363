-- Windows and the calls behind them, as their definitions see them.
use Rattle.std.specs.Prelude.{◌<◌, ℕ, List, codes, Result, Err}
use Rattle.column_core.specs.cells.Text.{Text}
use Rattle.column_core.specs.cells.Fault.{FaultValue, no_attribute}
use Rattle.column_core.specs.cells.Cumulate as meant_op
use Rattle.frame_labels.specs.method.Windows as meant
use Rattle.frame_store.specs.declared.arguments.Named.{Named}
use Rattle.frame_store.specs.tables.Value.{Entry, cell, table, NamedGiven}
use Rattle.frame_store.specs.World.{World, arguments_in}
use Rattle.frame_methods.specs.nullable_array.declared.ops.Cumulation.{Cumulation}
use Rattle.frame_methods.specs.nullable_array.Folds.{cumulation_of}
use Rattle.frame_windows.specs.declared.windows.Windows.{Windows}
use Rattle.frame_windows.specs.declared.windows.Windows.TheVariants.{Rolling, Expanding}
use Rattle.frame_windows.specs.declared.windows.WindowsTold.{WindowsTold}
use Rattle.frame_windows.specs.declared.windows.WindowsTold.TheVariants.{Rolling as ToldRolling, Expanding as ToldExpanding}

abbrev pub windows_of : Windows → meant.Windows
windows_of (Rolling rows least) = meant.rolling rows least
windows_of (Expanding least) = meant.expanding least

-- the same whatever the texts are
abbrev pub windows_seen : List Text → Windows → meant.Windows
windows_seen texts w = windows_of w

abbrev pub call_seen : List Text → Cumulation → meant_op.Cumulation
call_seen texts op = cumulation_of op

-- how many rows a window has; one stands for all rows up to another, of which there is one at least
abbrev pub rows_of : Windows → ℕ
rows_of (Rolling rows least) = rows
rows_of (Expanding least) = 1

-- a window has a row at least
abbrev pub AreSome : Windows → Type 0
AreSome w = 0 < rows_of w

-- the arguments of `rolling` or `expanding`, the name, and the windows that they mean
abbrev pub told_of : WindowsTold → List Named
told_of (ToldRolling args) = args.now
told_of (ToldExpanding args) = args.now

abbrev pub told_name : WindowsTold → Text
told_name (ToldRolling args) = codes "rolling"
told_name (ToldExpanding args) = codes "expanding"

abbrev pub windows_meant : World → WindowsTold → Result meant.Windows FaultValue
windows_meant w (ToldRolling args) = meant.rolling_windows (arguments_in w args.now)
windows_meant w (ToldExpanding args) = meant.expanding_windows (arguments_in w args.now)

-- what a call behind them answers: a scalar has neither name
abbrev pub windowed_result : World → Entry → WindowsTold → Text → List NamedGiven → Result Entry FaultValue
windowed_result w (cell c) told name gs = Err (no_attribute (told_name told))
windowed_result w (table t) told name gs = meant.windows_of t (windows_meant w told) name gs
