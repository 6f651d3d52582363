-- The last call behind `groupby`, and the chain that it is the end of.
use Rattle.std.specs.Prelude.{List}
use Rattle.column_core.specs.cells.Text.{Text}
use Rattle.frame_labels.specs.method.Groups as meant
use Rattle.group_by.specs.Operations.{reduction_of}
use Rattle.frame_groups.specs.declared.calls.GroupCall.{GroupCall}
use Rattle.frame_groups.specs.declared.calls.GroupCall.TheVariants.{Reduced, Size, Transformed, Cumsum, Cumcount}

abbrev pub call_of : GroupCall → meant.GroupCall
call_of (Reduced op) = meant.reduced (reduction_of op)
call_of Size = meant.size
call_of (Transformed op) = meant.transformed (reduction_of op)
call_of Cumsum = meant.cumsum
call_of Cumcount = meant.cumcount

abbrev pub call_seen : List Text → GroupCall → meant.GroupCall
call_seen texts call = call_of call
