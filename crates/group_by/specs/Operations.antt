-- The reductions of groups.
use Rattle.factorize.specs.group.Reductions as meant
use Rattle.group_by.specs.declared.ops.GroupOp.{GroupOp}
use Rattle.group_by.specs.declared.ops.GroupOp.TheVariants.{Sum, Min, Max, Count, First, Last, Distinct}

abbrev pub reduction_of : GroupOp → meant.GroupReduction
reduction_of Sum = meant.sum
reduction_of Min = meant.min
reduction_of Max = meant.max
reduction_of Count = meant.count
reduction_of First = meant.first
reduction_of Last = meant.last
reduction_of Distinct = meant.nunique
