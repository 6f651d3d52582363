-- What values come to.
use Rattle.std.specs.Prelude.{ℕ, ℤ, pos, List, length, fold, nat_lt, Option, Some, None, if◌then◌else◌}
use Rattle.std.specs.Ordering.{int_cmp}
use Rattle.nullable_array.specs.declared.ops.Cumulation.{Cumulation}
use Rattle.nullable_array.specs.declared.ops.Cumulation.TheVariants.{Sum, Min, Max}
use Rattle.nullable_array.specs.Folds.{running_step, least_step, greatest_step}

-- the sum of no values is 0, and there is no least and no greatest of them
abbrev pub start_of : Cumulation → Option ℤ
start_of Sum = Some (pos 0)
start_of Min = None
start_of Max = None

-- a value more
abbrev pub step_of : Cumulation → Option ℤ → ℤ → Option ℤ
step_of Sum = running_step
step_of Min = least_step int_cmp
step_of Max = greatest_step int_cmp

abbrev pub came_to : Cumulation → List ℤ → Option ℤ
came_to op values = fold (step_of op) (start_of op) values

-- the same where there are enough of them
abbrev pub answer_of : ℕ → Cumulation → List ℤ → Option ℤ
answer_of min_periods op values = if nat_lt (length values) min_periods then None else came_to op values
