-- What is gathered from rows.
use Rattle.std.specs.Prelude.{ℕ, Bool, true, false, not, ℤ, pos, ◌+ℤ◌, Option, Some, None, fold, if◌then◌else◌, ◌+◌, is_some, unwrap_or}
use Rattle.std.specs.Int.{int_wrap, w64}
use Rattle.std.specs.Ordering.{is_lt, int_eq}
use Rattle.std.specs.List.{range_with_len}
use Rattle.std.specs.declared.cmp.Ordering.{Ordering}
use Rattle.cell_core.specs.declared.cell.Kind.{Kind}
use Rattle.cell_core.specs.declared.cell.Kind.TheVariants.{Int64, Boolean}
use Rattle.column_core.specs.cells.Reduce as reduction
use Rattle.column_core.specs.cells.Cumulate as cumulation
use Rattle.nullable_array.specs.declared.ops.Cumulation.{Cumulation}
use Rattle.nullable_array.specs.declared.ops.Cumulation.TheVariants as running
use Rattle.nullable_array.specs.declared.ops.Reduction.{Reduction}
use Rattle.nullable_array.specs.declared.ops.Reduction.TheVariants.{Sum, Min, Max, Any, All, Count}

abbrev pub reduction_of : Reduction → reduction.Reduction
reduction_of Sum = reduction.sum
reduction_of Min = reduction.min
reduction_of Max = reduction.max
reduction_of Any = reduction.any
reduction_of All = reduction.all
reduction_of Count = reduction.count

-- the kind of a reduction of a column of the kind
abbrev pub reduced_kind : Reduction → Kind → Kind
reduced_kind Sum kind = Int64
reduced_kind Min kind = kind
reduced_kind Max kind = kind
reduced_kind Any kind = Boolean
reduced_kind All kind = Boolean
reduced_kind Count kind = Int64

-- a row more; a missing one is passed over
abbrev pub step_row : {S T : Type 0} → (S → T → S) → S → Option T → S
step_row step s None = s
step_row step s (Some x) = step s x

-- what the rows below count come to
abbrev pub folded : {S T : Type 0} → (S → T → S) → S → ℕ → (ℕ → Option T) → S
folded step s count row = fold (λ t k. step_row step t (row k)) s (range_with_len 0 count)

abbrev pub sum_step : ℤ → ℤ → ℤ
sum_step s x = int_wrap w64 (s +ℤ x)

abbrev pub one_of_truth : Bool → ℤ
one_of_truth true = pos 1
one_of_truth false = pos 0

abbrev pub is_not_zero : ℤ → Bool
is_not_zero x = not (int_eq x (pos 0))

-- the first of the least, or of the greatest
abbrev pub least_step : {T : Type 0} → (T → T → Ordering) → Option T → T → Option T
least_step cmp None x = Some x
least_step cmp (Some b) x = if is_lt (cmp x b) then Some x else Some b

abbrev pub greatest_step : {T : Type 0} → (T → T → Ordering) → Option T → T → Option T
greatest_step cmp None x = Some x
greatest_step cmp (Some b) x = if is_lt (cmp b x) then Some x else Some b

abbrev pub cumulation_of : Cumulation → cumulation.Cumulation
cumulation_of running.Sum = cumulation.sum
cumulation_of running.Min = cumulation.min
cumulation_of running.Max = cumulation.max

-- the sum so far, of none at first
abbrev pub running_step : Option ℤ → ℤ → Option ℤ
running_step s x = Some (sum_step (unwrap_or s (pos 0)) x)

-- what the rows up to this one come to, where it is present
abbrev pub running_row : {S T : Type 0} → (Option S → T → Option S) → (ℕ → Option T) → ℕ → Option S
running_row step row k = if is_some (row k) then folded step None (k + 1) row else None
