-- The names of an axis among the four that it has room for.
use Rattle.{
  index_core.proofs.cells.Common.{◌≡◌, ℕ, ◌<◌, ◌≤◌, List, length, take, slice_set, Option, ap, arith, length-take, Label},
  std.proofs.Math.Seq.{take-set-lt},
  multi_index.specs.Axes.{AxisValue, with_name},
}

-- there are as many names as levels
pub count_of_names : (kept seen : List (Option Label)) (levels : ℕ) → take levels kept ≡ seen → length kept ≡ 4 → levels ≤ 4 → levels ≡ length seen
count_of_names kept _ levels is = omega (arith, ap length is, length-take levels kept)

-- the axis with another name of a level
pub axis_is_named : (tuples : List (List Label)) (kept : List (Option Label)) (axis : AxisValue) (levels level : ℕ) (name : Option Label)
    → record { tuples = tuples; names = take levels kept } ≡ axis → length kept ≡ 4 → levels ≤ 4 → level < length axis.names
    → record { tuples = tuples; names = take levels (slice_set kept level name) } ≡ with_name axis level name
axis_is_named = grind (arith, count_of_names, take-set-lt)
