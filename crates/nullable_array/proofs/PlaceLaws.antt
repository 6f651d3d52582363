-- Numbers that are counted by marks at their places.
use Rattle.{
  column_core.proofs.cells.Common.{◌≡◌, ℕ, ◌+◌, ◌≤◌, ℤ, Bool, cond, List, [], length, Option, arith, int_eq},
  indexmap.specs.IndexSet.{insert_key},
  nullable_array.{specs.{Distincts.{AreMarked, IsMarkedMore}, Folds.{step_row, folded}}, proofs.FoldLaws.{folded_more}},
}

-- a row more
pub marked_step : (least : ℤ) (marks marks' : List Bool) (row : ℕ → Option ℤ) (k count more : ℕ) (value : Option ℤ) (added : Bool)
    → ((seen : List ℤ) → AreMarked least marks seen → IsMarkedMore least marks' seen (step_row (insert_key int_eq) seen value) added)
    → value ≡ row k → AreMarked least marks (folded (insert_key int_eq) [] k row) → count ≡ length (folded (insert_key int_eq) [] k row) → more ≡ cond added 1 0
    → AreMarked least marks' (folded (insert_key int_eq) [] (k + 1) row) × (count + more ≡ length (folded (insert_key int_eq) [] (k + 1) row))
marked_step = grind (arith, folded_more)

pub one_at_most : (added : Bool) (more count k : ℕ) → more ≡ cond added 1 0 → count ≤ k → count + more ≤ k + 1
one_at_most = grind arith
