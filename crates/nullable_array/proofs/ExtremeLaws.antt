-- The last of rows, told with a number that stands before all.
use Rattle.{
  column_core.{proofs.cells.Common.{◌≡◌, ℕ, ◌+◌, Bool, false, Option, None, arith, ℤ, unwrap_or, if◌then◌else◌, is_lt, Ordering}, specs.Rows.{flagged}},
  nullable_array.{specs.Folds.{folded, greatest_step}, proofs.FoldLaws.{folded_more}},
}

module _ (cmp : ℤ → ℤ → Ordering) (blank : ℤ) where
  abbrev later : ℤ → ℤ → ℤ
  later best x = if is_lt (cmp best x) then x else best

  -- a row more
  pub last_more : (row : ℕ → Option ℤ) (n : ℕ) (best : ℤ) (p : Bool) (x : ℤ) → best ≡ unwrap_or (folded (greatest_step cmp) None n row) blank → row n ≡ flagged p x
      → is_lt (cmp best blank) ≡ false → (is_lt (cmp blank x) ≡ false → x ≡ blank)
      → later best (if p then x else blank) ≡ unwrap_or (folded (greatest_step cmp) None (n + 1) row) blank
  last_more = grind (arith, folded_more)
