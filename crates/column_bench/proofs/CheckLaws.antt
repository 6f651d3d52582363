-- The number of so many cells, and of one more.
use Rattle.{
  column_core.proofs.cells.Common.{◌≡◌, ℕ, zero, suc, ◌+◌, ℤ, pos, List, fold, slice_get, ap, ◌∙◌, arith, unwrap_or, Some, range_with_len, Cell, Na},
  column_bench.specs.Checks.{check_more, check_below},
}

fold-range : {S : Type 0} (f : S → ℕ → S) (s : S) (a n : ℕ) → fold f s (range_with_len a (suc n)) ≡ f (fold f s (range_with_len a n)) (a + n)
fold-range f s a zero = ap (f s) (omega arith)
fold-range f s a (suc n) = fold-range f (f s a) (a + 1) n ∙ ap (f (fold f (f s a) (range_with_len (a + 1) n))) (omega arith)

pub check_below_more : (cells : List Cell) (n : ℕ) (c : Cell) → slice_get cells n ≡ Some c → check_below (n + 1) cells ≡ check_more (check_below n cells) n c
check_below_more cells n c here =
    let step : ℤ → ℕ → ℤ = λ so_far row. check_more so_far row (unwrap_or (slice_get cells row) Na) in
    let one : n + 1 ≡ suc n = omega arith in
    let at : 0 + n ≡ n = omega arith in
    ap (λ m. check_below m cells) one
    ∙ fold-range step (pos 0) 0 n
    ∙ ap (step (check_below n cells)) at
    ∙ ap (λ o. check_more (check_below n cells) n (unwrap_or o Na)) here
