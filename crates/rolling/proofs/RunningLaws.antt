-- Laws of running numbers.
use Rattle.{
  column_core.proofs.cells.Common.{◌≡◌, ℕ, ◌<◌, arith, ℤ, pos, ◌+ℤ◌, ◌-ℤ◌, rules, same_Some, slice_get, List, [], ◌∷◌, ◌++◌, length, fold, refl, sym, ap, ◌∙◌, Option, Some, None, int_wrap, w64},
  std.proofs.{Math.IntN.{neg_ℤ}, lemmas.{Int.{ints, int_wrap-add_left, int_wrap_fits, SFits-int_wrap}, List.Sums.{fold_push}}},
  nullable_array.specs.{declared.ops.Cumulation.{Cumulation, TheVariants.{Sum}}, Folds.{sum_step, running_step}},
  rolling.{specs.{declared.{running.Running.{Running, TheVariants.{Total, Furthest}}, candidates.{Extreme.{Extreme, TheVariants.{Least, Greatest}}, Candidates.{Candidates}}}, Answers.{step_of, came_to}, Running.{seeks, IsRunning, HasRoom, IsTotal, AreCandidates}, Candidates.{beats}}, proofs.CandidateLaws.{further, beats_weak, first_is_furthest, unbeaten_fewer}},
}

swapped : (s x y : ℤ) → sum_step (sum_step s x) y ≡ sum_step (sum_step s y) x
swapped s x y = let same : s +ℤ x +ℤ y ≡ s +ℤ y +ℤ x = omega (arith, ints) in int_wrap-add_left w64 (s +ℤ x) y ∙ ap (int_wrap w64) same ∙ sym (int_wrap-add_left w64 (s +ℤ y) x)

-- a value may be added first or last
sum_first : (xs : List ℤ) (s x : ℤ) → fold sum_step (sum_step s x) xs ≡ sum_step (fold sum_step s xs) x
sum_first [] s x = refl
sum_first (y ∷ ys) s x = ap (λ t. fold sum_step t ys) (swapped s x y) ∙ sum_first ys (sum_step s y) x

sum_wraps : (xs : List ℤ) (s : ℤ) → int_wrap w64 s ≡ s → int_wrap w64 (fold sum_step s xs) ≡ fold sum_step s xs
sum_wraps [] s h = h
sum_wraps (x ∷ xs) s h = sum_wraps xs (sum_step s x) (int_wrap_fits w64 _ (SFits-int_wrap w64 (s +ℤ x)))

pub totals : (xs : List ℤ) (s : ℤ) → fold running_step (Some s) xs ≡ Some (fold sum_step s xs)
totals [] s = refl
totals (x ∷ xs) s = totals xs (sum_step s x)

taken_back : (s x : ℤ) → int_wrap w64 s ≡ s → int_wrap w64 (sum_step s x -ℤ x) ≡ s
taken_back s x h = let same : s +ℤ x -ℤ x ≡ s = omega (arith, ints) in int_wrap-add_left w64 (s +ℤ x) (neg_ℤ x) ∙ ap (int_wrap w64) same ∙ h

zero_wraps : int_wrap w64 (pos 0) ≡ pos 0
zero_wraps = int_wrap_fits w64 (pos 0) (search rules)

-- the first of the values leaves the sum
total_leave : (total x : ℤ) (xs : List ℤ) → Some total ≡ came_to Sum (x ∷ xs) → Some (int_wrap w64 (total -ℤ x)) ≡ came_to Sum xs
total_leave total x xs is =
    let first : total ≡ sum_step (fold sum_step (pos 0) xs) x = same_Some _ _ (is ∙ totals (x ∷ xs) (pos 0) ∙ ap Some (sum_first xs (pos 0) x)) in
    rw first (ap Some (taken_back _ x (sum_wraps xs (pos 0) zero_wraps)) ∙ sym (totals xs (pos 0)))

total_come : (total x : ℤ) (xs : List ℤ) → Some total ≡ came_to Sum xs → Some (int_wrap w64 (total +ℤ x)) ≡ came_to Sum (xs ++ x ∷ [])
total_come total x xs is = grind (arith, fold_push)

-- the same of the numbers as the code has them
module _ (total x t y z new : ℤ) (op : Cumulation) (values : List ℤ) (total_same : t ≡ total) (x_same : y ≡ x) (kept : new ≡ z) where
  pub come_in : z ≡ int_wrap w64 (t +ℤ y) → IsTotal total op values → IsTotal new op (values ++ x ∷ [])
  come_in made is = record { op_is = is.op_is; total_is = rw (kept, made, total_same, x_same) (total_come total x values is.total_is) }

  pub leave_out : z ≡ int_wrap w64 (t -ℤ y) → IsTotal total op (x ∷ values) → IsTotal new op values
  leave_out made is = record { op_is = is.op_is; total_is = rw (kept, made, total_same, x_same) (total_leave total x values is.total_is) }

-- the first candidate is the least, or the greatest
pub first_came : (candidates : Candidates) (op : Cumulation) (count : ℕ) (values : List ℤ) → AreCandidates candidates op count values → slice_get candidates.values.items 0 ≡ came_to op values
first_came candidates op count values are = rw (are.op_is, are.values_are) (sym (first_is_furthest _ (beats_weak candidates.extreme) values) ∙ by candidates.extreme values None ∙ starts candidates.extreme)
  where
    starts : (extreme : Extreme) → fold (step_of (seeks extreme)) None values ≡ came_to (seeks extreme) values
    starts Least = refl
    starts Greatest = refl

    by : (extreme : Extreme) (values : List ℤ) (s : Option ℤ) → fold (further (beats extreme)) s values ≡ fold (step_of (seeks extreme)) s values
    by extreme [] s = refl
    by Least (x ∷ values) None = by Least values (Some x)
    by Least (x ∷ values) (Some s) = by Least values _
    by Greatest (x ∷ values) None = by Greatest values (Some x)
    by Greatest (x ∷ values) (Some s) = by Greatest values _

-- so many candidates
pub has_room : (r : Running) (op : Cumulation) (count : ℕ) (values : List ℤ) → IsRunning r op count values → length values < count → HasRoom r
has_room (Total total) op count values is few = tt
has_room (Furthest candidates) op count values is few = let ok = candidates.values.ok in omega (arith, is.room, ap length is.values_are, unbeaten_fewer (beats candidates.extreme) values)
