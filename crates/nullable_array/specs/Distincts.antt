-- The values of rows that are present, and how many truth values there are among them.
use Rattle.std.specs.Prelude.{◌≡◌, ℕ, ◌+◌, ◌<◌, ℤ, pos, ◌+ℤ◌, Bool, true, false, length, slice_index_or, ◌&&◌, ◌||◌, List, [], ◌∷◌, ◌++◌, Option, Some, None, if◌then◌else◌}
use Rattle.std.specs.List.{list_any}
use Rattle.std.specs.Ordering.{int_eq}
use Rattle.nullable_array.specs.Folds.{folded}

abbrev pub present_values : {T : Type 0} → List (Option T) → List T
present_values [] = []
present_values (None ∷ rows) = present_values rows
present_values (Some x ∷ rows) = x ∷ present_values rows

-- the values with one more behind them
abbrev pub then_value : {T : Type 0} → List T → T → List T
then_value values x = values ++ x ∷ []

-- how many different truth values there are, where this is whether one is True and whether all are
abbrev pub truths_told : Bool → Bool → ℕ
truths_told some all = (if some then 1 else 0) + (if all then 0 else 1)

abbrev pub truths_of : ℕ → (ℕ → Option Bool) → ℕ
truths_of count row = truths_told (folded (λ s x. s || x) false count row) (folded (λ s x. s && x) true count row)

-- each place from the least number on has a mark where its number was seen
abbrev pub AreMarked : ℤ → List Bool → List ℤ → Type 0
AreMarked least marks seen = (place : ℕ) → place < length marks → slice_index_or marks place false ≡ list_any (int_eq (least +ℤ pos place)) seen

-- the marks are those of what was seen with a value more, which was there or not
pub record IsMarkedMore (least : ℤ) (marks : List Bool) (seen more : List ℤ) (added : Bool) : Type 0 where
  pub marked : AreMarked least marks more
  pub count : length more ≡ length seen + (if added then 1 else 0)
