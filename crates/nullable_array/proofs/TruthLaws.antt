-- Truth values are told by two flags: whether one is True, and whether all are.
use Rattle.{
  column_core.{proofs.cells.Common.{◌∙◌, ◌≡◌, ℕ, Bool, true, false, not, ◌&&◌, ◌||◌, List, [], ◌∷◌, length, length-append, refl, arith, Option, fold, beq, list_any-append, list_any, tabulate, distinct, distinct_count, Boolean}, specs.Columns.{CellColumn, column_value, column_with, truth_cell}},
  std.specs.Cmp.{bool_eq_equiv},
  indexmap.specs.IndexSet.{insert_key},
  nullable_array.{specs.Distincts.{present_values, truths_told, truths_of}, proofs.{DistinctLaws.{all_seen, distinct_seen, truths_apart, anything}, FoldLaws.{values_folded}}},
}

-- the flags tell the truth values that were seen
record AreTold (seen : List Bool) (some all : Bool) : Type 0 where
  has_true : list_any (beq true) seen ≡ some
  has_false : list_any (beq false) seen ≡ not all
  count : length seen ≡ truths_told some all

all_told : (xs seen : List Bool) (some all : Bool) → AreTold seen some all → AreTold (fold (insert_key beq) seen xs) (fold (λ s x. s || x) some xs) (fold (λ s x. s && x) all xs)
all_told [] _ _ _ t = t
all_told (x ∷ xs) _ _ _ t = all_told xs _ _ _ (grind (arith, list_any-append, beq, length-append))

-- as many different truth values are present as the flags tell
truths_counted : (n : ℕ) (row : ℕ → Option Bool) → truths_of n row ≡ length (distinct beq (present_values (tabulate n row)))
truths_counted n row =
    let values = present_values (tabulate n row) in
    cc (values_folded (λ s x. s || x) false n row, values_folded (λ s x. s && x) true n row, (all_told values [] false true record { has_true = refl; has_false = refl; count = refl }).count, all_seen beq bool_eq_equiv [] values)

pub truths_distinct : (texts : List (List ℕ)) (n : ℕ) (row : ℕ → Option Bool) (col : CellColumn) → column_with Boolean truth_cell n row ≡ col → truths_of n row ≡ distinct_count (column_value texts col).cells
truths_distinct texts n row col is = rw (← is) (truths_counted n row ∙ distinct_seen _ truth_cell refl (λ x. refl) _ _ (λ x y p q. truths_apart x y) n row (anything _))
