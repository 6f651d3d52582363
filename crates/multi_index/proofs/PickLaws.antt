-- What one level answers, as the answer of an axis.
use Rattle.{
  index_core.{proofs.{cells.Common.{arith, ◌≡◌, List, [], ◌∷◌, length, Option, Some, Result, Err, slice_get, Label, Text}, pick.SeenLaws.{single_rows, single_slice}}, specs.{Labels.{same_number, order_in}, declared.fault.IndexFault.{IndexFault}, pick.{Faults.{PickFault, pick_seen}, Labels.{rows_of_key}, Leading.{leads, leading_cmp}, Slices.{label_slice}}}},
  std.specs.Option.{option_map},
  multi_index.{specs.{Axes.{single_tuples}, Picks.{PicksOr, axis_fault}}, proofs.TupleLaws.{only_label_is}},
}
use Rattle.index_core.specs.Picks as index

-- the rows of a label
pub rows_seen : (labels : List Label) (tuples : List (List Label)) (key : List Label) (l : Label) → single_tuples labels ≡ tuples → length key ≡ 1 → slice_get key 0 ≡ Some l
    → rows_of_key (leads same_number) tuples key ≡ pick_seen (λ x. x ∷ []) (rows_of_key same_number labels l)
rows_seen labels _ key l seen one at = cc (only_label_is key l one at, single_rows same_number labels l)

-- the rows of a slice
pub slice_seen : (texts : List Text) (labels : List Label) (tuples : List (List Label)) (lower upper : Option Label) (from to : Option (List Label)) → single_tuples labels ≡ tuples
    → option_map (λ l. l ∷ []) lower ≡ from → option_map (λ l. l ∷ []) upper ≡ to
    → label_slice (leading_cmp (order_in texts)) from to tuples ≡ pick_seen (λ x. x ∷ []) (label_slice (order_in texts) lower upper labels)
slice_seen texts labels _ lower upper _ _ seen low high = cc (single_slice (order_in texts) lower upper labels)

-- a fault of one level is the axis's
pub fault_lifted : {A B : Type 0} (want : Type 0) (view : A → B) (e : IndexFault) (meant : Result B (PickFault Label)) (meant' : Result B (PickFault (List Label))) → meant' ≡ pick_seen (λ x. x ∷ []) meant
    → index.PicksOr want view (Err e) meant → PicksOr want view (Err (axis_fault e)) meant'
fault_lifted = grind arith
