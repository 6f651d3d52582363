-- Masks, and labels of which none stands twice, with the texts themselves; and a slice that goes back.
use Rattle.{
  column_core.proofs.cells.Common.{◌≡◌, refl, arith, ℕ, suc, negsuc, zero, Bool, List, [], ◌∷◌, map, All, Some, None, Ok, list_any, pointwise, AreDistinct, IsGivenLabel, datum, label_datum, Cell, Label, Text},
  index_core.{specs.{pick.{Faults.{pick_seen}, Labels.{all_differ}, Masks.{is_kept, masked_rows}, Positions.{backward, position_slice}}, Labels.{same_number}}, proofs.{pick.SeenLaws.{pointwise-map, masked_rows-map}, TextLaws.{same_text, number_alike}}},
  indexers.specs.Masks.{is_true},
}

-- a cell of a mask keeps its row by its number as by its text
kept_value : (texts : List Text) (c : Cell) → is_kept (datum texts c) ≡ is_true c
kept_value = grind arith

pub kept_values : (texts : List Text) (cells : List Cell) → map is_kept (map (datum texts) cells) ≡ map is_true cells
kept_values _ [] = refl
kept_values texts (c ∷ cells) = λ j. kept_value texts c j ∷ kept_values texts cells j

-- the rows that a mask keeps of an axis are those that it keeps by texts
pub mask_seen : (texts : List Text) → AreDistinct texts → (xs labels : List (List Label)) (mask : List Bool) → All (All (IsGivenLabel texts)) xs → All (All (IsGivenLabel texts)) labels
    → masked_rows (pointwise same_text) (map (map (label_datum texts)) xs) (map (map (label_datum texts)) labels) mask ≡ pick_seen (map (label_datum texts)) (masked_rows (pointwise same_number) xs labels mask)
mask_seen = search (masked_rows-map, same_text, pointwise-map, number_alike)

-- labels differ by their numbers as by their texts
any_seen : (texts : List Text) → AreDistinct texts → (label : Label) (labels : List Label) → IsGivenLabel texts label → All (IsGivenLabel texts) labels
    → list_any (same_text (label_datum texts label)) (map (label_datum texts) labels) ≡ list_any (same_number label) labels
any_seen _ distinct label [] _ all = refl
any_seen texts distinct label (l ∷ labels) here all =
    let one = number_alike _ distinct label l here (all 0 l (omega arith)) in
    search (any_seen texts distinct label labels here (λ k d lt. all (suc k) d (omega arith)))

pub differ_seen : (texts : List Text) → AreDistinct texts → (labels : List Label) → All (IsGivenLabel texts) labels → all_differ same_text (map (label_datum texts) labels) ≡ all_differ same_number labels
differ_seen _ distinct [] _ = refl
differ_seen texts distinct (label ∷ labels) all =
    let one = any_seen _ distinct label _ (all 0 label (omega arith)) (λ k d lt. all (suc k) d (omega arith)) in
    search (differ_seen texts distinct labels (λ k d lt. all (suc k) d (omega arith)))

-- `::-1` is the rows from the last one back, which taken twice are all rows in order (`reversed_twice` in `pick_meaning`)
pub reversing : (count : ℕ) → position_slice {K = List Label} count None None (Some (negsuc zero)) ≡ Ok (backward 0 count (negsuc zero) 1)
reversing _ = refl
