-- Labels that are told apart by the numbers of their texts, with the texts themselves.
use Rattle.{
  meaning_pick.{proofs.{cells.Common.{arith, ◌≡◌, ℕ, Bool, List, map, All, Option, same_from_decides, is_eq, Label, AreDistinct, IsGivenLabel, LabelValue, label_cmp, label_datum, value_decides, Text}, SeenLaws.{rows_of_key-map, label_slice-map, masked_rows-map}, KeyLaws.{IsOfKey, picked_by_label-map}}, specs.{Faults.{pick_seen}, Keys.{LabelKey, key_seen, picked_by_label}, Labels.{rows_of_key}, Masks.{masked_rows}, Slices.{label_slice}}},
  std.specs.Option.{option_map},
  index_core.specs.Labels.{same_number, order_in},
}

-- equal labels, with their texts
abbrev pub same_text : LabelValue → LabelValue → Bool
same_text a b = is_eq (label_cmp a b)

-- labels of one text have one number
pub label_one : (texts : List Text) (a b : Label) → AreDistinct texts → IsGivenLabel texts a → IsGivenLabel texts b → label_datum texts a ≡ label_datum texts b → a ≡ b
label_one = grind arith

-- labels whose texts were given are told apart by the numbers as by the texts
pub number_alike : (texts : List Text) → AreDistinct texts → (a b : Label) → IsGivenLabel texts a → IsGivenLabel texts b → same_text (label_datum texts a) (label_datum texts b) ≡ same_number a b
number_alike = grind (arith, label_one, value_decides, same_from_decides)

-- what is picked by numbers is what is picked by texts: the rows of a label, a slice, a key of `loc`, and a mask
module _ (texts : List Text) where
  pub label_seen : AreDistinct texts → (labels : List Label) (key : Label) → All (IsGivenLabel texts) labels → IsGivenLabel texts key
      → rows_of_key same_text (map (label_datum texts) labels) (label_datum texts key) ≡ pick_seen (label_datum texts) (rows_of_key same_number labels key)
  label_seen distinct labels key all given = rows_of_key-map _ same_text same_number _ _ key (λ x there. number_alike _ distinct key x given there) labels all

  pub slice_seen : (lower upper : Option Label) (labels : List Label)
      → label_slice label_cmp (option_map (label_datum texts) lower) (option_map (label_datum texts) upper) (map (label_datum texts) labels) ≡ pick_seen (label_datum texts) (label_slice (order_in texts) lower upper labels)
  slice_seen = search label_slice-map

  pub key_pick_seen : AreDistinct texts → (levels : ℕ) (tuples : List (List Label)) (key : LabelKey (List Label)) → All (All (IsGivenLabel texts)) tuples → IsOfKey (IsGivenLabel texts) key
      → picked_by_label same_text label_cmp levels (map (map (label_datum texts)) tuples) (key_seen (map (label_datum texts)) key) ≡ pick_seen (map (label_datum texts)) (picked_by_label same_number (order_in texts) levels tuples key)
  key_pick_seen = search (picked_by_label-map, number_alike)

  pub mask_seen : AreDistinct texts → (xs labels : List Label) (mask : List Bool) → All (IsGivenLabel texts) xs → All (IsGivenLabel texts) labels
      → masked_rows same_text (map (label_datum texts) xs) (map (label_datum texts) labels) mask ≡ pick_seen (label_datum texts) (masked_rows same_number xs labels mask)
  mask_seen = search (masked_rows-map, number_alike)
