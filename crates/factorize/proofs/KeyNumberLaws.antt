-- The numbers of keys, where each row has one.
use Rattle.{
  column_core.proofs.cells.Common.{arith, ◌≡◌, ◌∙◌, ◌<◌, sym, ℕ, Bool, true, false, List, map, length, All, slice_index_or, Some, map-id, length-map, list_any, range_with_len, Text, distinct, Label, map-map as map_map},
  multi_index.specs.Axes.{HaveLevels},
  row_keys.{specs.Keys.{same_tuple, place_among, codes_of, first_rows}, proofs.KeyLaws.{position_in, all_known}},
  label_align.{specs.Tuples.{tuple_less}, proofs.SameLaws.{tuple_laws}},
  meaning_group.{specs.Keys.{ordered_if, group_keys, group_of, group_codes}, proofs.ListLaws.{map_on}},
  factorize.{specs.{Keys.{seen_rules}, Numbers.{number_less, row_holds_na, first_row, kept_numbers, places_of, recoded, number_in}}, proofs.{LawOfGroups.{any_in_order}, NumberLaws.{filter_all}, PlaceLaws.{there}, GroupLaws.{below_count, groups_counted, codes_are}}},
}

module _ (texts : List Text) (sorted : Bool) (rows : List (List Label)) where
  abbrev pub keys : List (List Label)
  keys = group_keys (seen_rules texts) sorted false rows

  pub keys_are : keys ≡ ordered_if sorted (tuple_less texts) (distinct same_tuple rows)
  keys_are = search filter_all

  abbrev pub IsKnown : List Label → Type 0
  IsKnown key = list_any (same_tuple key) keys ≡ true

  pub rows_known : All IsKnown rows
  rows_known k d lt =
      let key = slice_index_or rows k d in
      let known = all_known _ tuple_laws rows k d lt in
      grind (arith, keys_are, any_in_order)

  -- each row is in the group of its key's number
  groups_are : group_codes (seen_rules texts) sorted false rows ≡ map Some (map (place_among same_tuple keys) rows)
  groups_are =
      map_on _ (group_of same_tuple keys) _ (λ key known. there _ keys (position_in _ _ known)) rows rows_known
      ∙ sym (map_map _ _ _)

  -- numbers in the order of the keys
  module _ (levels : ℕ) (alike : HaveLevels levels rows) (firsts ordered : List ℕ) (first : firsts ≡ first_rows same_tuple rows)
      (in_turn : ordered ≡ ordered_if sorted (number_less texts rows levels firsts) (range_with_len 0 (length firsts))) where
    pub chosen : ordered ≡ kept_numbers sorted false (number_less texts rows levels firsts) (λ number. row_holds_na texts rows levels (first_row firsts number)) (length firsts)
    chosen = search filter_all

    pub ordered_below : All (λ number. number < length firsts) ordered
    ordered_below = search (below_count, chosen)

    pub ordered_counted : length ordered ≡ length keys
    ordered_counted = search (groups_counted, chosen)

    pub renumbered : (codes made : List ℕ) → codes ≡ codes_of same_tuple rows → made ≡ map number_in (recoded (places_of ordered (length firsts)) codes) → made ≡ map (place_among same_tuple keys) rows
    renumbered codes _ coded is = grind (arith, codes_are texts rows levels alike sorted false firsts first ordered chosen codes coded (recoded (places_of ordered (length firsts)) codes) (λ i. recoded (places_of ordered (length firsts)) codes), groups_are, map_map, map-id)

-- numbers by first sight
module _ (texts : List Text) (rows : List (List Label)) (sorted : Bool) (unsorted : sorted ≡ false) where
  abbrev distinct_keys : List (List Label)
  distinct_keys = distinct same_tuple rows

  sight : keys texts sorted rows ≡ distinct_keys
  sight = grind (arith, keys_are)

  pub sight_counted : (firsts : List ℕ) → firsts ≡ first_rows same_tuple rows → length firsts ≡ length (keys texts sorted rows)
  sight_counted = grind (arith, length-map, sight)

  pub sight_firsts : (firsts : List ℕ) → firsts ≡ first_rows same_tuple rows → firsts ≡ map (place_among same_tuple rows) (keys texts sorted rows)
  sight_firsts _ first = cc sight

  pub sight_numbers : (codes : List ℕ) → codes ≡ codes_of same_tuple rows → codes ≡ map (place_among same_tuple (keys texts sorted rows)) rows
  sight_numbers _ coded = cc sight

  pub sight_codes : (codes : List ℕ) → codes ≡ codes_of same_tuple rows → map Some codes ≡ group_codes (seen_rules texts) sorted false rows
  sight_codes codes coded = cc (sight_numbers codes coded, groups_are texts sorted rows)

-- groups by first sight, where no row is left out
module _ (texts : List Text) (rows : List (List Label)) (sorted dropna : Bool) (unsorted : sorted ≡ false) (whole : dropna ≡ false) where
  pub all_counted : (firsts : List ℕ) → firsts ≡ first_rows same_tuple rows → length firsts ≡ length (group_keys (seen_rules texts) sorted dropna rows)
  all_counted = grind (arith, sight_counted)

  pub all_codes : (codes : List ℕ) → codes ≡ codes_of same_tuple rows → map Some codes ≡ group_codes (seen_rules texts) sorted dropna rows
  all_codes codes coded = cc (sight_codes texts rows sorted unsorted codes coded, whole)
