-- The groups of rows whose keys are tuples of labels.
use Rattle.{
  column_core.proofs.cells.Common.{◌≡◌, ◌∙◌, ◌<◌, ap, sym, arith, ℕ, Bool, List, [], map, length, slice_index_or, All, Option, length-map, get_or-map, map-id, passes_at_first, ranks_by, All-map, list_any, lists_total, Text, distinct, Label, label_total, map-map as map_map},
  multi_index.specs.Axes.{HaveLevels, tuples_at},
  row_keys.{specs.Keys.{same_tuple, place_among, codes_of, first_rows}, proofs.{KeyLaws.{position_in, all_known}, RecodeLaws.{firsts_inside, first_keys}}},
  label_align.{specs.Tuples.{tuple_seen, tuple_less}, proofs.{OrderLaws.{row_agrees}, SameLaws.{tuple_decides, tuple_laws}}},
  meaning_group.{specs.{Keys.{is_na, group_keys, group_codes}, Grouping.{AreGroups}}, proofs.ListLaws.{map_on}},
  factorize.{specs.{Keys.{seen_rules}, Numbers.{first_row, number_less, row_holds_na, kept_numbers, places_of, recoded}}, proofs.{LawOfGroups.{IsThere, keys_there, are_groups}, LabelLaws.{labels_there}}},
}
use Rattle.factorize.proofs.NumberLaws as law

module _ (texts : List Text) (keys : List (List Label)) (levels : ℕ) (alike : HaveLevels levels keys) (sorted dropna : Bool) where
  abbrev firsts : List ℕ
  firsts = first_rows same_tuple keys

  abbrev how_many : ℕ
  how_many = length (distinct same_tuple keys)

  abbrev less : ℕ → ℕ → Bool
  less = number_less texts keys levels firsts

  abbrev holds_na : ℕ → Bool
  holds_na number = row_holds_na texts keys levels (first_row firsts number)

  pub firsts_counted : length firsts ≡ how_many
  firsts_counted = search length-map

  abbrev key_at : ℕ → List Label
  key_at number = slice_index_or (distinct same_tuple keys) number []

  inside : (i : ℕ) → i < how_many → first_row firsts i < length keys
  inside = search (firsts_inside, tuple_decides, tuple_laws, firsts_counted)

  key_there : (i : ℕ) → i < how_many → key_at i ≡ slice_index_or keys (first_row firsts i) []
  key_there i lt = cc (first_keys same_tuple tuple_decides tuple_laws keys [], get_or-map (λ r. slice_index_or keys r []) firsts i 0 [] (omega (arith, firsts_counted, lt)))

  below : (i j : ℕ) → i < how_many → j < how_many → tuple_less texts (key_at i) (key_at j) ≡ less i j
  below = search (key_there, row_agrees, inside)

  missing : (i : ℕ) → i < how_many → list_any is_na (tuple_seen texts (key_at i)) ≡ holds_na i
  missing i lt = cc (key_there i lt, labels_there texts keys levels (first_row firsts i) alike (inside i lt))

  abbrev pub kept : List ℕ
  kept = kept_numbers sorted dropna less holds_na how_many

  -- what is made step by step
  module _ (firsts' : List ℕ) (first : firsts' ≡ firsts) where
    pub count_is : length firsts' ≡ how_many
    count_is = ap length first ∙ firsts_counted

    pub codes_below : (codes : List ℕ) → codes ≡ codes_of same_tuple keys → All (λ code. code < length firsts') codes
    codes_below _ coded = grind (arith, count_is, All-map (λ code. code < how_many) (place_among same_tuple (distinct same_tuple keys)) keys (λ k d lt. position_in (same_tuple (slice_index_or keys k d)) (distinct same_tuple keys) (all_known same_tuple tuple_laws keys k d lt)))

    module _ (kept' : List ℕ) (chosen : kept' ≡ kept_numbers sorted dropna (number_less texts keys levels firsts') (λ number. row_holds_na texts keys levels (first_row firsts' number)) (length firsts')) where
      pub kept_is : kept' ≡ kept
      kept_is = grind (arith, firsts_counted)

      pub below_count : All (λ number. number < length firsts') kept'
      below_count = rw (kept_is, count_is) (law.kept_below (seen_rules texts) tuple_laws [] sorted dropna keys _ _ below missing)

      pub groups_counted : length kept' ≡ length (group_keys (seen_rules texts) sorted dropna keys)
      groups_counted = ap length kept_is ∙ sym (law.keys_counted _ tuple_laws [] _ _ _ _ _ below missing)

      pub rows_are : (rows : List ℕ) → rows ≡ map (first_row firsts') kept' → rows ≡ map (place_among same_tuple keys) (group_keys (seen_rules texts) sorted dropna keys)
      rows_are _ made = made ∙ (λ i. map (first_row (first i)) (kept_is i)) ∙ sym (law.firsts_kept _ tuple_laws [] _ _ _ _ _ below missing)

      pub codes_are : (codes : List ℕ) → codes ≡ codes_of same_tuple keys → (made : List (Option ℕ)) → made ≡ recoded (places_of kept' (length firsts')) codes → made ≡ group_codes (seen_rules texts) sorted dropna keys
      codes_are codes coded made is = is ∙ (λ i. recoded (places_of (kept_is i) (count_is i)) (coded i)) ∙ sym (law.codes_recoded _ tuple_laws [] _ _ _ _ _ below missing)

-- the tuples of groups, and the law of groups for tuples
module _ (texts : List Text) (keys : List (List Label)) (sorted dropna : Bool) where
  abbrev group_tuples : List (List Label)
  group_tuples = group_keys (seen_rules texts) sorted dropna keys

  groups_there : All (IsThere same_tuple keys) group_tuples
  groups_there = search (keys_there, tuple_laws)

  -- each group's first row is a row, and has the group's tuple
  pub rows_inside : All (λ row. row < length keys) (map (place_among same_tuple keys) group_tuples)
  rows_inside = All-map (λ row. row < length keys) (place_among same_tuple keys) group_tuples (λ k d lt. position_in _ _ (groups_there k d lt))

  pub tuples_there : tuples_at keys (map (place_among same_tuple keys) group_tuples) ≡ group_tuples
  tuples_there =
      map_map _ _ _
      ∙ map_on (IsThere same_tuple keys) (λ key. slice_index_or keys (place_among same_tuple keys key) []) _
      (λ key here. sym (grind (arith, tuple_decides, passes_at_first, position_in))) group_tuples groups_there
      ∙ map-id _

  pub law_of : (rows : List ℕ) (codes : List (Option ℕ)) → rows ≡ map (place_among same_tuple keys) group_tuples → codes ≡ group_codes (seen_rules texts) sorted dropna keys
      → AreGroups (seen_rules texts) sorted dropna keys (tuples_at keys rows) codes
  law_of = grind (arith, tuples_there, are_groups (seen_rules texts) tuple_laws (ranks_by (lists_total label_total) (tuple_seen texts)) (λ a b e. grind (arith, tuple_decides)) sorted dropna keys)
