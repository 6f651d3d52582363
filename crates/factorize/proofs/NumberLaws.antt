-- What is made of the numbers of keys is what is made of the keys.
use Rattle.{
  column_core.proofs.cells.Common.{rules, ◌≡◌, ◌∙◌, ◌==◌, ◌<◌, refl, sym, ℕ, Bool, true, false, cond, List, [], ◌∷◌, map, filter, length, All, slice_index_or, None, arith, length-map, get_or-map, fill_by_all, get_or-map-range_with_len, All-filter, list_any, range_with_len, IsEquivalence, distinct, map-map as map_map},
  std.specs.List.{position},
  sorting.specs.Sorting.{in_order},
  meaning_group.{proofs.{align.OrderLaws.{all_in_order, in_order_map}, ListLaws.{map_on, filter_seen, position_seen}}, specs.Keys.{KeyRules, is_kept, ordered_if, group_keys, group_of, group_codes}},
  row_keys.{specs.Keys.{place_among, codes_of, first_rows}, proofs.{KeyLaws.{place_tells, all_known, position_in, any_at}, RecodeLaws.{place_there}}},
  label_align.proofs.OrderLaws.{below_range},
  factorize.specs.Numbers.{first_row, kept_numbers, places_of, recoded},
}

pub filter_all : {X : Type 0} (xs : List X) → filter (λ x. true) xs ≡ xs
filter_all [] = refl
filter_all (x ∷ xs) = cc (filter_all xs)

module _ {K : Type 0} (rules : KeyRules K) (laws : IsEquivalence rules.same) (d : K) (sorted dropna : Bool) (rows : List K) where
  abbrev keys : List K
  keys = distinct rules.same rows

  abbrev pub how_many : ℕ
  how_many = length keys

  abbrev pub key_at : ℕ → K
  key_at number = slice_index_or keys number d

  abbrev rank : K → ℕ
  rank = place_among rules.same keys

  abbrev IsNumber : ℕ → Type 0
  IsNumber number = number < how_many

  abbrev numbers : List ℕ
  numbers = range_with_len 0 how_many

  all_numbers : All IsNumber numbers
  all_numbers = below_range _

  keys_numbered : keys ≡ map key_at numbers
  keys_numbered = fill_by_all _ keys _ d refl (λ k lt. refl)

  module _ (less : ℕ → ℕ → Bool) (holds_na : ℕ → Bool) (below : (i j : ℕ) → IsNumber i → IsNumber j → rules.less (key_at i) (key_at j) ≡ less i j)
      (missing : (i : ℕ) → IsNumber i → rules.holds_na (key_at i) ≡ holds_na i) where
    abbrev ordered : List ℕ
    ordered = ordered_if sorted less numbers

    abbrev pub kept : List ℕ
    kept = kept_numbers sorted dropna less holds_na how_many

    ordered_numbers : All IsNumber ordered
    ordered_numbers = elim sorted as (λ b. All IsNumber (cond b (in_order less numbers) numbers)) [ true ↦ search (all_in_order, all_numbers) | false ↦ all_numbers ]

    pub kept_below : All IsNumber kept
    kept_below = All-filter _ IsNumber _ ordered_numbers

    ordered_keys : ordered_if sorted rules.less keys ≡ map key_at ordered
    ordered_keys = grind (arith, keys_numbered, in_order_map IsNumber key_at less rules.less below numbers all_numbers)

    kept_agrees : (i : ℕ) → IsNumber i → is_kept dropna rules.holds_na (key_at i) ≡ is_kept dropna holds_na i
    kept_agrees = grind arith

    -- the keys of the groups are those of the numbers that are kept
    pub keys_kept : group_keys rules sorted dropna rows ≡ map key_at kept
    keys_kept = cc (ordered_keys, filter_seen IsNumber key_at (is_kept dropna rules.holds_na) (is_kept dropna holds_na) kept_agrees ordered ordered_numbers)

    pub keys_counted : length (group_keys rules sorted dropna rows) ≡ length kept
    keys_counted = search (keys_kept, length-map)

    abbrev IsKnown : K → Type 0
    IsKnown k = list_any (rules.same k) keys ≡ true

    same_number : (k : K) (i : ℕ) → IsNumber i → rules.same k (key_at i) ≡ (rank k == i)
    same_number k i lt = cc (place_tells rules.same laws keys k (key_at i) (grind (arith, any_at)), place_there rules.same laws rows i d lt)

    group_by_number : (k : K) → group_of rules.same (group_keys rules sorted dropna rows) k ≡ position (λ i. rank k == i) kept
    group_by_number k = cc (keys_kept, position_seen IsNumber key_at (rules.same k) (λ i. rank k == i) (same_number k) kept kept_below)

    -- the group of each row is the place of its number
    pub codes_recoded : group_codes rules sorted dropna rows ≡ recoded (places_of kept how_many) (codes_of rules.same rows)
    codes_recoded =
        map_on IsKnown (group_of rules.same (group_keys rules sorted dropna rows)) (λ k. slice_index_or (places_of kept how_many) (rank k) None)
        (λ k known. group_by_number k ∙ sym (grind (arith, get_or-map-range_with_len, position_in)))
        rows (all_known _ laws rows)
        ∙ sym (search map_map)

    -- the first row of each group is that of its number
    pub firsts_kept : map (place_among rules.same rows) (group_keys rules sorted dropna rows) ≡ map (first_row (first_rows rules.same rows)) kept
    firsts_kept = cc (keys_kept, map_map (place_among rules.same rows) key_at kept, map_on IsNumber (λ i. place_among rules.same rows (key_at i)) (first_row (first_rows rules.same rows)) (λ i lt. grind (arith, get_or-map, rules.same)) kept kept_below)
