-- Groups are the same where keys are seen otherwise, as tuples with their texts.
use Rattle.{
  meaning_align.{proofs.{cells.Common.{◌≡◌, ◌∙◌, ap, refl, Bool, true, false, not, cond, List, [], ◌∷◌, map, filter, All, map-map, All-head, All-tail, All-filter, distinct}, OrderLaws.{all_distinct, all_in_order, in_order_map}, SeenLaws.{filter_map, distinct_map}}, specs.sorting.Sorting.{in_order}},
  meaning_group.{specs.Keys.{KeyRules, is_kept, ordered_if, group_keys, group_of, group_codes}, proofs.ListLaws.{map_on, position_seen}},
}

module _ {X Y : Type 0} (P : X → Type 0) (f : X → Y) (rules : KeyRules X) (rules' : KeyRules Y) (equal : (x y : X) → P x → P y → rules'.same (f x) (f y) ≡ rules.same x y)
    (below : (x y : X) → P x → P y → rules'.less (f x) (f y) ≡ rules.less x y) (missing : (x : X) → P x → rules'.holds_na (f x) ≡ rules.holds_na x) (sorted dropna : Bool) where
  module _ (rows : List X) (all : All P rows) where
    abbrev ordered : List X
    ordered = ordered_if sorted rules.less (distinct rules.same rows)

    all_ordered : All P ordered
    all_ordered = elim sorted as (λ b. All P (cond b (in_order rules.less (distinct rules.same rows)) (distinct rules.same rows))) [
      | true ↦ all_in_order P rules.less (distinct rules.same rows) (all_distinct P rules.same rows all)
      | false ↦ all_distinct P rules.same rows all
    ]

    ordered_seen : ordered_if sorted rules'.less (distinct rules'.same (map f rows)) ≡ map f ordered
    ordered_seen =
        ap (ordered_if sorted rules'.less) (distinct_map f P rules.same rules'.same equal rows all)
        ∙ (elim sorted as (λ b. cond b (in_order rules'.less (map f (distinct rules.same rows))) (map f (distinct rules.same rows)) ≡ map f (cond b (in_order rules.less (distinct rules.same rows)) (distinct rules.same rows))) [
          | true ↦ in_order_map P f rules.less rules'.less below (distinct rules.same rows) (all_distinct P rules.same rows all)
          | false ↦ refl
        ])

    pub keys_seen : group_keys rules' sorted dropna (map f rows) ≡ map f (group_keys rules sorted dropna rows)
    keys_seen =
        ap (filter (is_kept dropna rules'.holds_na)) ordered_seen
        ∙ filter_map f P (is_kept dropna rules.holds_na) (is_kept dropna rules'.holds_na) (λ x here. ap (λ b. cond dropna (not b) true) (missing x here)) ordered all_ordered

    all_keys : All P (group_keys rules sorted dropna rows)
    all_keys = All-filter (is_kept dropna rules.holds_na) P ordered all_ordered

    pub codes_seen : group_codes rules' sorted dropna (map f rows) ≡ group_codes rules sorted dropna rows
    codes_seen =
        ap (λ keys. map (group_of rules'.same keys) (map f rows)) keys_seen
        ∙ map-map (group_of rules'.same (map f (group_keys rules sorted dropna rows))) f rows
        ∙ map_on P (λ x. group_of rules'.same (map f (group_keys rules sorted dropna rows)) (f x)) (group_of rules.same (group_keys rules sorted dropna rows))
        (λ x here. position_seen P f (rules'.same (f x)) (rules.same x) (λ y there. equal x y here there) (group_keys rules sorted dropna rows) all_keys) rows all
