-- Columns of one kind.
use Rattle.{
  frame_parts.proofs.Common.{kind_itself, arith, ◌≡◌, ◌<◌, ◌≤◌, ◌+◌, ℕ, Bool, true, false, List, length, drop, slice_get, slice_index_or, Some, if◌then◌else◌, refl, [], ◌∷◌, length-map, drop_more, get_or_from_slice_get, slice_get_within, list_all, Kind, Int64, NumberedTable, column_at, same_kind},
  column_core.proofs.cells.Common.{get_or-map, drop_all},
  frame_store.proofs.tables.KindLaws.{kind_is},
  frame_reshape.specs.Checks.{kinds_at, are_one},
}

-- whether the kinds from one on are the first
abbrev pub kinds_from : NumberedTable → List ℕ → ℕ → Bool
kinds_from t places k = list_all (same_kind (slice_index_or (kinds_at t places) 0 Int64)) (drop k (kinds_at t places))

module _ (t : NumberedTable) (places : List ℕ) (k first place : ℕ) (at_first : slice_get places 0 ≡ Some first) (at : slice_get places k ≡ Some place) (a b : Kind) (a_is : a ≡ (column_at t.columns first).kind) (b_is : b ≡ (column_at t.columns place).kind) where
  kind_at : (j other : ℕ) → slice_get places j ≡ Some other → slice_index_or (kinds_at t places) j Int64 ≡ (column_at t.columns other).kind
  kind_at j other here = grind (arith, get_or-map (λ p. (column_at t.columns p).kind) places j 0 Int64, slice_get_within places j other here, get_or_from_slice_get places j other 0 here)

  next : kinds_from t places k ≡ (if same_kind a b then kinds_from t places (k + 1) else false)
  next =
      let lt : k < length (kinds_at t places) = grind (arith, length-map, slice_get_within places k place at) in
      grind (arith, drop_more (kinds_at t places) k Int64 lt, kind_at 0 first at_first, kind_at k place at)

  pub one_more_kind : a ≡ b → kinds_from t places k ≡ are_one (kinds_at t places) → kinds_from t places (k + 1) ≡ are_one (kinds_at t places)
  one_more_kind = grind (arith, next, kind_itself)

  pub not_one_kind : (a ≡ b → ⊥) → kinds_from t places k ≡ are_one (kinds_at t places) → false ≡ are_one (kinds_at t places)
  not_one_kind = grind (arith, next, kind_is)

-- the first one decides nothing
pub first_kind : (t : NumberedTable) (places : List ℕ) → kinds_from t places 1 ≡ are_one (kinds_at t places)
first_kind t [] = refl
first_kind t (p ∷ ps) = refl

pub all_kinds : (t : NumberedTable) (places : List ℕ) (k : ℕ) → length places ≤ k → kinds_from t places k ≡ are_one (kinds_at t places) → true ≡ are_one (kinds_at t places)
all_kinds = grind (arith, length-map, drop_all)

pub ruleset one_kind = (one_more_kind, not_one_kind, first_kind, all_kinds)
