-- Numbers in order, of which each is kept once, are the different numbers.
use Rattle.{
  column_core.proofs.cells.Common.{arith, ◌≡◌, ℕ, Bool, List, [], ◌∷◌, ◌++◌, length, refl, ap, sym, ◌∙◌, append_assoc, fold, Option, int_eq_equiv, ℤ, IsEquivalence, list_any, IsPermutation, IsSorted, int_cmp, int_eq, tabulate, distinct},
  std.{specs.List.{IsDistinct, dedup, Retain.{IsFiltered, DiffersFromLast}}, proofs.{Common.{append-nil}, lemmas.{Cmp.{int_cmp_total}, List.{Filters.{dedup_is}, Kept.{IsStrictlySortedBy-dedup}, Sorted.{list_any-IsPermutation}}, Map.{Keys.{IsDistinct-from_sorted, IsDistinct-push}, Made.{length-from_same_keys}}}}},
  indexmap.specs.IndexSet.{insert_key},
  nullable_array.{specs.{Distincts.{present_values, then_value}, Folds.{folded}}, proofs.{FoldLaws.{values_folded}, DistinctLaws.{found-filter, all_seen}}},
}

module _ {K : Type 0} (eq : K → K → Bool) (laws : IsEquivalence eq) where
  apart_seen : (keys seen : List K) → IsDistinct eq seen → IsDistinct eq (fold (insert_key eq) seen keys)
  apart_seen [] seen h = h
  apart_seen (k ∷ keys) seen h = apart_seen keys _ (grind (arith, IsDistinct-push))

  apart-distinct : (ks : List K) → IsDistinct eq (distinct eq ks)
  unfolding IsDistinct
  apart-distinct ks = rw (← all_seen eq laws [] ks) (apart_seen ks [] tt)

  found-distinct : (q : K) (ks : List K) → list_any (eq q) (distinct eq ks) ≡ list_any (eq q) ks
  found-distinct q [] = refl
  found-distinct q (k ∷ ks) = grind (arith, found-filter eq laws, found-distinct q ks)

  found-dedup : (q : K) (ks : List K) → list_any (eq q) (dedup eq ks) ≡ list_any (eq q) ks
  found-dedup q (k ∷ x ∷ ks) = grind (arith, found-dedup q (k ∷ ks), found-dedup q (x ∷ ks))
  found-dedup q _ = refl

-- as many are kept of numbers in order as there are different ones
pub ordered_counted : (values ordered kept : List ℤ) → IsPermutation values ordered → IsSorted int_cmp ordered → IsFiltered (DiffersFromLast int_eq) [] ordered kept → length kept ≡ length (distinct int_eq values)
ordered_counted values ordered _ same order once =
    ap length (dedup_is _ ordered _ once)
    ∙ length-from_same_keys int_eq_equiv (dedup int_eq ordered) (distinct int_eq values) (IsDistinct-from_sorted _ (dedup int_eq ordered) (IsStrictlySortedBy-dedup int_cmp_total (λ x y. refl) ordered order))
    (apart-distinct _ int_eq_equiv values)
    (λ q. found-dedup _ int_eq_equiv q _ ∙ sym (list_any-IsPermutation _ values _ same) ∙ sym (found-distinct _ int_eq_equiv q _))

all_kept : {T : Type 0} (so_far values : List T) → fold then_value so_far values ≡ so_far ++ values
all_kept so_far [] = sym (append-nil so_far)
all_kept so_far (x ∷ values) = search (append_assoc, all_kept (so_far ++ x ∷ []) values)

-- the values of rows, put behind one another
pub values_kept : {T : Type 0} (n : ℕ) (row : ℕ → Option T) → folded then_value [] n row ≡ present_values (tabulate n row)
values_kept = grind (arith, values_folded, all_kept)
