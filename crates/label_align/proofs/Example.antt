-- Left b a a with right a c a, and what is found of them.
use Rattle.meaning_align.{proofs.cells.Common.{◌≡◌, ◌==◌, [], ◌∷◌, Some, None, Ok, Err, nat_lt, refl}, specs.{Faults.{duplicate_labels}, Joins.{outer}, Targets.{reindexed}}}

joined : outer ◌==◌ nat_lt (2 ∷ 1 ∷ 1 ∷ []) (1 ∷ 3 ∷ 1 ∷ []) ≡ Ok record {
  keys = 1 ∷ 1 ∷ 1 ∷ 1 ∷ 2 ∷ 3 ∷ [];
  left = Some 1 ∷ Some 1 ∷ Some 2 ∷ Some 2 ∷ Some 0 ∷ None ∷ [];
  right = Some 0 ∷ Some 2 ∷ Some 0 ∷ Some 2 ∷ None ∷ Some 1 ∷ [];
}
joined = refl

found : reindexed ◌==◌ (5 ∷ 7 ∷ []) (7 ∷ 6 ∷ 7 ∷ []) ≡ Ok (Some 1 ∷ None ∷ Some 1 ∷ [])
found = refl

as_they_are : reindexed ◌==◌ (5 ∷ 5 ∷ []) (5 ∷ 5 ∷ []) ≡ Ok (Some 0 ∷ Some 1 ∷ [])
as_they_are = refl

repeated : reindexed ◌==◌ (7 ∷ 5 ∷ 5 ∷ 7 ∷ []) (5 ∷ []) ≡ Err (duplicate_labels 7)
repeated = refl
