-- The first file under a path, and the map of held files.
use Rattle.{
  meaning_cells.proofs.Common.{rules, ◌≡◌, ℕ, zero, suc, ◌+◌, Bool, true, false, cond, nat_eq, List, [], ◌∷◌, ◌++◌, map, Some, None, refl, sym, ◌∙◌, ap, arith, map-append, position, position_from, nat_cmp, slice_cmp, pointwise, get, insert, slice_cmp-IsAntisymmetric, Vec, Text},
  std.{proofs.lemmas.{Cmp.{nat_list_cmp_total, eq_by_cmp_equiv}, Iterator.Adapters.{position_from-zero}}, specs.{Ordering.{eq_by_cmp}, Cmp.Lexicographic.{texts_ties}, FinMap.{find, get-from_entries, get-insert, same_map, from_entries_push, nat_cmp-IsAntisymmetric}}},
  outside_io.specs.{declared.shelf.HeldFile.{HeldFile}, Shelf.{entry_of, map_of, is_under, bytes_at, with_bytes}},
}

-- the order's test of two texts is the program's
tie : (q path : Text) → eq_by_cmp (slice_cmp nat_cmp) q path ≡ pointwise nat_eq path q
tie q path = sym ((eq_by_cmp_equiv nat_list_cmp_total).symm path q) ∙ sym (texts_ties path q)

same : (path q : Text) → pointwise nat_eq path q ≡ true → path ≡ q
same = search rules

-- the file at the place stands under the path, and none before it
pub IsFirst : Text → List HeldFile → ℕ → Type 0
IsFirst _ [] _ = ⊥
IsFirst path (file ∷ files) zero = is_under path file ≡ true
IsFirst path (file ∷ files) (suc place) = (is_under path file ≡ false) × IsFirst path files place

first-from : (path : Text) (files : List HeldFile) (k i : ℕ) → position_from (is_under path) k files ≡ Some i → (place : ℕ) × (i ≡ k + place) × IsFirst path files place
unfolding IsFirst
first-from _ [] k i is = cc
first-from path (file ∷ files) k i is =
    elim (is_under path file) as (λ b. is_under path file ≡ b → cond b (Some k) (position_from (is_under path) (k + 1) files) ≡ Some i → (place : ℕ) × (i ≡ k + place) × IsFirst path (file ∷ files) place) [
      | true ↦ grind arith
      | false ↦ λ other there. let (place, at, first) = first-from path files (k + 1) i there in (suc place, omega arith, (other, first))
    ] refl is

pub first : (path : Text) (files : List HeldFile) (place : ℕ) → position (is_under path) files ≡ Some place → IsFirst path files place
first = grind (arith, first-from, position_from-zero, IsFirst)

find-first : (path : Text) (files : List HeldFile) (place : ℕ) → IsFirst path files place → find (slice_cmp nat_cmp) path (map entry_of files) ≡ Some (bytes_at files place)
unfolding IsFirst
find-first _ [] _ none = absurd none
find-first _ (file ∷ files) zero under = grind (arith, tie)
find-first path (file ∷ files) (suc place) (other, found) = grind (arith, tie, find-first path files place found)

-- what the first file under a path holds is what the map has there
pub get-first : (path : Text) (files : List HeldFile) (place : ℕ) → position (is_under path) files ≡ Some place → get (map_of files) path ≡ Some (bytes_at files place)
get-first path files place is = get-from_entries nat_list_cmp_total (map entry_of files) path ∙ find-first path files place (first path files place is)

find-none_from : (path : Text) (files : List HeldFile) (k : ℕ) → position_from (is_under path) k files ≡ None → find (slice_cmp nat_cmp) path (map entry_of files) ≡ None
find-none_from _ [] k _ = refl
find-none_from path (file ∷ files) k is =
    elim (is_under path file) as (λ b. is_under path file ≡ b → cond b (Some k) (position_from (is_under path) (k + 1) files) ≡ None → find (slice_cmp nat_cmp) path (map entry_of (file ∷ files)) ≡ None) [
      | true ↦ grind arith
      | false ↦ λ other none. ap (λ b. cond b (Some file.bytes.items) (find (slice_cmp nat_cmp) path (map entry_of files))) (tie path file.path ∙ other) ∙ find-none_from path files (k + 1) none
    ] refl is

find-none : (path : Text) (files : List HeldFile) → position (is_under path) files ≡ None → find (slice_cmp nat_cmp) path (map entry_of files) ≡ None
find-none = grind (arith, find-none_from, position_from-zero)

-- where no file stands under a path, the map has nothing there
pub get-none : (path : Text) (files : List HeldFile) → position (is_under path) files ≡ None → get (map_of files) path ≡ None
get-none path files none = get-from_entries nat_list_cmp_total (map entry_of files) path ∙ find-none path files none

-- two tests that don't both hold
swapped : {A : Type 0} (a b : Bool) (x y z : A) → (a ≡ true → b ≡ true → ⊥) → cond a x (cond b y z) ≡ cond b y (cond a x z)
swapped = grind arith

find-with_bytes : (path : Text) (files : List HeldFile) (place : ℕ) (bytes : Vec ℕ) (q : Text) → IsFirst path files place → find (slice_cmp nat_cmp) q (map entry_of (with_bytes files place bytes)) ≡ cond (eq_by_cmp (slice_cmp nat_cmp) q path) (Some bytes.items) (find (slice_cmp nat_cmp) q (map entry_of files))
unfolding IsFirst
find-with_bytes _ [] _ _ q none = absurd none
find-with_bytes _ (file ∷ files) zero _ q under = grind (arith, same)
find-with_bytes path (file ∷ files) (suc place) bytes q (other, found) = grind (arith, swapped, same, tie, find-with_bytes path files place bytes q found)

-- other bytes for the first file under a path are an insertion
pub map_of-with_bytes : (path : Text) (files : List HeldFile) (place : ℕ) (bytes : Vec ℕ) → position (is_under path) files ≡ Some place → map_of (with_bytes files place bytes) ≡ insert (map_of files) path bytes.items
map_of-with_bytes path files place bytes is =
    same_map nat_list_cmp_total (slice_cmp-IsAntisymmetric nat_cmp-IsAntisymmetric) _ _ (λ q.
    get-from_entries nat_list_cmp_total (map entry_of (with_bytes files place bytes)) q
    ∙ find-with_bytes path files place bytes q (first path files place is)
    ∙ ap (cond (eq_by_cmp (slice_cmp nat_cmp) q path) (Some bytes.items)) (sym (get-from_entries nat_list_cmp_total (map entry_of files) q))
    ∙ sym (get-insert nat_list_cmp_total (map_of files) path bytes.items q))

-- one more file, under a path where no file stands, is an insertion
pub map_of-push : (path : Text) (files : List HeldFile) (bytes : Vec ℕ) → position (is_under path) files ≡ None → map_of (files ++ record { path = path; bytes = bytes } ∷ []) ≡ insert (map_of files) path bytes.items
map_of-push path files bytes none = cc (map-append entry_of files _, from_entries_push nat_list_cmp_total (slice_cmp-IsAntisymmetric nat_cmp-IsAntisymmetric) (map entry_of files) path bytes.items (find-none path files none))
