-- A shelf after a path was given bytes: what it holds, and what is left of the file that is read.
use Rattle.{
  meaning_cells.proofs.Common.{nat_eq, ◌≡◌, ℕ, ◌≤◌, List, [], ◌∷◌, ◌++◌, length, drop, Some, None, ◌∙◌, ap, arith, position, insert, Vec, Text},
  outside_io.{specs.{declared.shelf.{HeldFile.{HeldFile}, Reading.{Reading, TheVariants.{Replaced}}}, Shelf.{Shelved, map_of, is_under, bytes_at, with_bytes, reading_bytes, least_held, kept_reading}}, proofs.{Held.{length-with_bytes, reading_bytes-with_bytes, reading_bytes-push}, Under.{map_of-with_bytes, map_of-push}}},
}

abbrev pub shelved : List HeldFile → Reading → ℕ → Shelved
shelved files reads at = record { contents = map_of files; rest = drop at (reading_bytes files reads) }

abbrev pub IsKept : List HeldFile → Reading → ℕ → Type 0
IsKept files reads at = (least_held reads ≤ length files) × (at ≤ length (reading_bytes files reads))

module _ (files files' : List HeldFile) (reads reads' : Reading) (place at : ℕ) (bytes replaced : Vec ℕ) where
  module _ (new : files' ≡ with_bytes files place bytes) (kept : reads' ≡ kept_reading reads place (Replaced replaced)) (was : replaced.items ≡ bytes_at files place) where
    same_bytes : reading_bytes files' reads' ≡ reading_bytes files reads
    same_bytes = grind (arith, reading_bytes-with_bytes)

    pub replaced_kept : IsKept files reads at → IsKept files' reads' at
    replaced_kept (within, far) =
        (grind (arith, ap least_held kept, nat_eq, ap length new, length-with_bytes files place bytes, within), omega (arith, ap length same_bytes, far))

    pub replaced_shelved : (path : Text) (v : Shelved) (b : List ℕ) → position (is_under path) files ≡ Some place → bytes.items ≡ b → shelved files reads at ≡ v → shelved files' reads' at ≡ record v { contents = insert v.contents path b }
    replaced_shelved = grind (arith, map_of-with_bytes, same_bytes)

module _ (files files' : List HeldFile) (reads : Reading) (at : ℕ) (path : Text) (bytes : Vec ℕ) where
  pub pushed_shelved : (v : Shelved) (b : List ℕ) → position (is_under path) files ≡ None → bytes.items ≡ b → least_held reads ≤ length files → shelved files reads at ≡ v → files' ≡ files ++ record { path = path; bytes = bytes } ∷ [] → shelved files' reads at ≡ record v { contents = insert v.contents path b }
  pushed_shelved v b none same within view new =
      let held = ap map_of new ∙ map_of-push path files bytes none ∙ (λ i. insert (view i).contents path (same i)) in
      grind (arith, reading_bytes-push)
