-- Held files: one of them, and other bytes for one of them.
use Rattle.{
  meaning_cells.proofs.Common.{◌≡◌, ◌≢◌, ℕ, zero, suc, ◌<◌, ◌≤◌, nat_eq, List, [], ◌∷◌, ◌++◌, length, get_or, set, refl, ap, arith, eqb-true, eq-eqb, Vec},
  outside_io.specs.{declared.shelf.{HeldFile.{HeldFile}, Reading.{Reading, TheVariants.{Replaced}}}, Shelf.{bytes_at, with_bytes, reading_bytes, least_held, kept_reading}},
}

pub bytes_at-get : (files : List HeldFile) (place : ℕ) (file : HeldFile) → place < length files → file ≡ get_or files place file → bytes_at files place ≡ file.bytes.items
bytes_at-get [] _ _ lt is = absurd (omega arith)
bytes_at-get (first ∷ files) zero _ lt is = cc
bytes_at-get (first ∷ files) (suc place) file lt is = bytes_at-get files place file (omega arith) is

pub set-with_bytes : (files : List HeldFile) (place : ℕ) (file : HeldFile) (bytes : Vec ℕ) → place < length files → file ≡ get_or files place file → set files place (record { path = file.path; bytes = bytes }) ≡ with_bytes files place bytes
set-with_bytes [] _ _ _ lt is = search
set-with_bytes (first ∷ files) zero _ _ lt is = search
set-with_bytes (first ∷ files) (suc place) file bytes lt is = cc (set-with_bytes files place file bytes (omega arith) is)

pub length-with_bytes : (files : List HeldFile) (place : ℕ) (bytes : Vec ℕ) → length (with_bytes files place bytes) ≡ length files
length-with_bytes [] _ _ = refl
length-with_bytes (file ∷ files) zero _ = refl
length-with_bytes (file ∷ files) (suc place) bytes = ap suc (length-with_bytes files place bytes)

bytes_at-with_bytes : (files : List HeldFile) (place : ℕ) (bytes : Vec ℕ) (i : ℕ) → i ≢ place → bytes_at (with_bytes files place bytes) i ≡ bytes_at files i
bytes_at-with_bytes [] _ _ i _ = refl
bytes_at-with_bytes (file ∷ files) zero _ zero other = absurd (other refl)
bytes_at-with_bytes (file ∷ files) zero _ (suc i) _ = refl
bytes_at-with_bytes (file ∷ files) (suc place) _ zero _ = refl
bytes_at-with_bytes (file ∷ files) (suc place) bytes (suc i) other = search (bytes_at-with_bytes files place bytes)

bytes_at-push : (files : List HeldFile) (file : HeldFile) (i : ℕ) → i < length files → bytes_at (files ++ file ∷ []) i ≡ bytes_at files i
bytes_at-push [] _ i lt = absurd (omega arith)
bytes_at-push (first ∷ files) _ zero _ = refl
bytes_at-push (first ∷ files) file (suc i) lt = bytes_at-push files file i (omega arith)

-- the file that is read has the same bytes after one of the held files was given others
pub reading_bytes-with_bytes : (files : List HeldFile) (reads : Reading) (place : ℕ) (bytes replaced : Vec ℕ) → replaced.items ≡ bytes_at files place → reading_bytes (with_bytes files place bytes) (kept_reading reads place (Replaced replaced)) ≡ reading_bytes files reads
reading_bytes-with_bytes = grind (arith, nat_eq, eqb-true, bytes_at-with_bytes, eq-eqb)

-- and after one more file was held
pub reading_bytes-push : (files : List HeldFile) (reads : Reading) (file : HeldFile) → least_held reads ≤ length files → reading_bytes (files ++ file ∷ []) reads ≡ reading_bytes files reads
reading_bytes-push = grind (arith, bytes_at-push)
