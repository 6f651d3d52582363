-- The keys under which the texts of a dictionary are found.
use Rattle.std.specs.Prelude.{◌≡◌, ◌≢◌, ℕ, ◌+◌, ◌%◌, ◌^◌, ◌<◌, ◌≤◌, List, [], length, fold, slice_index, slice_index_or, nat_eq}
use Rattle.std.specs.List.{position_or_len, IsDistinct}
use Rattle.std.specs.Hash as fed
use Rattle.std.specs.Hash.FoldHasher as folding
use Rattle.cell_core.specs.Texts.{AreDistinct}

-- the hash of a text
unfoldable pub text_hash : List ℕ → ℕ
text_hash t = folding.finish (fold folding.write folding.initial (fed.str t))

-- the key of a text at an attempt: the next one if another text has it
abbrev pub key_at : List ℕ → ℕ → ℕ
key_at t attempt = (text_hash t + attempt) % 2 ^ 64

-- the first place of a key, or how many there are
abbrev pub key_place : List ℕ → ℕ → ℕ
key_place keys key = position_or_len (nat_eq key) keys

-- the text at a place has a key of its own, and those that were attempted before stand before it
pub record IsKeyed (texts : List (List ℕ)) (keys : List ℕ) (i : ℕ) : Type 0 where
  pub attempt : ℕ
  pub key : slice_index keys i ≡ key_at (slice_index_or texts i []) attempt
  pub taken : (n : ℕ) → n < attempt → key_place keys (key_at (slice_index_or texts i []) n) < i

-- the keys are those of the texts, in their order, and no two texts or keys are equal
pub record AreKeyed (texts : List (List ℕ)) (keys : List ℕ) : Type 0 where
  pub count : length keys ≡ length texts
  pub unique : IsDistinct nat_eq keys
  pub distinct : AreDistinct texts
  pub keyed : (i : ℕ) → i < length texts → IsKeyed texts keys i

-- the key of a text at an attempt is that of another text
abbrev pub IsOthers : List (List ℕ) → List ℕ → List ℕ → ℕ → Type 0
IsOthers texts keys t n = (key_place keys (key_at t n) < length keys)
    × (slice_index_or texts (key_place keys (key_at t n)) [] ≢ t)

-- the text isn't there, and may be put in under this key
pub record IsFree (texts : List (List ℕ)) (keys : List ℕ) (t : List ℕ) (key : ℕ) : Type 0 where
  pub attempt : ℕ
  pub at_attempt : key ≡ key_at t attempt
  pub taken : (n : ℕ) → n < attempt → key_place keys (key_at t n) < length keys
  pub unused : length keys ≤ key_place keys key
  pub absent : (i : ℕ) → i < length texts → slice_index_or texts i [] ≢ t
