-- What a sink does with a piece.
use Rattle.std.specs.Prelude.{◌≡◌, ◌≢◌, ◌<◌, ◌≤◌, ℕ, List, [], ◌++◌, take, Option, Some, None}
use Rattle.outside_io.specs.declared.sink.Put.{Put}
use Rattle.outside_io.specs.declared.sink.Put.TheVariants.{Took, Failed}

-- what is seen of a sink: the bytes that were written, where it tells them, and how many calls have failed
pub record SinkValue : Type 0 where
  pub written : Option (List ℕ)
  pub faults : ℕ

-- the bytes with these at their end, where they are told
abbrev pub appended : Option (List ℕ) → List ℕ → Option (List ℕ)
appended None bytes = None
appended (Some old) bytes = Some (old ++ bytes)

-- at least one byte and at most so many
abbrev pub IsWithin : Put → ℕ → Type 0
IsWithin (Took n) most = (0 < n) × (n ≤ most)
IsWithin Failed most = Unit {0}

-- what was taken of the piece
abbrev pub taken_of : Put → List ℕ → List ℕ
taken_of (Took n) piece = take n piece
taken_of Failed piece = []

-- a front of the whole was appended
abbrev pub AppendsFront : Option (List ℕ) → Option (List ℕ) → List ℕ → Type 0
AppendsFront old new whole = (text : List ℕ) × (rest : List ℕ) × (new ≡ appended old text) × (whole ≡ text ++ rest)

-- a front was appended that leaves at least one byte of the whole
abbrev pub AppendsPart : Option (List ℕ) → Option (List ℕ) → List ℕ → Type 0
AppendsPart old new whole = (text : List ℕ) × (rest : List ℕ) × (rest ≢ []) × (new ≡ appended old text) × (whole ≡ text ++ rest)
