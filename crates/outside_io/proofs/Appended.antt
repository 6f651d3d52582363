-- Bytes put at an end one piece after another.
use Rattle.{
  meaning_cells.proofs.Common.{◌≡◌, ℕ, List, [], ◌++◌, Option, append_assoc, arith, append-nil},
  outside_io.specs.Sink.{appended},
}

-- one piece after another is both at once
pub appended-appended : (w : Option (List ℕ)) (a b : List ℕ) → appended (appended w a) b ≡ appended w (a ++ b)
appended-appended = grind (arith, append_assoc)

-- an empty piece leaves the bytes as they were
pub appended-nil : (w : Option (List ℕ)) → appended w [] ≡ w
appended-nil = grind (arith, append-nil)
