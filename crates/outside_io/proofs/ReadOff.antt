-- How far a fetched file was read, and what that says of the file that is held.
use Rattle.{
  meaning_cells.proofs.Common.{arith, ◌≡◌, ◌<◌, ℕ, List, ◌++◌, length, Option, Some, IfSome, Text, Contents},
  outside_io.specs.{declared.files.Fetch.TheVariants.{Fetched}, Files.{Fetches}, Whole.{IsWholeFile, IsLonger}},
}

-- these bytes were read of the whole, and the rest is left
abbrev pub IsReadOff : Option (List ℕ) → List ℕ → Option (List ℕ) → Type 0
IsReadOff whole bytes rest = IfSome whole (λ all. (more : List ℕ) × (rest ≡ Some more) × (all ≡ bytes ++ more))

-- all that was left after the fetch is the whole file
pub whole-from_rest : (contents : Option Contents) (path : Text) (rest : Option (List ℕ)) (bytes : List ℕ) → IfSome contents (λ held. Fetches held path Fetched rest) → IfSome rest (λ all. all ≡ bytes) → IsWholeFile contents path bytes
whole-from_rest = grind arith

-- more than the limit was left after the fetch, and so the file is longer
pub longer-from_rest : (contents : Option Contents) (path : Text) (rest : Option (List ℕ)) (limit : ℕ) → IfSome contents (λ held. Fetches held path Fetched rest) → IfSome rest (λ all. limit < length all) → IsLonger contents path limit
longer-from_rest = grind arith
