-- What the calls of a source of files do.
use Rattle.std.specs.Prelude.{◌≡◌, ◌<◌, ◌≤◌, ℕ, List, [], take, drop, length, Option, Some, None}
use Rattle.std.specs.FinMap.{get}
use Rattle.meaning_cells.specs.Text.{Text, Contents}
use Rattle.outside_io.specs.Count.{raised}
use Rattle.outside_io.specs.declared.files.Fetch.{Fetch}
use Rattle.outside_io.specs.declared.files.Fetch.TheVariants.{Fetched, Absent, Failed}
use Rattle.outside_io.specs.declared.files.Got.{Got}
use Rattle.outside_io.specs.declared.files.Got.TheVariants.{Bytes, End, Failed as ReadFailed}

-- What is seen of a source of files: what each path holds and what is left of the fetched file, where they are told.
-- Beside them its counts: calls that have failed, fetches that found no file, fetches, and bytes taken since the last fetch.
pub record FilesValue : Type 0 where
  pub contents : Option Contents
  pub rest : Option (List ℕ)
  pub faults : ℕ
  pub absences : ℕ
  pub fetches : ℕ
  pub taken : ℕ

-- what no call changes, and the counts that none lowers
pub record Serves (old new : FilesValue) : Type 0 where
  pub contents : new.contents ≡ old.contents
  pub faults : old.faults ≤ new.faults
  pub absences : old.absences ≤ new.absences

-- The rest after a fetch. Only a path that isn't held is absent.
abbrev pub Fetches : Contents → Text → Fetch → Option (List ℕ) → Type 0
Fetches held path Fetched rest = (get held path ≡ rest) × ((bytes : List ℕ) × (rest ≡ Some bytes))
Fetches held path Absent rest = (get held path ≡ None) × (rest ≡ Some [])
Fetches held path Failed rest = rest ≡ Some []

-- The rest after a read. The bytes stand at the front of the piece.
abbrev pub Reads : List ℕ → Got → List ℕ → Option (List ℕ) → Type 0
Reads before (Bytes n) piece rest = (n ≤ length before) × (take n piece ≡ take n before) × (rest ≡ Some (drop n before))
Reads before End piece rest = (before ≡ []) × (rest ≡ Some [])
Reads before ReadFailed piece rest = rest ≡ Some before

-- at least one byte and at most so many
abbrev pub IsGotWithin : Got → ℕ → Type 0
IsGotWithin (Bytes n) most = (0 < n) × (n ≤ most)
IsGotWithin End most = Unit {0}
IsGotWithin ReadFailed most = Unit {0}

-- the count of the bytes taken, after a read
abbrev pub taken_after : Got → ℕ → ℕ
taken_after (Bytes n) count = raised count n
taken_after End count = count
taken_after ReadFailed count = count
