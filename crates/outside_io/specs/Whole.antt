-- A whole file, where the contents are told.
use Rattle.std.specs.Prelude.{◌≡◌, ◌<◌, ℕ, List, length, Option, Some, None, IfSome}
use Rattle.std.specs.FinMap.{get}
use Rattle.meaning_cells.specs.Text.{Text, Contents}

-- the bytes are those held under the path
abbrev pub IsWholeFile : Option Contents → Text → List ℕ → Type 0
IsWholeFile contents path bytes = IfSome contents (λ held. get held path ≡ Some bytes)

-- nothing is held under the path
abbrev pub IsAbsent : Option Contents → Text → Type 0
IsAbsent contents path = IfSome contents (λ held. get held path ≡ None)

-- more bytes than the limit are held under the path
abbrev pub IsLonger : Option Contents → Text → ℕ → Type 0
IsLonger contents path limit = IfSome contents (λ held. (bytes : List ℕ) × (get held path ≡ Some bytes) × (limit < length bytes))
