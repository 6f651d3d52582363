-- What it is that a text is cut into.
use Rattle.std.specs.Prelude.{◌≡◌, ◌≢◌, ℕ, ◌+◌, ◌==◌, Bool, true, nat_le, List, [], ◌∷◌, ◌++◌}
use Rattle.std.specs.List.{concat}
use Rattle.script_tokens.specs.language.Pieces.{Mode, plain, mode_after, opens, closes, choose, pieces}

-- Whether no more brackets are open after these bytes, where so many were opened and closed before them. A text and a comment end before a line feed.
unfoldable pub is_closed : Mode → ℕ → ℕ → List ℕ → Bool
is_closed mode opened closed [] = nat_le opened closed
is_closed mode opened closed (b ∷ bs) =
    choose (b == 10) (is_closed plain opened closed bs) (is_closed (mode_after mode b) (opened + opens mode b) (closed + closes mode b) bs)

-- some bytes, and no line feed before their last one stands outside brackets
abbrev pub IsPieceFrom : Mode → ℕ → ℕ → List ℕ → Type 0
IsPieceFrom mode opened closed piece = (piece ≢ []) × ((front back : List ℕ) → piece ≡ front ++ 10 ∷ back → is_closed mode opened closed front ≡ true → back ≡ [])

-- the last byte is a line feed outside brackets
abbrev pub IsEnded : Mode → ℕ → ℕ → List ℕ → Type 0
IsEnded mode opened closed piece = (front : List ℕ) × (piece ≡ front ++ 10 ∷ []) × (is_closed mode opened closed front ≡ true)

-- the rest of a piece and the pieces after it, each of which but the last is ended
abbrev pub AreCutFrom : Mode → ℕ → ℕ → List (List ℕ) → Type 0
AreCutFrom mode opened closed [] = Unit {0}
AreCutFrom mode opened closed (p ∷ []) = IsPieceFrom mode opened closed p
AreCutFrom mode opened closed (p ∷ q ∷ ps) = IsPieceFrom mode opened closed p × IsEnded mode opened closed p × AreCutFrom plain 0 0 (q ∷ ps)

-- The pieces joined are the bytes. None is empty; each ends with its first line feed outside brackets, and the last one there or at the end of the bytes.
abbrev pub IsCut : List ℕ → Type 0
IsCut bytes = (concat (pieces bytes) ≡ bytes) × AreCutFrom plain 0 0 (pieces bytes)
