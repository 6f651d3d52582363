-- Texts that stand one after the other in a buffer.
use Rattle.std.specs.Prelude.{◌≡◌, ℕ, ◌+◌, List, [], ◌∷◌, length, slice_index_or, All, IsUtf8}
use Rattle.std.specs.List.{concat, slice_range}

-- where the texts start, if the first one starts here
abbrev pub starts_from : ℕ → List (List ℕ) → List ℕ
starts_from n [] = []
starts_from n (t ∷ ts) = n ∷ starts_from (n + length t) ts

-- the texts that start at these places, each up to the next start, and the last one up to the end
abbrev pub pieces : List ℕ → List ℕ → List (List ℕ)
pieces [] bytes = []
pieces (n ∷ ns) bytes = slice_range bytes n (slice_index_or ns 0 (length bytes)) ∷ pieces ns bytes

-- the buffer has texts and nothing else, and each is UTF-8
pub record IsBuffer (starts bytes : List ℕ) : Type 0 where
  pub texts : List (List ℕ)
  pub placed : starts ≡ starts_from 0 texts
  pub joined : bytes ≡ concat texts
  pub utf8 : All IsUtf8 texts
