-- The first piece, by its length, and the pieces after it.
use Rattle.meaning_language.{proofs.cells.Common.{◌≡◌, ℕ, suc, ◌+◌, ◌<◌, List, [], ◌∷◌, length, take, drop, refl, arith, leb, eqb}, specs.Pieces.{Mode, plain, mode_after, opens, closes, choose, cut, pieces}}

-- how long the rest of a piece is, of whose brackets so many were opened and closed
unfoldable pub rest_len : Mode → ℕ → ℕ → List ℕ → ℕ
rest_len mode opened closed [] = 0
rest_len mode opened closed (b ∷ bs) =
    suc (choose (eqb b 10)
    (choose (leb opened closed) 0 (rest_len plain opened closed bs))
    (rest_len (mode_after mode b) (opened + opens mode b) (closed + closes mode b) bs))

abbrev pub IsFirst : Mode → ℕ → ℕ → List ℕ → Type 0
IsFirst mode opened closed bs = cut mode opened closed bs ≡ take (rest_len mode opened closed bs) bs ∷ pieces (drop (rest_len mode opened closed bs) bs)

cut_first : (mode : Mode) (opened closed b : ℕ) (bs : List ℕ) → IsFirst mode opened closed (b ∷ bs)
unfolding cut rest_len choose
cut_first _ o c b [] = grind arith
cut_first mode o c b (e ∷ es) = grind (arith, cut_first plain o c e es, cut_first (mode_after mode b) (o + opens mode b) (c + closes mode b) e es)

-- the first piece of bytes, where there are any
pub pieces_first : (bytes : List ℕ) (n : ℕ) → n ≡ rest_len plain 0 0 bytes → 0 < length bytes → pieces bytes ≡ take n bytes ∷ pieces (drop n bytes)
pieces_first [] n e some = absurd (omega arith)
pieces_first (b ∷ bs) n e _ = rw e (cut_first _ 0 0 b bs)

pub rest_len-none : (mode : Mode) (opened closed : ℕ) (bs : List ℕ) → length bs < 1 → rest_len mode opened closed bs ≡ 0
unfolding rest_len
rest_len-none _ o c [] _ = refl
rest_len-none _ o c (b ∷ bs) none = absurd (omega arith)
