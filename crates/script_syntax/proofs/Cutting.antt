-- The pieces of a text, joined and one by one.
use Rattle.{
  script_tokens.{proofs.cells.Common.{arith, ◌≡◌, ℕ, ◌+◌, Bool, true, false, List, [], ◌∷◌, ◌++◌, refl, leb, eqb, eqb-true}, specs.language.Pieces.{Mode, plain, mode_after, opens, closes, choose, into_first, cut}},
  std.specs.List.{concat},
  script_syntax.specs.Cut.{is_closed, IsPieceFrom, IsEnded, AreCutFrom, IsCut},
}

chosen : {A : Type 0} (P : A → Type 0) (t : Bool) (x y : A) → (t ≡ true → P x) → (t ≡ false → P y) → P (choose t x y)
unfolding choose
chosen = grind arith

into_joined : (b : ℕ) (ps : List (List ℕ)) → concat (into_first b ps) ≡ b ∷ concat ps
into_joined = grind arith

cut_joined : (bs : List ℕ) (mode : Mode) (opened closed : ℕ) → concat (cut mode opened closed bs) ≡ bs
unfolding cut choose
cut_joined [] mode opened closed = refl
cut_joined (b ∷ bs) mode opened closed = grind (arith, into_joined, cut_joined bs)

-- a byte before the rest of a piece, in which a line feed stands inside brackets
module _ (b : ℕ) (mode next : Mode) (opened closed opened' closed' : ℕ)
    (goes : (front : List ℕ) → is_closed mode opened closed (b ∷ front) ≡ is_closed next opened' closed' front) (inside : b ≡ 10 → leb opened closed ≡ false) where
  piece_into : (p : List ℕ) → ((front back : List ℕ) → p ≡ front ++ 10 ∷ back → is_closed next opened' closed' front ≡ true → back ≡ []) → IsPieceFrom mode opened closed (b ∷ p)
  unfolding is_closed
  piece_into p only = ((λ e. absurd cc), one)
    where
      one : (front back : List ℕ) → b ∷ p ≡ front ++ 10 ∷ back → is_closed mode opened closed front ≡ true → back ≡ []
      one [] = grind arith
      one (x ∷ front) = grind arith

  cut_into : (ps : List (List ℕ)) → AreCutFrom next opened' closed' ps → AreCutFrom mode opened closed (into_first b ps)
  cut_into [] is = piece_into [] none
    where
      none : (front back : List ℕ) → [] ≡ front ++ 10 ∷ back → is_closed next opened' closed' front ≡ true → back ≡ []
      none [] back e c = absurd cc
      none (x ∷ front) back e c = absurd cc
  cut_into (p ∷ []) is = piece_into p is.1
  cut_into (p ∷ q ∷ ps) is = grind (arith, piece_into)

-- a piece that is a line feed
line_feed : (b : ℕ) (mode : Mode) (opened closed : ℕ) → b ≡ 10 → leb opened closed ≡ true → IsPieceFrom mode opened closed (b ∷ []) × IsEnded mode opened closed (b ∷ [])
unfolding is_closed
line_feed b mode opened closed is c = (((λ e. absurd cc), only), grind arith)
  where
    only : (front back : List ℕ) → b ∷ [] ≡ front ++ 10 ∷ back → is_closed mode opened closed front ≡ true → back ≡ []
    only [] back e d = cc
    only (x ∷ []) back e d = absurd cc
    only (x ∷ y ∷ front) back e d = absurd cc

cut_after : (mode : Mode) (opened closed : ℕ) (p : List ℕ) (ps : List (List ℕ)) → IsPieceFrom mode opened closed p → IsEnded mode opened closed p → AreCutFrom plain 0 0 ps → AreCutFrom mode opened closed (p ∷ ps)
cut_after = grind arith

goes_line : (b : ℕ) (mode : Mode) (opened closed : ℕ) → eqb b 10 ≡ true → (front : List ℕ) → is_closed mode opened closed (b ∷ front) ≡ is_closed plain opened closed front
unfolding is_closed choose
goes_line b mode opened closed t front = rw t refl

goes_on : (b : ℕ) (mode : Mode) (opened closed : ℕ) → eqb b 10 ≡ false → (front : List ℕ) → is_closed mode opened closed (b ∷ front) ≡ is_closed (mode_after mode b) (opened + opens mode b) (closed + closes mode b) front
unfolding is_closed choose
goes_on b mode opened closed t front = rw t refl

cut_pieces : (mode : Mode) (opened closed : ℕ) (bs : List ℕ) → AreCutFrom mode opened closed (cut mode opened closed bs)
unfolding cut
cut_pieces mode opened closed [] = tt
cut_pieces mode opened closed (b ∷ bs) =
    chosen (AreCutFrom mode opened closed) _ _ _
    (λ t. chosen (AreCutFrom mode opened closed) _ _ _
    (λ u. let one = line_feed b _ _ _ (eqb-true b 10 t) u in cut_after _ _ _ _ _ one.0 one.1 (cut_pieces _ 0 0 bs))
    (λ u. cut_into b _ _ _ _ _ _ (goes_line b _ _ _ t) (λ e. u) _ (cut_pieces _ _ _ bs)))
    (λ t. grind (arith, cut_into, goes_on, cut_pieces (mode_after mode b) (opened + opens mode b) (closed + closes mode b) bs))

pub is_cut : (bytes : List ℕ) → IsCut bytes
is_cut = search (cut_joined, cut_pieces)
