-- A script read piece by piece.
use Rattle.{
  script_tokens.{proofs.cells.Common.{◌≡◌, ℕ, suc, ◌+◌, ◌-◌, ◌<◌, List, [], ◌∷◌, ◌++◌, refl, sym, ◌∙◌, ap, subst, append_assoc, arith, inl, inr, ◌≤◌, length, take, drop, Ok, Err, true, nat_eq as eqb, append-nil, nat_tests, IsUtf8}, specs.language.{Pieces.{pieces, cut}, Script.{IsBlank, IsStatement, IsRight, ArePieces, IsFirstWrong, most_bytes, most_statements, line_ends}}},
  script_syntax.specs.{PieceRead.{Reads, IsOneStatement, IsPieceRead, IsSettled}, declared.pieces.{PieceRead.{PieceRead, TheVariants.{Blank, Statement, Wrong}}, ParseFault.{ParseFault, TheVariants.{SyntaxAt, TooLarge, NoMemory}}}, Parsed.{IsParsed, IsTheScript, IsTheSyntaxLine}},
}
use Rattle.script_tokens.specs.language.Tree as tree

module _ (piece : List ℕ) (rest : List (List ℕ)) (left line : ℕ) (made : List tree.Statement) (all : List (List ℕ)) (so_far : Reads made left line (piece ∷ rest) all) where
  -- a blank piece
  pub reads_blank : IsUtf8 piece → IsBlank piece → ((action : tree.Action) → IsStatement action piece → ⊥) → Reads made left (line + line_ends piece) rest all
  reads_blank text blank none =
      record {
        there = grind arith;
        back = grind (arith, only);
        wrong = grind arith;
        wrong_back = grind (arith, only_wrong);
      }
    where
      only : (more : List tree.Statement) → ArePieces left line (piece ∷ rest) more → ArePieces left (line + line_ends piece) rest more
      only more (inl is) = is.2
      only more (inr is) = search

      only_wrong : (at : ℕ) → IsFirstWrong left line (piece ∷ rest) at → IsFirstWrong left (line + line_ends piece) rest at
      only_wrong at (inl is) = is.2
      only_wrong at (inr (inl is)) = search
      only_wrong at (inr (inr is)) = grind arith

  -- a piece that is one statement
  pub reads_statement : (action : tree.Action) → IsOneStatement action piece → 0 < left → Reads (made ++ record { line = line; action = action } ∷ []) (left - 1) (line + line_ends piece) rest all
  reads_statement action one some =
      record {
        there = λ more is. subst (ArePieces most_statements 1 all) (sym (append_assoc made (st ∷ []) more)) (so_far.there (st ∷ more) (inr (left - 1, action, more, counted, one.0, one.1, refl, is)));
        back = λ ss is. let b = so_far.back ss is in let o = only _ b.2 in (o.0, b.1 ∙ ap (λ l. made ++ l) o.1 ∙ sym (append_assoc made (st ∷ []) o.0), o.2);
        wrong = λ at is. so_far.wrong at (inr (inl (left - 1, action, counted, one.0, one.1, is)));
        wrong_back = λ at is. only_wrong at (so_far.wrong_back at is);
      }
    where
      st : tree.Statement
      st = record { line = line; action = action }

      counted : left ≡ suc (left - 1)
      counted = omega arith

      same_left : (fewer : ℕ) → left ≡ suc fewer → fewer ≡ left - 1
      same_left = omega arith

      only : (ss : List tree.Statement) → ArePieces left line (piece ∷ rest) ss → (more : List tree.Statement) × (ss ≡ st ∷ more) × ArePieces (left - 1) (line + line_ends piece) rest more
      only ss (inl is) = absurd (one.3 is.1)
      only ss (inr is) =
          let here : List tree.Statement → tree.Action → List tree.Statement = λ more f. record { line = line; action = f } ∷ more in
          (is.2, is.6 ∙ ap (here is.2) (one.2 is.1 is.5), subst (λ n. ArePieces n (line + line_ends piece) rest is.2) (same_left _ is.3) is.7)

      only_wrong : (at : ℕ) → IsFirstWrong left line (piece ∷ rest) at → IsFirstWrong (left - 1) (line + line_ends piece) rest at
      only_wrong at (inl is) = absurd (one.3 is.1)
      only_wrong at (inr (inl is)) = subst (λ n. IsFirstWrong n (line + line_ends piece) rest at) (same_left _ is.2) is.5
      only_wrong at (inr (inr is)) = absurd (is.1 (one.0, inr ((λ none. absurd (omega (arith, none))), (action, one.1))))

  -- a piece that isn't right
  pub reads_wrong : (bytes : List ℕ) → all ≡ pieces bytes → (IsRight left piece → ⊥) → IsTheSyntaxLine bytes line
  reads_wrong bytes is not_right =
      subst (λ ps. IsFirstWrong most_statements 1 ps line × ((other : ℕ) → IsFirstWrong most_statements 1 ps other → other ≡ line) × ((ss : List tree.Statement) → ArePieces most_statements 1 ps ss → ⊥)) is (
        grind arith,
        grind (arith, only),
        grind (arith, none),
      )
    where
      only : (other : ℕ) → IsFirstWrong left line (piece ∷ rest) other → other ≡ line
      only other (inl w) = grind arith
      only other (inr (inl w)) = grind arith
      only other (inr (inr w)) = w.0

      none : (ss : List tree.Statement) → ArePieces left line (piece ∷ rest) ss → ⊥
      none ss (inl s) = grind arith
      none ss (inr s) = grind arith

no_pieces : pieces [] ≡ []
unfolding cut
no_pieces = refl

-- all was read
pub reads_all : (made : List tree.Statement) (left line : ℕ) (bytes rest : List ℕ) → rest ≡ [] → Reads made left line (pieces rest) (pieces bytes) → IsTheScript bytes made
reads_all made left line bytes rest none so_far =
    let r = subst (λ ps. Reads made left line ps (pieces bytes)) (ap pieces none ∙ no_pieces) so_far in (
      subst (ArePieces most_statements 1 (pieces bytes)) (append-nil made) (r.there [] refl),
      grind (arith, append-nil),
      search,
    )

pub not_right : (left : ℕ) (piece : List ℕ) → (IsUtf8 piece → (IsBlank piece → ⊥) × ((action : tree.Action) → IsStatement action piece → ⊥)) → IsRight left piece → ⊥
not_right left piece is (text, inl blank) = (is text).0 blank
not_right left piece is (text, inr (some, other)) = (is text).1 other.0 other.1

-- the statement of a piece was added
pub settled : (piece : List ℕ) (rest : List (List ℕ)) (left line : ℕ) (old new : List tree.Statement) (more : ℕ) (all : List (List ℕ)) (read : PieceRead)
    → IsPieceRead piece read → IsSettled left line read old new (Ok more) → Reads old left line (piece ∷ rest) all → Reads new more (line + line_ends piece) rest all
settled = grind (arith, reads_blank, reads_statement)

-- the piece isn't right, or memory was refused
pub unsettled : (bytes piece : List ℕ) (rest : List (List ℕ)) (left line : ℕ) (old new : List tree.Statement) (f : ParseFault) (read : PieceRead)
    → length bytes ≤ most_bytes → IsPieceRead piece read → IsSettled left line read old new (Err f) → Reads old left line (piece ∷ rest) (pieces bytes) → IsParsed bytes (Err f)
unsettled bytes piece rest left line old new NoMemory read small is done r = tt
unsettled bytes piece rest left line old new TooLarge read small is done r = search
unsettled bytes piece rest left line old new (SyntaxAt at) Blank small is done r = absurd done
unsettled bytes piece rest left line old new (SyntaxAt at) (Statement action) small is done r = grind (arith, reads_wrong)
unsettled bytes piece rest left line old new (SyntaxAt at) Wrong small is done r =
    (small, subst (IsTheSyntaxLine bytes) (sym done) (search (reads_wrong, not_right)))

-- the first piece, and the others
pub reads_first : (made : List tree.Statement) (left line n : ℕ) (bytes front back : List ℕ) (all : List (List ℕ))
    → pieces bytes ≡ take n bytes ∷ pieces (drop n bytes) → front ≡ take n bytes → back ≡ drop n bytes → Reads made left line (pieces bytes) all → Reads made left line (front ∷ pieces back) all
reads_first = grind arith

pub no_bytes : (bytes : List ℕ) → eqb (length bytes) 0 ≡ true → bytes ≡ []
no_bytes [] is = refl
no_bytes (b ∷ bs) is = absurd (grind (arith, nat_tests))
