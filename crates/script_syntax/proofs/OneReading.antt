-- A text is a script, or it has a syntax line.
use Rattle.{
  script_tokens.{proofs.{cells.Common.{◌≡◌, ◌⊎◌, inl, inr, ℕ, zero, suc, ◌-◌, ◌+◌, List, [], ◌∷◌, Option, Some, None, refl, arith, IsUtf8}, Runs.{true_or_false, not_both}}, specs.language.{Token.{Token, Lexes, skip}, Tree.{Action, Statement}, Pieces.{pieces, cut}, Script.{IsBlank, IsStatement, most_statements, line_ends}}},
  std.{proofs.lemmas.Str.{IsUtf8-from_is_utf8, is_utf8-from_IsUtf8}, specs.Str.{is_utf8}},
  script_syntax.{specs.{Reading.{action_read}, PieceRead.{Reads, IsOneStatement}, OneReading.{HasOneReading}}, proofs.{Decided.{lexed}, PieceLaws.{blank_is_none, no_statement, one_statement}, ScriptLaws.{reads_blank, reads_statement, reads_wrong, not_right, reads_all}}},
}

pub data PieceKind (piece : List ℕ) : Type 0 where
  blank : IsUtf8 piece → IsBlank piece → PieceKind piece
  statement : (action : Action) → IsOneStatement action piece → PieceKind piece
  wrong : (IsUtf8 piece → (IsBlank piece → ⊥) × ((action : Action) → IsStatement action piece → ⊥)) → PieceKind piece

is_blank : (piece : List ℕ) → IsBlank piece ⊎ (IsBlank piece → ⊥)
is_blank piece = chosen _ refl
  where
    chosen : (rest : List ℕ) → skip piece ≡ rest → IsBlank piece ⊎ (IsBlank piece → ⊥)
    chosen [] is = inl is
    chosen (b ∷ bs) is = grind arith

filled : (piece : List ℕ) → IsUtf8 piece → (IsBlank piece → ⊥) → PieceKind piece
filled piece text full = elim (lexed piece) [
  | inl (ts, l) ↦ read ts l (action_read ts) refl
  | inr none ↦ wrong (λ t. (full, λ action s. none (s.0, s.1)))
]
  where
    read : (ts : List Token) → Lexes ts piece → (found : Option Action) → action_read ts ≡ found → PieceKind piece
    read ts l None is = wrong (λ t. (full, no_statement ts piece l is))
    read ts l (Some action) is = statement action (one_statement action ts piece text full l is)

kind_of : (piece : List ℕ) → PieceKind piece
kind_of piece = elim (true_or_false (is_utf8 piece)) [
  | inl text ↦ elim (is_blank piece) [
    | inl is ↦ blank (IsUtf8-from_is_utf8 piece text) is
    | inr full ↦ filled piece (IsUtf8-from_is_utf8 piece text) full
  ]
  | inr against ↦ wrong (λ text. absurd (not_both _ (is_utf8-from_IsUtf8 piece text) against))
]

module _ (bytes piece : List ℕ) (rest : List (List ℕ)) (line : ℕ) (made : List Statement)
    (goes_on : (left line : ℕ) (made : List Statement) → Reads made left line rest (pieces bytes) → HasOneReading bytes) where
  by_kind : PieceKind piece → (left : ℕ) → Reads made left line (piece ∷ rest) (pieces bytes) → HasOneReading bytes
  by_kind (blank text is) left r = goes_on left (line + line_ends piece) made (search (reads_blank, blank_is_none))
  by_kind (statement action one) zero r = inr (line, reads_wrong _ _ _ _ _ _ r bytes refl (grind arith))
  by_kind (statement action one) (suc fewer) r = goes_on (suc fewer - 1) (line + line_ends piece) _ (reads_statement _ _ _ _ _ _ r action one (omega arith))
  by_kind (wrong is) left r = inr (line, reads_wrong _ _ _ _ _ _ r bytes refl (not_right left piece is))

read_from : (bytes : List ℕ) (rest : List (List ℕ)) (left line : ℕ) (made : List Statement) → Reads made left line rest (pieces bytes) → HasOneReading bytes
unfolding cut
read_from bytes [] left line made r = inl (made, reads_all _ _ _ _ [] refl r)
read_from bytes (piece ∷ rest) left line made r = by_kind _ _ _ _ _ (λ n l m s. read_from _ _ n l m s) (kind_of _) left r

pub one_reading : (bytes : List ℕ) → HasOneReading bytes
one_reading bytes = read_from bytes (pieces bytes) most_statements 1 [] (search)
