-- A piece is blank, or it is one statement, or neither.
use Rattle.{
  script_tokens.{proofs.{cells.Common.{◌≡◌, ◌↔◌, ℕ, Bool, false, List, [], Option, Some, None, subst, arith, IsTrue, MatchOption, IsUtf8}, BlankLaws.{Lexes-blank}, LexLaws.{Lexes-unique}}, specs.language.{Token.{Token, Lexes}, Tree.{Action}, Grammar.{SpellsAction}, Script.{IsBlank, IsStatement}}},
  script_syntax.{specs.{Reading.{action_read}, PieceRead.{IsOneStatement}}, proofs.{Shorter.{expr_shorter}, Law.{form_sound, form_complete}}},
}

no_action : (action : Action) → SpellsAction action [] → ⊥
no_action = grind (arith, expr_shorter)

pub blank_is_none : (piece : List ℕ) → IsBlank piece → (action : Action) → IsStatement action piece → ⊥
blank_is_none piece blank action (ts, l, s, d) = no_action _ (subst (SpellsAction action) (Lexes-blank ts _ blank l) s)

pub no_statement : (ts : List Token) (piece : List ℕ) → Lexes ts piece → action_read ts ≡ None → (action : Action) → IsStatement action piece → ⊥
no_statement ts piece l none action (us, m, s, d) =
    let read = form_complete _ ts (subst (SpellsAction action) (Lexes-unique us ts _ m l) s) d in
    absurd cc

pub one_statement : (action : Action) (ts : List Token) (piece : List ℕ) → IsUtf8 piece → (IsBlank piece → ⊥) → Lexes ts piece → action_read ts ≡ Some action → IsOneStatement action piece
one_statement action ts piece text filled l read =
    let sound = rw read at (form_sound ts) in
    (text, search, only, filled)
  where
    only : (other : Action) → IsStatement other piece → other ≡ action
    only other (us, m, s, d) =
        let again = form_complete _ ts (subst (SpellsAction other) (Lexes-unique us ts _ m l) s) d in
        cc

-- a piece that was found to be filled isn't blank
pub filled_of : (blank : Bool) (piece : List ℕ) → (IsTrue blank ↔ IsBlank piece) → blank ≡ false → IsBlank piece → ⊥
filled_of = grind arith

-- the tokens that were found are those of the piece that the text is
pub lexes_of : {A : Type 0} (found : Option A) (x : A) (view : A → List Token) (text piece : List ℕ) (None' : Type 0) → found ≡ Some x → MatchOption found None' (λ y. Lexes (view y) text)
    → text ≡ piece → Lexes (view x) piece
lexes_of = grind arith
