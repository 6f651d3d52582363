-- Bytes begin with an operator or a mark.
use Rattle.{
  meaning_language.{proofs.cells.Common.{◌≡◌, ◌⊎◌, inl, inr, refl, ℕ, false, if◌then◌else◌, Option, Some, None, eqb, List, [], ◌∷◌, drop, get_or, arith, eqb_tells, Binary, add}, specs.{Tree.{sub, mul, floor_div, mod_, eq, ne, lt, le, gt, ge, and, or, xor}, Token.{Token, op, mark, Mark, equals, dot, comma, colon, tilde, open_paren, close_paren, open_bracket, close_bracket, open_brace, close_brace, byte_of, spelling_of, begins_with, IsToken}}},
  script_tokens.specs.Absent.{BeginsNoLongOperator, BeginsNoSign},
}

no_equals : (o : Binary) (a : ℕ) (rest : List ℕ) → spelling_of o ≡ a ∷ 61 ∷ [] → BeginsNoLongOperator (a ∷ rest) → begins_with (λ b. eqb b 61) rest ≡ false
no_equals = grind (arith, eqb_tells)

pub short_operator_stands : (o : Binary) (bytes rest : List ℕ) (a : ℕ) → spelling_of o ≡ a ∷ [] → bytes ≡ a ∷ rest → BeginsNoLongOperator bytes → IsToken (op o) bytes rest
short_operator_stands lt bytes rest a s e none = grind (arith, no_equals le a rest, none le)
short_operator_stands gt bytes rest a s e none = grind (arith, no_equals ge a rest, none ge)
short_operator_stands _ bytes rest a s e none = grind arith

pub mark_stands : (m : Mark) (bytes rest : List ℕ) (a : ℕ) → byte_of m ≡ a → bytes ≡ a ∷ rest → BeginsNoLongOperator bytes → IsToken (mark m) bytes rest
mark_stands equals bytes rest a s e none = grind (arith, no_equals eq a rest, none eq)
mark_stands _ bytes rest a s e none = grind arith

pub no_sign : (bytes : List ℕ) (a : ℕ) → get_or bytes 0 0 ≡ a → BeginsNoLongOperator bytes → ((o : Binary) → spelling_of o ≡ a ∷ [] → ⊥) → ((m : Mark) → byte_of m ≡ a → ⊥) → BeginsNoSign bytes
no_sign = grind arith

-- the operator that two bytes spell
long : ℕ → ℕ → Option Token
long a b =
    if eqb a 47 then (if eqb b 47 then Some (op floor_div) else None)
    else if eqb a 61 then (if eqb b 61 then Some (op eq) else None)
    else if eqb a 33 then (if eqb b 61 then Some (op ne) else None)
    else if eqb a 60 then (if eqb b 61 then Some (op le) else None)
    else if eqb a 62 then (if eqb b 61 then Some (op ge) else None)
    else None

-- the operator or mark that one byte spells
short : ℕ → Option Token
short a =
    if eqb a 43 then Some (op add)
    else if eqb a 45 then Some (op sub)
    else if eqb a 42 then Some (op mul)
    else if eqb a 37 then Some (op mod_)
    else if eqb a 60 then Some (op lt)
    else if eqb a 62 then Some (op gt)
    else if eqb a 38 then Some (op and)
    else if eqb a 124 then Some (op or)
    else if eqb a 94 then Some (op xor)
    else if eqb a 61 then Some (mark equals)
    else if eqb a 46 then Some (mark dot)
    else if eqb a 44 then Some (mark comma)
    else if eqb a 58 then Some (mark colon)
    else if eqb a 126 then Some (mark tilde)
    else if eqb a 40 then Some (mark open_paren)
    else if eqb a 41 then Some (mark close_paren)
    else if eqb a 91 then Some (mark open_bracket)
    else if eqb a 93 then Some (mark close_bracket)
    else if eqb a 123 then Some (mark open_brace)
    else if eqb a 125 then Some (mark close_brace)
    else None

-- the longer one, where there is one
longer : Option Token → Option Token → List ℕ → Option (Token × List ℕ)
longer (Some t) _ rest = Some (t, drop 1 rest)
longer None (Some t) rest = Some (t, rest)
longer None None _ = None

-- the sign that bytes begin with, and what follows it
pub sign : List ℕ → Option (Token × List ℕ)
sign [] = None
sign (a ∷ rest) = longer (long a (get_or rest 0 0)) (short a) rest

pub operator_reads : (o : Binary) (bytes rest : List ℕ) → IsToken (op o) bytes rest → sign bytes ≡ Some (op o, rest)
unfolding sign longer long short
operator_reads = grind (arith, sign)

pub mark_reads : (m : Mark) (bytes rest : List ℕ) → IsToken (mark m) bytes rest → sign bytes ≡ Some (mark m, rest)
unfolding sign longer long short
mark_reads = grind (arith, sign)

pub sign_sound : (bytes rest : List ℕ) (t : Token) → sign bytes ≡ Some (t, rest) → IsToken t bytes rest
unfolding sign longer long short
sign_sound [] = grind arith
sign_sound (a ∷ []) = grind (arith, eqb_tells)
sign_sound (a ∷ b ∷ bs) = grind (arith, eqb_tells)

-- bytes begin with a sign, or they don't
pub sign_decided : (bytes : List ℕ) → ((t : Token) × (rest : List ℕ) × IsToken t bytes rest) ⊎ BeginsNoSign bytes
sign_decided bytes = go (sign bytes) refl
  where
    go : (found : Option (Token × List ℕ)) → sign bytes ≡ found → ((t : Token) × (rest : List ℕ) × IsToken t bytes rest) ⊎ BeginsNoSign bytes
    go None is = inr (grind (arith, operator_reads, mark_reads))
    go (Some (t, rest)) is = inl (t, rest, sign_sound bytes rest t is)
