-- What parts of a statement begin with, and what may follow them.
use Rattle.{
  script_tokens.{proofs.cells.Common.{arith, ◌≡◌, ◌⊎◌, ℕ, Bool, true, false, List, [], ◌∷◌, None, codes, list_any, same_text}, specs.language.{Token.{Token, word, mark, Mark, equals, dot, colon, tilde, open_paren, close_paren, open_bracket, close_bracket, open_brace, close_brace}, Tree.{Expr, Step, OptionalExpr, Tagging, Tag, Arg, binary, after, item, no_expr, some_expr, expr}, Grammar.{SpellsTag, SpellsExpr, SpellsStep, SpellsStride, SpellsArg}}},
  script_syntax.{proofs.Gives.{reserved_is_none, other_mark}, specs.Reading.{and_then, pick, after_mark, name_at, target_at, operator_at, begins_step, ends_bound, word_at}},
}

-- ---- what an expression, an argument and a literal begin with

abbrev pub StartsExpr : List Token → Type 0
StartsExpr [] = ⊥
StartsExpr (word w ∷ ts) = list_any (same_text w) (codes "None" ∷ codes "del" ∷ codes "import" ∷ codes "print" ∷ []) ≡ false
StartsExpr (mark m ∷ ts) = (m ≡ open_paren) ⊎ (m ≡ tilde)
StartsExpr _ = Unit {0}

abbrev pub opens_arg : Mark → Bool
opens_arg open_paren = true
opens_arg tilde = true
opens_arg open_bracket = true
opens_arg open_brace = true
opens_arg m = false

abbrev pub StartsArg : List Token → Type 0
StartsArg [] = ⊥
StartsArg (mark m ∷ ts) = opens_arg m ≡ true
StartsArg _ = Unit {0}

pub expr_starts : (x : Expr) (l : ℕ) (ts us : List Token) → SpellsExpr x l ts us → StartsExpr ts
expr_starts (binary o x y) = grind (arith, expr_starts x)
expr_starts (after x p) = grind (arith, expr_starts x)
expr_starts _ = grind arith

pub as_arg : (ts : List Token) → StartsExpr ts → StartsArg ts
as_arg = grind arith

pub arg_starts : (a : Arg) (ts us : List Token) → SpellsArg a ts us → StartsArg ts
arg_starts (expr x) = grind (arith, as_arg, expr_starts)
arg_starts _ = grind arith

pub part_starts : (by : Tagging) (tag : Tag by) (a : Arg) (ts us vs : List Token) → SpellsTag by tag ts us → SpellsArg a us vs → StartsArg ts
part_starts = grind (arith, arg_starts)

pub arg_no_mark : (m : Mark) (ts : List Token) → opens_arg m ≡ false → StartsArg ts → after_mark m ts ≡ None
unfolding after_mark
arg_no_mark = grind (arith, other_mark)

pub arg_no_end : (ts : List Token) → StartsArg ts → ends_bound ts ≡ false
unfolding ends_bound
arg_no_end = grind arith

pub expr_no_end : (ts : List Token) → StartsExpr ts → ends_bound ts ≡ false
expr_no_end ts s = arg_no_end ts (as_arg ts s)

-- ---- what begins as no target

pub step_begins : (p : Step) (ts us : List Token) → SpellsStep p ts us → (begins_step ts ≡ true) × (after_mark equals ts ≡ None)
unfolding after_mark pick begins_step
step_begins (item a) = grind arith
step_begins _ = grind arith

pub expr_no_target : (x : Expr) (l : ℕ) (ts us : List Token) → SpellsExpr x l ts us → after_mark equals us ≡ None → target_at ts ≡ None
unfolding target_at name_at word_at and_then after_mark pick
expr_no_target (binary o x y) = grind (arith, expr_no_target x)
expr_no_target (after x p) = grind (arith, expr_no_target x, step_begins)
expr_no_target _ = grind (arith, reserved_is_none)

pub arg_no_target : (a : Arg) (ts us : List Token) → SpellsArg a ts us → after_mark equals us ≡ None → target_at ts ≡ None
unfolding target_at name_at word_at and_then
arg_no_target (expr x) = grind (arith, expr_no_target)
arg_no_target _ = grind (arith, reserved_is_none)

-- a target of a setting begins as no name that is bound
pub put_no_target : (x : Expr) (p : Step) (ts us : List Token) → SpellsExpr (after x p) 7 ts us → target_at ts ≡ None
put_no_target x p ts us (vs, s, t) = expr_no_target x 7 ts vs s (step_begins p vs us t).1

-- ---- what ends an expression of a level

pub record Ends (l : ℕ) (us : List Token) : Type 0 where
  pub no_step : begins_step us ≡ false
  pub no_operator : operator_at l us ≡ None

abbrev opens_step : Mark → Bool
opens_step dot = true
opens_step open_bracket = true
opens_step m = false

pub mark_ends : (m : Mark) (us : List Token) → opens_step m ≡ false → Ends 0 (mark m ∷ us)
unfolding begins_step operator_at
mark_ends = grind arith

pub nil_ends : Ends 0 []
unfolding begins_step operator_at
nil_ends = search

-- what closes parts
abbrev pub Closes : Mark → Type 0
Closes close = (close ≡ close_paren) ⊎ (close ≡ close_bracket) ⊎ (close ≡ close_brace)

-- what ends a subscript
abbrev pub EndsBound : List Token → Type 0
EndsBound us = Ends 0 us × (ends_bound us ≡ true)

abbrev pub EndsSub : List Token → Type 0
EndsSub us = EndsBound us × (after_mark colon us ≡ None)

pub stride_ends : (by : OptionalExpr) (ts us : List Token) → EndsSub us → SpellsStride by ts us → EndsBound ts
unfolding ends_bound begins_step operator_at
stride_ends no_expr = grind arith
stride_ends (some_expr x) = grind arith
