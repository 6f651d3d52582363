-- A part of a statement has a token, and an expression of a level is one of each lower level.
use Rattle.script_tokens.{proofs.cells.Common.{ℕ, ◌<◌, ◌≤◌, ◌⊎◌, List, length, arith}, specs.language.{Token.{Token, Mark}, Tree.{Expr, Step, Sub, OptionalSub, OptionalArg, OptionalExpr, Tagging, bare, named, keyed, Tag, Arg, Parts, name, literal, unary, binary, after, len, make, paren, item, access, method, text_method, group, rolling, expanding, key, span, no_sub, some_sub, no_arg, some_arg, no_expr, some_expr, expr, many, row, table, no_parts, more_parts}, Grammar.{SpellsLiteral, SpellsTag, SpellsComma, SpellsExpr, SpellsStep, SpellsSecond, SpellsBrackets, SpellsSub, SpellsBound, SpellsStride, SpellsArg, SpellsParts}}}
use Rattle.script_tokens.specs.language.Tree as tree

pub literal_shorter : (v : tree.Literal) (ts us : List Token) → SpellsLiteral v ts us → length us < length ts
literal_shorter = grind arith

pub tag_shorter : (by : Tagging) (tag : Tag by) (ts us : List Token) → SpellsTag by tag ts us → length us ≤ length ts
tag_shorter = grind (arith, literal_shorter)

pub comma_shorter : {by : Tagging} (last : Tag by) (r : Parts by) (ts us : List Token) → SpellsComma last r ts us → length us ≤ length ts
comma_shorter last no_parts = grind arith
comma_shorter last (more_parts tag a r) = grind arith

-- what is spelled takes a token
abbrev pub Shortens : (List Token → List Token → Type 0) → Type 0
Shortens Spells = (ts us : List Token) → Spells ts us → length us < length ts

mutual
  pub expr_shorter : (x : Expr) (l : ℕ) → Shortens (SpellsExpr x l)
  expr_shorter (name n) = grind arith
  expr_shorter (literal v) = grind (arith, literal_shorter)
  expr_shorter (unary o x) = grind (arith, expr_shorter x)
  expr_shorter (binary o x y) = grind (arith, expr_shorter x, expr_shorter y)
  expr_shorter (after x p) = grind (arith, expr_shorter x, step_shorter p)
  expr_shorter (len x) = grind (arith, expr_shorter x)
  expr_shorter (make n r) = grind (arith, parts_shorter r)
  expr_shorter (paren x) = grind (arith, expr_shorter x)

  pub step_shorter : (p : Step) → Shortens (SpellsStep p)
  step_shorter (item a) = grind (arith, arg_shorter a)
  step_shorter (access by s t) = grind (arith, sub_shorter s, second_shorter t)
  step_shorter (method n r) = grind (arith, parts_shorter r)
  step_shorter (text_method n r) = grind (arith, parts_shorter r)
  step_shorter (group r by n q) = grind (arith, parts_shorter r, optional_shorter by, parts_shorter q)
  step_shorter (rolling r n q) = grind (arith, parts_shorter r, parts_shorter q)
  step_shorter (expanding r n q) = grind (arith, parts_shorter r, parts_shorter q)

  second_shorter : (t : OptionalSub) → Shortens (SpellsSecond t)
  second_shorter no_sub = grind arith
  second_shorter (some_sub t) = grind (arith, sub_shorter t)

  optional_shorter : (a : OptionalArg) (ts us : List Token) → SpellsBrackets a ts us ⊎ SpellsBound a ts us → length us ≤ length ts
  optional_shorter no_arg = grind arith
  optional_shorter (some_arg a) = grind (arith, arg_shorter a)

  pub sub_shorter : (t : Sub) → Shortens (SpellsSub t)
  sub_shorter (key a) = grind (arith, arg_shorter a)
  sub_shorter (span from to by) = grind (arith, optional_shorter from, optional_shorter to, stride_shorter by)

  stride_shorter : (by : OptionalExpr) (ts us : List Token) → SpellsStride by ts us → length us ≤ length ts
  stride_shorter no_expr = grind arith
  stride_shorter (some_expr x) = grind (arith, expr_shorter x)

  pub arg_shorter : (a : Arg) → Shortens (SpellsArg a)
  arg_shorter (expr x) = grind (arith, expr_shorter x)
  arg_shorter (many parts) = grind (arith, parts_shorter parts)
  arg_shorter (row (more_parts tag a rest)) = grind (arith, arg_shorter a, parts_shorter rest)
  arg_shorter (table pairs) = grind (arith, parts_shorter pairs)
  arg_shorter _ = grind arith

  pub parts_shorter : {by : Tagging} (r : Parts by) (close : Mark) → Shortens (SpellsParts r close)
  parts_shorter no_parts = grind arith
  parts_shorter (more_parts tag a r) = grind (arith, tag_shorter, arg_shorter a, comma_shorter, parts_shorter r)

pub lower : (x : Expr) (l m : ℕ) (ts us : List Token) → l ≤ m → SpellsExpr x m ts us → SpellsExpr x l ts us
lower (unary o x) = grind arith
lower _ = grind arith
