-- Statements of the script language, as plain trees.
use Rattle.std.specs.Prelude.{ℕ, ℤ, Bool, List, [], ◌∷◌, Option}
use Rattle.meaning_cells.specs.Text.{Text}
pub use Rattle.meaning_cells.specs.Symbol.{Binary, add, sub, mul, floor_div, mod_, eq, ne, lt, le, gt, ge, and, or, xor, Accessor, loc, iloc, at, iat}

pub data Literal : Type 0 where
  int : ℤ → Literal
  truth : Bool → Literal
  text : Text → Literal
  na : Literal

pub data Unary : Type 0 where
  minus : Unary
  invert : Unary

-- what stands before each part in brackets: nothing, the name of an argument, where one is given, or the key of an entry
pub data Tagging : Type 0 where
  bare : Tagging
  named : Tagging
  keyed : Tagging

abbrev pub Tag : Tagging → Type 0
Tag bare = Unit {0}
Tag named = Option Text
Tag keyed = Literal

-- Lists and options of parts are types of their own, since a part holds them.
mutual
  pub data Expr : Type 0 where
    name : Text → Expr
    literal : Literal → Expr
    unary : Unary → Expr → Expr
    binary : Binary → Expr → Expr → Expr
    after : Expr → Step → Expr
    len : Expr → Expr
    make : Text → Parts named → Expr
    paren : Expr → Expr

  pub data Step : Type 0 where
    item : Arg → Step
    access : Accessor → Sub → OptionalSub → Step
    method : Text → Parts named → Step
    text_method : Text → Parts named → Step
    group : Parts named → OptionalArg → Text → Parts named → Step
    rolling : Parts named → Text → Parts named → Step
    expanding : Parts named → Text → Parts named → Step

  pub data Sub : Type 0 where
    key : Arg → Sub
    span : OptionalArg → OptionalArg → OptionalExpr → Sub

  pub data OptionalSub : Type 0 where
    no_sub : OptionalSub
    some_sub : Sub → OptionalSub

  pub data OptionalArg : Type 0 where
    no_arg : OptionalArg
    some_arg : Arg → OptionalArg

  pub data OptionalExpr : Type 0 where
    no_expr : OptionalExpr
    some_expr : Expr → OptionalExpr

  -- a list, a tuple and a dict are the parts in their brackets
  pub data Arg : Type 0 where
    expr : Expr → Arg
    many : Parts bare → Arg
    row : Parts bare → Arg
    table : Parts keyed → Arg
    nothing : Arg

  -- parts in their order, each with what stands before it
  pub data Parts : Tagging → Type 0 where
    no_parts : {by : Tagging} → Parts by
    more_parts : {by : Tagging} → Tag by → Arg → Parts by → Parts by

pub data Action : Type 0 where
  import_pandas : Action
  bind : Text → Expr → Action
  put : Expr → Step → Arg → Action
  drop_name : Text → Action
  drop_column : Text → Expr → Action
  print : Expr → Text → Action

-- a statement, with the line of its first token, counted from 1
pub record Statement : Type 0 where
  pub line : ℕ
  pub action : Action

-- parts in a list, as the tree holds them
abbrev pub parts : {by : Tagging} → List (Tag by × Arg) → Parts by
parts [] = no_parts
parts (p ∷ rest) = more_parts p.0 p.1 (parts rest)
