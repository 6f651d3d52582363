-- The plain trees that the code's trees stand for.
use Rattle.std.specs.Prelude.{List, map, Option, Some, None}
use Rattle.script_tokens.specs.cells.Text.{Text}
use Rattle.script_tokens.specs.language.Tree as tree
use Rattle.script_tokens.specs.language.Tree.{bare, named, keyed, Tag, Parts, no_parts, more_parts}
use Rattle.script_tokens.specs.View.{binary_of}
use Rattle.script_tree.specs.declared.literal.Literal.{Literal}
use Rattle.script_tree.specs.declared.literal.Literal.TheVariants as literal
use Rattle.script_tree.specs.declared.literal.Unary.{Unary}
use Rattle.script_tree.specs.declared.literal.Unary.TheVariants as unary
use Rattle.script_tree.specs.declared.literal.Accessor.{Accessor}
use Rattle.script_tree.specs.declared.literal.Accessor.TheVariants as accessor
use Rattle.script_tree.specs.declared.tree.Expr.{Expr, Row_of-Args-items-2, end_of-Args-items-2, more_of-Args-items-2}
use Rattle.script_tree.specs.declared.tree.Expr.TheVariants as expr
use Rattle.script_tree.specs.declared.tree.Step.{Step, Held-Step-Access-2, Step-Access-2-None', Step-Access-2-Some'}
use Rattle.script_tree.specs.declared.tree.Step.TheVariants as step
use Rattle.script_tree.specs.declared.tree.Sub.{Sub, Held-Step-Group-1, Step-Group-1-None', Step-Group-1-Some', Held-Sub-Span-2, Sub-Span-2-None', Sub-Span-2-Some'}
use Rattle.script_tree.specs.declared.tree.Sub.TheVariants as sub
use Rattle.script_tree.specs.declared.tree.Arg.{Arg, Row_of-Arg, end_of-Arg, more_of-Arg, Row_of-ArgPairs-items-2, end_of-ArgPairs-items-2, more_of-ArgPairs-items-2}
use Rattle.script_tree.specs.declared.tree.Arg.TheVariants as arg
use Rattle.script_tree.specs.declared.tree.Action.{Action}
use Rattle.script_tree.specs.declared.tree.Action.TheVariants as action
use Rattle.script_tree.specs.declared.tree.Statement.{Statement}
use Rattle.script_tree.specs.declared.parts.ArgList.{ArgList}
use Rattle.script_tree.specs.declared.parts.Args.{Args}
use Rattle.script_tree.specs.declared.parts.ArgPairs.{ArgPairs}

abbrev pub literal_of : Literal → tree.Literal
literal_of (literal.Int z) = tree.int z
literal_of (literal.Bool b) = tree.truth b
literal_of (literal.Text w) = tree.text w
literal_of literal.Na = tree.na

abbrev pub unary_of : Unary → tree.Unary
unary_of unary.Minus = tree.minus
unary_of unary.Invert = tree.invert

abbrev pub accessor_of : Accessor → tree.Accessor
accessor_of accessor.Loc = tree.loc
accessor_of accessor.Iloc = tree.iloc
accessor_of accessor.At = tree.at
accessor_of accessor.Iat = tree.iat

-- A part behind a `Box` stands with its pointer before it, and a list with its shape.
abbrev mutual
  pub expr_of : Expr → tree.Expr
  expr_of (expr.Name n) = tree.name n
  expr_of (expr.Literal v) = tree.literal (literal_of v)
  expr_of (expr.Unary' o p x) = tree.unary (unary_of o) (expr_of x)
  expr_of (expr.Infix' o p x q y) = tree.binary (binary_of o) (expr_of x) (expr_of y)
  expr_of (expr.After' p x q s) = tree.after (expr_of x) (step_of s)
  expr_of (expr.Len' p x) = tree.len (expr_of x)
  expr_of (expr.Make' n shape row) = tree.make n (named_of_row row)
  expr_of (expr.Paren' p x) = tree.paren (expr_of x)

  pub step_of : Step → tree.Step
  step_of (step.Item a) = tree.item (arg_of a)
  step_of (step.Access' k x y) = tree.access (accessor_of k) (sub_of x) (optional_sub_of y)
  step_of (step.Method' n shape row) = tree.method n (named_of_row row)
  step_of (step.Text' n shape row) = tree.text_method n (named_of_row row)
  step_of (step.Group' shape row a n shape' row') = tree.group (named_of_row row) (optional_arg_of a) n (named_of_row row')
  step_of (step.Rolling' shape row n shape' row') = tree.rolling (named_of_row row) n (named_of_row row')
  step_of (step.Expanding' shape row n shape' row') = tree.expanding (named_of_row row) n (named_of_row row')

  pub sub_of : Sub → tree.Sub
  sub_of (sub.Key a) = tree.key (arg_of a)
  sub_of (sub.Span' a b x) = tree.span (optional_arg_of a) (optional_arg_of b) (optional_expr_of x)

  pub optional_sub_of : Held-Step-Access-2 → tree.OptionalSub
  optional_sub_of Step-Access-2-None' = tree.no_sub
  optional_sub_of (Step-Access-2-Some' s) = tree.some_sub (sub_of s)

  pub optional_arg_of : Held-Step-Group-1 → tree.OptionalArg
  optional_arg_of Step-Group-1-None' = tree.no_arg
  optional_arg_of (Step-Group-1-Some' a) = tree.some_arg (arg_of a)

  pub optional_expr_of : Held-Sub-Span-2 → tree.OptionalExpr
  optional_expr_of Sub-Span-2-None' = tree.no_expr
  optional_expr_of (Sub-Span-2-Some' x) = tree.some_expr (expr_of x)

  pub arg_of : Arg → tree.Arg
  arg_of (arg.Expr x) = tree.expr (expr_of x)
  arg_of (arg.Many' shape row) = tree.many (list_of_row row)
  arg_of (arg.Row' shape row) = tree.row (list_of_row row)
  arg_of (arg.Table' shape row) = tree.table (pairs_of_row row)
  arg_of arg.Nothing = tree.nothing

  pub list_of_row : {m : _} → Row_of-Arg m → Parts bare
  list_of_row end_of-Arg = no_parts
  list_of_row (more_of-Arg a rest) = more_parts tt (arg_of a) (list_of_row rest)

  pub named_of_row : {m : _} → Row_of-Args-items-2 m → Parts named
  named_of_row end_of-Args-items-2 = no_parts
  named_of_row (more_of-Args-items-2 n a rest) = more_parts n (arg_of a) (named_of_row rest)

  pub pairs_of_row : {m : _} → Row_of-ArgPairs-items-2 m → Parts keyed
  pairs_of_row end_of-ArgPairs-items-2 = no_parts
  pairs_of_row (more_of-ArgPairs-items-2 k a rest) = more_parts (literal_of k) (arg_of a) (pairs_of_row rest)

abbrev pub part_of : Arg → Tag bare × tree.Arg
part_of a = (tt, arg_of a)

-- the parts of a list or a tuple
abbrev pub parts_of : ArgList → List (Tag bare × tree.Arg)
parts_of l = map part_of l.items.items

abbrev pub named_of : Option Text × Arg → Tag named × tree.Arg
named_of a = (a.0, arg_of a.1)

-- the arguments, each with its name where one is given
abbrev pub named_parts_of : Args → List (Tag named × tree.Arg)
named_parts_of l = map named_of l.items.items

abbrev pub pair_of : Literal × Arg → Tag keyed × tree.Arg
pair_of p = (literal_of p.0, arg_of p.1)

-- the entries of a dictionary
abbrev pub pair_parts_of : ArgPairs → List (Tag keyed × tree.Arg)
pair_parts_of l = map pair_of l.items.items

abbrev pub action_of : Action → tree.Action
action_of action.Import = tree.import_pandas
action_of (action.Bind n x) = tree.bind n (expr_of x)
action_of (action.Put x s a) = tree.put (expr_of x) (step_of s) (arg_of a)
action_of (action.DropName n) = tree.drop_name n
action_of (action.DropColumn n x) = tree.drop_column n (expr_of x)
action_of (action.Print x end) = tree.print (expr_of x) end

abbrev pub statement_of : Statement → tree.Statement
statement_of s = record { line = s.line; action = action_of s.action }

abbrev pub optional_arg : Option Arg → tree.OptionalArg
optional_arg None = tree.no_arg
optional_arg (Some a) = tree.some_arg (arg_of a)

abbrev pub optional_sub : Option Sub → tree.OptionalSub
optional_sub None = tree.no_sub
optional_sub (Some s) = tree.some_sub (sub_of s)

abbrev pub optional_expr : Option Expr → tree.OptionalExpr
optional_expr None = tree.no_expr
optional_expr (Some x) = tree.some_expr (expr_of x)
