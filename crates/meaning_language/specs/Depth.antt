-- How deep a form is.
use Rattle.std.specs.Prelude.{ℕ, suc, max}
use Rattle.meaning_language.specs.Tree.{Expr, Step, Sub, OptionalSub, OptionalArg, OptionalExpr, Tagging, Arg, Parts, name, literal, unary, binary, after, len, make, paren, item, access, method, text_method, group, rolling, expanding, key, span, no_sub, some_sub, no_arg, some_arg, no_expr, some_expr, expr, many, row, table, nothing, no_parts, more_parts}

-- A name, a literal, None and a form without parts have depth 1, any other form one more than its deepest part. The parts in a step belong to the form that it makes.
abbrev mutual
  pub depth : Expr → ℕ
  depth (name n) = 1
  depth (literal v) = 1
  depth (unary o x) = suc (depth x)
  depth (binary o x y) = suc (max (depth x) (depth y))
  depth (after x s) = suc (max (depth x) (step_depth s))
  depth (len x) = suc (depth x)
  depth (make n args) = suc (parts_depth args)
  depth (paren x) = suc (depth x)

  pub step_depth : Step → ℕ
  step_depth (item a) = arg_depth a
  step_depth (access by s t) = max (sub_depth s) (optional_sub_depth t)
  step_depth (method n args) = parts_depth args
  step_depth (text_method n args) = parts_depth args
  step_depth (group args by n more) = max (parts_depth args) (max (optional_arg_depth by) (parts_depth more))
  step_depth (rolling args n more) = max (parts_depth args) (parts_depth more)
  step_depth (expanding args n more) = max (parts_depth args) (parts_depth more)

  pub sub_depth : Sub → ℕ
  sub_depth (key a) = arg_depth a
  sub_depth (span from to by) = max (optional_arg_depth from) (max (optional_arg_depth to) (optional_expr_depth by))

  pub optional_sub_depth : OptionalSub → ℕ
  optional_sub_depth no_sub = 0
  optional_sub_depth (some_sub s) = sub_depth s

  pub optional_arg_depth : OptionalArg → ℕ
  optional_arg_depth no_arg = 0
  optional_arg_depth (some_arg a) = arg_depth a

  pub optional_expr_depth : OptionalExpr → ℕ
  optional_expr_depth no_expr = 0
  optional_expr_depth (some_expr x) = depth x

  pub arg_depth : Arg → ℕ
  arg_depth (expr x) = depth x
  arg_depth (many parts) = suc (parts_depth parts)
  arg_depth (row parts) = suc (parts_depth parts)
  arg_depth (table pairs) = suc (parts_depth pairs)
  arg_depth nothing = 1

  pub parts_depth : {by : Tagging} → Parts by → ℕ
  parts_depth no_parts = 0
  parts_depth (more_parts tag a rest) = max (arg_depth a) (parts_depth rest)
