-- Readers of what stands in forms of at most a depth.
use Rattle.std.specs.Prelude.{ℕ, Bool}
use Rattle.script_tokens.specs.cells.Text.{Text}
use Rattle.script_tokens.specs.language.Token.{Mark}
use Rattle.script_tokens.specs.language.Tree.{Accessor, Expr, Step, Sub, OptionalSub, OptionalArg, OptionalExpr, Tagging, named, Tag, Arg, Parts}
use Rattle.script_syntax.specs.Reading as reading
use Rattle.script_syntax.specs.Reading.{Reader, expr_at, argument_at}

module _ (room : ℕ) where
  abbrev pub signed : Reader Expr
  signed = reading.signed room (expr_at room) (argument_at room)

  abbrev pub postfix : Reader Expr
  postfix = reading.postfix room (expr_at room) (argument_at room)

  abbrev pub atom : Reader Expr
  atom = reading.atom room (expr_at room) (argument_at room)

  abbrev pub enclosed : Reader Expr
  enclosed = reading.enclosed room (expr_at room) (argument_at room)

  abbrev pub bracketed : Reader Arg
  bracketed = reading.bracketed room (expr_at room) (argument_at room)

  abbrev pub steps : ℕ → Expr → Reader Expr
  steps = reading.steps room (expr_at room) (argument_at room)

  abbrev pub operators : ℕ → ℕ → Expr → Reader Expr
  operators = reading.operators room (expr_at room) (argument_at room)

  abbrev pub step : Reader Step
  step = reading.step room (expr_at room) (argument_at room)

  abbrev pub dotted : Text → Reader Step
  dotted = reading.dotted room (expr_at room) (argument_at room)

  abbrev pub call : Text → Reader Step
  call = reading.call room (expr_at room) (argument_at room)

  abbrev pub text_call : Reader Step
  text_call = reading.text_call room (expr_at room) (argument_at room)

  abbrev pub named_call : Reader (Text × Parts named)
  named_call = reading.named_call room (expr_at room) (argument_at room)

  abbrev pub brackets : Reader OptionalArg
  brackets = reading.brackets room (expr_at room) (argument_at room)

  abbrev pub subscripts : Accessor → Reader Step
  subscripts = reading.subscripts room (expr_at room) (argument_at room)

  abbrev pub second : Reader OptionalSub
  second = reading.second room (expr_at room) (argument_at room)

  abbrev pub sub_at : Reader Sub
  sub_at = reading.sub_at room (expr_at room) (argument_at room)

  abbrev pub span_after : OptionalArg → Reader Sub
  span_after = reading.span_after room (expr_at room) (argument_at room)

  abbrev pub part_at : (by : Tagging) → Bool → Reader (Tag by × Arg)
  part_at = reading.part_at room (expr_at room) (argument_at room)

  abbrev pub parts : (by : Tagging) → Mark → Bool → ℕ → Reader (Parts by)
  parts = reading.parts room (expr_at room) (argument_at room)

  abbrev pub all_arguments : Reader (Parts named)
  all_arguments = reading.all_arguments room (expr_at room) (argument_at room)

  abbrev pub opened : Arg → Reader Arg
  opened = reading.opened room (expr_at room) (argument_at room)

  abbrev pub bound : Reader OptionalArg
  bound = reading.bound room (expr_at room) (argument_at room)

  abbrev pub stride : Reader OptionalExpr
  stride = reading.stride room (expr_at room) (argument_at room)

  abbrev pub unparted : Arg → Reader Arg
  unparted = reading.unparted room (expr_at room) (argument_at room)

  abbrev pub expr_with : ℕ → Reader Expr
  expr_with = reading.expr_with room (expr_at room) (argument_at room)

  abbrev pub argument_with : Reader Arg
  argument_with = reading.argument_with room (expr_at room) (argument_at room)
