-- Functions that read expressions and arguments of at most a depth.
use Rattle.std.specs.Prelude.{ℕ, ◌<◌, List, Result}
use Rattle.std.specs.Borrow.{Bor}
use Rattle.std.specs.Fn.{Shared}
use Rattle.std.specs.declared.alloc.Global.{Global}
use Rattle.script_tokens.specs.language.Depth.{depth, arg_depth}
use Rattle.script_tokens.specs.declared.token.Token.{Token}
use Rattle.script_tokens.specs.View.{tokens_of}
use Rattle.script_tree.specs.declared.tree.Expr.{Expr}
use Rattle.script_tree.specs.declared.tree.Arg.{Arg}
use Rattle.script_syntax.specs.declared.refusal.Refusal.{Refusal}
use Rattle.script_tree.specs.View.{expr_of, arg_of}
use Rattle.script_syntax.specs.Found.{Finds}
use Rattle.script_syntax.specs.Reading.{expr_at, argument_at}

-- what is read of tokens, with its depth and the tokens that are left
abbrev pub Read : Type 0 → Type 0
Read X = Result (X × ℕ × Bor (List Token)) Refusal

-- these two may be called at any tokens, and read the expressions of at least a level and the arguments that are no deeper than the room
pub record Nests {E A : Type 0}
    (reads_expr : Shared E (Global × (Bor (List Token) × (ℕ × (ℕ × Unit {0})))) (Read Expr))
    (reads_argument : Shared A (Global × (Bor (List Token) × (ℕ × Unit {0}))) (Read Arg))
    (expr : E) (argument : A) (room : ℕ) : Type 0 where
  pub small : room < 32
  pub expr_callable : (alloc : Global) (ts : Bor (List Token)) (least : ℕ) → reads_expr.pre expr (alloc, (ts, (room, (least, tt))))
  pub expr_finds : (alloc : Global) (ts : Bor (List Token)) (least : ℕ) (r : Read Expr) → reads_expr.post expr (alloc, (ts, (room, (least, tt)))) r
      → Finds expr_of depth room r (expr_at room least (tokens_of ts.now))
  pub argument_callable : (alloc : Global) (ts : Bor (List Token)) → reads_argument.pre argument (alloc, (ts, (room, tt)))
  pub argument_finds : (alloc : Global) (ts : Bor (List Token)) (r : Read Arg) → reads_argument.post argument (alloc, (ts, (room, tt))) r
      → Finds arg_of arg_depth room r (argument_at room (tokens_of ts.now))
