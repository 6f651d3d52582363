-- What a reader of queries answers.
use Rattle.std.specs.Prelude.{◌≡◌, Option, Some, None, Result, Ok, Err}
use Rattle.meaning_query.specs.language.Tree as tree
use Rattle.script_tree.specs.View.{expr_of}
use Rattle.script_tree.specs.declared.tree.Expr.{Expr}
use Rattle.frame_query.specs.declared.fault.QueryFault.{QueryFault}
use Rattle.frame_query.specs.declared.fault.QueryFault.TheVariants.{NotQuery, NoMemory}

-- the mask that is meant, or that none is; or memory was refused
abbrev pub AnswersQuery : Result Expr QueryFault → Option tree.Expr → Type 0
AnswersQuery (Ok x) mask = mask ≡ Some (expr_of x)
AnswersQuery (Err NotQuery) mask = mask ≡ None
AnswersQuery (Err NoMemory) mask = Unit {0}
