-- Trees, as their parts.
use Rattle.{
  script_state.{proofs.cells.Common.{◌≡◌, ℕ, zero, suc, ◌≤◌, List, [], ◌∷◌, slice_get, Option, Some, arith}, specs.language.{Tree.{Tagging, Tag, parts}, Depth.{arg_depth, parts_depth}}},
  script_tree.specs.{declared.{literal.Accessor.{Accessor}, tree.{Sub.{Sub}, Arg.{Arg}, Expr.{Expr}}}, View.{step_of, sub_of, accessor_of, optional_arg, optional_sub, optional_expr}},
}
use Rattle.script_state.specs.language.Tree as tree
use Rattle.script_tree.specs.declared.tree.Sub.TheVariants as sub
use Rattle.script_tree.specs.declared.tree.Step.TheVariants as step

pub step_of-Access : (by : Accessor) (first : Sub) (second : Option Sub) → step_of (step.Access by first second) ≡ tree.access (accessor_of by) (sub_of first) (optional_sub second)
step_of-Access = grind arith

pub sub_of-Span : (from to : Option Arg) (by : Option Expr) → sub_of (sub.Span from to by) ≡ tree.span (optional_arg from) (optional_arg to) (optional_expr by)
sub_of-Span = grind arith

-- a part is no deeper than its list
pub part_depth : (by : Tagging) (xs : List (Tag by × tree.Arg)) (i : ℕ) (x : Tag by × tree.Arg) → slice_get xs i ≡ Some x → arg_depth x.1 ≤ parts_depth {by = by} (parts xs)
part_depth by [] i x e = Prim.cc
part_depth by (y ∷ xs) zero x e = grind arith
part_depth by (y ∷ xs) (suc i) x e = grind (arith, part_depth by xs)
