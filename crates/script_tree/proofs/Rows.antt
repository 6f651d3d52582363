-- A row of parts, as the list of them.
use Rattle.{
  script_tokens.{proofs.cells.Common.{◌≡◌, Option, Some, None, refl, ap, map, rules, Words}, specs.language.Tree.{parts}},
  script_tree.specs.{declared.{tree.Arg.{Arg, Row_of-Arg, end_of-Arg, more_of-Arg, items-the_row-Arg, Row_of-ArgPairs-items-2, end_of-ArgPairs-items-2, more_of-ArgPairs-items-2, items-the_row-ArgPairs-items-2}, parts.{Args.{Args, the_lemmas, Row_of-Args-items-2, end_of-Args-items-2, more_of-Args-items-2, items-the_row-Args-items-2}, ArgList.{ArgList, the_lemmas as list_lemmas}, ArgPairs.{ArgPairs, the_lemmas as pairs_lemmas}}}, View.{expr_of, step_of, arg_of, list_of_row, named_of_row, pairs_of_row, part_of, parts_of, named_of, named_parts_of, pair_of, pair_parts_of, literal_of, optional_arg}},
}
use Rattle.script_tokens.specs.language.Tree as tree
use Rattle.script_tree.specs.declared.tree.Arg.TheVariants as arg
use Rattle.script_tree.specs.declared.tree.Expr.TheVariants as expr
use Rattle.script_tree.specs.declared.tree.Step.TheVariants as step

list_of_row-items : (n : _) (row : Row_of-Arg n) → list_of_row {m = n} row ≡ parts (map part_of (items-the_row-Arg n row))
list_of_row-items _ end_of-Arg = refl
list_of_row-items _ (more_of-Arg {n = n} a rest) = ap (tree.more_parts tt (arg_of a)) (list_of_row-items n rest)

named_of_row-items : (n : _) (row : Row_of-Args-items-2 n) → named_of_row {m = n} row ≡ parts (map named_of (items-the_row-Args-items-2 n row))
named_of_row-items _ end_of-Args-items-2 = refl
named_of_row-items _ (more_of-Args-items-2 {n = n} name a rest) = ap (tree.more_parts name (arg_of a)) (named_of_row-items n rest)

pairs_of_row-items : (n : _) (row : Row_of-ArgPairs-items-2 n) → pairs_of_row {m = n} row ≡ parts (map pair_of (items-the_row-ArgPairs-items-2 n row))
pairs_of_row-items _ end_of-ArgPairs-items-2 = refl
pairs_of_row-items _ (more_of-ArgPairs-items-2 {n = n} key a rest) = ap (tree.more_parts (literal_of key) (arg_of a)) (pairs_of_row-items n rest)

pub arg_of-Many : (l : ArgList) → arg_of (arg.Many l) ≡ tree.many (parts (parts_of l))
arg_of-Many = search (rules, list_of_row-items, list_lemmas)

pub arg_of-Row : (l : ArgList) → arg_of (arg.Row l) ≡ tree.row (parts (parts_of l))
arg_of-Row = search (rules, list_of_row-items, list_lemmas)

pub arg_of-Table : (l : ArgPairs) → arg_of (arg.Table l) ≡ tree.table (parts (pair_parts_of l))
arg_of-Table = search (rules, pairs_of_row-items, pairs_lemmas)

pub expr_of-Make : (w : Words) (l : Args) → expr_of (expr.Make w l) ≡ tree.make w (parts (named_parts_of l))
expr_of-Make = search (rules, named_of_row-items, the_lemmas)

pub step_of-Method : (w : Words) (l : Args) → step_of (step.Method w l) ≡ tree.method w (parts (named_parts_of l))
step_of-Method = search (rules, named_of_row-items, the_lemmas)

pub step_of-Text : (w : Words) (l : Args) → step_of (step.Text w l) ≡ tree.text_method w (parts (named_parts_of l))
step_of-Text = search (rules, named_of_row-items, the_lemmas)

pub step_of-Rolling : (l : Args) (w : Words) (m : Args) → step_of (step.Rolling l w m) ≡ tree.rolling (parts (named_parts_of l)) w (parts (named_parts_of m))
step_of-Rolling = search (rules, named_of_row-items, the_lemmas)

pub step_of-Expanding : (l : Args) (w : Words) (m : Args) → step_of (step.Expanding l w m) ≡ tree.expanding (parts (named_parts_of l)) w (parts (named_parts_of m))
step_of-Expanding = search (rules, named_of_row-items, the_lemmas)

pub step_of-Group : (l : Args) (o : Option Arg) (w : Words) (m : Args)
    → step_of (step.Group l o w m) ≡ tree.group (parts (named_parts_of l)) (optional_arg o) w (parts (named_parts_of m))
step_of-Group l None = search (rules, named_of_row-items, the_lemmas)
step_of-Group l (Some a) = search (rules, named_of_row-items, the_lemmas)
