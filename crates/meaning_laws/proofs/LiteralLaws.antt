-- The literals of a script have 64 bits if they are numbers.
use Rattle.{
  meaning_script.{proofs.cells.Common.{◌≡◌, refl, inl, inr, ℕ, zero, suc, ◌^◌, ℤ, List, [], ◌∷◌, arith, lt-ltb, All-nil, All-cons, true, All}, specs.{cells.Cell.{has_64_bits}, language.{Token.{Token}, Tree.{Literal, Expr, Arg, Action, Statement}, Grammar.{SpellsNumber, SpellsLiteral, SpellsExpr, SpellsArg, SpellsAction}, Script.{ArePieces, IsScript}}, Expression.{cell_of}}},
  meaning_laws.specs.Validity.{IsHeldCell, HasHeldLiterals, IsHeldArgument, IsHeldAction},
}
use Rattle.meaning_script.specs.language.Tree as tree

number_held : (z : ℤ) (ts us : List Token) → SpellsNumber z ts us → has_64_bits z ≡ true
number_held z ts us (inl (n, is, below, spelled)) = rw is (lt-ltb n (2 ^ 63) below)
number_held z ts us (inr (zero, is, within, spelled)) = rw is refl
number_held z ts us (inr (suc n, is, within, spelled)) = rw is (lt-ltb n (2 ^ 63) (omega arith))

literal_held : (v : Literal) (ts us : List Token) → SpellsLiteral v ts us → IsHeldCell (cell_of v)
literal_held (tree.int z) ts us h = number_held z ts us h
literal_held (tree.truth b) ts us h = refl
literal_held (tree.text s) ts us h = refl
literal_held tree.na ts us h = refl

expression_held : (x : Expr) (l : ℕ) (ts us : List Token) → SpellsExpr x l ts us → HasHeldLiterals x
expression_held (tree.literal v) l ts us h = literal_held v ts us h
expression_held (tree.unary tree.minus x) l ts us (below, vs, sign, number, h) = expression_held x 6 vs us h
expression_held (tree.unary tree.invert x) l ts us (below, vs, sign, h) = expression_held x 6 vs us h
expression_held (tree.binary o x y) l ts us (below, vs, h, k) = (expression_held x _ ts _ h, expression_held y _ vs us k)
expression_held (tree.after x step) l ts us (vs, h, k) = expression_held x 7 ts vs h
expression_held (tree.paren x) l ts us (vs, open', h) = expression_held x 0 vs _ h
expression_held (tree.name n) l ts us h = tt
expression_held (tree.len x) l ts us h = tt
expression_held (tree.make n args) l ts us h = tt

argument_held : (a : Arg) (ts us : List Token) → SpellsArg a ts us → IsHeldArgument a
argument_held (tree.expr x) ts us h = expression_held x 0 ts us h
argument_held (tree.many parts) ts us h = tt
argument_held (tree.row parts) ts us h = tt
argument_held (tree.table pairs) ts us h = tt
argument_held tree.nothing ts us h = tt

pub action_held : (f : Action) (ts : List Token) → SpellsAction f ts → IsHeldAction f
action_held tree.import_pandas ts h = tt
action_held (tree.bind n x) ts (vs, name, is, h) = expression_held x 0 vs [] h
action_held (tree.put x step a) ts (vs, minus, target, h, k) = (expression_held (tree.after x step) 7 ts _ h, argument_held a vs [] k)
action_held (tree.drop_name n) ts h = tt
action_held (tree.drop_column n x) ts h = tt
action_held (tree.print x end) ts h = tt

-- all statements of a script
abbrev pub AreHeld : List Statement → Type 0
AreHeld ss = All (λ (st : Statement). IsHeldAction st.action) ss

pieces_held : (left line : ℕ) (pieces : List (List ℕ)) (ss : List Statement) → ArePieces left line pieces ss → AreHeld ss
pieces_held left line [] ss e = rw e (All-nil (λ (st : Statement). IsHeldAction st.action))
pieces_held left line (piece ∷ rest) ss (inl (utf8, blank, more)) = pieces_held left _ rest ss more
pieces_held left line (piece ∷ rest) ss (inr (fewer, action, more, count, utf8, (ts, lexes, spells, shallow), is, after)) =
    rw is (All-cons (λ (st : Statement). IsHeldAction st.action) record { line = line; action = action } more (action_held action ts spells) (pieces_held fewer _ rest more after))

pub script_held : (bytes : List ℕ) (ss : List Statement) → IsScript bytes ss → AreHeld ss
script_held bytes ss h = pieces_held _ 1 _ ss h
