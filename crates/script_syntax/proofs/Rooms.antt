-- What is read within a depth, by what is read one depth lower.
use Rattle.{
  script_tokens.{proofs.cells.Common.{◌≡◌, ℕ, suc, List, Option, None, Result, refl, arith, Bor}, specs.declared.token.Token.{Token}},
  script_syntax.specs.{declared.refusal.Refusal.{Refusal}, Found.{Finds}, Reading.{expr_at, argument_at}},
}
use Rattle.script_tokens.specs.language.Token as spec
use Rattle.script_syntax.specs.At as at

pub finds_as : {X Y : Type 0} (view : X → Y) (deep : Y → ℕ) (m n : ℕ) (r : Result (X × ℕ × Bor (List Token)) Refusal) (one two : Option (Y × List spec.Token)) → m ≡ n → two ≡ one → Finds view deep m r one → Finds view deep n r two
finds_as = grind arith

pub expr_none : (room l : ℕ) (ts : List spec.Token) → room ≡ 0 → expr_at room l ts ≡ None
unfolding expr_at
expr_none room l ts e = rw e refl

pub argument_none : (room : ℕ) (ts : List spec.Token) → room ≡ 0 → argument_at room ts ≡ None
unfolding argument_at
argument_none room ts e = rw e refl

pub expr_deeper : (room less l : ℕ) (ts : List spec.Token) → room ≡ suc less → expr_at room l ts ≡ at.expr_with less l ts
unfolding expr_at
expr_deeper room less l ts e = rw e refl

pub argument_deeper : (room less : ℕ) (ts : List spec.Token) → room ≡ suc less → argument_at room ts ≡ at.argument_with less ts
unfolding argument_at
argument_deeper room less ts e = rw e refl
