use Rattle.{
  column_core.proofs.cells.Common.{◌≡◌, ◌∙◌, ap, min, max, IfOk-weaker, ℕ, subst},
  nullable_array.proofs.ColumnAnswers.{numbers_given},
  rolling.{specs.Windows.{HasSettings}, proofs.ColumnLaws.{rolled_answer}},
}
use Rattle.rolling.proofs.columns.roll_numbers.Goals as goal

pub returns-clause-given : goal.returns-clause-given
returns-clause-given c = IfOk-weaker c.answered.result _ _ (λ made is. numbers_given _ _ _ is) c.answered.ensures

pub returns-clause-answer : goal.returns-clause-answer
returns-clause-answer c =
    let size : c.min-size.result ≡ min c.args.n (max c.args.a.now.count 1) = c.min-size.ensures ∙ ap (min c.args.n) c.max.ensures in
    let P : ℕ → Type 0 = λ n. HasSettings n c.args.min_periods c.args.op c.in_ok-window.window in
    IfOk-weaker c.answered.result _ _ (λ made is. rolled_answer _ _ _ _ _ _ _ c.requires (subst P size c.in_ok-window.ensures.settings) is) c.answered.ensures
