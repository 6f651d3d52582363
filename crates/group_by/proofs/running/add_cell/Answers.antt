use Rattle.{
  column_core.proofs.cells.Common.{arith, ◌≡◌, ◌∙◌, ◌<◌, ℕ, List, true, ap, length, get_or_default, All-set, Cell, Int64, int_cell, datum, holds, number_in},
  group_by.{specs.Gathered.{plus, total_of}, proofs.{GatherLaws.{total_more, takes_at}, NumberLaws.{number_given}}},
}
use Rattle.group_by.proofs.running.add_cell.Goals as goal

pub returns-in-Some-clause-takes : goal.returns-in-Some-clause-takes
returns-in-Some-clause-takes c = λ texts.
    let lt : c.in-Some.group < length c.args.sums.now = grind arith in
    takes_at _ _ _ _ _ _ _ c.in-Some.is lt
    (λ cells was.
    c.added.ensures.value texts (total_of number_in cells) (search get_or_default)
    ∙ ap (λ o. int_cell (plus (total_of number_in cells) o)) (c.amount.ensures texts)
    ∙ total_more _ cells _)

pub returns-in-Some-clause-held : goal.returns-in-Some-clause-held
returns-in-Some-clause-held c = λ olds.
    let lt : c.in-Some.group < length c.args.sums.now = grind arith in
    All-set (λ (s : Cell). (texts : List (List ℕ)) → holds Int64 (datum texts s) ≡ true) c.args.sums.now _ _
    (λ texts. (c.added.ensures.held texts record { held = search; given = number_given _ (olds c.in-Some.group _ lt) texts }).held texts) olds
