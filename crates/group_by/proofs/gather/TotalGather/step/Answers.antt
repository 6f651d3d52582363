use Rattle.{
  column_core.proofs.cells.Common.{arith, ◌∙◌, [], ◌∷◌, ◌++◌, ap, sym, int_cell, datum},
  group_by.{specs.Gathered.{plus, total_of}, proofs.GatherLaws.{total_more}},
}
use Rattle.group_by.proofs.gather.TotalGather.step.Goals as goal

pub returns-clause-value : goal.returns-clause-value
returns-clause-value g c = λ cells was.
    let amount = g.N.Amount.amount_of in
    let dict = c.args._dict.now in
    let totals = g.met.N.Amount.totals in
    c.added.ensures.value dict (total_of amount cells) (was ∙ totals cells)
    ∙ ap (λ o. int_cell (plus (total_of amount cells) o)) (c.amount.ensures dict)
    ∙ total_more _ cells _
    ∙ sym (totals (cells ++ datum dict _ ∷ []))

pub returns-clause-held : goal.returns-clause-held
returns-clause-held g c = λ kind far here.
    rw (g.met.N.Amount.numbers kind) (c.added.ensures.held _ (grind arith))
