use Rattle.{
  column_core.proofs.cells.Common.{◌∙◌, arith},
  std.proofs.lemmas.List.{get_or_default},
  text_methods.proofs.RowLaws.{made_now, memo_more, memo_stays},
}
use Rattle.text_methods.proofs.answers.row_made.Goals as goal

pub returns-in-Some-memo-clause-row : goal.returns-in-Some-memo-clause-row
returns-in-Some-memo-clause-row g c = λ early fair.
    let inside = rw c.in-Some.is at c.requires.inside in
    rw c.in-Some.is
    (fair.1.1 c.in-Some.id.0 c.in-Some-memo.value (get_or_default c.args.memo.now c.in-Some.id.0 _ _ inside ∙ c.in-Some-memo.is))

pub returns-in_err-value-clause-memo : goal.returns-in_err-value-clause-memo
returns-in_err-value-clause-memo g c = λ early fair.
    memo_stays g.U.Element.cell (g.W.Work.method c.args.work.now) early _ _ _ c.make.ensures.keeps fair

pub returns-clause-memo : goal.returns-clause-memo
returns-clause-memo g c = λ early fair.
    let cell = g.U.Element.cell in
    let method = g.W.Work.method c.args.work.now in
    let inside = rw c.in-Some.is at c.requires.inside in
    memo_more cell method early c.make.new.dict c.args.memo.now c.in-Some.id.0 c.in_ok-value.value inside
    (made_now cell method early _ _ c.in-Some.id _ fair.1.0 (omega (arith, inside, fair.0)) c.in_ok-value.ensures.cell c.in_ok-value.ensures.given)
    (memo_stays cell method early _ _ _ c.make.ensures.keeps fair)
