use Rattle.{
  meaning_align.proofs.cells.Common.{◌∙◌, ◌++◌, ap, sym, Ok},
  multi_index.specs.Axes.{AxisValue, tuples_at},
  label_align.proofs.OuterJoinLaws.{law_of},
}
use Rattle.label_align.proofs.joins.outer_within.Goals as goal

pub returns-clause-law : goal.returns-clause-law
returns-clause-law c =
    let texts = c.args.dict.now in
    let a = c.args.a.now.tuples in
    let b = c.args.b.now.tuples in
    let tuples = ap (λ (x : AxisValue). x.tuples) c.in_ok-axis.ensures ∙ ap (tuples_at (a ++ b)) c.deref.ensures.value in
    let seen = c.in_ok-rows.ensures.rows ∙ ap Ok (λ i. record { keys = sym tuples i; left = sym c.from.ensures i; right = sym c.from-2.ensures i }) in
    law_of texts a b c.args.most (Ok record { axis = c.in_ok-axis.axis; left = c.from.result; right = c.from-2.result }) seen
