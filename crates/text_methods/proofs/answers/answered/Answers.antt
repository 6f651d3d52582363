use Rattle.{
  column_core.proofs.cells.Common.{◌≡◌, length, arith},
  text_methods.proofs.RowLaws.{rows_made},
}
use Rattle.text_methods.proofs.answers.answered.Goals as goal

pub returns-clause-cells : goal.returns-clause-cells
returns-clause-cells g c =
    let counted : g.A.Source.count_of c.args.a.now ≡ c.in_ok-values.values.len = omega (arith, c.in_ok-values.ensures.len) in
    let all_values : length c.fill_rows.new.values ≡ c.in_ok-values.values.len = omega arith in
    let all_present : length c.fill_rows.new.present ≡ c.in_ok-present.present.len = omega arith in
    (rows_made g.U.Element.cell (g.W.Work.method c.args.work.now) _ _ _ _ _ _ _ _ _ _ _ _ c.in_ok-fill_rows.ensures.rows c.column.ensures counted all_values all_present (g.met.W.Work.kind _)).0

pub returns-clause-given : goal.returns-clause-given
returns-clause-given g c =
    let counted : g.A.Source.count_of c.args.a.now ≡ c.in_ok-values.values.len = omega (arith, c.in_ok-values.ensures.len) in
    let all_values : length c.fill_rows.new.values ≡ c.in_ok-values.values.len = omega arith in
    let all_present : length c.fill_rows.new.present ≡ c.in_ok-present.present.len = omega arith in
    (rows_made g.U.Element.cell (g.W.Work.method c.args.work.now) _ _ _ _ _ _ _ _ _ _ _ _ c.in_ok-fill_rows.ensures.rows c.column.ensures counted all_values all_present (g.met.W.Work.kind _)).1
