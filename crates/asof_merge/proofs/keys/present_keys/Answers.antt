use Rattle.{
  column_core.proofs.cells.Common.{◌≡◌, ◌∙◌, ap, pos, subst, arith, rules, unwrap_or, tabulate, w64, to_z-of_z},
  asof_merge.proofs.KeyLaws.{all_present, key_more},
}
use Rattle.asof_merge.proofs.keys.present_keys.Goals as goal

pub loop-row-preserved : goal.loop-row-preserved
loop-row-preserved g c =
    let key = to_z-of_z w64 c.unwrap_or.result (search rules) ∙ c.unwrap_or.ensures ∙ ap (λ read. unwrap_or read (pos 0)) c.get.ensures in
    key_more (g.S.Source.row_of c.args.rows.now) c.loop-row.row c.loop-row.keys.items c.push.new.self.items _ c.loop-row.invariant c.in_ok-push.ensures.items key

pub returns : goal.returns
returns g c =
    let count = g.S.Source.count_of c.args.rows.now in
    let row_of = g.S.Source.row_of c.args.rows.now in
    let all : c.loop-row.row ≡ count = omega (arith, c.count-count.ensures, c.loop-row-test.false, c.loop-row.auto.row-end) in
    all_present count row_of c.requires c.loop-row.keys.items (subst (λ k. c.loop-row.keys.items ≡ tabulate k (λ row. unwrap_or (row_of row) (pos 0))) all c.loop-row.invariant)
