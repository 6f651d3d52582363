use Rattle.{
  frame_parts.proofs.Common.{ap, rules, ◌≡◌, ◌∷◌, [], None, arith, limited, tables, table_at},
  frame_select.proofs.CutLaws.{table_is_settled, read_is, only_place, series_shown, series_given, headings_with},
}
use Rattle.frame_select.proofs.selecting.take_column.Goals as goal

pub returns : goal.returns
returns c = λ texts settled.
    let plan = c.args.plan.now in
    let t = table_at (tables c.args.store.now) c.args.on.0 in
    let one = c.requires.plan.one_column c.requires.single in
    let made : c.push.new.self ≡ record { columns_name = None; labels = c.heading.result ∷ [] } = search rules in
    let headed : c.push.new.self ≡ headings_with None t plan.columns = grind (arith, read_is, only_place) in
    rw (ap limited (series_shown texts plan.rows plan.columns t c.push.new.self headed)) at (c.cut_within.ensures texts settled (series_given _ t _ _ headed (table_is_settled _ _ _ c.requires.live settled)))
