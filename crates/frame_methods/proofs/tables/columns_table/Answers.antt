use Rattle.{
  frame_parts.proofs.Common.{◌≡◌, true, length, rules, within_limits},
  frame_methods.proofs.TableLaws.{columns_made},
}
use Rattle.frame_methods.proofs.tables.columns_table.Goals as goal

pub returns-clause-answer : goal.returns-clause-answer
returns-clause-answer g c =
    let within : within_limits (length c.args.on.now.labels) (length c.in-Ok.columns) ≡ true = search rules in
    columns_made _ _ _ _ _ _ _
    c.in-Ok.ensures.longer c.requires.known.given c.in_ok-headings.ensures c.in_ok-table_under.ensures within c.in-Ok.ensures.answer c.in-Ok.ensures.given
