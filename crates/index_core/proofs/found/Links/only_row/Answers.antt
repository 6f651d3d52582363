use Rattle.{
  meaning_pick.proofs.cells.Common.{Some, arith},
  index_core.proofs.LinkLaws.{label_there, only_found, none_found},
}
use Rattle.index_core.proofs.found.Links.only_row.Goals as goal

pub index-requires : goal.index-requires
index-requires c =
    let there = label_there c.self.inside.labels.now c.args.label 0 (Some c.in-Some.row) (grind arith) in
    grind arith

pub returns-in-Some : goal.returns-in-Some
returns-in-Some c = grind (arith, only_found c.self.inside.labels.now c.args.label c.self.inside.next.items c.in-Some.row)

pub returns-in_default : goal.returns-in_default
returns-in_default c = grind (arith, only_found c.self.inside.labels.now c.args.label c.self.inside.next.items c.in-Some.row)

pub returns-in_default-2 : goal.returns-in_default-2
returns-in_default-2 = grind (arith, none_found)
