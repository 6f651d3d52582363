use Rattle.{
  multi_index.{proofs.cells.Common.{rules}, specs.index_core.Labels.{same_number}},
  cell_core.specs.declared.cell.Label.TheVariants.{Na},
  row_keys.{specs.{Keys.{same_pair}, Numbers.{StandFor}}, proofs.StandLaws.{codes_stand}},
}
use Rattle.row_keys.proofs.codes.pair_codes.Goals as goal

pub returns : goal.returns
returns g c =
    let stand : StandFor (same_pair same_number) (Na, 0) (g.R.KeyRows.keys _) c.in-Some.pairs.numbers.items = search rules in
    let are = codes_stand (same_pair same_number) (Na, 0) _ _ _ _ _ stand c.as_slice.ensures.value c.in_ok-made.ensures.codes c.in_ok-made.ensures.firsts in
    record { codes = are.coded; firsts = are.first }
