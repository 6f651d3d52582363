use Rattle.{
  frame_parts.proofs.Common.{◌≡◌, arith, subst, sym, NumberedTable},
  frame_store.specs.Parts.{AreHeld},
  frame_set.{specs.Grown.{grown_table}, proofs.GrowLaws.{new_held, one_added}},
}
use Rattle.frame_set.proofs.growing.filled.Goals as goal

pub new_column-requires-clause-held : goal.new_column-requires-clause-held
new_column-requires-clause-held c =
    let k = c.in-None-Some in
    let places = one_added _ _ _ _ c.requires.target.columns k.is-1 in
    search new_held

pub set_cells-requires-clause-held : goal.set_cells-requires-clause-held
set_cells-requires-clause-held c =
    let grown : c.in_ok-table-in-Some-default.table ≡ grown_table c.args.on.now c.args.target c.args.kind = grind arith in
    subst (λ (t : NumberedTable). AreHeld t.columns c.args.target.columns.places c.args.values) (sym grown) c.requires.held
