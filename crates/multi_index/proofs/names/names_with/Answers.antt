use Rattle.{
  index_core.proofs.cells.Common.{take_all, length-replicate, length-take-le, get_or_from_slice_get, ◌≡◌, ◌<◌, ◌≤◌, ◌+◌, length, sym, arith},
  std.proofs.lemmas.List.{length-append},
  multi_index.{proofs.AddedLaws.{all_written, next_written}, specs.Axes.{first_of}},
}
use Rattle.multi_index.proofs.names.names_with.Goals as goal

pub loop-level-preserved : goal.loop-level-preserved
loop-level-preserved c =
    let names = c.args.axis.now.names in
    let lt : c.loop-level.level < length names = omega (arith, c.levels-level-end.ensures.count) in
    let few : length names ≤ 3 = omega (arith, c.requires) in
    let at : c.first_place-first.result + c.loop-level.level ≡ first_of c.args.outer + c.loop-level.level = omega (arith, c.first_place-first.ensures) in
    next_written _ _ _ _ _ _ _ lt few at (sym (search get_or_from_slice_get)) c.loop-level.invariant

pub returns-clause-room : goal.returns-clause-room
returns-clause-room = grind (arith, length-take-le, length-append, length-replicate)

pub returns-clause-names : goal.returns-clause-names
returns-clause-names = grind (arith, take_all, all_written)
