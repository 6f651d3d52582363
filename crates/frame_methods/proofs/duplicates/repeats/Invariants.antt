use Rattle.{
  frame_parts.proofs.Common.{◌≡◌, [], ◌++◌, map, drop, nat_eq, Boolean},
  cell_core.specs.declared.cell.Cell.TheVariants.{Bool},
  frame_labels.specs.method.Rows.{repeats},
}
use Rattle.frame_methods.proofs.duplicates.repeats.Given as goal

-- the marks so far, before the others
abbrev pub invariant-loop-number : goal.invariant-loop-number
invariant-loop-number l = record {
  kind : l.marks.kind ≡ Boolean;
  cells : l.marks.cells ++ map Bool (repeats nat_eq l.seen.keys (drop l.number-index l.numbers)) ≡ map Bool (repeats nat_eq [] l.numbers);
}
