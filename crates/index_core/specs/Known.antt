-- Labels whose rows are known.
use Rattle.std.specs.Prelude.{List}
use Rattle.cell_core.specs.declared.cell.Label.{Label}
use Rattle.index_core.specs.declared.found.Known.{Known}
use Rattle.index_core.specs.declared.found.Known.TheVariants.{Below, Linked}
use Rattle.index_core.specs.Ranges.{range_labels}

-- the labels, in their order
abbrev pub known_labels : Known → List Label
known_labels (Below n) = range_labels n
known_labels (Linked labels) = labels
