use Rattle.meaning_tables.proofs.cells.Common.{◌≡◌, take}
use Rattle.frame_store.proofs.made.headings_named.Given as goal

abbrev pub invariant-loop-column : goal.invariant-loop-column
invariant-loop-column l = l.headings ≡ record { columns_name = l.fn.columns_name; labels = take l.column l.on.headings }
