use Rattle.{
  meaning_cells.proofs.Common.{arith},
  outside_io.proofs.Held.{bytes_at-get, set-with_bytes},
}
use Rattle.outside_io.proofs.shelf.replace_bytes.Goals as goal

pub returns-clause-old : goal.returns-clause-old
returns-clause-old = grind (arith, bytes_at-get)

pub returns-clause-new : goal.returns-clause-new
returns-clause-new c = cc (c.replace.ensures.after, set-with_bytes c.args.files.now.items c.args.place c.index_mut.result.now c.args.bytes c.requires c.index_mut.ensures.value)
