use Rattle.{
  meaning_cells.proofs.Common.{◌<◌, ap, length, arith},
  outside_io.{specs.Shelf.{least_held}, proofs.Held.{bytes_at-get}},
}
use Rattle.outside_io.proofs.shelf.bytes_of.Goals as goal

pub returns-in-Held : goal.returns-in-Held
returns-in-Held c =
    let files = c.args.files.now in
    let there : c.in-Held.place < length files = omega (arith, ap least_held c.in-Held.is, c.requires) in
    cc (c.deref.ensures.value, c.index-files-place.is, bytes_at-get files c.in-Held.place c.index-files-place.result there c.index-files-place.is, c.in-Held.is)
