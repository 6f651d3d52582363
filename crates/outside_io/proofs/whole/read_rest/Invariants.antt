use Rattle.{
  meaning_cells.proofs.Common.{◌≡◌, ◌≤◌, ◌-◌, ◌+◌, length},
  outside_io.{specs.Files.{Serves}, proofs.ReadOff.{IsReadOff}},
}
use Rattle.outside_io.proofs.whole.read_rest.Given as goal

abbrev pub invariant-reading : goal.invariant-reading
invariant-reading g l =
    let F = g.F.Files in
    record {
      within : length l.bytes.items ≤ l.limit;
      taken : (F.seen l.files).taken ≡ length l.bytes.items;
      told : IsReadOff (F.seen l.fn.files).rest l.bytes.items (F.seen l.files).rest;
      serves : Serves (F.seen l.fn.files) (F.seen l.files);
      fetches : (F.seen l.files).fetches ≡ (F.seen l.fn.files).fetches;
    }

abbrev pub decreases-reading : goal.decreases-reading
decreases-reading g l = l.limit + 1 - length l.bytes.items
