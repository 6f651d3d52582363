use Rattle.{
  meaning_script.proofs.cells.Common.{append_assoc},
  std.proofs.Math.Facts.{to_z-of_z},
}
use Rattle.script_faults.proofs.text.push_position.Goals as goal

pub returns : goal.returns
returns c =
    simp append_assoc (simp append_assoc at (rw (c.in_ok-push_number.ensures, to_z-of_z c.ranges.position, c.in_ok-push_str.ensures.bytes) at c.push_counted.ensures))
