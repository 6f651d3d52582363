use Rattle.{
  meaning_language.{proofs.cells.Common.{◌≡◌, ◌+◌, ◌≤◌, length}, specs.Pieces.{plain}},
  script_tokens.{specs.View.{mode_of}, proofs.FirstPiece.{rest_len}},
}
use Rattle.script_tokens.proofs.piece.piece_len.Given as goal

abbrev pub invariant-cutting : goal.invariant-cutting
invariant-cutting l = record {
  same : l.taken + rest_len (mode_of l.mode) l.opened l.closed l.rest ≡ rest_len plain 0 0 l.fn.bytes;
  long : l.taken + length l.rest ≡ length l.fn.bytes;
  opened : l.opened ≤ l.taken;
  closed : l.closed ≤ l.taken;
}

abbrev pub decreases-cutting : goal.decreases-cutting
decreases-cutting l = length l.rest
