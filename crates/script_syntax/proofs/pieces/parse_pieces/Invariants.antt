use Rattle.{
  script_tokens.{proofs.cells.Common.{length, ◌+◌, ◌≤◌}, specs.language.Pieces.{pieces}},
  script_tree.specs.ScriptView.{statements_of},
  script_syntax.specs.PieceRead.{Reads},
}
use Rattle.script_syntax.proofs.pieces.parse_pieces.Given as goal

abbrev pub invariant-pieces : goal.invariant-pieces
invariant-pieces l =
    record {
      reads : Reads (statements_of l.script) l.left l.line (pieces l.rest) (pieces l.bytes);
      few : l.line + length l.rest ≤ length l.bytes + 1;
    }

abbrev pub decreases-pieces : goal.decreases-pieces
decreases-pieces l = length l.rest
