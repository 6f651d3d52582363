use Rattle.{
  meaning_language.proofs.cells.Common.{arith},
  script_tokens.proofs.FirstPiece.{pieces_first, rest_len-none},
}
use Rattle.script_tokens.proofs.piece.piece_len.Goals as goal

pub returns-clause-first : goal.returns-clause-first
returns-clause-first = grind (arith, rest_len-none, pieces_first)
