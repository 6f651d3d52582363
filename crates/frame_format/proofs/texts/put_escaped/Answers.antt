use Rattle.{
  meaning_format.{proofs.cells.Common.{refl, arith, append_assoc, encode_utf8}, specs.Print.{shown_byte, shown_text}},
  frame_format.proofs.EscapeLaws.{each-append, shown_whole},
}
use Rattle.frame_format.proofs.texts.put_escaped.Goals as goal

pub loop-character-preserved : goal.loop-character-preserved
loop-character-preserved = grind (arith, append_assoc, encode_utf8, each-append shown_text shown_byte refl (λ _ _. refl))

pub returns : goal.returns
returns c = shown_whole _ _ _ c.loop-character.invariant c.in-None.ensures.steps.0.0
