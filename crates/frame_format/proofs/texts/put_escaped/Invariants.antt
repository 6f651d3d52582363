use Rattle.meaning_format.{proofs.cells.Common.{◌≡◌, ◌++◌, string_bytes, chars_rest}, specs.Print.{shown_text}}
use Rattle.frame_format.proofs.texts.put_escaped.Given as goal

abbrev pub invariant-loop-character : goal.invariant-loop-character
invariant-loop-character l = string_bytes l.text ++ shown_text (chars_rest l.character-iterator) ≡ string_bytes l.fn.text ++ shown_text l.piece
