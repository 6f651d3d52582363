use Rattle.meaning_script.proofs.cells.Common.{◌≡◌, ◌++◌, string_bytes, chars_rest, quoted_bytes}
use Rattle.script_faults.proofs.key.push_escaped.Given as goal

abbrev pub invariant-loop-character : goal.invariant-loop-character
invariant-loop-character l = string_bytes l.line ++ quoted_bytes (chars_rest l.character-iterator) ≡ string_bytes l.fn.line ++ quoted_bytes l.text
