use Rattle.{
  meaning_language.proofs.cells.Common.{length, IsUtf8},
  script_tokens.proofs.Texts.{IsReadTo},
}
use Rattle.script_tokens.proofs.text.text_before.Given as goal

abbrev pub invariant-reading : goal.invariant-reading
invariant-reading l = record {
  so_far : IsReadTo l.quote l.bytes l.rest l.words;
  utf8 : IsUtf8 l.rest;
}

abbrev pub decreases-reading : goal.decreases-reading
decreases-reading l = length l.rest
