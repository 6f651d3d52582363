use Rattle.{
  meaning_language.proofs.cells.Common.{arith},
  script_tokens.proofs.Texts.{read_plain, read_quote, read_stops, read_escaped, IsUtf8-plain, IsUtf8-after_escape},
}
use Rattle.script_tokens.proofs.text.text_before.Goals as goal

pub text_of-requires : goal.text_of-requires
text_of-requires c = (IsUtf8-plain c.args.quote c.split_plain.result.0.now c.reading.rest.now c.split_plain.result.1.now c.requires.quote c.reading.invariant.utf8 c.split_plain.ensures).0

pub returns-in-Some : goal.returns-in-Some
returns-in-Some c = grind (arith, read_plain, read_quote)

pub returns-in_default-after_escape : goal.returns-in_default-after_escape
returns-in_default-after_escape c =
    let so_far = read_plain _ _ _ _ _ _
    _ _ c.reading.invariant.so_far c.split_plain.ensures c.text_of.ensures c.in_ok-push_str.ensures.ok in
    grind (arith, read_stops)

pub reading-preserved : goal.reading-preserved
reading-preserved c =
    let so_far = read_plain _ _ _ _ _ _
    _ _ c.reading.invariant.so_far c.split_plain.ensures c.text_of.ensures c.in_ok-push_str.ensures.ok in
    let text = (IsUtf8-plain c.args.quote c.split_plain.result.0.now c.reading.rest.now c.split_plain.result.1.now c.requires.quote c.reading.invariant.utf8 c.split_plain.ensures).1 in
    let escape = c.in-Some-after_escape.ensures in
    record {
      so_far = read_escaped _ _ _ _ _ _
          _ _ c.requires.quote so_far escape.1 escape.2 c.in_ok-push_str-2.ensures.ok;
      utf8 = IsUtf8-after_escape _ _ _ text escape.1;
    }
