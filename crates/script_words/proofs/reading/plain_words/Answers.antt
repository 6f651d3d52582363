use Rattle.std.proofs.Common.{◌∙◌, ap, map}
use Rattle.std.proofs.lemmas.Result.{IfOk-weaker}
use Rattle.clap.specs.Words.{found_of}
use Rattle.script_words.proofs.Parsed.{none_found, plain_found}
use Rattle.script_words.proofs.reading.plain_words.Goals as goal

pub returns-in-Some : goal.returns-in-Some
returns-in-Some c = IfOk-weaker c.from_slice.result _ _
    (λ v is. ap (map (λ s. s.now)) is ∙ plain_found (found_of c.args.matches.now) c.in-Some.words.now c.in-Some.ensures) c.from_slice.ensures.items

pub returns-in-None : goal.returns-in-None
returns-in-None c = ap (map (λ s. s.now)) c.new.ensures.items ∙ none_found (found_of c.args.matches.now) c.in-None.ensures
