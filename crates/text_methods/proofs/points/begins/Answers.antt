use Rattle.{std.proofs.{Common.{◌∙◌, sym}, lemmas.Str.Pattern.{starts_text}}, meaning_text.proofs.PatternLaws.{starts_points}}
use Rattle.text_methods.proofs.points.begins.Goals as goal

pub returns : goal.returns
returns c =
    starts_text c.starts_with.result c.args.pattern.now c.args.text.now c.starts_with.ensures.cases
    ∙ sym (starts_points c.args.text.now c.args.pattern.now c.utf8.text c.utf8.pattern)
