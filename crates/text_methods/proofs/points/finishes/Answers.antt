use Rattle.{std.proofs.{Common.{◌∙◌, sym}, lemmas.Str.Pattern.{ends_text}}, meaning_text.proofs.PatternLaws.{ends_points}}
use Rattle.text_methods.proofs.points.finishes.Goals as goal

pub returns : goal.returns
returns c =
    ends_text c.ends_with.result c.args.pattern.now c.args.text.now c.ends_with.ensures.cases
    ∙ sym (ends_points c.args.text.now c.args.pattern.now c.utf8.text c.utf8.pattern)
