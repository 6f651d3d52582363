use Rattle.{std.proofs.Common.{◌∙◌}, meaning_text.proofs.StripLaws.{trim_points}}
use Rattle.text_methods.proofs.points.trimmed.Goals as goal

pub returns : goal.returns
returns c = c.trim.ensures.trim ∙ trim_points c.args.text.now c.utf8.text
