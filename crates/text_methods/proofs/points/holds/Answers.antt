use Rattle.{std.proofs.lemmas.Str.Pattern.{contains_text}, meaning_text.proofs.PatternLaws.{stands_points}}
use Rattle.text_methods.proofs.points.holds.Goals as goal

pub returns : goal.returns
returns c =
    stands_points c.args.text.now c.args.pattern.now c.contains.result c.utf8.text c.utf8.pattern
    (contains_text c.contains.result c.args.pattern.now c.args.text.now c.contains.ensures.cases)
