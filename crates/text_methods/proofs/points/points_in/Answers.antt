use Rattle.std.{proofs.{Common.{rules}, lemmas.Str.{chars_from_encodes}}}
use Rattle.text_methods.proofs.points.points_in.Goals as goal

pub returns-clause-count : goal.returns-clause-count
returns-clause-count c = search (rules, chars_from_encodes)
