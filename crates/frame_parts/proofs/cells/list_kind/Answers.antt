use Rattle.frame_parts.proofs.Common.{arith, ◌≡◌, ◌∙◌, sym, true, rules}
use Rattle.frame_parts.proofs.cells.list_kind.Goals as goal

pub returns-then-not-holds_all-clause-answer : goal.returns-then-not-holds_all-clause-answer
returns-then-not-holds_all-clause-answer g c = λ texts. grind (arith, c.first_kind-kind.ensures texts, c.holds_all.ensures texts)

pub returns-clause-answer : goal.returns-clause-answer
returns-clause-answer g c = λ texts. grind (arith, c.first_kind-kind.ensures texts, c.holds_all.ensures texts)

pub returns-clause-held : goal.returns-clause-held
returns-clause-held g c = λ texts.
    let is_so : c.holds_all.result ≡ true = search rules in
    sym (c.holds_all.ensures texts) ∙ is_so
