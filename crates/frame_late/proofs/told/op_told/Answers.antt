use Rattle.frame_late.proofs.told.op_told.Goals as goal

pub returns-in_ok-pattern-in-Startswith-clause-known : goal.returns-in_ok-pattern-in-Startswith-clause-known
returns-in_ok-pattern-in-Startswith-clause-known c = λ w settled. (c.in_ok-pattern-in-Startswith.ensures.given w.tables w.texts settled, tt)

pub returns-in_ok-pattern-in-Endswith-clause-known : goal.returns-in_ok-pattern-in-Endswith-clause-known
returns-in_ok-pattern-in-Endswith-clause-known c = λ w settled. (c.in_ok-pattern-in-Endswith.ensures.given w.tables w.texts settled, tt)

pub returns-in_ok-pattern-in-Contains-clause-known : goal.returns-in_ok-pattern-in-Contains-clause-known
returns-in_ok-pattern-in-Contains-clause-known c = λ w settled. (c.in_ok-pattern-in-Contains.ensures.given w.tables w.texts settled, tt)
