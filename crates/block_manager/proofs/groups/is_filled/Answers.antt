use Rattle.{std.proofs.Common.{arith}, std.proofs.lemmas.Bool.{false≢true}}
use Rattle.block_manager.proofs.groups.is_filled.Goals as goal

pub returns-then-columns-eq0 : goal.returns-then-columns-eq0
returns-then-columns-eq0 c = (λ e. absurd (false≢true e), λ filled. absurd (omega (arith, filled.some, c.columns.ensures, c.if-columns-eq0.true)))

pub returns : goal.returns
returns c = (λ e. record { some = omega (arith, c.columns.ensures, c.if-columns-eq0.false); full = c.full.ensures.0 e }, λ filled. c.full.ensures.1 filled.full)
