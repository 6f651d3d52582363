use Rattle.script_state.{specs.Work.{names_in, world_of}, proofs.PeakLaws.{names_rows}}
use Rattle.script_state.proofs.work.Work.held.Goals as goal

pub returns-clause-once : goal.returns-clause-once
returns-clause-once c = c.held.ensures.once

pub returns-clause-least : goal.returns-clause-least
returns-clause-least c =
    let w = c.args.self.now in
    rw c.held.ensures.count (names_rows (names_in w) (world_of w) (world_of w).holding.cells w.live w.valid c.held.ensures.least)
