use Rattle.{
  frame_calls.proofs.frame_parts.Common.{rules},
  script_state.proofs.States.{named_known},
}
use Rattle.script_state.proofs.work.Work.named.Goals as goal

pub returns-in-Some-clause-found : goal.returns-in-Some-clause-found
returns-in-Some-clause-found c =
    let s = c.args.self.now in
    record { known = named_known _ _ c.args.name.now _ s.live s.given s.settled (search rules); object = search rules }
