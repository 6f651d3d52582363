use Rattle.script_state.proofs.Bindings.{bound_is, given_is, bound_noted}
use Rattle.script_state.proofs.work.Work.set_name.Goals as goal

pub invariant_of-self-2 : goal.invariant_of-self-2
invariant_of-self-2 c =
    let s = c.args.self.now in
    let n = c.args.name.now in
    let v = c.args.value in
    let e = c.in_ok-left.ensures in
    record {
      settled = s.settled;
      valid = s.valid;
      live = bound_is _ _ n v _ e.bound c.requires s.live;
      given = given_is _ _ n v _ e.bound c.requires s.given;
      noted = search bound_noted;
    }
