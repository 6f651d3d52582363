use Rattle.{
  script_state.{specs.Work.{world_of}, proofs.{cells.Common.{refl}, States.{live_are_named}}},
  script_session.proofs.Within.{within_left},
}
use Rattle.script_session.proofs.session.Session.forget.Goals as goal

pub returns-clause-live : goal.returns-clause-live
returns-clause-live c =
    let w = c.forget.new.self in
    live_are_named w.names.values.entries w.names.unique (world_of w) w.live (c.forget.ensures.named c.args.self.now.swept)

pub returns-clause-within : goal.returns-clause-within
returns-clause-within c = within_left c.args.self.now _ c.forget.ensures.tab.charge c.forget.ensures.tab.held refl

pub returns-clause-charge : goal.returns-clause-charge
returns-clause-charge c = c.forget.ensures.tab.charge
