use Rattle.{
  script_state.{proofs.{cells.Common.{refl, [], false}, Rides.{costs_same}}, specs.script.Statement.{done}},
  frame_store.proofs.Settling.{longer_self},
  script_session.proofs.Answering.{does},
}
use Rattle.script_session.proofs.statements.perform.Goals as goal

pub returns-in-Import-clause-executes : goal.returns-in-Import-clause-executes
returns-in-Import-clause-executes g c = rw c.in-Import.is (does c.args.work.now (λ s. done s [] false) refl c.quiet.ensures.printed c.quiet.ensures.warned (longer_self _) (costs_same refl))

pub returns-in-Bind-clause-executes : goal.returns-in-Bind-clause-executes
returns-in-Bind-clause-executes g c = rw c.in-Bind.is c.bind.ensures

pub returns-in-Put-clause-executes : goal.returns-in-Put-clause-executes
returns-in-Put-clause-executes g c = rw c.in-Put.is c.put.ensures.executes

pub returns-in-DropColumn-clause-executes : goal.returns-in-DropColumn-clause-executes
returns-in-DropColumn-clause-executes g c = rw c.in-DropColumn.is c.drop_column.ensures.executes

pub returns-in-Print-clause-executes : goal.returns-in-Print-clause-executes
returns-in-Print-clause-executes g c = rw c.in-Print.is c.print.ensures

pub returns-in-DropName-clause-executes : goal.returns-in-DropName-clause-executes
returns-in-DropName-clause-executes g c = rw c.in-DropName.is (c.drop_name.ensures _ _)
