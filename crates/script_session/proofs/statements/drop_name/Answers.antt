use Rattle.{
  script_state.{specs.{cells.Cell.{IsLonger}, Work.{world_of}}, proofs.{cells.Common.{Ok, Err, subst, sym}, Evaluations.{names_value}}},
  frame_store.proofs.Settling.{longer_self},
  script_session.proofs.Answering.{fails, follows, does},
}
use Rattle.script_session.proofs.statements.drop_name.Goals as goal

pub returns-in_err-named : goal.returns-in_err-named
returns-in_err-named c = λ paths seen. fails _ (names_value c.args.work.now _ (Err _) tt c.in_err-named.ensures.fault) (search)

pub returns : goal.returns
returns c = λ paths seen.
    follows _ (names_value c.args.work.now _ (Ok _) c.in_ok-named.ensures.found tt) (does c.forget.new.self _
    (cc (c.forget.ensures.state, c.as_str.ensures)) c.quiet.ensures.printed c.quiet.ensures.warned (subst (λ t. IsLonger (world_of c.args.work.now).texts t) (sym c.forget.ensures.texts) (longer_self _)) c.forget.ensures.tab)
