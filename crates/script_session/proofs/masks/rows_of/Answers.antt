use Rattle.{
  script_state.{proofs.{cells.Common.{refl}, Evaluations.{forms}, laws.SelectFaults.{select_result_fault}}, specs.Work.{world_of}},
  frame_store.specs.World.{entry_in},
  script_session.proofs.Refusing.{refuses_kind},
}
use Rattle.script_session.proofs.masks.rows_of.Goals as goal

pub returns-in-Scalar : goal.returns-in-Scalar
returns-in-Scalar c = λ paths seen. rw c.in-Scalar.is (refuses_kind (λ files. refl))

pub returns-in-Object : goal.returns-in-Object
returns-in-Object c = λ paths seen. rw c.in-Object.is (forms _ _ (select_result_fault (entry_in (world_of c.args.work.now) c.args.on) _ _ _) c.evaluated.ensures (rw c.in-Object.is at c.select.ensures))
