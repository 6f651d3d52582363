-- What is refused before anything is spent.
use Rattle.{
  script_state.{proofs.{cells.Common.{◌≡◌, List, refl, Err}, Worlds.{keeps_same, blocks_self}, Rides.{serves_self, goes_same}}, specs.{cells.Fault.{wrong_kind}, script.{Reading.{Files, Reads, at_once}, State.{State}}, Evaluates.{Moment, Evaluates}, Work.{state_in}, declared.{file_names.FileName.{FileName}, fault.EvalFault.{TheVariants.{Refused}}, work.Work.{Work}}}},
  cell_core.specs.declared.code.Code.{TheVariants.{WrongKind}},
  frame_store.specs.World.{World},
}

-- another kind is meant
pub refuses_kind : {paths : List FileName} {V A : Type 0} {known : Work → V → Type 0} {view : World → V → A} {meant : Files → State → Reads A} {at : Moment} → ((files : Files) → meant files (state_in at.work) ≡ at_once (Err wrong_kind))
    → Evaluates paths known view meant at at (Err (Refused WrongKind))
refuses_kind {at = at} is = record { names = refl; kept = keeps_same _ _ refl; blocks = blocks_self at.work.store; serves = serves_self _; reads = λ held. (goes_same (is _), tt, λ more. refl); found = tt }
