use Rattle.{
  frame_calls.proofs.frame_parts.Common.{ap, sym, ◌∙◌, arith, Err, arguments_of},
  meaning_laws.specs.script.Reading.{at_once, then_read, of_file},
  script_state.{specs.{Reads.{files_in}, Work.{tab_of, world_of}}, proofs.{Calls.{read}, Fetching.{refuses_long}, Rides.{bytes_by, then_gives, goes_same}}},
}
use Rattle.script_state.proofs.work.Work.file_of.Goals as goal

pub returns-in-Ok-clause-reads : goal.returns-in-Ok-clause-reads
returns-in-Ok-clause-reads g c =
    let w = world_of c.args.self.now in
    let given = arguments_of w.tables w.texts c.args.args.now in
    let is = c.in-Ok.ensures.0 in
    λ held.
    let fs = files_in c.args.names.now held in
    bytes_by _ _ _ _ (read given) _
    (ap (λ r. then_read (at_once r) (λ name. of_file fs name (read given))) is
    ∙ then_gives Err _ (λ name. of_file fs name (read given))
    ∙ ap (λ n. of_file fs n (read given)) (sym c.text.ensures))
    (c.file_named.ensures.reads w.texts held (read given) (tab_of c.args.self.now) (refuses_long given _ is))

pub returns-in-Err-clause-reads : goal.returns-in-Err-clause-reads
returns-in-Err-clause-reads g c =
    let w = world_of c.args.self.now in
    let given = arguments_of w.tables w.texts c.args.args.now in
    λ held.
    let fs = files_in c.args.names.now held in (
      goes_same (ap (λ r. then_read (at_once r) (λ name. of_file fs name (read given))) c.in-Err.ensures.0),
      grind arith,
      c.in-Err.ensures.1,
    )
