use Rattle.{
  frame_calls.proofs.frame_parts.Common.{rules, refl, ◌≡◌, ◌∙◌, true, false, ap, sym, err_from_is_err_and, Some, None, arguments_of},
  meaning_laws.{specs.{charge.Charge.{answer_charge}, method.Readers.{reads_file}, script.Reading.{costing}}, proofs.CallFaults.{made_named_fault}},
  script_state.{specs.Work.{world_of}, proofs.{Calls.{made_plain, made_reading, read, reading, reads_by}, Evaluations.{evaluates_by, forms, forms_behind}, Rides.{pays_to}, Worlds.{keeps_same, blocks_self}}},
}
use Rattle.script_state.proofs.work.Work.call.Goals as goal

pub returns-then-not-reads_file : goal.returns-then-not-reads_file
returns-then-not-reads_file g c = λ name named.
    let f = c.args.function in
    let given = arguments_of (world_of c.args.self.now).tables (world_of c.args.self.now).texts c.args.args.now in
    let plain : reads_file (Some f) ≡ false = search rules in
    evaluates_by (forms answer_charge c.make.result (made_named_fault (Some f) None name given) c.evaluated.ensures c.make.ensures) (λ fs. made_plain fs name f given named plain)

pub returns-in_err-bytes : goal.returns-in_err-bytes
returns-in_err-bytes g c = λ name named.
    let f = c.args.function in
    let given = arguments_of (world_of c.args.self.now).tables (world_of c.args.self.now).texts c.args.args.now in
    let p = err_from_is_err_and c.from_residual.result c.from_residual.ensures.1 in
    let reads : reads_file (Some f) ≡ true = search rules in
    let e = c.in_err-bytes.ensures in
    rw (p.1, p.2) (evaluates_by {other = λ fs s. reading fs given} record { names = refl; kept = search keeps_same; blocks = blocks_self c.args.self.now.store; serves = e.serves; reads = e.reads; found = tt } (λ fs. made_reading fs name f given named reads))

pub returns : goal.returns
returns g c = λ name named.
    let f = c.args.function in
    let given = arguments_of (world_of c.args.self.now).tables (world_of c.args.self.now).texts c.args.args.now in
    let reads : reads_file (Some f) ≡ true = search rules in
    evaluates_by (forms_behind {whole = λ fs s. reading fs given} answer_charge c.make-2.result (made_named_fault (Some f) (Some c.as_slice.result.now) name given) c.in_ok-bytes.ensures.serves
    (λ held. pays_to (c.in_ok-bytes.ensures.reads held)
    (ap (read given) (sym c.as_slice.ensures) ∙ ap (costing answer_charge) (reads_by f _ given reads)))
    c.evaluated-2.ensures c.make-2.ensures)
    (λ fs. made_reading fs name f given named reads)
