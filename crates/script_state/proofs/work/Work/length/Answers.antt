use Rattle.{
  frame_calls.proofs.frame_parts.Common.{arith, refl, sym, ap, longer_self, entry_in},
  meaning_laws.specs.form.Select.{length_result},
  script_state.{specs.{Reads.{count_after}, Work.{world_of}}, proofs.{ChargeLaws.{costs_nothing}, Printed.{length_answer}}},
}
use Rattle.script_state.proofs.work.Work.length.Goals as goal

pub returns-in-Object : goal.returns-in-Object
returns-in-Object c =
    let w = c.args.self.now in
    record {
      names = refl;
      answers = (search (length_answer), longer_self _, w.settled, record { cells = omega arith; blocks = λ id live there apart. refl });
      charged = sym (ap (count_after w.charge) (costs_nothing (length_result (entry_in (world_of w) c.args.on))));
    }
