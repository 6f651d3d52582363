use Rattle.{
  meaning_script.proofs.cells.Common.{arith, rules},
  script_faults.proofs.Quoting.{IsPlain, quoted_bytes-encode},
}
use Rattle.script_faults.proofs.key.push_character.Goals as goal

pub returns-in_default : goal.returns-in_default
returns-in_default c =
    let plain : IsPlain c.args.character = record {
      backslash = λ e. omega arith;
      quote = λ e. omega arith;
      line_feed = λ e. omega arith;
      tab = λ e. omega arith;
    } in
    rw (quoted_bytes-encode c.args.character plain) (search rules)
