use Rattle.{
  frame_parts.proofs.Common.{arith, ◌<◌, length},
  frame_reshape.proofs.MeltCells.{labels_listed, none_listed},
}
use Rattle.frame_reshape.proofs.melting.label_kind.Goals as goal

pub returns-then-len-eq0-clause-answer : goal.returns-then-len-eq0-clause-answer
returns-then-len-eq0-clause-answer c = λ texts. none_listed texts c.args.on.now c.args.values.now (omega arith)

pub returns-clause-answer : goal.returns-clause-answer
returns-clause-answer c = λ texts.
    let some : 0 < length c.args.values.now = omega arith in
    rw (labels_listed texts c.args.on.now c.args.values.now some) (c.list_kind.ensures.answer texts)
