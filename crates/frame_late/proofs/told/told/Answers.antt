use Rattle.{frame_store.proofs.cells.Common.{◌≡◌, arith, []}, frame_labels.specs.method.text.TextMethod.{takes}, text_methods.specs.Answers.{method_of}, frame_late.{specs.StrOps.{method_with}, proofs.StrLaws.{same_taken}}}
use Rattle.frame_late.proofs.told.told.Goals as goal

pub invariant_of-result : goal.invariant_of-result
invariant_of-result c =
    let taken : c.takes.result ≡ takes (method_of [] c.in-Some.op) = c.takes.ensures [] in
    let same : takes (method_with c.in-Some.op []) ≡ takes (method_of [] c.in-Some.op) = same_taken [] c.in-Some.op in
    grind arith
