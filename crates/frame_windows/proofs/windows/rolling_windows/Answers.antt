use Rattle.{frame_methods.proofs.frame_parts.Common.{◌∙◌, ap, rules, to_z-of_z, unwrap_or, world, arguments_in}, column_core.proofs.cells.Common.{w64, FitsSigned}, meaning_call.specs.Binding.{whole_of}, frame_windows.proofs.WindowLaws.{rolling_told}}
use Rattle.frame_windows.proofs.windows.rolling_windows.Goals as goal

pub returns-clause-answer : goal.returns-clause-answer
returns-clause-answer c =
    let w = world c.args.store.now c.args.dict.now in
    let bound = c.in_ok-bound.ensures in
    let rows : FitsSigned w64 c.whole-rows.result = search rules in
    let fits : FitsSigned w64 c.whole_or.result = search rules in
    let least = simp to_z-of_z at (c.whole_or.ensures w.texts) in
    rw (rolling_told _ _ _ _ _ _ c.parameters-parameters.ensures bound.1 (ap (arguments_in w) bound.2) bound.0 (c.whole-rows.ensures w.tables w.texts) (least ∙ ap (λ o. unwrap_or (whole_of o) c.whole-rows.result) (c.scalar_or_none.ensures w.tables w.texts)))
    (simp to_z-of_z at (c.rolling_of.ensures.answer w.texts))
