use Rattle.{frame_parts.proofs.Common.{arith, ◌≡◌, false, rules, ap, refl, world, object_settled, longer_self}, frame_store.proofs.FormLaws.{free_forms, forms_within}, frame_labels.{specs.method.Levels.{set_index_result}, proofs.{LevelNameLaws.{names_given}, LevelMoveLaws.{option_given}}}, frame_methods.proofs.{AnswerLaws.{answer_by, makes_by, derives_on, extends_on, reset_costs}, RowLaws.{makes_so}, ShapeLaws.{set_index_of_frame}}}
use Rattle.meaning_call.specs.declared.Method.TheVariants as method
use Rattle.frame_methods.proofs.calling.levels_answer.Goals as goal

-- names of levels
pub derived-requires-clause-fits : goal.derived-requires-clause-fits
derived-requires-clause-fits c =
    (derives_on _ _ _ _ _ c.read-source.ensures.table
    (c.rename_axis-made.ensures _ (object_settled _ _ _ _ c.read-source.ensures.table c.requires.settled) (rw c.as_slice.ensures.value (names_given c.args.bound.now 0 _ _ _ c.in_ok-names-in-RenameAxis.ensures c.requires.call.given)))).0

pub returns-in_ok-names-in-RenameAxis : goal.returns-in_ok-names-in-RenameAxis
returns-in_ok-names-in-RenameAxis c =
    free_forms _ _ _ _ _ (c.derived.ensures.answers _ _ (longer_self _) c.requires.settled
    (makes_so _ _ _ _ (grind (arith, answer_by))
    (derives_on _ _ _ _ _ c.read-source.ensures.table
    (c.rename_axis-made.ensures _ (object_settled _ _ _ _ c.read-source.ensures.table c.requires.settled) (rw c.as_slice.ensures.value (names_given c.args.bound.now 0 _ _ _ c.in_ok-names-in-RenameAxis.ensures c.requires.call.given)))).1))

-- columns as levels
pub set_index-made-requires-clause-known : goal.set_index-made-requires-clause-known
set_index-made-requires-clause-known c = search object_settled

pub set_index-made-requires-clause-shape : goal.set_index-made-requires-clause-shape
set_index-made-requires-clause-shape = grind (arith, set_index_of_frame)

pub derived-requires-in-SetIndex-clause-fits : goal.derived-requires-in-SetIndex-clause-fits
derived-requires-in-SetIndex-clause-fits c = (derives_on _ _ _ _ _ c.read-source.ensures.table c.set_index-made.ensures).0

pub returns-in_ok-places-in-SetIndex : goal.returns-in_ok-places-in-SetIndex
returns-in_ok-places-in-SetIndex c =
    let w = world c.args.store.now c.args.dict.now in
    free_forms _ _ _ _ _ (c.derived-in-SetIndex.ensures.answers _ _ (longer_self _) c.requires.settled
    (makes_by w _ _ c.args.bound.now _ _ _ (λ a t. set_index_result t (a 0)) _ c.read-source.ensures.table (ap method.Levels c.in-SetIndex.is) c.requires.call.parameters (λ v. refl)
    (grind arith)
    (derives_on _ _ _ _ _ c.read-source.ensures.table c.set_index-made.ensures).1))

-- levels as columns, or none of them
pub derived-requires-then-truth-clause-fits : goal.derived-requires-then-truth-clause-fits
derived-requires-then-truth-clause-fits c =
    (derives_on _ _ _ _ _ c.read-source.ensures.table (c.renumber-made.ensures _ (object_settled _ _ _ _ c.read-source.ensures.table c.requires.settled))).0

pub returns-then-truth : goal.returns-then-truth
returns-then-truth c =
    free_forms _ _ _ _ _ (c.derived-then-truth.ensures.answers _ _ (longer_self _) c.requires.settled
    (makes_so _ _ _ _ (grind (arith, answer_by))
    (derives_on _ _ _ _ _ c.read-source.ensures.table (c.renumber-made.ensures _ (object_settled _ _ _ _ c.read-source.ensures.table c.requires.settled))).1))

pub reset_levels-made-requires : goal.reset_levels-made-requires
reset_levels-made-requires c = search object_settled

pub derived_behind-requires-clause-fits : goal.derived_behind-requires-clause-fits
derived_behind-requires-clause-fits c = (extends_on _ _ _ _ _ c.read-source.ensures.table c.reset_levels-made.ensures.answer).0

pub returns-else-truth : goal.returns-else-truth
returns-else-truth c =
    let w = world c.args.store.now c.args.dict.now in
    let kept : c.truth.result ≡ false = search rules in
    forms_within _ _ _ _ _ _
    (λ answer is. reset_costs w _ c.args.bound.now _ c.args.on.0 c.truth.result c.read-source.ensures.table (ap method.Levels c.in-ResetIndex.is) answer c.requires.call.parameters c.requires.call.binds (c.truth.ensures w.tables w.texts) kept)
    (c.derived_behind.ensures.answers _ _ c.reset_levels-made.ensures.longer c.requires.settled
    (makes_so _ _ _ _ (grind (arith, answer_by))
    (extends_on _ _ _ _ _ c.read-source.ensures.table c.reset_levels-made.ensures.answer).1)
    _ c.reset_levels-made.ensures.within)

-- a level that goes
pub drop_level-made-requires-clause-known : goal.drop_level-made-requires-clause-known
drop_level-made-requires-clause-known c = search object_settled

pub drop_level-made-requires-clause-given : goal.drop_level-made-requires-clause-given
drop_level-made-requires-clause-given c = search option_given

pub derived-requires-in-Droplevel-clause-fits : goal.derived-requires-in-Droplevel-clause-fits
derived-requires-in-Droplevel-clause-fits c = (derives_on _ _ _ _ _ c.read-source.ensures.table c.drop_level-made.ensures).0

pub returns-in-Droplevel : goal.returns-in-Droplevel
returns-in-Droplevel c =
    free_forms _ _ _ _ _ (c.derived-in-Droplevel.ensures.answers _ _ (longer_self _) c.requires.settled
    (makes_so _ _ _ _ (grind (arith, answer_by))
    (derives_on _ _ _ _ _ c.read-source.ensures.table c.drop_level-made.ensures).1))

-- two levels that change places
pub swap_levels-made-requires-clause-known : goal.swap_levels-made-requires-clause-known
swap_levels-made-requires-clause-known c = search object_settled

pub swap_levels-made-requires-clause-first : goal.swap_levels-made-requires-clause-first
swap_levels-made-requires-clause-first c = search option_given

pub swap_levels-made-requires-clause-second : goal.swap_levels-made-requires-clause-second
swap_levels-made-requires-clause-second c = search option_given

pub derived-requires-in-Swaplevel-clause-fits : goal.derived-requires-in-Swaplevel-clause-fits
derived-requires-in-Swaplevel-clause-fits c = (derives_on _ _ _ _ _ c.read-source.ensures.table c.swap_levels-made.ensures).0

pub returns-in-Swaplevel : goal.returns-in-Swaplevel
returns-in-Swaplevel c =
    free_forms _ _ _ _ _ (c.derived-in-Swaplevel.ensures.answers _ _ (longer_self _) c.requires.settled
    (makes_so _ _ _ _ (grind (arith, answer_by))
    (derives_on _ _ _ _ _ c.read-source.ensures.table c.swap_levels-made.ensures).1))
