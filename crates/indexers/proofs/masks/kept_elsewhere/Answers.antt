use Rattle.{
  column_core.proofs.cells.Common.{map, arith},
  indexers.{specs.Masks.{is_true}, proofs.MaskLaws.{none_kept}},
}
use Rattle.indexers.proofs.masks.kept_elsewhere.Goals as goal

pub returns-then-levels-mask_levels : goal.returns-then-levels-mask_levels
returns-then-levels-mask_levels c =
    rw (none_kept c.args.axis.now.tuples c.args.mask_axis.now.tuples (map is_true c.args.mask.cells) c.levels-levels.result c.levels-mask_levels.result c.levels-levels.ensures.alike c.levels-mask_levels.ensures.alike (λ e. omega arith)) c.kept_nowhere.ensures

pub kept_by_label-requires-clause-alike : goal.kept_by_label-requires-clause-alike
kept_by_label-requires-clause-alike = grind arith

pub kept_by_tuple-requires-clause-alike : goal.kept_by_tuple-requires-clause-alike
kept_by_tuple-requires-clause-alike = grind arith
