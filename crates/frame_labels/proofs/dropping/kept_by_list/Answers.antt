use Rattle.frame_parts.proofs.Common.{◌∙◌, sym, ◌++◌}
use Rattle.frame_labels.proofs.dropping.kept_by_list.Goals as goal

pub kept_by_labels-requires-clause-cells : goal.kept_by_labels-requires-clause-cells
kept_by_labels-requires-clause-cells c = λ more.
    c.in_ok-cells.ensures (c.args.dict.now ++ more) ∙ c.requires.items more ∙ sym (c.in_ok-cells.ensures _)
