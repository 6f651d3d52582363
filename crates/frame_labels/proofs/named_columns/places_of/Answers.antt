use Rattle.frame_parts.proofs.Common.{◌∙◌, sym, ◌++◌}
use Rattle.frame_labels.proofs.named_columns.places_of.Goals as goal

pub argument_columns-requires-clause-cells : goal.argument_columns-requires-clause-cells
argument_columns-requires-clause-cells c = λ more.
    c.in_ok-cells.ensures (c.args.dict.now ++ more) ∙ c.requires.items more ∙ sym (c.in_ok-cells.ensures _)
