use Rattle.{
  column_core.proofs.cells.Common.{◌∙◌, sym, arith},
  merge_concat.proofs.BelowLaws.{kinds_alike},
  reshape.proofs.BlockLaws.{is_mixed, is_too_large, is_made, across_is},
}
use Rattle.reshape.proofs.blocks.stack_block.Goals as goal

pub returns-in_default-clause-column : goal.returns-in_default-clause-column
returns-in_default-clause-column c texts = is_mixed texts c.args.parts.now (sym c.common_kind.ensures ∙ c.in_default.is)

pub returns-in_default-count_within_limit-clause-column : goal.returns-in_default-count_within_limit-clause-column
returns-in_default-count_within_limit-clause-column c texts =
    is_too_large texts c.args.parts.now c.in-Some.kind (sym c.common_kind.ensures ∙ c.in-Some.is) (rw (← c.height_of-rows.ensures) c.in_default-count_within_limit.ensures)

pub stacked_of_kind-requires-clause-kind : goal.stacked_of_kind-requires-clause-kind
stacked_of_kind-requires-clause-kind c = kinds_alike c.args.parts.now c.in-Some.kind (sym c.common_kind.ensures ∙ c.in-Some.is)

pub returns-clause-column : goal.returns-clause-column
returns-clause-column c texts =
    is_made texts c.args.parts.now c.in-Some.kind (sym c.common_kind.ensures ∙ c.in-Some.is) _ (rw (← c.height_of-rows.ensures) c.in-Some-count_within_limit.ensures) (grind arith)

pub returns-clause-law : goal.returns-clause-law
returns-clause-law c = across_is c.args.parts.now _ (grind arith)
