use Rattle.{
  column_core.proofs.cells.Common.{◌∙◌, sym, arith},
  merge_concat.proofs.BelowLaws.{wholes_alike, is_mixed, is_too_large, is_made},
}
use Rattle.merge_concat.proofs.below.concat_rows.Goals as goal

pub returns-in_default : goal.returns-in_default
returns-in_default c texts = is_mixed texts c.args.parts.now (sym c.common_kind.ensures ∙ c.in_default.is)

pub returns-in_default-count_of : goal.returns-in_default-count_of
returns-in_default-count_of c texts = is_too_large texts c.args.parts.now _ (c.deref.ensures.value ∙ c.in_ok-parts.ensures) _ (sym c.common_kind.ensures ∙ c.in-Some.is) c.in_default-count_of.ensures

pub concat_parts-requires-clause-kind : goal.concat_parts-requires-clause-kind
concat_parts-requires-clause-kind c = wholes_alike c.args.parts.now _ _ (c.deref-2.ensures.value ∙ c.in_ok-parts.ensures) (sym c.common_kind.ensures ∙ c.in-Some.is)

pub returns : goal.returns
returns c texts =
    let parts = c.in_ok-parts.ensures in
    is_made texts c.args.parts.now _ (c.deref-2.ensures.value ∙ parts) _ (sym c.common_kind.ensures ∙ c.in-Some.is) c.in_ok-column.column (rw (c.deref-2.ensures.value, ← c.deref.ensures.value) (omega (arith, c.in-Some-count_of.ensures))) c.in_ok-column.ensures
