use Rattle.{
  frame_parts.proofs.Common.{arith, ◌∙◌},
  frame_reshape.proofs.MeltCells.{kept_made, kept_refused, repeated_below},
}
use Rattle.frame_reshape.proofs.melting.kept_column.Goals as goal

pub columns_at-requires : goal.columns_at-requires
columns_at-requires c = rw c.in_ok-repeated.ensures (repeated_below c.args.on.now c.args.place c.args.count c.requires.place)

pub returns-in-Ok-clause-column : goal.returns-in-Ok-clause-column
returns-in-Ok-clause-column c =
    kept_made c.args.on.now c.args.place c.args.count _ _ _ (omega arith) c.in_ok-repeated.ensures c.in_ok-parts.ensures.columns c.in_ok-parts.ensures.rows c.deref.ensures.value c.requires.count _ c.in-Ok.ensures

pub returns-clause-memory : goal.returns-clause-memory
returns-clause-memory c =
    c.refusal_of.ensures
    ∙ kept_refused c.args.on.now c.args.place c.args.count _ _ _ (omega arith) c.in_ok-repeated.ensures c.in_ok-parts.ensures.columns c.in_ok-parts.ensures.rows c.deref.ensures.value c.requires.count _ c.in-Err.ensures
