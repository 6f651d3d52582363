use Rattle.{
  column_core.proofs.cells.Common.{◌∙◌, ◌<◌, ◌≡◌, refl, sym, [], length, slice_index_or, arith, true, false, get_or_from_slice_get},
  index_core.specs.pick.Rows.{are_some},
  indexers.proofs.ListLaws.{counted_more, counted_refused, all_counted},
}
use Rattle.indexers.proofs.lists.are_within.Goals as goal

pub returns-then-is_empty : goal.returns-then-is_empty
returns-then-is_empty c =
    let keys = c.args.tuples.now in
    let lt : c.loop-k.k < length keys = omega arith in
    let none : are_some c.rows-rows.result.now ≡ false = grind arith in
    counted_refused c.args.found.now keys c.rows-rows.result.now c.loop-k.k c.copy.result [] lt c.requires c.rows-rows.ensures (get_or_from_slice_get keys c.loop-k.k c.at.result.now [] c.at.ensures ∙ sym c.copy.ensures) c.loop-k.room _ none c.loop-k.invariant

pub loop-k-preserved : goal.loop-k-preserved
loop-k-preserved c =
    let keys = c.args.tuples.now in
    let lt : c.loop-k.k < length keys = omega arith in
    let some : are_some c.rows-rows.result.now ≡ true = grind arith in
    counted_more c.args.found.now keys c.rows-rows.result.now c.loop-k.k (slice_index_or keys c.loop-k.k []) [] lt c.requires c.rows-rows.ensures refl c.loop-k.room _ _ some (grind arith) c.loop-k.invariant

pub returns : goal.returns
returns c = grind (arith, all_counted c.args.found.now c.args.tuples.now c.loop-k.k (omega arith) _ _ c.loop-k.invariant)
