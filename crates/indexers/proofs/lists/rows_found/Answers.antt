use Rattle.{
  column_core.proofs.cells.Common.{◌∙◌, ◌<◌, refl, sym, [], length, slice_index_or, arith, get_or_from_slice_get},
  indexers.proofs.ListLaws.{found_more, found_refused, all_found},
}
use Rattle.indexers.proofs.lists.rows_found.Goals as goal

pub returns-then-not-branch : goal.returns-then-not-branch
returns-then-not-branch c =
    let keys = c.args.tuples.now in
    let lt : c.loop-k.k < length keys = omega arith in
    found_refused c.args.found.now keys c.rows.result.now c.loop-k.k c.copy.result [] lt c.requires c.rows.ensures (get_or_from_slice_get keys c.loop-k.k c.at.result.now [] c.at.ensures ∙ sym c.copy.ensures) c.loop-k.places _ (sym c.in_ok-push_rows.ensures.some ∙ c.if-not-branch.true) c.loop-k.invariant

pub loop-k-preserved : goal.loop-k-preserved
loop-k-preserved c =
    let keys = c.args.tuples.now in
    let lt : c.loop-k.k < length keys = omega arith in
    found_more c.args.found.now keys c.rows.result.now c.loop-k.k (slice_index_or keys c.loop-k.k []) [] lt c.requires c.rows.ensures refl c.loop-k.places _ _ (sym c.in_ok-push_rows.ensures.some ∙ c.if-not-branch.false) c.in_ok-push_rows.ensures.rows c.loop-k.invariant

pub returns : goal.returns
returns c = all_found c.args.found.now c.args.tuples.now c.loop-k.k (omega arith) _ _ c.loop-k.invariant
