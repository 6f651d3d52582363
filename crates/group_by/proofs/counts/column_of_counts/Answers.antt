use Rattle.{
  column_core.proofs.cells.Common.{◌∷◌, [], arith, take, slice_index_or, take_more, take_all, map-append},
  factorize.specs.group.Reductions.{count_cell},
  group_by.proofs.NumberLaws.{no_numbers, numbers_more, same_numbers},
}
use Rattle.group_by.proofs.counts.column_of_counts.Goals as goal

pub loop-count-init : goal.loop-count-init
loop-count-init c = search no_numbers

pub push-requires : goal.push-requires
push-requires = grind arith

pub loop-count-preserved : goal.loop-count-preserved
loop-count-preserved c =
    let counts = c.args.counts.now in
    let k = c.loop-count.count-index in
    numbers_more _ _ _ _ _ _ c.loop-count.invariant c.counted.ensures.held c.counted.ensures.value c.in_ok-push.ensures.ok
    (λ texts. cc (take_more counts k 0 (omega arith), map-append count_cell (take k counts) (slice_index_or counts k 0 ∷ [])))

pub returns : goal.returns
returns c = same_numbers _ _ _ c.loop-count.invariant (λ texts. grind (arith, take_all))
