use Rattle.{
  column_core.proofs.cells.Common.{◌+◌, ◌≡◌, ◌∙◌, List, [], length, take, sym, arith, length-map, list_all_more, All-filter, list_any, list_all, Label},
  row_keys.specs.Keys.{same_tuple},
  merge_concat.{specs.Axes.{tuples_of_each}, proofs.UnitedLaws.{tuples_there, both_pass}},
  factorize.proofs.NumberLaws.{filter_all},
}
use Rattle.merge_concat.proofs.beside.those_on_all.Goals as goal

pub loop-other-init : goal.loop-other-init
loop-other-init c = record {
  levels = grind arith;
  kept = c.in_ok-kept.ensures ∙ sym (filter_all _);
}

pub loop-other-preserved : goal.loop-other-preserved
loop-other-preserved c =
    let others = c.args.others.now in
    let lists = tuples_of_each others in
    let i = c.loop-other.other-index in
    let before = λ (t : List Label). list_all (list_any (same_tuple t)) (take i lists) in
    let here = λ (t : List Label). list_any (same_tuple t) c.other-item.result.now.tuples in
    record {
      levels = rw c.in_ok-kept-2.ensures (All-filter _ (λ t. length t ≡ c.levels-levels.result) _ c.loop-other.invariant.levels);
      kept = cc (c.in_ok-kept-2.ensures, c.loop-other.invariant.kept, both_pass before here (λ (t : List Label). list_all (list_any (same_tuple t)) (take (i + 1) lists)) (λ t. grind (arith, list_all_more (list_any (same_tuple t)) lists i [] (omega (arith, length-map others (λ axis. axis.now.tuples), c.loop-other-test.true)), tuples_there)) c.args.first.now.tuples);
    }
