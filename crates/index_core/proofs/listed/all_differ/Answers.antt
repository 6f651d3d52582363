use Rattle.{
  meaning_pick.{proofs.cells.Common.{drop_more, ◌≡◌, ◌∙◌, ◌<◌, ◌+◌, ◌-◌, true, sym, length, drop, arith}, specs.Labels.{all_differ}},
  index_core.{specs.Labels.{same_number}, proofs.DifferLaws.{AreKeys, keys_more, stands_twice}},
}
use Rattle.index_core.proofs.listed.all_differ.Goals as goal

pub returns-then-not-branch : goal.returns-then-not-branch
returns-then-not-branch c =
    let labels = c.args.labels.now in
    let p = c.loop-place.place - 1 in
    let lt : p < length labels = omega arith in
    let keys : AreKeys c.loop-place.later.keys (drop (p + 1) labels) = grind arith in
    sym (stands_twice _ _ p _ lt keys (sym c.in_ok-insert.ensures.added ∙ c.if-not-branch.true))

pub loop-place-preserved : goal.loop-place-preserved
loop-place-preserved c =
    let labels = c.args.labels.now in
    let p = c.loop-place.place - 1 in
    let lt : p < length labels = omega arith in
    let keys : AreKeys c.loop-place.later.keys (drop (p + 1) labels) = grind arith in
    let differ : all_differ same_number (drop (p + 1) labels) ≡ true = grind arith in
    record {
      keys = keys_more _ _ _ p _ lt keys c.in_ok-insert.ensures.keys;
      differ = grind (arith, drop_more);
    }
