use Rattle.{column_core.proofs.cells.Common.{◌≡◌, ◌<◌, length, length-set, arith, rules, w64, to_z-of_z, ◌∙◌}, asof_merge.{proofs.WalkLaws.{all_found, all_passed, on_side_kept, found_more}}}
use Rattle.asof_merge.proofs.walk.find_rows.Goals as goal

pub loop-step-preserved : goal.loop-step-preserved
loop-step-preserved c =
    let rows = c.args.rows.now in
    let others = c.args.others.now in
    let so_far = c.loop-step.invariant in
    let passed = c.pass_rows-passed.ensures in
    let next = c.next_row-row.ensures.next in
    let lt = c.next_row-row.ensures.within in
    let key = to_z-of_z w64 c.key-key.result (search rules) ∙ c.key-key.ensures in
    let known : c.group.result < length c.pass_rows-passed.new.nearest = omega (arith, passed.groups, c.requires.numbers, c.group.ensures.below) in
    record {
      within = passed.within;
      groups = passed.groups;
      size = length-set _ _ _ ∙ so_far.size;
      nearest = passed.nearest;
      on_side = on_side_kept c.args.direction rows.keys.now others.keys.now c.loop-step.step c.next_row-row.result c.pass_rows-passed.result rows.ascending next lt _ key passed.on_side;
      found = found_more c.args.direction rows.keys.now others.keys.now c.loop-step.step c.next_row-row.result c.pass_rows-passed.result rows.ascending next lt _ key passed.on_side
          c.args.tolerance rows.groups.now others.groups.now others.ascending others.alike c.pass_rows-passed.new.nearest passed.nearest c.group.result c.group.ensures.group known
          passed.beyond c.loop-step.found so_far.size c.row_within.result c.row_within.ensures so_far.found;
    }

pub returns : goal.returns
returns c =
    let rows = c.args.rows.now in
    all_found c.args.direction c.args.tolerance rows.keys.now rows.groups.now _ c.loop-step.found rows.alike c.loop-step.invariant.size
    (λ row lt.
    let all : c.loop-step.step ≡ length rows.keys.now = omega arith in
    c.loop-step.invariant.found row lt (rw all (all_passed c.args.direction _ row lt)))
