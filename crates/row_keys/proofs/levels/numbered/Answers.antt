use Rattle.{
  multi_index.{proofs.cells.Common.{◌≡◌, ◌+◌, ◌-◌, ◌<◌, ◌++◌, length, arith, All, laws-law}, specs.index_core.Labels.{same_number}},
  row_keys.proofs.RecodeLaws.{last_level, one_level, drop_none},
}
use Rattle.cell_core.specs.declared.cell.Label.TheVariants as label
use Rattle.row_keys.proofs.levels.numbered.Goals as goal

pub loop-level-init : goal.loop-level-init
loop-level-init g c =
    let last = c.args.levels - 1 in
    let all : All (λ t. length t ≡ last + 1) (g.A.LevelRows.tuples _ ++ g.B.LevelRows.tuples _) = grind arith in
    record {
      inside = omega (arith, c.requires.some);
      numbered = last_level same_number laws-law label.Na last _ _ _ all (grind arith);
    }

pub loop-level-preserved : goal.loop-level-preserved
loop-level-preserved g c =
    let all : All (λ t. (c.loop-level.level - 1) < length t) (g.A.LevelRows.tuples c.args.left.now ++ g.B.LevelRows.tuples c.args.right.now) = grind arith in
    record {
      inside = omega (arith, c.loop-level.invariant.inside);
      numbered = one_level same_number laws-law label.Na _ _ c.loop-level.numbers.codes.items _ _ all
          (grind arith)
          (grind arith);
    }

pub returns : goal.returns
returns g c =
    let none : c.loop-level.level ≡ 0 = omega (arith, c.loop-level-test.false) in
    let are = rw (none, drop_none) at c.loop-level.invariant.numbered in
    search
