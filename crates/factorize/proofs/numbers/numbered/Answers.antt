use Rattle.{
  column_core.proofs.cells.Common.{◌≡◌, ◌+◌, ◌-◌, ◌<◌, length, arith, All, laws-law},
  label_align.specs.index_core.Labels.{same_number},
  row_keys.proofs.RecodeLaws.{last_level, one_level, drop_none},
}
use Rattle.cell_core.specs.declared.cell.Label.TheVariants as label
use Rattle.factorize.proofs.numbers.numbered.Goals as goal

pub loop-level-init : goal.loop-level-init
loop-level-init g c =
    let last = c.levels-levels.result - 1 in
    let all : All (λ t. length t ≡ last + 1) (g.R.KeyLevels.keys _) = grind arith in
    record {
      inside = omega (arith, c.levels-levels.ensures.some);
      numbered = last_level _ laws-law label.Na last _ _ _ all (grind arith);
    }

pub loop-level-preserved : goal.loop-level-preserved
loop-level-preserved g c =
    let all : All (λ t. (c.loop-level.level - 1) < length t) (g.R.KeyLevels.keys c.args.rows.now) = grind arith in
    record {
      inside = omega (arith, c.loop-level.invariant.inside);
      numbered = one_level same_number laws-law label.Na _ _ c.loop-level.numbers.codes.items _ _ all
          (grind arith)
          (grind arith);
    }

pub returns-clause-codes : goal.returns-clause-codes
returns-clause-codes g c =
    let none : c.loop-level.level ≡ 0 = omega (arith, c.loop-level-test.false) in
    cc (c.loop-level.invariant.numbered.coded, drop_none (g.R.KeyLevels.keys _))

pub returns-clause-firsts : goal.returns-clause-firsts
returns-clause-firsts g c =
    let none : c.loop-level.level ≡ 0 = omega (arith, c.loop-level-test.false) in
    cc (c.loop-level.invariant.numbered.first, drop_none (g.R.KeyLevels.keys _))
