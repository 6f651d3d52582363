use Rattle.{
  index_core.proofs.cells.Common.{◌≡◌, ◌∙◌, ◌∷◌, [], ap, sym, arith, length},
  multi_index.{specs.{Kept.{kept_levels}, Levels.{row_count}}, proofs.LevelTuples.{count_tuples}},
}
use Rattle.multi_index.proofs.levels.Levels.len.Goals as goal

pub returns-in-Single-clause-tuples : goal.returns-in-Single-clause-tuples
returns-in-Single-clause-tuples c =
    let one : c.in-Single.level ∷ [] ≡ c.args.self.now = ap kept_levels (sym c.in-Single.is) ∙ c.self.view_is in
    c.len.ensures ∙ ap length c.rows.ensures ∙ ap row_count one ∙ sym (count_tuples c.args.self.now)

pub returns-in-Coded-clause-tuples : goal.returns-in-Coded-clause-tuples
returns-in-Coded-clause-tuples c = grind (arith, count_tuples c.args.self.now)
