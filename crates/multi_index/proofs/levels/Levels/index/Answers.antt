use Rattle.{
  index_core.proofs.cells.Common.{◌≡◌, ◌∷◌, [], ◌∙◌, ap, sym, length},
  multi_index.{specs.{Axes.{single_tuples}, Kept.{kept_levels}, Levels.{level_tuples}}, proofs.LevelTuples.{tuples_of_one}},
}
use Rattle.multi_index.proofs.levels.Levels.index.Goals as goal

pub returns-in-Single : goal.returns-in-Single
returns-in-Single c =
    let one : c.in-Single.level ∷ [] ≡ c.args.self.now = ap kept_levels (sym c.in-Single.is) ∙ c.self.view_is in
    (ap length (sym one), ap single_tuples c.rows.ensures ∙ sym (tuples_of_one c.in-Single.level) ∙ ap level_tuples one)
