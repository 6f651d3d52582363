use Rattle.{
  column_core.proofs.cells.Common.{◌∙◌, ◌+◌, false, ap, sym, Some},
  std.{proofs.lemmas.Option.{get_or_from_slice_get}, specs.Int.{from_bool}},
}
use Rattle.column_operators.proofs.vectors.DenseVectorSide.flags.Goals as goal

pub returns : goal.returns
returns g c = λ k below.
    let lane = c.load.ensures k below in
    lane.2 ∙ ap (λ b. Some (from_bool b)) (sym (get_or_from_slice_get c.args.self.now.present.now (c.args.from + k) _ false lane.1))
