use Rattle.{
  std.proofs.Common.{◌≡◌, ◌∙◌, ℕ, List, ◌++◌, ◌∷◌, [], ap, sym, subst},
  block_manager.{
    specs.{Managed.{AreLive}, Changes.{EndsEach, numbers_of}},
    proofs.{ChainLaws.{others_live, ends_last}, GridLaws.{numbers_push}},
  },
}
use Rattle.block_manager.proofs.views.release_all.Goals as goal

pub loop-view-preserved : goal.loop-view-preserved
loop-view-preserved c =
    let before = c.loop-view.pool in
    let after = c.release.new.self in
    let id = c.in-Some.view.0 in
    let rest = numbers_of c.pop.new.self.items in
    let all : numbers_of c.loop-view.left.items ≡ rest ++ id ∷ [] = ap numbers_of c.in-Some.ensures.items ∙ numbers_push c.pop.new.self.items c.in-Some.view in
    record {
      live = others_live before after rest id (subst (AreLive before) all c.loop-view.invariant.live) c.release.ensures;
      ended = λ final ends. c.loop-view.invariant.ended final (subst (λ (ids : List ℕ). EndsEach before ids final) (sym all) (ends_last rest id before after final c.release.ensures ends));
    }
