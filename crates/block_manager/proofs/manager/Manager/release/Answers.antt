use Rattle.{std.proofs.Common.{ℕ, List, [], ap, sym, subst}, block_manager.{specs.{Managed.{ManagerValue, AreLive, Exchanges, Keeps}, Changes.{numbers_of}}, proofs.{RenewLaws.{released_views, released_kept, released_held}}}}
use Rattle.block_manager.proofs.manager.Manager.release.Goals as goal

pub release_all-requires : goal.release_all-requires
release_all-requires c = subst (AreLive c.args.pool.now) (ap (λ (m : ManagerValue). m.views) (sym c.self.view_is)) c.requires.live

pub returns : goal.returns
returns c =
    let old = c.args.pool.now in
    let new = c.release_all.new.pool in
    let ids = numbers_of c.self.inside.views.items in
    let is = ap (λ (m : ManagerValue). m.views) c.self.view_is in
    let live = subst (AreLive old) (sym is) c.requires.live in
    record {
      views = subst (λ (xs : List ℕ). Exchanges old new xs []) is (released_views old new ids live c.release_all.ensures);
      kept = subst (Keeps old new) is (released_kept old new ids live c.release_all.ensures);
      held = released_held old new ids live c.release_all.ensures;
    }
