use Rattle.{std.proofs.Common.{List, ap, sym, subst, vec_items}, block_pool.specs.declared.views.ViewId.{ViewId}, block_manager.specs.{Managed.{ManagerValue, AreLive}, Changes.{numbers_of}}}
use Rattle.block_manager.proofs.manager.Manager.renew.Goals as goal

pub release_all-requires : goal.release_all-requires
release_all-requires c =
    subst (λ (vs : List ViewId). AreLive c.args.pool.now (numbers_of vs)) (sym (ap vec_items c.replace-before.ensures.value)) (subst (AreLive c.args.pool.now) (ap (λ (m : ManagerValue). m.views) (sym c.self.view_is)) c.requires.live)
