use Rattle.{
  std.proofs.Common.{◌≡◌, Bool, true, false, not, refl, sym, subst},
  std.proofs.lemmas.Bool.{false≢true},
  block_pool.specs.Pools.{PoolValue, IsLive},
  block_manager.proofs.{LayLaws.{part_live, run_shared, run_copied, run_gone}, SharedLaws.{all_below}},
}
use Rattle.block_manager.proofs.views.laid_run.Goals as goal

not_true : (b : Bool) → not b ≡ true → b ≡ false
not_true true e = absurd (false≢true e)
not_true false e = refl

not_false : (b : Bool) → not b ≡ false → b ≡ true
not_false true e = refl
not_false false e = absurd (false≢true (sym e))

pub part-made-requires-clause-rows : goal.part-made-requires-clause-rows
part-made-requires-clause-rows c = all_below _

pub own-requires : goal.own-requires
own-requires c = part_live c.args.pool.now c.part-made.new.pool c.part-made.result.0 c.args.view.0 _ c.args.run.alone c.part-made.ensures.fresh c.requires.live c.part-made.ensures.shares

pub release-requires : goal.release-requires
release-requires c =
    subst (λ (p : PoolValue). IsLive p c.part-made.result.0) (sym c.in-Err.ensures.err)
    (part_live c.args.pool.now c.part-made.new.pool c.part-made.result.0 c.args.view.0 _ c.args.run.alone c.part-made.ensures.fresh c.requires.live c.part-made.ensures.shares)

pub returns-then-not-run-clause-lays : goal.returns-then-not-run-clause-lays
returns-then-not-run-clause-lays c =
    run_shared c.args.pool.now c.part-made.new.pool c.part-made.result.0 c.args.view.0 _ c.args.run.alone c.part-made.ensures.fresh c.requires.live c.part-made.ensures.shares (not_true c.args.run.alone c.if-not-run.true)

pub returns-in-Ok-clause-lays : goal.returns-in-Ok-clause-lays
returns-in-Ok-clause-lays c =
    run_copied c.args.pool.now c.part-made.new.pool c.part-made.result.0 c.args.view.0 _ c.args.run.alone c.part-made.ensures.fresh c.requires.live c.part-made.ensures.shares
    c.own.new.self (not_false c.args.run.alone c.if-not-run.false) c.in-Ok.ensures.shared

pub returns-in-Err-clause-err : goal.returns-in-Err-clause-err
returns-in-Err-clause-err c =
    run_gone c.args.pool.now c.part-made.new.pool c.part-made.result.0 c.args.view.0 _ c.args.run.alone c.part-made.ensures.fresh c.requires.live c.part-made.ensures.shares
    c.own.new.self c.release.new.self c.in-Err.ensures.err c.release.ensures
