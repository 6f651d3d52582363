use Rattle.{
  frame_store.{proofs.cells.Common.{◌≡◌, ◌∙◌, true, false, sym, arith, common_steps}, specs.Objects.{tables}},
  frame_signatures.proofs.{LiveLaws.{live_after}, BindLaws.{after, fit_refused, fit_taken}},
}
use Rattle.frame_signatures.proofs.binding.all_fit.Goals as goal

pub returns-then-not-fits : goal.returns-then-not-fits
returns-then-not-fits = grind (arith, fit_refused)

pub loop-rest-preserved : goal.loop-rest-preserved
loop-rest-preserved c =
    let live = tables c.args.store.now in
    let taken : c.fits.result ≡ true = grind (arith, c.if-not-fits.false) in
    let first = fit_taken live c.args.dict.now c.args.parameters.now c.loop-rest.unnamed c.loop-rest.rest.now c.first-item.result c.first-item.is c.in-len1-up.len_at_least (sym c.fits.ensures ∙ taken) in grind (arith, after, live_after, common_steps)
