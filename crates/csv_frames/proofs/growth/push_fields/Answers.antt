use Rattle.{
  column_core.proofs.cells.Common.{length-map, length-set, get_or_default, ◌≡◌, [], ◌∷◌, ◌++◌, None, get_or, subst, arith},
  csv.specs.Records.{fields_of},
  csv_frames.{specs.{Views.{column_fields}, Growing.{Grown}}, proofs.{SettledLaws.{longer_twice}, MisfitLaws.{misfit_more}, GrowthLaws.{push_one}}},
}
use Rattle.csv_frames.specs.declared.growing.Growing.TheVariants as growing
use Rattle.csv_frames.proofs.growth.push_fields.Goals as goal

pub loop-place-preserved : goal.loop-place-preserved
loop-place-preserved c =
    let inv = c.loop-place.invariant in
    let kinds = c.args.kinds.now in
    let place = c.loop-place.place in
    let here : get_or c.loop-place.columns place growing.Missing ≡ get_or c.loop-place.columns place c.index-columns-place.result = grind (arith, get_or_default) in
    record {
      longer = search longer_twice;
      count = search length-set;
      pushed = λ before size grown.
          push_one kinds before (fields_of _) c.loop-place.dict c.push.new.dict _ place c.push.new.self c.push.ensures.longer (omega arith)
          (λ was. subst (λ t. Grown c.push.new.dict (get_or kinds place None) (column_fields place before ++ t ∷ []) c.push.new.self) c.field_in-field.ensures (grind (arith, length-map)))
          (inv.pushed before size grown);
      misfit = λ before size grown. misfit_more kinds _ place _ (inv.misfit before size grown) c.in_ok-misfit.field-0 (omega arith) (cc (c.in_ok-misfit.ensures.misfit (column_fields place before) (grind arith), c.field_in-field.ensures));
    }
