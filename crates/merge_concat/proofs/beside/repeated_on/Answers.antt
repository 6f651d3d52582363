use Rattle.{
  column_core.proofs.cells.Common.{◌∙◌, arith, [], get_or_from_slice_get},
  merge_concat.proofs.UnitedLaws.{repeated_told, none_repeated},
}
use Rattle.merge_concat.proofs.beside.repeated_on.Goals as goal

pub returns-in-Some : goal.returns-in-Some
returns-in-Some c =
    let told = repeated_told c.args.axis.now.tuples _ _ (c.deref.ensures.value ∙ c.in_ok-numbers.ensures.codes) c.new-none.ensures in
    grind (arith, told, c.in_ok-row.ensures.row, c.in-Some.is, get_or_from_slice_get c.args.axis.now.tuples c.in-Some.row c.tuple.result [])

pub returns : goal.returns
returns c = none_repeated c.args.axis.now.tuples _ _ (c.deref.ensures.value ∙ c.in_ok-numbers.ensures.codes) c.new-none.ensures _ c.in_ok-row.ensures.row c.in-None.is
