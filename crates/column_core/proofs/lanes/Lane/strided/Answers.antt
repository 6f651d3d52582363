use Rattle.{
  meaning_cells.proofs.Common.{rules, ◌<◌, ◌*◌, ◌^◌, length, ap, arith, FitsSigned, w64},
  std.proofs.Math.Facts.{to_z-of_z},
  column_core.{specs.Lanes.{option_at}, proofs.StrideLaws.{first_below, only_row, place_composed, fits_composed, stride_small}},
}
use Rattle.column_core.proofs.lanes.Lane.strided.Goals as goal

pub returns-then-rows-eq1-clause-rows : goal.returns-then-rows-eq1-clause-rows
returns-then-rows-eq1-clause-rows = grind (arith, only_row)

pub overflow_mul-result : goal.overflow_mul-result
overflow_mul-result g c =
    let a = c.args.self.now in
    let fits : FitsSigned w64 c.args.rows.step = search rules in
    let hs : a.start < 2 ^ 64 = omega arith in
    let hv : length a.values.now < 2 ^ 64 = omega arith in
    let two : 1 < c.args.rows.count = omega arith in
    let small : a.stride * c.distance.result < 2 ^ 64
    = grind (arith, c.distance.ensures, to_z-of_z fits, stride_small a.start a.stride a.back a.count (length a.values.now) (length a.present.now) (2 ^ 64) a.fits c.args.rows c.requires two hs hv) in
    omega arith

pub invariant_of-result : goal.invariant_of-result
invariant_of-result g c =
    let a = c.args.self.now in
    let rows = c.args.rows in
    let fits : FitsSigned w64 rows.step = search rules in
    let first : rows.start < a.count = grind (arith, first_below) in
    record {
      fits = grind (arith, c.place-start.ensures.place, c.distance.ensures, to_z-of_z fits, c.turned.ensures, c.is_below_zero.ensures, fits_composed a.start a.stride a.back a.count (length a.values.now) (length a.present.now) a.fits rows c.requires first);
    }

pub returns-clause-rows : goal.returns-clause-rows
returns-clause-rows g c = λ row lt.
    let a = c.args.self.now in
    let rows = c.args.rows in
    let fits : FitsSigned w64 rows.step = search rules in
    let first : rows.start < a.count = grind (arith, first_below) in
    ap (λ p. option_at a.values.now a.present.now p)
    (grind (arith, to_z-of_z, place_composed))
