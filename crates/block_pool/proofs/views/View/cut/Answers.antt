use Rattle.{column_core.proofs.cells.Common.{rules, ◌<◌, ◌*◌, ◌^◌, arith, FitsSigned, w64}, std.proofs.Math.Facts.{to_z-of_z}, column_core.{proofs.StrideLaws.{first_below, only_row, place_composed, fits_composed}}, block_pool.proofs.ViewLaws.{product_small, product_moves}}
use Rattle.block_pool.proofs.views.View.cut.Goals as goal

pub returns-then-rows-eq1-clause-places : goal.returns-then-rows-eq1-clause-places
returns-then-rows-eq1-clause-places = grind (arith, only_row)

pub overflow_mul-result : goal.overflow_mul-result
overflow_mul-result c =
    let fits : FitsSigned w64 c.args.rows.step = search rules in
    let two : 1 < c.args.rows.count = omega arith in
    let small : c.args.self.stride * c.distance.result < 2 ^ 63
    = grind (arith, c.distance.ensures, to_z-of_z fits, product_small c.args.self c.args.limit c.requires.fits c.requires.limit c.args.rows c.requires.rows two) in
    omega arith

pub returns-clause-fits : goal.returns-clause-fits
returns-clause-fits c =
    let a = c.args.self in
    let rows = c.args.rows in
    let fits : FitsSigned w64 rows.step = search rules in
    let first : rows.start < a.count = grind (arith, first_below) in
    grind (arith, c.place-start.ensures, c.distance.ensures, to_z-of_z fits, c.turned.ensures, c.is_below_zero.ensures, fits_composed a.start a.stride a.back a.count c.args.limit c.args.limit c.requires.fits rows c.requires.rows first)

pub returns-clause-moves : goal.returns-clause-moves
returns-clause-moves c = λ two.
    let fits : FitsSigned w64 c.args.rows.step = search rules in
    grind (arith, c.distance.ensures, to_z-of_z fits, product_moves c.args.self c.requires.moves c.args.rows c.requires.rows two)

pub returns-clause-short : goal.returns-clause-short
returns-clause-short c =
    let fits : FitsSigned w64 c.args.rows.step = search rules in
    let two : 1 < c.args.rows.count = omega arith in
    grind (arith, c.distance.ensures, to_z-of_z fits, product_small c.args.self c.args.limit c.requires.fits c.requires.limit c.args.rows c.requires.rows two)

pub returns-clause-places : goal.returns-clause-places
returns-clause-places c = λ row lt.
    let a = c.args.self in
    let rows = c.args.rows in
    let fits : FitsSigned w64 rows.step = search rules in
    let first : rows.start < a.count = grind (arith, first_below) in
    grind (arith, to_z-of_z, place_composed)
