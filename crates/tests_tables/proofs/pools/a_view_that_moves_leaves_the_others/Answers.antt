use Rattle.column_core.proofs.cells.Common.{◌≢◌, max, sym}
use Rattle.tests_tables.{specs.Shared.{ShowsNumbers}, proofs.PoolLaws.{spared_shows}}
use Rattle.tests_tables.proofs.pools.a_view_that_moves_leaves_the_others.Goals as goal

pub has-requires : goal.has-requires
has-requires g c = c.some_rows-two.ensures.kept _ _ _ c.some_rows-turned.ensures.shows

pub put-requires-clause-shows : goal.put-requires-clause-shows
put-requires-clause-shows g c = c.in_ok-moved.ensures.kept _ _ _ c.some_rows-two.ensures.shows

pub has-requires-3 : goal.has-requires-3
has-requires-3 g c = c.put.ensures _ _ _ (c.in_ok-moved.ensures.kept _ _ _ c.some_rows-two.ensures.shows)

pub has-requires-4 : goal.has-requires-4
has-requires-4 g c =
    let all : ShowsNumbers c.reserve_views.new.self c.in_ok-all.all.0 1 5 = rw c.in_ok-reserve_views.ensures.ok (spared_shows c.five_numbers.new.pool (max c.five_numbers.new.pool.spare 3) c.in_ok-all.all.0 1 5 c.in_ok-all.ensures) in
    c.put.ensures _ _ _ (c.in_ok-moved.ensures.kept _ _ _ (c.some_rows-two.ensures.kept _ _ _ (c.some_rows-turned.ensures.kept _ _ _ all)))

pub has-requires-5 : goal.has-requires-5
has-requires-5 g c = c.put.ensures _ _ _ (c.in_ok-moved.ensures.kept _ _ _ (c.some_rows-two.ensures.kept _ _ _ c.some_rows-turned.ensures.shows))

pub ended-requires : goal.ended-requires
ended-requires g c = c.put.ensures _ _ _ (c.in_ok-moved.ensures.kept _ _ _ (c.some_rows-two.ensures.kept _ _ _ c.some_rows-turned.ensures.shows))

pub ended-requires-2 : goal.ended-requires-2
ended-requires-2 g c =
    let all : ShowsNumbers c.reserve_views.new.self c.in_ok-all.all.0 1 5 = rw c.in_ok-reserve_views.ensures.ok (spared_shows c.five_numbers.new.pool (max c.five_numbers.new.pool.spare 3) c.in_ok-all.all.0 1 5 c.in_ok-all.ensures) in
    c.ended.ensures _ _ _ (c.some_rows-turned.ensures.others _ _ _ all)
    (c.put.ensures _ _ _ (c.in_ok-moved.ensures.kept _ _ _ (c.some_rows-two.ensures.kept _ _ _ (c.some_rows-turned.ensures.kept _ _ _ all))))

pub sole-requires-2 : goal.sole-requires-2
sole-requires-2 g c =
    let all : ShowsNumbers c.reserve_views.new.self c.in_ok-all.all.0 1 5 = rw c.in_ok-reserve_views.ensures.ok (spared_shows c.five_numbers.new.pool (max c.five_numbers.new.pool.spare 3) c.in_ok-all.all.0 1 5 c.in_ok-all.ensures) in
    (c.ended.ensures _ _ _ (c.some_rows-turned.ensures.others _ _ _ all)
    (c.put.ensures _ _ _ (c.in_ok-moved.ensures.kept _ _ _ (c.some_rows-two.ensures.kept _ _ _ (c.some_rows-turned.ensures.kept _ _ _ all))))).live

pub ended-requires-3 : goal.ended-requires-3
ended-requires-3 g c =
    let all : ShowsNumbers c.reserve_views.new.self c.in_ok-all.all.0 1 5 = rw c.in_ok-reserve_views.ensures.ok (spared_shows c.five_numbers.new.pool (max c.five_numbers.new.pool.spare 3) c.in_ok-all.all.0 1 5 c.in_ok-all.ensures) in
    let not_all : c.some_rows-two.result.0 ≢ c.in_ok-all.all.0 = λ e. c.some_rows-two.ensures.others _ _ _ (c.some_rows-turned.ensures.kept _ _ _ all) (sym e) in
    let not_turned : c.some_rows-two.result.0 ≢ c.some_rows-turned.result.0 = λ e. c.some_rows-two.ensures.others _ _ _ c.some_rows-turned.ensures.shows (sym e) in
    c.ended-2.ensures _ _ _ not_all (c.ended.ensures _ _ _ not_turned (c.put.ensures _ _ _ (c.in_ok-moved.ensures.kept _ _ _ c.some_rows-two.ensures.shows)))
