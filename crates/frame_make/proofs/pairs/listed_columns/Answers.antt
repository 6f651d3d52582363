use Rattle.{
  frame_parts.proofs.Common.{arith, ◌≡◌, ◌∷◌, ◌++◌, [], rules, slice_get-get_or, single_block, table_column},
  frame_make.proofs.FrameLaws.{columns_with, column_more, columns_single, place_below, rest_below},
}
use Rattle.frame_make.proofs.pairs.listed_columns.Goals as goal

pub loop-place-preserved : goal.loop-place-preserved
loop-place-preserved c =
    let here : c.loop-place.place-iterator ≡ c.in-Some.place.now ∷ c.next.new.self = search rules in
    let pushed : c.push.new.self ≡ c.loop-place.columns ++ single_block (table_column c.in_ok-column.column) ∷ [] = grind arith in
    record {
      single = search columns_single;
      inside = search rest_below;
      whole = λ texts. column_more _ c.args.pairs.now _ _ _ _ _ _ _
          (slice_get-get_or _ _ _ (place_below _ _ _ _ here c.loop-place.invariant.inside)) (c.in_ok-column.ensures texts) pushed (grind (arith, columns_with));
    }
