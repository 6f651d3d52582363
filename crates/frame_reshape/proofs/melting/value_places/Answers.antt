use Rattle.{frame_parts.proofs.Common.{arith, ◌≡◌, length, table_at, world}, frame_labels.{specs.Named.{stands_in}, proofs.NamedLaws.{others_inside}}, frame_reshape.proofs.MeltTold.{others_named, some_named}}
use Rattle.frame_reshape.proofs.melting.value_places.Goals as goal

pub returns-then-is_none : goal.returns-then-is_none
returns-then-is_none c =
    let w = world c.args.store.now c.args.dict.now in
    let t = table_at w.tables c.args.on.0 in
    let count : c.columns.result ≡ length t.columns = grind arith in
    let none = c.is_none.ensures w.tables w.texts in
    (others_named w.texts t c.args.kept.now _ (stands_in w c.args.bound.now 1) _ (grind arith) c.in_ok-places_besides.ensures count, others_inside _ _ _ _ c.in_ok-places_besides.ensures count)

pub returns : goal.returns
returns c =
    let w = world c.args.store.now c.args.dict.now in
    rw (some_named _ c.args.kept.now (stands_in w c.args.bound.now 1) (grind (arith, c.is_none.ensures w.tables w.texts))) c.told_places.ensures
