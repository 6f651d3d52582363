use Rattle.{frame_parts.proofs.Common.{◌≡◌, ap, arith, subst, sym, IfOk, IsWhole, tables, table_at, table_or}, frame_store.specs.Objects.{Becomes}, frame_set.proofs.SharingLaws.{taken_headed, taken_is}}
use Rattle.frame_set.proofs.sharing.take_columns.Goals as goal

pub derive-requires-clause-headings : goal.derive-requires-clause-headings
derive-requires-clause-headings c =
    let t = table_at (tables c.args.store.now) c.args.on.0 in
    let same : c.read-source.result ≡ t = sym (ap table_or c.read-source.ensures.table) in
    let whole : IsWhole t = subst IsWhole same c.read-source.ensures.whole in
    taken_headed t c.args.places.now _ whole c.requires.frame c.requires.places (grind arith)

pub returns-clause-ok : goal.returns-clause-ok
returns-clause-ok c =
    let t = table_at (tables c.args.store.now) c.args.on.0 in
    let same : c.read-source.result ≡ t = sym (ap table_or c.read-source.ensures.table) in
    let whole : IsWhole t = subst IsWhole same c.read-source.ensures.whole in
    subst (λ u. IfOk c.derive.result (λ id. Becomes c.args.store.now c.derive.new.self id u))
    (taken_is t c.args.places.now c.in_ok-axis.axis c.in_ok-headings.headings c.rows.result whole c.requires.frame c.requires.places (grind arith) (grind arith) (grind arith)) c.derive.ensures.ok
