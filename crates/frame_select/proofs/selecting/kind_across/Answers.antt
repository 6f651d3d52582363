use Rattle.{
  frame_parts.proofs.Common.{◌≢◌, rules, ◌≡◌, ◌<◌, length, arith},
  frame_select.proofs.CutLaws.{first_kind, kinds_refused, kinds_more, kind_later, other_kind, same_next, first_is, kinds_done},
}
use Rattle.frame_select.proofs.selecting.kind_across.Goals as goal

pub returns-then-ne-clause-kind : goal.returns-then-ne-clause-kind
returns-then-ne-clause-kind c = λ texts.
    let some : 0 < c.loop-k.k = search in
    let apart : c.kind-next.result ≢ c.loop-k.kind = search rules in
    rw c.wrong_kind.ensures (search (kinds_refused, other_kind, kind_later))

pub loop-k-preserved : goal.loop-k-preserved
loop-k-preserved = grind (arith, first_kind, kind_later, first_is, kinds_more, same_next)

pub returns-clause-kind : goal.returns-clause-kind
returns-clause-kind c = λ texts.
    let end : c.loop-k.k ≡ length c.args.columns.now = omega arith in
    kinds_done _ _ _ _ _ end c.loop-k.invariant.kind c.loop-k.invariant.all
