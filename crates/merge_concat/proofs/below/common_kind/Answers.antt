use Rattle.{
  column_core.proofs.cells.Common.{◌≡◌, true, arith, ◌-◌, length, take, drop, sym, take_all, list_all},
  meaning_join.specs.Concat.{same_kind},
  merge_concat.proofs.BelowLaws.{kind_told},
}
use Rattle.merge_concat.proofs.below.common_kind.Goals as goal

pub returns : goal.returns
returns c =
    let all : list_all (λ other. same_kind c.kind-kind.result other.kind) (take (length c.args.columns.now - 1) (drop 1 c.args.columns.now)) ≡ true = grind (arith, take_all) in
    sym (kind_told c.args.columns.now _ _ _ c.in-len1-up.len_at_least c.first-item.is c.kind-kind.ensures all)
