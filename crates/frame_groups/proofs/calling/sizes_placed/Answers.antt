use Rattle.{
  frame_parts.proofs.Common.{settled_later, object_settled, NoMemory, ◌≡◌, ap, Err, rules, world},
  frame_labels.specs.method.Groups.{group_answer},
  frame_groups.{specs.Grouped.{grouping_seen}, proofs.FormLaws.{seen_before, no_memory_forms, forms_so}},
}
use Rattle.frame_labels.specs.method.Groups as meant
use Rattle.frame_groups.proofs.calling.sizes_placed.Goals as goal

pub returns-in_err-heading : goal.returns-in_err-heading
returns-in_err-heading c = λ _.
    let out : c.from_residual.result ≡ Err NoMemory = search rules in
    no_memory_forms (world c.args.store.now c.args.dict.now) _ _ _ out c.in_err-heading.ensures.longer c.requires.settled

pub sizes-table-requires-clause-known : goal.sizes-table-requires-clause-known
sizes-table-requires-clause-known c = search (settled_later, object_settled)

pub returns : goal.returns
returns c = λ named.
    let dict = c.args.dict.now in
    let longer = c.in_ok-heading.ensures.longer in
    forms_so _ _ _ _ _ (c.placed.ensures.answers dict _ longer c.requires.settled (c.sizes-table.ensures named))
    (ap (λ t. group_answer t (grouping_seen dict c.args.grouping.now) named meant.size) (seen_before (world c.args.store.now c.args.dict.now) _ _ _ c.read.ensures.table longer c.requires.settled))
