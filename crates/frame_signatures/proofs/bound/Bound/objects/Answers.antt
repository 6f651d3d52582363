use Rattle.frame_signatures.proofs.SureLaws.{objects_sure, sure_told, told_there}
use Rattle.frame_signatures.proofs.bound.Bound.objects.Goals as goal

pub unwrap-requires : goal.unwrap-requires
unwrap-requires c = sure_told _ objects_sure c.args.self.now _ _ c.requires (λ live texts. told_there _ _ _ (c.list_or_none.ensures.value live texts))

pub returns-clause-live : goal.returns-clause-live
returns-clause-live c = λ live h. rw c.unwrap.ensures at (c.list_or_none.ensures.live live h)
