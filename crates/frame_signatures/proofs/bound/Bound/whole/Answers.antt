use Rattle.frame_signatures.proofs.SureLaws.{whole_sure, sure_told}
use Rattle.frame_signatures.proofs.bound.Bound.whole.Goals as goal

pub unwrap-requires : goal.unwrap-requires
unwrap-requires c = sure_told _ whole_sure c.args.self.now _ _ c.requires (λ live texts. λ s. rw (c.whole_or_none.ensures live texts) s)
