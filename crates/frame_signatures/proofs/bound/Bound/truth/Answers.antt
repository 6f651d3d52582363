use Rattle.frame_signatures.proofs.SureLaws.{truth_sure, sure_told}
use Rattle.frame_signatures.proofs.bound.Bound.truth.Goals as goal

pub unwrap-requires : goal.unwrap-requires
unwrap-requires c = sure_told _ truth_sure c.args.self.now _ _ c.requires (λ live texts. λ s. rw (c.truth_or_none.ensures live texts) s)
