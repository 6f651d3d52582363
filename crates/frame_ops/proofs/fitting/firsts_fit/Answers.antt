use Rattle.{frame_parts.proofs.Common.{◌≡◌, length, All-append}, frame_ops.proofs.WideLaws.{tuples_alike}}
use Rattle.frame_ops.proofs.fitting.firsts_fit.Goals as goal

pub find_partners-requires-clause-alike : goal.find_partners-requires-clause-alike
find_partners-requires-clause-alike c =
    All-append (λ t. length t ≡ 1) c.args.keys.now c.args.others.now
    (rw c.requires.keys (tuples_alike _)) (rw c.requires.others (tuples_alike _))
