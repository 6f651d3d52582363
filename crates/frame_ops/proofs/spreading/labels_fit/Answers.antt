use Rattle.{
  frame_parts.proofs.Common.{◌≡◌, length, arith, All-append},
  frame_ops.proofs.WideLaws.{tuples_alike},
}
use Rattle.frame_ops.proofs.spreading.labels_fit.Goals as goal

pub find_partners-requires-clause-alike : goal.find_partners-requires-clause-alike
find_partners-requires-clause-alike c =
    All-append (λ t. length t ≡ 1) c.in_ok-labels.labels c.axis.result.now.tuples
    (rw c.in_ok-labels.ensures (tuples_alike _)) (grind arith)
