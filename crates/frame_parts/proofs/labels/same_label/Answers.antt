use Rattle.frame_parts.proofs.Common.{◌≡◌, rules, Decides, same_by_number}
use Rattle.frame_parts.proofs.labels.same_label.Goals as goal

pub returns : goal.returns
returns c =
    let is : Decides c.eq.result (c.args.a ≡ c.args.b) = search rules in
    search same_by_number
