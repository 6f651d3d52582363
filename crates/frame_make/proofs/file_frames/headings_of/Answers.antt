use Rattle.{
  frame_parts.proofs.Common.{◌<◌, ap, length, arith},
  frame_make.proofs.FileFrameLaws.{heading_step},
}
use Rattle.frame_make.proofs.file_frames.headings_of.Goals as goal

pub loop-place-preserved : goal.loop-place-preserved
loop-place-preserved c =
    let lt : c.loop-place.place < length c.args.labels.now = omega arith in
    record {
      nameless = grind arith;
      labels = heading_step c.args.labels.now c.loop-place.place c.at.result.now c.at-in-loop-place.result c.loop-place.headings.labels c.push.new.self.labels _
          lt c.at.ensures c.at-in-loop-place.ensures (ap (λ h. h.labels) c.in_ok-push.ensures.ok) c.loop-place.invariant.labels;
    }
