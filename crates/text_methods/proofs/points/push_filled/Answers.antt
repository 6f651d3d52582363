use Rattle.meaning_text.proofs.FillLaws.{sign_cut}
use Rattle.text_methods.proofs.points.push_filled.Goals as goal

pub split_at-requires : goal.split_at-requires
split_at-requires c = rw c.sign_len.ensures (sign_cut c.args.text.now c.utf8.text)
