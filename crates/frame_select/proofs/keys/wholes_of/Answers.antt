use Rattle.{
  frame_parts.proofs.Common.{rules, [], ◌∷◌, ◌++◌, ◌≡◌, refl, arith, length-map},
  frame_select.proofs.HeadingLaws.{whole_more, all_made, from_cell},
}
use Rattle.frame_select.proofs.keys.wholes_of.Goals as goal

pub returns-in-None : goal.returns-in-None
returns-in-None c = λ texts. rw c.wrong_kind.ensures (grind (arith, from_cell texts c.args.cells.now c.loop-k.k c.at.result.now c.at.ensures, c.loop-k.invariant texts), λ more. refl)

pub loop-k-preserved : goal.loop-k-preserved
loop-k-preserved c = λ texts.
    let pushed : c.push.new.self ≡ c.loop-k.numbers ++ c.in-Some.number ∷ [] = search rules in
    whole_more texts c.args.cells.now c.loop-k.k c.at.result.now c.at.ensures _ _ _ _ (grind arith) pushed (c.loop-k.invariant texts)

pub returns : goal.returns
returns c = λ texts. grind (arith, all_made, length-map, c.loop-k.invariant texts)
