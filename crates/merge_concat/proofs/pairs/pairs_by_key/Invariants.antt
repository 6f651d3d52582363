use Rattle.merge_concat.specs.{Codes.{outer_pairs}, Pairs.{AreListed}}
use Rattle.merge_concat.proofs.pairs.pairs_by_key.Given as goal

-- the pairs of the numbers so far
abbrev pub invariant-loop-code : goal.invariant-loop-code
invariant-loop-code l = AreListed l.out (outer_pairs l.code l.left.codes.now l.right.codes.now)
