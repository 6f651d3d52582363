use Rattle.{
  script_session.{proofs.cells.Common.{◌≡◌, [], drop, map}, specs.script_state.Reads.{paths_of}},
  meaning_run.specs.Asked.{names_after},
}
use Rattle.script_run.proofs.words.names_in.Given as goal

-- the names of all words are those so far, and then those of the words that are left
abbrev pub invariant-loop-word : goal.invariant-loop-word
invariant-loop-word l = names_after [] (map (λ word. word.now) l.words) ≡ names_after (paths_of l.names) (map (λ word. word.now) (drop l.word-index l.words))
