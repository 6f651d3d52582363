-- Lists that change.
use Rattle.std.specs.Prelude.{◌≡◌, List, [], ◌∷◌, ◌++◌, Option, MatchOption}

-- the last item is taken out, and none exactly where there is none
abbrev pub TakesLast : {A : Type 0} → List A → List A → Option A → Type 0
TakesLast old new result = MatchOption result ((old ≡ []) × (new ≡ [])) (λ last. old ≡ new ++ last ∷ [])
