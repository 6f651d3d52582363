-- What follows for a run from what its words ask for.
use Rattle.{
  script_session.proofs.cells.Common.{◌≡◌, ℕ, Option, IfSome, Contents, refl, subst},
  script_session.specs.script.Run.{RunResult},
  meaning_run.specs.{Asked.{RunWords, Fixed, Asked, fixed, script, IfFixed, IfScript}, Result.{IsFixedResult, IsPathResult, IsAskedResult, Stated}},
  script_run.{specs.{Ends.{Outside, Ends, Is}, declared.status.Status.{Status, TheVariants.{Memory}}}, proofs.{Options.{some-always}, RunLaws.{ends_other}, FileLaws.{ends_unbegun}, OneResult.{some_fixed}}},
}

module _ (asks : Asked) where
  module _ (one : Fixed) (is : fixed one ≡ asks) where
    -- what is asked for is no script
    pub script_never : (P : RunWords → Type 0) → IfScript asks P
    script_never P = subst (λ a. IfScript a P) is tt

    module _ (result : Status) (old new : Outside) (ends : Ends (IsFixedResult one) result old new) where
      pub fixed_ends : IfFixed asks (λ one. Ends (IsFixedResult one) result old new)
      fixed_ends = subst (λ a. IfFixed a (λ one. Ends (IsFixedResult one) result old new)) is ends

      pub fixed_told : (contents : Option Contents) → IfSome contents (λ held. Ends (IsAskedResult asks held) result old new)
      fixed_told contents = some-always contents _ (λ held. subst (λ a. Ends (IsAskedResult a held) result old new) is ends)

  module _ (run : RunWords) (is : script run ≡ asks) where
    -- what is asked for is a script
    pub fixed_never : (P : Fixed → Type 0) → IfFixed asks P
    fixed_never P = subst (λ a. IfFixed a P) is tt

    pub script_here : (P : RunWords → Type 0) → P run → IfScript asks P
    script_here P p = subst (λ a. IfScript a P) is p

    pub script_told : (contents : Option Contents) (result : Status) (old new : Outside) → IfSome contents (λ held. Ends (Stated run.flags.stats (IsPathResult run.flags.keep_going run.script run.paths held)) result old new)
        → IfSome contents (λ held. Ends (IsAskedResult asks held) result old new)
    script_told contents result old new told = subst (λ a. IfSome contents (λ held. Ends (IsAskedResult a held) result old new)) is told

-- whatever is asked for
pub fixed_always : (asks : Asked) (P : Fixed → Type 0) → ((one : Fixed) → P one) → IfFixed asks P
fixed_always (fixed one) _ always = always one
fixed_always (script _) _ _ = tt

pub script_always : (asks : Asked) (P : RunWords → Type 0) → ((run : RunWords) → P run) → IfScript asks P
script_always (fixed _) _ _ = tt
script_always (script run) _ always = always run

-- nothing was written yet
pub fixed_unbegun : (asks : Asked) (old : Outside) → IfFixed asks (λ one. Ends (IsFixedResult one) Memory old old)
fixed_unbegun asks old = fixed_always asks _ (λ one. ends_unbegun (IsFixedResult one) old old (some_fixed one) refl refl)

-- what has one result has it with any peak
pub ends_any : (one : RunResult) (status : Status) (old new : Outside) → Ends (Is one) status old new → Ends (λ result. (peak : ℕ) × (result ≡ one)) status old new
ends_any one status old new ends = ends_other _ _ status old new (λ r is. (0, is)) ends
