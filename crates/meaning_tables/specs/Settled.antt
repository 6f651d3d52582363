-- What further texts leave as it is.
use Rattle.std.specs.Prelude.{◌≡◌, List, ◌++◌}
use Rattle.meaning_cells.specs.Text.{Text}

-- further texts change nothing of what is seen: each text's number was given
abbrev pub IsSettled : {X Y : Type 0} → (List Text → X → Y) → List Text → X → Type 0
IsSettled view texts x = (more : List Text) → view (texts ++ more) x ≡ view texts x
