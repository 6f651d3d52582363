-- The texts of labels.
use Rattle.std.specs.Prelude.{◌≡◌, ◌<◌, ℕ, suc, List, [], ◌∷◌, ◌++◌, map, length, string_bytes, Option, Some, None, IfSome, if◌then◌else◌}
use Rattle.std.specs.List.{list_any}
use Rattle.std.specs.declared.string.String.{String}
use Rattle.meaning_json.specs.cells.Text.{Text, same_text}

abbrev pub texts_seen : {Y : Type 0} → List (String Y) → List Text
texts_seen texts = map string_bytes texts

-- the place of the first text that stands again later, where the places begin at a number
abbrev pub repeated_from : ℕ → List Text → Option ℕ
repeated_from place [] = None
repeated_from place (t ∷ texts) = if list_any (same_text t) texts then Some place else repeated_from (suc place) texts

-- what is found among the last texts, before which these stand
pub record IsFoundBehind {Y : Type 0} (texts rest : List (String Y)) (later : List Text) (found : Option ℕ) : Type 0 where
  pub done : List (String Y)
  pub split : texts ≡ rest ++ done
  pub first : found ≡ repeated_from (length rest) (texts_seen done)
  pub behind : (t : Text) → list_any (same_text t) later ≡ list_any (same_text t) (texts_seen done)
  pub within : IfSome found (λ k. k < length texts)
