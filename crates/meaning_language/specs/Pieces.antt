-- A script cut into pieces, from the bytes alone.
use Rattle.std.specs.Prelude.{ℕ, ◌+◌, ◌==◌, ◌||◌, Bool, true, false, nat_le, List, [], ◌∷◌, if◌then◌else◌}

-- where a byte stands: outside texts and comments, in a comment, in a text with this quote, or there just after a backslash
pub data Mode : Type 0 where
  plain : Mode
  comment : Mode
  quoted : ℕ → Mode
  escaped : ℕ → Mode

abbrev pub mode_after : Mode → ℕ → Mode
mode_after plain b = if b == 35 then comment else if b == 39 || b == 34 then quoted b else plain
mode_after comment b = comment
mode_after (quoted q) b = if b == q then plain else if b == 92 then escaped q else quoted q
mode_after (escaped q) b = quoted q

-- how many brackets a byte opens, and how many it closes, of any kind
abbrev pub opens : Mode → ℕ → ℕ
opens plain b = if b == 40 || b == 91 || b == 123 then 1 else 0
opens mode b = 0

abbrev pub closes : Mode → ℕ → ℕ
closes plain b = if b == 41 || b == 93 || b == 125 then 1 else 0
closes mode b = 0

-- one of two, by a test
unfoldable pub choose : {A : Type 0} → Bool → A → A → A
choose true x y = x
choose false x y = y

-- a byte before these pieces, in the first of them
abbrev pub into_first : ℕ → List (List ℕ) → List (List ℕ)
into_first b [] = (b ∷ []) ∷ []
into_first b (p ∷ ps) = (b ∷ p) ∷ ps

-- The rest of a piece of whose brackets so many were opened and closed, and the pieces after it. A piece ends with a line feed at which no more are opened than closed. A text ends before a line feed.
unfoldable pub cut : Mode → ℕ → ℕ → List ℕ → List (List ℕ)
cut mode opened closed [] = []
cut mode opened closed (b ∷ bs) =
    choose (b == 10)
    (choose (nat_le opened closed) ((b ∷ []) ∷ cut plain 0 0 bs) (into_first b (cut plain opened closed bs)))
    (into_first b (cut (mode_after mode b) (opened + opens mode b) (closed + closes mode b) bs))

abbrev pub pieces : List ℕ → List (List ℕ)
pieces bytes = cut plain 0 0 bytes
