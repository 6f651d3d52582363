-- Codes of rows, and what they say.
use Rattle.{index_core.{proofs.cells.Common.{◌≡◌, ◌∙◌, sym, refl, ℕ, zero, suc, List, [], ◌∷◌, map, slice_index_or, Option, None, All, All-head, All-tail, All-map, map-map, Label}, specs.Labels.{labels_at}}, cell_core.specs.declared.cell.Label.TheVariants.{Na}, multi_index.specs.Levels.{IsCodeBelow, LevelValue, label_of, taken_level}}

abbrev pub code_at : List (Option ℕ) → ℕ → Option ℕ
code_at codes place = slice_index_or codes place None

code_kept : (n : ℕ) (codes : List (Option ℕ)) (place : ℕ) → All (IsCodeBelow n) codes → IsCodeBelow n (code_at codes place)
code_kept n [] place all = tt
code_kept n (c ∷ codes) zero all = All-head (IsCodeBelow n) c codes all
code_kept n (c ∷ codes) (suc place) all = code_kept n codes place (All-tail (IsCodeBelow n) c codes all)

pub codes_kept : (n : ℕ) (codes : List (Option ℕ)) (places : List ℕ) → All (IsCodeBelow n) codes → All (IsCodeBelow n) (map (code_at codes) places)
codes_kept n codes places all = All-map (IsCodeBelow n) (code_at codes) places (λ k d lt. code_kept n codes _ all)

read_code : (labels : List Label) (codes : List (Option ℕ)) (place : ℕ) → label_of labels (code_at codes place) ≡ slice_index_or (map (label_of labels) codes) place Na
read_code labels [] place = refl
read_code labels (c ∷ codes) zero = refl
read_code labels (c ∷ codes) (suc place) = read_code labels codes place

decoded_at : (labels : List Label) (codes : List (Option ℕ)) (places : List ℕ) → map (label_of labels) (map (code_at codes) places) ≡ labels_at (map (label_of labels) codes) places
decoded_at labels codes places = map-map (label_of labels) (code_at codes) places ∙ (λ i. map (λ place. read_code labels codes place i) places)

pub level_taken : (labels labels' : List Label) (codes codes' : List (Option ℕ)) (places : List ℕ) (level : LevelValue) → record { labels = labels; rows = map (label_of labels) codes } ≡ level
    → labels' ≡ labels → codes' ≡ map (code_at codes) places → record { labels = labels'; rows = map (label_of labels') codes' } ≡ taken_level places level
level_taken labels labels' codes codes' places level seen same kept = rw (same, kept, sym seen) (λ i. record { labels = labels; rows = decoded_at labels codes places i })
