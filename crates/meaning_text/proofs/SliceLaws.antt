-- A slice of code points, one after another.
use Rattle.{
  meaning_pick.{
    proofs.{
      cells.Common.{◌≡◌, ◌∙◌, ap, sym, arith, append_assoc, ℕ, ◌+◌, ℤ, List, [], ◌∷◌, ◌++◌, length, append-nil, map-range_with_len_more, encode_utf8, tabulate, Option, Ok, Rows, AreRowsBelow},
      PositionLaws.{slice_below},
    },
    specs.{cells.Block.{strided}, Positions.{step_or_one}},
  },
  std.{proofs.lemmas.Str.{encodes-append}, specs.Str.{encode_utf8_all}},
  meaning_text.specs.Points.{points_at, slice_places, sliced},
}

pub slice_points : (from to step : Option ℤ) (cs : List ℕ) (rows : Rows) → slice_places (length cs) from to (step_or_one step) ≡ Ok rows → sliced from to step cs ≡ strided 0 cs rows
slice_points from to step cs rows e = ap (points_at cs) e

-- a code point more
pub point_more : (f : ℕ → ℕ) (n : ℕ) → encode_utf8_all (tabulate (n + 1) f) ≡ encode_utf8_all (tabulate n f) ++ encode_utf8 (f n)
point_more f n =
    ap encode_utf8_all (map-range_with_len_more f 0 n n (omega arith))
    ∙ encodes-append (tabulate n f) (f n ∷ [])
    ∙ ap (λ l. encode_utf8_all (tabulate n f) ++ l) (append-nil (encode_utf8 (f n)))

pub written_more : (front bytes : List ℕ) (f : ℕ → ℕ) (n c : ℕ) → bytes ≡ front ++ encode_utf8_all (tabulate n f) → c ≡ f n → bytes ++ encode_utf8 c ≡ front ++ encode_utf8_all (tabulate (n + 1) f)
written_more front bytes f n c e is =
    ap (λ l. l ++ encode_utf8 c) e
    ∙ ap (λ d. (front ++ encode_utf8_all (tabulate n f)) ++ encode_utf8 d) is
    ∙ append_assoc front (encode_utf8_all (tabulate n f)) (encode_utf8 (f n))
    ∙ ap (λ l. front ++ l) (sym (point_more f n))

-- the places of a slice are places of the text
pub slice_inside : (count : ℕ) (from to : Option ℤ) (step : ℤ) (rows : Rows) → slice_places count from to step ≡ Ok rows → AreRowsBelow rows count
slice_inside count from to step rows e = slice_below {K = ℕ} count from to step rows e
