-- Laws of texts that stand one after the other.
use Rattle.{
  std.{proofs.{Common.{◌<◌, ◌≤◌, length, take, drop, ◌≡◌, ◌∙◌, ℕ, zero, suc, ◌+◌, ◌-◌, get_or, List, [], ◌∷◌, ◌++◌, refl, sym, ap, subst, inl, inr, arith, append_assoc, append-nil, IsUtf8}, lemmas.{List.{length-append, length-take, take-append-drop, get_or-take, Folds.{concat-append}, Elements.{All-push}}, Str.{IsUtf8-nil, IsUtf8-append, IsCharBoundary-from_take}, Grind.{get_or_default_zero}, Bool.{cases_order}}, Math.ListN.{get_or-eq_default}, Math.Seq.{take-append_seam, drop-append_seam}}, specs.{List.{All, concat, slice_range}, Str.{IsCharBoundary}}},
  cell_core.specs.Pieces.{starts_from, pieces, IsBuffer},
}

-- the first text of some, behind other bytes
first_piece : (before t rest : List ℕ) → slice_range (before ++ (t ++ rest)) (length before) (length before + length t) ≡ t
first_piece before t rest =
    let size : (length before + length t) - length before ≡ length t = omega arith in
    ap (λ n. take n (drop (length before) (before ++ (t ++ rest)))) size ∙ ap (take (length t)) (drop-append_seam before (t ++ rest)) ∙ take-append_seam t rest

-- where the next text starts, or the end
next_of : (before : List ℕ) (ts : List (List ℕ)) → get_or (starts_from (length before) ts) 0 (length (before ++ concat ts)) ≡ length before
next_of before [] = ap length (append-nil before)
next_of before (t ∷ ts) = refl

-- the texts of a buffer are those that it was made of
pieces_of : (before : List ℕ) (ts : List (List ℕ)) → pieces (starts_from (length before) ts) (before ++ concat ts) ≡ ts
pieces_of before [] = refl
pieces_of before (t ∷ ts) =
    let size : length (before ++ t) ≡ length before + length t = length-append before t in
    let joined : (before ++ t) ++ concat ts ≡ before ++ (t ++ concat ts) = append_assoc before t (concat ts) in
    let next : get_or (starts_from (length before + length t) ts) 0 (length (before ++ (t ++ concat ts))) ≡ length before + length t = cc (next_of (before ++ t) ts) in
    let rest : pieces (starts_from (length before + length t) ts) (before ++ (t ++ concat ts)) ≡ ts = cc (pieces_of (before ++ t) ts) in
    let first : slice_range (before ++ (t ++ concat ts)) (length before) (get_or (starts_from (length before + length t) ts) 0 (length (before ++ (t ++ concat ts)))) ≡ t = ap (slice_range (before ++ (t ++ concat ts)) (length before)) next ∙ first_piece before t (concat ts) in
    cc (first, rest)

-- what is seen of a buffer
pub seen : (starts bytes : List ℕ) (h : IsBuffer starts bytes) → pieces starts bytes ≡ h.texts
seen starts bytes h = ap (λ ns. pieces ns bytes) h.placed ∙ ap (pieces (starts_from 0 h.texts)) h.joined ∙ pieces_of [] h.texts

starts-push : (n : ℕ) (ts : List (List ℕ)) (t : List ℕ) → starts_from n (ts ++ t ∷ []) ≡ starts_from n ts ++ (n + length (concat ts)) ∷ []
starts-push n [] t =
    let same : n ≡ n + 0 = omega arith in
    ap (λ m. m ∷ []) same
starts-push n (u ∷ ts) t =
    let rest = starts-push (n + length u) ts t in
    let size : (n + length u) + length (concat ts) ≡ n + length (u ++ concat ts) = omega (arith, length-append u (concat ts)) in
    ap (λ ns. n ∷ ns) (rest ∙ ap (λ m. starts_from (n + length u) ts ++ m ∷ []) size)

starts-take : (n k : ℕ) (ts : List (List ℕ)) → take k (starts_from n ts) ≡ starts_from n (take k ts)
starts-take n zero ts = refl
starts-take n (suc k) [] = refl
starts-take n (suc k) (t ∷ ts) = ap (λ ns. n ∷ ns) (starts-take (n + length t) k ts)

starts-length : (n : ℕ) (ts : List (List ℕ)) → length (starts_from n ts) ≡ length ts
starts-length n [] = refl
starts-length n (t ∷ ts) = ap suc (starts-length (n + length t) ts)

start_at : (n k : ℕ) (ts : List (List ℕ)) → k < length ts → get_or (starts_from n ts) k 0 ≡ n + length (concat (take k ts))
start_at n k [] lt = absurd (omega arith)
start_at n zero (t ∷ ts) lt = omega arith
start_at n (suc k) (t ∷ ts) lt =
    let rest = start_at (n + length t) k ts (omega arith) in
    let size : (n + length t) + length (concat (take k ts)) ≡ n + length (t ++ concat (take k ts)) = omega (arith, length-append t (concat (take k ts))) in
    rest ∙ size

concat-take : (k : ℕ) (ts : List (List ℕ)) → take (length (concat (take k ts))) (concat ts) ≡ concat (take k ts)
concat-take k ts =
    let whole : concat (take k ts) ++ concat (drop k ts) ≡ concat ts = sym (concat-append (take k ts) (drop k ts)) ∙ ap concat (take-append-drop k ts) in
    ap (take (length (concat (take k ts)))) (sym whole) ∙ take-append_seam (concat (take k ts)) (concat (drop k ts))

utf8-take : (k : ℕ) (ts : List (List ℕ)) → All IsUtf8 ts → All IsUtf8 (take k ts)
utf8-take k ts all i d lt =
    let size = length-take k ts in
    subst IsUtf8 (sym (get_or-take k ts i d (omega arith))) (all i d (omega arith))

utf8-concat : (ts : List (List ℕ)) → All IsUtf8 ts → IsUtf8 (concat ts)
utf8-concat [] all = IsUtf8-nil
utf8-concat (t ∷ ts) all = IsUtf8-append t (concat ts) (all 0 [] (omega arith)) (utf8-concat ts (λ i d lt. all (suc i) d (omega arith)))

module _ (starts bytes : List ℕ) (h : IsBuffer starts bytes) where
  how_many : length starts ≡ length h.texts
  how_many = ap length h.placed ∙ starts-length 0 h.texts

  size_of : length bytes ≡ length (concat h.texts)
  size_of = ap length h.joined

  whole_utf8 : IsUtf8 bytes
  whole_utf8 = subst IsUtf8 (sym h.joined) (utf8-concat h.texts h.utf8)

  -- one more text
  pub buffer_more : (t : List ℕ) → IsUtf8 t → IsBuffer (starts ++ length bytes ∷ []) (bytes ++ t)
  buffer_more t is =
      let end : 0 + length (concat h.texts) ≡ length bytes = omega (arith, size_of) in
      record {
        texts = h.texts ++ t ∷ [];
        placed = ap (λ ns. ns ++ length bytes ∷ []) h.placed ∙ ap (λ m. starts_from 0 h.texts ++ m ∷ []) (sym end) ∙ sym (starts-push 0 h.texts t);
        joined = ap (λ b. b ++ t) h.joined ∙ ap (λ b. concat h.texts ++ b) (sym (append-nil t)) ∙ sym (concat-append h.texts (t ∷ []));
        utf8 = All-push IsUtf8 h.texts t h.utf8 is;
      }

  pub pieces_more : (t : List ℕ) → IsUtf8 t → pieces (starts ++ length bytes ∷ []) (bytes ++ t) ≡ pieces starts bytes ++ t ∷ []
  unfolding buffer_more
  pieces_more t is = seen (starts ++ length bytes ∷ []) (bytes ++ t) (buffer_more t is) ∙ ap (λ ts. ts ++ t ∷ []) (sym (seen starts bytes h))

  start_is : (k : ℕ) → k < length starts → get_or starts k 0 ≡ length (concat (take k h.texts))
  start_is k lt =
      let count = how_many in
      let at = start_at 0 k h.texts (omega arith) in
      let none : 0 + length (concat (take k h.texts)) ≡ length (concat (take k h.texts)) = omega arith in
      ap (λ ns. get_or ns k 0) h.placed ∙ at ∙ none

  front_is : (k : ℕ) → k < length starts → take (get_or starts k 0) bytes ≡ concat (take k h.texts)
  front_is k lt = ap (λ n. take n bytes) (start_is k lt) ∙ ap (take (length (concat (take k h.texts)))) h.joined ∙ concat-take k h.texts

  -- fewer texts
  pub buffer_first : (k : ℕ) → k < length starts → IsBuffer (take k starts) (take (get_or starts k 0) bytes)
  buffer_first k lt = record {
    texts = take k h.texts;
    placed = ap (take k) h.placed ∙ starts-take 0 k h.texts;
    joined = front_is k lt;
    utf8 = utf8-take k h.texts h.utf8;
  }

  pub pieces_first : (k : ℕ) → k < length starts → pieces (take k starts) (take (get_or starts k 0) bytes) ≡ take k (pieces starts bytes)
  unfolding buffer_first
  pieces_first k lt = seen (take k starts) (take (get_or starts k 0) bytes) (buffer_first k lt) ∙ ap (take k) (sym (seen starts bytes h))

  -- a text may be cut out of the buffer where it starts
  pub start_is_boundary : (k : ℕ) → k < length starts → IsCharBoundary bytes (get_or starts k 0)
  start_is_boundary k lt =
      let front = front_is k lt in
      let text : IsUtf8 (take (get_or starts k 0) bytes) = subst IsUtf8 (sym front) (utf8-concat (take k h.texts) (utf8-take k h.texts h.utf8)) in
      let size : length (take (get_or starts k 0) bytes) ≡ get_or starts k 0 = ap length front ∙ sym (start_is k lt) in
      let cut = length-take (get_or starts k 0) bytes in
      IsCharBoundary-from_take bytes (get_or starts k 0) whole_utf8 (omega arith) text

  -- and where it ends
  pub end_is_boundary : (k : ℕ) → IsCharBoundary bytes (get_or starts k (length bytes))
  end_is_boundary k =
      let at_end : length starts ≤ k → IsCharBoundary bytes (get_or starts k (length bytes)) = λ past. subst (IsCharBoundary bytes) (sym (get_or-eq_default starts (length bytes) past)) (omega arith, (λ lt. absurd (omega arith))) in
      elim (cases_order k (length starts)) [
        | inl same ↦ at_end (omega arith)
        | inr (inl inside) ↦ subst (IsCharBoundary bytes) (sym (get_or_default_zero starts k (length bytes) inside)) (start_is_boundary k inside)
        | inr (inr past) ↦ at_end (omega arith)
      ]

pub pieces-length : (starts bytes : List ℕ) → length (pieces starts bytes) ≡ length starts
pieces-length [] bytes = refl
pieces-length (n ∷ ns) bytes = ap suc (pieces-length ns bytes)

-- the text at a place
piece_next : (starts bytes : List ℕ) (i : ℕ) → i < length starts → get_or (pieces starts bytes) i [] ≡ slice_range bytes (get_or starts i 0) (get_or starts (suc i) (length bytes))
piece_next [] bytes i lt = absurd (omega arith)
piece_next (n ∷ ns) bytes zero lt = refl
piece_next (n ∷ ns) bytes (suc i) lt = piece_next ns bytes i (omega arith)

pub piece_at : (starts bytes : List ℕ) (i : ℕ) → i < length starts → get_or (pieces starts bytes) i [] ≡ slice_range bytes (get_or starts i 0) (get_or starts (i + 1) (length bytes))
piece_at starts bytes i lt =
    let next : suc i ≡ i + 1 = omega arith in
    piece_next starts bytes i lt ∙ ap (λ n. slice_range bytes (get_or starts i 0) (get_or starts n (length bytes))) next

next_after : (n : ℕ) (t : List ℕ) (ts : List (List ℕ)) → n ≤ get_or (starts_from (n + length t) ts) 0 (n + length (t ++ concat ts))
next_after n t [] = omega arith
next_after n t (u ∷ ts) = omega arith

rises : (n k : ℕ) (ts : List (List ℕ)) → k < length ts → get_or (starts_from n ts) k 0 ≤ get_or (starts_from n ts) (suc k) (n + length (concat ts))
rises n k [] lt = absurd (omega arith)
rises n zero (t ∷ ts) lt = next_after n t ts
rises n (suc k) (t ∷ ts) lt =
    let end : (n + length t) + length (concat ts) ≡ n + length (t ++ concat ts) = omega (arith, length-append t (concat ts)) in
    subst (λ e. get_or (starts_from (n + length t) ts) k 0 ≤ get_or (starts_from (n + length t) ts) (suc k) e) end (rises (n + length t) k ts (omega arith))

-- a text starts before the next one
pub starts_rise : (starts bytes : List ℕ) (i : ℕ) → IsBuffer starts bytes → i < length starts → get_or starts i 0 ≤ get_or starts (i + 1) (length bytes)
starts_rise starts bytes i h lt =
    let count = how_many starts bytes h in
    let next : suc i ≡ i + 1 = omega arith in
    let total : 0 + length (concat h.texts) ≡ length bytes = omega (arith, size_of starts bytes h) in
    let up : get_or starts i 0 ≤ get_or starts (suc i) (0 + length (concat h.texts)) = subst (λ ns. get_or ns i 0 ≤ get_or ns (suc i) (0 + length (concat h.texts))) (sym h.placed) (rises 0 i h.texts (omega arith)) in
    subst (λ n. get_or starts i 0 ≤ get_or starts n (length bytes)) next (subst (λ e. get_or starts i 0 ≤ get_or starts (suc i) e) total up)
