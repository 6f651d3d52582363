-- A pattern stands among the code points of a text exactly where its bytes stand among those of the text.
use Rattle.{meaning_pick.proofs.cells.Common.{◌≡◌, ◌∙◌, ap, sym, refl, subst, arith, ℕ, ◌-◌, ◌<◌, Bool, true, false, ◌||◌, ◌⊎◌, inl, inr, ◌↔◌, List, [], ◌∷◌, ◌++◌, length, take, drop, slice_index, nat_eq, take-append-drop, take-append_seam, get_or-append_seam, length-append, bytes_eq-Decides, IsUtf8}, std.{proofs.lemmas.{List.Prefix.{end_rest}, Str.{chars-nil, chars-append, encodes-append, encodes-chars, IsCharBoundary-start, IsCharBoundary-at_seam, IsUtf8-take}}, specs.{List.{starts_with, ends_with}, Str.{chars, encode_utf8_all, IsCharBoundary, Iter.{HasSubslice}}}}, meaning_text.specs.Points.{stands_in}}

pub same_truth : (a b : Bool) → (a ≡ true → b ≡ true) → (b ≡ true → a ≡ true) → a ≡ b
same_truth true true f g = refl
same_truth true false f g = sym (f refl)
same_truth false true f g = g refl
same_truth false false f g = refl

either : (x y : Bool) → (x || y) ≡ true → (x ≡ true) ⊎ (y ≡ true)
either true y e = inl refl
either false y e = inr e

second : (x y : Bool) → y ≡ true → (x || y) ≡ true
second true y e = refl
second false y e = e

-- a list begins with a pattern exactly where it is the pattern and a rest
begins : (xs p rest : List ℕ) → xs ≡ p ++ rest → starts_with nat_eq xs p ≡ true
begins xs p rest e = (bytes_eq-Decides p (take (length p) xs)).1 (sym (ap (take (length p)) e ∙ take-append_seam p rest))

begun : (xs p : List ℕ) → starts_with nat_eq xs p ≡ true → xs ≡ p ++ drop (length p) xs
begun xs p e = sym (take-append-drop (length p) xs) ∙ ap (λ front. front ++ drop (length p) xs) (sym ((bytes_eq-Decides p (take (length p) xs)).0 e))

-- and ends with it exactly where it is a front and the pattern
finishes : (xs front p : List ℕ) → xs ≡ front ++ p → ends_with nat_eq xs p ≡ true
finishes xs front p e = (bytes_eq-Decides p (drop (length xs - length p) xs)).1 (sym (end_rest xs p front e))

finished : (xs p : List ℕ) → ends_with nat_eq xs p ≡ true → xs ≡ take (length xs - length p) xs ++ p
finished xs p e =
    sym (take-append-drop (length xs - length p) xs)
    ∙ ap (λ back. take (length xs - length p) xs ++ back) (sym ((bytes_eq-Decides p (drop (length xs - length p) xs)).0 e))

-- the code points of parts, and the parts of code points
joined : (t front back : List ℕ) → IsUtf8 t → chars t ≡ front ++ back → t ≡ encode_utf8_all front ++ encode_utf8_all back
joined t front back u e = sym (encodes-chars t u) ∙ ap encode_utf8_all e ∙ encodes-append front back

parted : (t front back : List ℕ) → IsUtf8 front → t ≡ front ++ back → chars t ≡ chars front ++ chars back
parted t front back u e = ap chars e ∙ chars-append front back u

pub starts_points : (t p : List ℕ) → IsUtf8 t → IsUtf8 p → starts_with nat_eq (chars t) (chars p) ≡ starts_with nat_eq t p
starts_points t p u v =
    same_truth (starts_with nat_eq (chars t) (chars p)) (starts_with nat_eq t p)
    (λ e.
    let rest = drop (length (chars p)) (chars t) in
    begins t p (encode_utf8_all rest) (joined t (chars p) rest u (begun (chars t) (chars p) e) ∙ ap (λ front. front ++ encode_utf8_all rest) (encodes-chars p v)))
    (λ e. begins (chars t) (chars p) (chars (drop (length p) t)) (parted t p (drop (length p) t) v (begun t p e)))

-- the front before text is text
front_utf8 : (t front back : List ℕ) → IsUtf8 t → IsCharBoundary t (length front) → t ≡ front ++ back → IsUtf8 front
front_utf8 t front back u cut e = subst IsUtf8 (ap (take (length front)) e ∙ take-append_seam front back) (IsUtf8-take t (length front) u cut)

pub ends_points : (t p : List ℕ) → IsUtf8 t → IsUtf8 p → ends_with nat_eq (chars t) (chars p) ≡ ends_with nat_eq t p
ends_points t p u v =
    same_truth (ends_with nat_eq (chars t) (chars p)) (ends_with nat_eq t p)
    (λ e.
    let front = take (length (chars t) - length (chars p)) (chars t) in
    finishes t (encode_utf8_all front) p (joined t front (chars p) u (finished (chars t) (chars p) e) ∙ ap (λ back. encode_utf8_all front ++ back) (encodes-chars p v)))
    (λ e.
    let front = take (length t - length p) t in
    let is : t ≡ front ++ p = finished t p e in
    finishes (chars t) (chars front) (chars p) (parted t front p (front_utf8 t front p u (IsCharBoundary-at_seam t front p is v) is) is))

-- a text may be cut where another text that isn't empty begins
may_be_cut : (t front p back : List ℕ) → IsUtf8 p → 0 < length p → t ≡ front ++ (p ++ back) → IsCharBoundary t (length front)
may_be_cut t front [] back v some e = absurd (omega arith)
may_be_cut t front (b ∷ bs) back v some e =
    let here : slice_index t (length front) ≡ b = ap (λ l. slice_index l (length front)) e ∙ get_or-append_seam front b (bs ++ back) 0 in
    let long : length t ≡ length (front ++ (b ∷ (bs ++ back))) = ap length e in
    (omega (arith, long, length-append front (b ∷ (bs ++ back))), λ lt high. rw here ((IsCharBoundary-start (b ∷ bs) v).1 some (rw here at high)))

in_points : (t p : List ℕ) → IsUtf8 t → IsUtf8 p → HasSubslice t p → HasSubslice (chars t) (chars p)
in_points t [] u v h = ([], chars t, ap (λ none. none ++ chars t) (sym chars-nil))
in_points t (b ∷ bs) u v (front, back, e) =
    let cut : IsCharBoundary t (length front) = may_be_cut t front (b ∷ bs) back v (omega arith) e in
    let text : IsUtf8 front = front_utf8 t front ((b ∷ bs) ++ back) u cut e in
    (chars front, chars back, parted t front ((b ∷ bs) ++ back) text e ∙ ap (λ l. chars front ++ l) (chars-append (b ∷ bs) back v))

in_bytes : (t p : List ℕ) → IsUtf8 t → IsUtf8 p → HasSubslice (chars t) (chars p) → HasSubslice t p
in_bytes t p u v (front, back, e) = (
  encode_utf8_all front,
  encode_utf8_all back,
  joined t front (chars p ++ back) u e
      ∙ ap (λ l. encode_utf8_all front ++ l) (encodes-append (chars p) back ∙ ap (λ l. l ++ encode_utf8_all back) (encodes-chars p v)),
)

-- a pattern stands at some place exactly where there are parts before and behind it
stood : (p cs : List ℕ) → stands_in p cs ≡ true → HasSubslice cs p
stood p [] e = ([], drop (length p) [], begun [] p e)
stood p (c ∷ cs) e =
    elim (either (starts_with nat_eq (c ∷ cs) p) (stands_in p cs) e) [
      | inl first ↦ ([], drop (length p) (c ∷ cs), begun (c ∷ cs) p first)
      | inr later ↦ let h = stood p cs later in (c ∷ h.0, h.1, ap (λ l. c ∷ l) h.2)
    ]

at_front : (p cs : List ℕ) → starts_with nat_eq cs p ≡ true → stands_in p cs ≡ true
at_front p [] e = e
at_front p (c ∷ cs) e = ap (λ b. b || stands_in p cs) e

found : (p front back : List ℕ) → stands_in p (front ++ (p ++ back)) ≡ true
found p [] back = at_front p (p ++ back) (begins (p ++ back) p back refl)
found p (c ∷ front) back = second (starts_with nat_eq (c ∷ (front ++ (p ++ back))) p) (stands_in p (front ++ (p ++ back))) (found p front back)

stands : (p cs : List ℕ) → HasSubslice cs p → stands_in p cs ≡ true
stands p cs (front, back, e) = ap (stands_in p) e ∙ found p front back

pub stands_points : (t p : List ℕ) (r : Bool) → IsUtf8 t → IsUtf8 p → (r ≡ true) ↔ HasSubslice t p → r ≡ stands_in (chars p) (chars t)
stands_points t p r u v h =
    same_truth r (stands_in (chars p) (chars t))
    (λ e. stands (chars p) (chars t) (in_points t p u v (h.0 e)))
    (λ e. h.1 (in_bytes t p u v (stood (chars p) (chars t) e)))
