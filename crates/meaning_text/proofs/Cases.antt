-- Texts that are written out.
use Rattle.std.specs.Prelude.{◌≡◌, pos, negsuc, true, false, [], ◌∷◌, codes, Some, None, Err}
use Rattle.std.proofs.Common.{refl}
use Rattle.std.specs.Int.{int_wrap}
use Rattle.std.specs.Str.{chars}
use Rattle.std.specs.Char.{encode_utf8}
use Rattle.meaning_pick.specs.cells.Text.{Text}
use Rattle.meaning_pick.specs.cells.Cell.{string, Int64, na_cell, int_cell, truth_cell, text_cell}
use Rattle.meaning_text.specs.TextMethod.{len, strip, starts, ends, contains, slice, fill, method_cell, text_method, not_text, bad_argument}

-- two characters of three bytes
abbrev japan : Text
japan = 0xE6 ∷ 0x97 ∷ 0xA5 ∷ 0xE6 ∷ 0x9C ∷ 0xAC ∷ []

-- no-break space, a, no-break space
abbrev padded : Text
padded = 0xC2 ∷ 0xA0 ∷ 97 ∷ 0xC2 ∷ 0xA0 ∷ []

two_points : method_cell len (text_cell japan) ≡ int_cell (pos 2)
unfolding chars int_wrap
two_points = refl

blanks : method_cell strip (text_cell (codes " ab ")) ≡ text_cell (codes "ab")
unfolding chars encode_utf8
blanks = refl

wide_blanks : method_cell strip (text_cell padded) ≡ text_cell (codes "a")
unfolding chars encode_utf8
wide_blanks = refl

zeros : method_cell (fill (pos 4)) (text_cell (codes "ab")) ≡ text_cell (codes "00ab")
unfolding chars encode_utf8
zeros = refl

after_a_sign : method_cell (fill (pos 4)) (text_cell (codes "-7")) ≡ text_cell (codes "-007")
unfolding chars encode_utf8
after_a_sign = refl

by_points : method_cell (fill (pos 3)) (text_cell japan) ≡ text_cell (48 ∷ japan)
unfolding chars encode_utf8
by_points = refl

no_width : method_cell (fill (negsuc 4)) (text_cell (codes "ab")) ≡ text_cell (codes "ab")
unfolding chars encode_utf8
no_width = refl

every_other : method_cell (slice (Some (negsuc 2)) None (Some (pos 2))) (text_cell (codes "abcd")) ≡ text_cell (codes "bd")
unfolding chars encode_utf8
every_other = refl

backwards : method_cell (slice None None (Some (negsuc 0))) (text_cell (codes "abc")) ≡ text_cell (codes "cba")
unfolding chars encode_utf8
backwards = refl

inside : method_cell (contains (codes ".")) (text_cell (codes "a.b")) ≡ truth_cell true
unfolding chars
inside = refl

nowhere : method_cell (contains (codes ".")) (text_cell (codes "ab")) ≡ truth_cell false
unfolding chars
nowhere = refl

empty_front : method_cell (starts []) (text_cell []) ≡ truth_cell true
unfolding chars
empty_front = refl

end_alone : method_cell (ends (codes "ab")) (text_cell (codes "b")) ≡ truth_cell false
unfolding chars
end_alone = refl

missing : method_cell len na_cell ≡ na_cell
missing = refl

no_step : text_method (slice None None (Some (pos 0))) record { kind = string; cells = [] } ≡ Err bad_argument
no_step = refl

kind_first : text_method (slice None None (Some (pos 0))) record { kind = Int64; cells = [] } ≡ Err not_text
kind_first = refl

too_wide : text_method (fill (pos 65537)) record { kind = string; cells = [] } ≡ Err bad_argument
too_wide = refl
