-- The frame of a content is read as that content.
use Rattle.std.proofs.Common.{◌≡◌, refl, ◌∙◌, ap, sym, ℕ, ◌+◌, ◌-◌, ◌^◌, ◌≤◌, ◌<◌, List, [], ◌∷◌, ◌++◌, length, take, drop, arith, lit<, append_assoc, length-append, codes, decimal}
use Rattle.std.specs.Prelude.{Bool, true, false, if◌then◌else◌, ◌==◌, ◌&&◌, nat_le, nat_lt, Option, Some, None}
use Rattle.std.proofs.Math.Seq.{drop-append_seam, take-append-add, take-append_seam}
use Rattle.std.proofs.lemmas.Bool.Decides.{nat_tests}
use Rattle.std.proofs.lemmas.Fmt.{decimal_is_IsNumeral, length-decimal-le}
use Rattle.std.proofs.lemmas.Str.Parse.{digit_from_value}
use Rattle.std.specs.Char.{is_ascii_digit}
use Rattle.std.specs.List.{list_all, prefix_len}
use Rattle.std.specs.Str.Parse.{AllDigits, digits_value}
use Rattle.da_values.specs.Piece.{number_max, number_of}
use Rattle.lsp_frames.specs.declared.cutting.Cut.TheVariants.{Content}
use Rattle.lsp_frames.specs.declared.cutting.TheConstants.{HEADER_MAX, CONTENT_MAX}
use Rattle.lsp_frames.specs.Frames.{IsReadBack, blank_after, blank_end, cut, ends_line, frame, is_length, length_after, length_behind, number_before, number_front, number_of_line, skip_spaces, told_length}
use Rattle.lsp_frames.proofs.CutLemmas.{blank_stays}

-- DIGITS

-- they end no line
digits_pass : (n : ℕ) (ds tail : List ℕ) → AllDigits 10 ds → blank_after n false (ds ++ tail) ≡ blank_after (n + length ds) false tail
digits_pass n [] tail all = let same : n ≡ n + 0 = omega arith in ap (λ k. blank_after k false tail) same
digits_pass n (d ∷ ds) tail all =
    let range = digit_from_value d all.0 in
    let other : (d == 10) ≡ false = grind (arith, nat_tests, range.0, range.1) in
    let count : n + 1 + length ds ≡ n + length (d ∷ ds) = omega arith in
    rw other (digits_pass (n + 1) ds tail all.1 ∙ ap (λ k. blank_after k false tail) count)

-- all of them stand at the front
digits_front : (ds tail : List ℕ) → AllDigits 10 ds → prefix_len is_ascii_digit (ds ++ 13 ∷ tail) ≡ length ds
digits_front [] tail all = refl
digits_front (d ∷ ds) tail all =
    let range = digit_from_value d all.0 in
    let digit : is_ascii_digit d ≡ true = grind (arith, nat_tests, range.0, range.1) in
    rw digit (omega (arith, digits_front ds tail all.1))

-- no name of a length begins with one
no_name : (d : ℕ) (rest : List ℕ) → 48 ≤ d → d ≤ 57 → is_length (d ∷ rest) ≡ false
no_name d rest least most =
    let low : nat_lt d 65 ≡ true = grind (arith, nat_tests, most) in
    let other : (d == 99) ≡ false = grind (arith, nat_tests, most) in
    rw (low, other) refl

digits_tell_none : (found : Option ℕ) (ds tail : List ℕ) → AllDigits 10 ds → length_after found (ds ++ tail) ≡ length_after found tail
digits_tell_none found [] tail all = refl
digits_tell_none found (d ∷ ds) tail all =
    let range = digit_from_value d all.0 in
    let none : is_length (d ∷ (ds ++ tail)) ≡ false = no_name d (ds ++ tail) range.0 range.1 in
    ap (λ b. length_after (if b then length_behind (d ∷ (ds ++ tail)) else found) (ds ++ tail)) none ∙ digits_tell_none found ds tail all.1

ascii_digits : (ds : List ℕ) → AllDigits 10 ds → list_all is_ascii_digit ds ≡ true
ascii_digits [] all = refl
ascii_digits (d ∷ ds) all =
    let range = digit_from_value d all.0 in
    let digit : is_ascii_digit d ≡ true = grind (arith, nat_tests, range.0, range.1) in
    ap (λ b. b && list_all is_ascii_digit ds) digit ∙ ascii_digits ds all.1

value_found : (b : Bool) (v n : ℕ) → b ≡ true → v ≡ n → n ≤ number_max → (if b && nat_le v number_max then Some v else None) ≡ Some n
value_found true v n e is le = grind (arith, nat_tests)
value_found false v n e is le = cc

number_written : (ds : List ℕ) (n : ℕ) → AllDigits 10 ds → digits_value 10 ds ≡ n → n ≤ number_max → number_of ds ≡ Some n
unfolding number_of
number_written ds n all value small = value_found (list_all is_ascii_digit ds) (digits_value 10 ds) n (ascii_digits ds all) value small

-- THE NUMBER AFTER A NAME

number_there : (ds behind : List ℕ) (n : ℕ) → 0 < length ds → ends_line behind ≡ true → number_of ds ≡ Some n → number_before ds behind ≡ Some n
number_there ds behind n some ends is = let there : nat_lt 0 (length ds) ≡ true = grind (arith, nat_tests, some) in rw (there, ends) is

front_read : (ds tail : List ℕ) (n : ℕ) → AllDigits 10 ds → 0 < length ds → number_of ds ≡ Some n → number_front (ds ++ 13 ∷ 10 ∷ tail) ≡ Some n
front_read ds tail n all some is =
    rw (digits_front ds (10 ∷ tail) all, take-append_seam ds (13 ∷ 10 ∷ tail), drop-append_seam ds (13 ∷ 10 ∷ tail)) (number_there ds (13 ∷ 10 ∷ tail) n some refl is)

no_space : (ds tail : List ℕ) → AllDigits 10 ds → 0 < length ds → skip_spaces (ds ++ tail) ≡ ds ++ tail
no_space [] tail all some = absurd (omega (arith, some))
no_space (d ∷ ds) tail all some =
    let range = digit_from_value d all.0 in
    let other : (d == 32) ≡ false = grind (arith, nat_tests, range.0, range.1) in
    rw other refl

number_read : (ds tail : List ℕ) (n : ℕ) → AllDigits 10 ds → 0 < length ds → number_of ds ≡ Some n → number_of_line (32 ∷ (ds ++ 13 ∷ 10 ∷ tail)) ≡ Some n
number_read ds tail n all some is = ap number_front (no_space ds (13 ∷ 10 ∷ tail) all some) ∙ front_read ds tail n all some is

-- THE HEADER

abbrev header_of : List ℕ → List ℕ
header_of ds = codes "Content-Length: " ++ (ds ++ 13 ∷ 10 ∷ 13 ∷ 10 ∷ [])

header_told : (ds : List ℕ) (n : ℕ) → AllDigits 10 ds → 0 < length ds → number_of ds ≡ Some n → told_length (header_of ds) ≡ Some n
header_told ds n all some is =
    let first : told_length (header_of ds) ≡ length_after (number_of_line (32 ∷ (ds ++ 13 ∷ 10 ∷ 13 ∷ 10 ∷ []))) (ds ++ 13 ∷ 10 ∷ 13 ∷ 10 ∷ []) = refl in
    let read : number_of_line (32 ∷ (ds ++ 13 ∷ 10 ∷ 13 ∷ 10 ∷ [])) ≡ Some n = number_read ds (13 ∷ 10 ∷ []) n all some is in
    first ∙ ap (λ found. length_after found (ds ++ 13 ∷ 10 ∷ 13 ∷ 10 ∷ [])) read ∙ digits_tell_none (Some n) ds (13 ∷ 10 ∷ 13 ∷ 10 ∷ []) all

header_size : (ds : List ℕ) → length (header_of ds) ≡ 20 + length ds
header_size ds = omega (arith, length-append ds (13 ∷ 10 ∷ 13 ∷ 10 ∷ []))

header_ends : (ds : List ℕ) → AllDigits 10 ds → blank_end (header_of ds) ≡ Some (length (header_of ds))
header_ends ds all =
    let first : blank_end (header_of ds) ≡ blank_after 16 false (ds ++ 13 ∷ 10 ∷ 13 ∷ 10 ∷ []) = refl in
    let last : blank_after (16 + length ds) false (13 ∷ 10 ∷ 13 ∷ 10 ∷ []) ≡ Some (16 + length ds + 1 + 1 + 1 + 1) = refl in
    let size : 16 + length ds + 1 + 1 + 1 + 1 ≡ length (header_of ds) = omega (arith, header_size ds) in
    first ∙ digits_pass 16 ds (13 ∷ 10 ∷ 13 ∷ 10 ∷ []) all ∙ last ∙ ap Some size

-- a header, and so many bytes after it
header_cut : (header body : List ℕ) (size : ℕ) → length header ≤ HEADER_MAX → blank_end header ≡ Some (length header) → told_length header ≡ Some size → size ≤ CONTENT_MAX → size ≤ length body
    → cut (header ++ body) ≡ Content (length header) size
unfolding cut
header_cut header body size short ends told small come =
    let more = take (HEADER_MAX - length header) body in
    let sum : HEADER_MAX ≡ length header + (HEADER_MAX - length header) = omega (arith, short) in
    let front : take HEADER_MAX (header ++ body) ≡ header ++ more = ap (λ k. take k (header ++ body)) sum ∙ take-append-add header body (HEADER_MAX - length header) in
    let found : blank_end (header ++ more) ≡ Some (length header) = blank_stays 0 (length header) true header more ends in
    let own : take (length header) (header ++ more) ≡ header = take-append_seam header more in
    let fine : nat_lt CONTENT_MAX size ≡ false = grind (arith, nat_tests, small) in
    let fits : (nat_le (length header) (length header + length body) && nat_le size (length header + length body - length header)) ≡ true = grind (arith, nat_tests, come) in
    rw (front, found, own, told, fine, length-append header body, fits) refl

-- THE LAW

frame_parts : (content : List ℕ) → frame content ≡ header_of (decimal (length content)) ++ content
unfolding frame
frame_parts content = ap (λ xs. codes "Content-Length: " ++ xs) (sym (append_assoc (decimal (length content)) (13 ∷ 10 ∷ 13 ∷ 10 ∷ []) content))

pub frames_are_read : (content rest : List ℕ) → length content ≤ CONTENT_MAX → IsReadBack content rest
frames_are_read content rest small =
    let n = length content in
    let large : CONTENT_MAX < 10 ^ 8 = lit< tt in
    let wide : CONTENT_MAX < 2 ^ 64 = lit< tt in
    let most : CONTENT_MAX ≤ number_max = omega (arith, (let far : CONTENT_MAX < number_max = lit< tt in far)) in
    let is = decimal_is_IsNumeral n (omega (arith, small, wide)) in
    let digits : length (decimal n) ≤ 8 = length-decimal-le 8 n (omega arith) (omega (arith, small, large)) (omega (arith, small, wide)) in
    let number : number_of (decimal n) ≡ Some n = number_written (decimal n) n is.0.1 is.1 (omega (arith, small, most)) in
    let header = header_of (decimal n) in
    let short : length header ≤ HEADER_MAX = omega (arith, header_size (decimal n), digits) in
    let parts : frame content ++ rest ≡ header ++ (content ++ rest) = ap (λ xs. xs ++ rest) (frame_parts content) ∙ append_assoc header content rest in
    let come : n ≤ length (content ++ rest) = omega (arith, length-append content rest) in
    let there : cut (header ++ (content ++ rest)) ≡ Content (length header) n = header_cut header (content ++ rest) n short (header_ends (decimal n) is.0.1) (header_told (decimal n) n is.0.1 is.0.0 number) small come in
    let own : take n (drop (length header) (header ++ (content ++ rest))) ≡ content = ap (take n) (drop-append_seam header (content ++ rest)) ∙ take-append_seam content rest in
    (length header, ap cut parts ∙ there, ap (λ xs. take n (drop (length header) xs)) parts ∙ own)
