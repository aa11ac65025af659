-- The bytes of a printed name, number or text alone make one token.
use Rattle.std.proofs.Common.{◌≡◌, ◌≢◌, ℕ, zero, suc, ◌+◌, ◌^◌, ◌<◌, ◌≤◌, Bool, true, false, cond, ◌&&◌, List, [], ◌∷◌, ◌++◌, length, get_or, drop, take, refl, sym, ap, ◌∙◌, subst, arith, lit<, length-append}
use Rattle.std.specs.Prelude.{codes, decimal, Some, None, is_some, take_while, nat_le, ◌==◌, if◌then◌else◌}
use Rattle.std.specs.Char.{is_ascii_digit}
use Rattle.std.specs.List.{list_all, prefix_len}
use Rattle.std.specs.Str.Parse.{AllDigits, digits_value}
use Rattle.std.proofs.lemmas.Bool.Decides.{nat_tests}
use Rattle.std.proofs.lemmas.Fmt.{decimal_digit, decimal_is_IsNumeral, first_decimal}
use Rattle.std.proofs.lemmas.Str.Parse.{digit_from_value}
use Rattle.da_values.specs.declared.token.Mark.{Mark}
use Rattle.da_values.specs.declared.token.Mark.TheVariants as m
use Rattle.da_values.specs.declared.token.Piece.TheVariants as piece_is
use Rattle.da_values.specs.declared.token.TokenKind.TheVariants as kind
use Rattle.da_values.specs.Marks.{Tok}
use Rattle.da_values.specs.Piece.{front, piece, number_max, number_of, leads_with_zero, number, quoted, in_quotes}
use Rattle.da_lang.specs.Literals.{unquoted, text_of}
use Rattle.da_lang.specs.Spelling.{IsSpelled, spelled}
use Rattle.da_unparse.specs.Printable.{Makes}

-- ---- names

-- a token that is spelled, of a kind that has bytes
pub spelled_makes : {t : Tok} → IsSpelled t → (k : Mark) → t.mark ≡ k → k ≢ m.Newline → k ≢ m.Indent → k ≢ m.Dedent → Makes k t.text
spelled_makes (spelled {t} kind.Number is b) k e n i d = record { kind = kind.Number; stands = b; mark = sym e ∙ is }
spelled_makes (spelled {t} kind.Quoted is b) k e n i d = record { kind = kind.Quoted; stands = b; mark = sym e ∙ is }
spelled_makes (spelled {t} kind.Name is b) k e n i d = record { kind = kind.Name; stands = b; mark = sym e ∙ is }
spelled_makes (spelled {t} kind.Wild is b) k e n i d = record { kind = kind.Wild; stands = b; mark = sym e ∙ is }
spelled_makes (spelled {t} kind.Word is b) k e n i d = record { kind = kind.Word; stands = b; mark = sym e ∙ is }
spelled_makes (spelled {t} kind.Symbol is b) k e n i d = record { kind = kind.Symbol; stands = b; mark = sym e ∙ is }
spelled_makes (spelled {t} kind.Newline is b) k e n i d = absurd (n (sym e ∙ is))
spelled_makes (spelled {t} kind.Indent is b) k e n i d = absurd (i (sym e ∙ is))
spelled_makes (spelled {t} kind.Dedent is b) k e n i d = absurd (d (sym e ∙ is))

pub name_makes : {t : Tok} → IsSpelled t → t.mark ≡ m.Name → Makes m.Name t.text
name_makes s e = spelled_makes s m.Name e (λ f. cc) (λ f. cc) (λ f. cc)

-- ---- numbers

and_first : (a b : Bool) → (a && b) ≡ true → a ≡ true
and_first true b e = refl
and_first false b e = absurd (cc)

each_digit : (ds : List ℕ) → AllDigits 10 ds → list_all is_ascii_digit ds ≡ true
each_digit [] all = refl
each_digit (c ∷ cs) all = let range = digit_from_value c all.0 in let here : is_ascii_digit c ≡ true = grind (arith, nat_tests) in rw here (each_digit cs all.1)

-- a prefix that is all
whole_prefix : (p : ℕ → Bool) (ds : List ℕ) → list_all p ds ≡ true → prefix_len p ds ≡ length ds
whole_prefix p [] all = refl
whole_prefix p (c ∷ cs) all = step (p c) all (whole_prefix p cs)
  where
    step : (b : Bool) → (b && list_all p cs) ≡ true → (list_all p cs ≡ true → prefix_len p cs ≡ length cs) → cond b (1 + prefix_len p cs) 0 ≡ suc (length cs)
    step true all more = (let e = more all in omega arith)
    step false all more = absurd (cc)

take_all : (ds : List ℕ) → take (length ds) ds ≡ ds
take_all [] = refl
take_all (c ∷ cs) = ap (λ l. c ∷ l) (take_all cs)

in_range : (c : ℕ) → is_ascii_digit c ≡ true → (48 ≤ c) × (c ≤ 57)
in_range c digit = (grind (arith, nat_tests), grind (arith, nat_tests))

number_front : (c : ℕ) (cs : List ℕ) → is_ascii_digit c ≡ true → front (c ∷ cs) ≡ number (take_while is_ascii_digit (c ∷ cs))
unfolding piece
number_front c cs h =
    let (low, high) = in_range c h in
    let space : (c == 32) ≡ false = grind (arith, nat_tests) in
    let lf : (c == 10) ≡ false = grind (arith, nat_tests) in
    let cr : (c == 13) ≡ false = grind (arith, nat_tests) in
    let comment : (c == 35) ≡ false = grind (arith, nat_tests) in
    let quote : (c == 39) ≡ false = grind (arith, nat_tests) in
    rw (space, lf, cr, comment, quote, h) refl

-- the bytes of a number, all digits, the first of them no needless zero
number_is : (ds : List ℕ) → leads_with_zero ds ≡ false → is_some (number_of ds) ≡ true → number ds ≡ piece_is.Token kind.Number (length ds)
unfolding number
number_is ds lead some = rw (lead, some) refl

digits_front : (ds : List ℕ) → 0 < length ds → list_all is_ascii_digit ds ≡ true → front ds ≡ number ds
digits_front [] some all = absurd (omega arith)
digits_front (c ∷ cs) some all =
    let first : is_ascii_digit c ≡ true = and_first _ _ all in
    number_front c cs first ∙ ap number (ap (λ n. take n (c ∷ cs)) (whole_prefix is_ascii_digit (c ∷ cs) all) ∙ take_all (c ∷ cs))

of_number : (ds : List ℕ) (n : ℕ) → list_all is_ascii_digit ds ≡ true → digits_value 10 ds ≡ n → n ≤ number_max → is_some (number_of ds) ≡ true
unfolding number_of
of_number ds n all value small =
    let le : nat_le n number_max ≡ true = grind (arith, nat_tests) in
    rw (all, value, le) refl

chosen_number : (b c : Bool) (v n : ℕ) → (nat_le v number_max ≡ c) → (if b && c then Some v else None) ≡ Some n → n ≤ number_max
chosen_number true true v n is e = let same : v ≡ n = cc in let le : v ≤ number_max = grind (arith, nat_tests) in omega arith
chosen_number true false v n is e = absurd (cc)
chosen_number false c v n is e = absurd (cc)

-- a number of a text is not too large
pub number_small : (text : List ℕ) (n : ℕ) → number_of text ≡ Some n → n ≤ number_max
unfolding number_of
number_small text n e = chosen_number (list_all is_ascii_digit text) _ (digits_value 10 text) n refl e

lead_other : (ds : List ℕ) → 48 < get_or ds 0 0 → leads_with_zero ds ≡ false
lead_other ds big = let other : (get_or ds 0 0 == 48) ≡ false = grind (arith, nat_tests) in rw other refl

no_zero : (n : ℕ) → n < 2 ^ 64 → leads_with_zero (decimal n) ≡ false
no_zero zero small = rw (decimal_digit 0 (omega arith)) refl
no_zero (suc n) small = lead_other (decimal (suc n)) (first_decimal (suc n) (omega arith) small)

pub decimal_makes : (n : ℕ) → n ≤ number_max → Makes m.Number (decimal n)
decimal_makes n small =
    let big : number_max < 2 ^ 64 = lit< tt in
    let below : n < 2 ^ 64 = omega arith in
    let (numeral, value) = decimal_is_IsNumeral n below in
    let all = each_digit (decimal n) numeral.1 in
    record {
      kind = kind.Number;
      stands = digits_front (decimal n) numeral.0 all ∙ number_is (decimal n) (no_zero n below) (of_number (decimal n) n all value small);
      mark = refl;
    }

-- ---- texts

quoted_prefix : (b : List ℕ) → list_all in_quotes b ≡ true → prefix_len in_quotes (b ++ 39 ∷ []) ≡ length b
quoted_prefix [] all = refl
quoted_prefix (c ∷ cs) all = step (in_quotes c) all (quoted_prefix cs)
  where
    step : (t : Bool) → (t && list_all in_quotes cs) ≡ true → (list_all in_quotes cs ≡ true → prefix_len in_quotes (cs ++ 39 ∷ []) ≡ length cs) → cond t (1 + prefix_len in_quotes (cs ++ 39 ∷ [])) 0 ≡ suc (length cs)
    step true all more = (let e = more all in omega arith)
    step false all more = absurd (cc)

drop_all : (b c : List ℕ) → drop (length b) (b ++ c) ≡ c
drop_all [] c = refl
drop_all (x ∷ b) c = drop_all b c

quoted_front : (b : List ℕ) → list_all in_quotes b ≡ true → front (39 ∷ (b ++ 39 ∷ [])) ≡ piece_is.Token kind.Quoted (length b + 2)
unfolding piece quoted
quoted_front b all = rw (quoted_prefix b all, drop_all b (39 ∷ [])) refl

chosen_text : (c : Bool) (b d : List ℕ) → (if c then Some b else None) ≡ Some d → (c ≡ true) × (b ≡ d)
chosen_text true b d e = (refl, cc)
chosen_text false b d e = absurd (cc)

-- the bytes of a text may stand between quotes
pub text_plain : (text b : List ℕ) → text_of text ≡ Some b → list_all in_quotes b ≡ true
unfolding text_of
text_plain text b e = let (all, is) = chosen_text (list_all in_quotes (unquoted text)) (unquoted text) b e in subst (λ l. list_all in_quotes l ≡ true) is all

pub text_makes : (b : List ℕ) → list_all in_quotes b ≡ true → Makes m.Quoted (codes "'" ++ b ++ codes "'")
text_makes b all =
    let long : length b + 2 ≡ length (codes "'" ++ b ++ codes "'") = omega (arith, length-append b (39 ∷ [])) in
    record { kind = kind.Quoted; stands = quoted_front b all ∙ ap (piece_is.Token kind.Quoted) long; mark = refl }
