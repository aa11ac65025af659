-- The events that a text names, byte by byte, and the digits of their numbers.
use Rattle.std.proofs.Common.{◌≡◌, refl, sym, ◌∙◌, ap, ℕ, ◌+◌, ◌-◌, ◌<◌, ◌≤◌, Bool, true, false, cond, List, [], ◌∷◌, ◌++◌, append_assoc, append-nil, arith, drop, get_or, length, take}
use Rattle.std.proofs.lemmas.List.{drop_all, drop_more, take_all, take_more}
use Rattle.std.proofs.lemmas.List.Sums.{take_while-cons}
use Rattle.std.specs.Prelude.{◌==◌, if◌then◌else◌, take_while}
use Rattle.run_page.specs.Remarks.{events_named, is_digit, is_output, named_here, remark_on, words_on}

pub named_on : (old new whole : List ℕ) (b : ℕ) (others : List ℕ) → new ≡ old ++ named_here (b ∷ others) → old ++ events_named (b ∷ others) ≡ whole → new ++ events_named others ≡ whole
named_on old new whole b others adds is = ap (λ x. x ++ events_named others) adds ∙ append_assoc old (named_here (b ∷ others)) (events_named others) ∙ is

pub named_all : (found whole left : List ℕ) → left ≡ [] → found ++ events_named left ≡ whole → found ≡ whole
named_all found whole left none is = sym (append-nil found) ∙ ap (λ bs. found ++ events_named bs) (sym none) ∙ is

-- DIGITS, one by one: those up to a place, and those that follow there

abbrev pub DigitsUpTo : List ℕ → ℕ → Type 0
DigitsUpTo text place = take_while is_digit text ≡ take place text ++ take_while is_digit (drop place text)

-- what is behind a place begins with a digit, or does not
digit_here : (text : List ℕ) (place d : ℕ) (digit : Bool) → place < length text → is_digit (get_or text place d) ≡ digit
    → take_while is_digit (drop place text) ≡ cond digit (get_or text place d ∷ take_while is_digit (drop (place + 1) text)) []
digit_here text place d digit inside is =
    ap (take_while is_digit) (drop_more text place d inside) ∙ take_while-cons is_digit (get_or text place d) (drop (place + 1) text)
    ∙ ap (λ b. cond b (get_or text place d ∷ take_while is_digit (drop (place + 1) text)) []) is

pub digits_on : (text : List ℕ) (place d : ℕ) → place < length text → is_digit (get_or text place d) ≡ true → DigitsUpTo text place → DigitsUpTo text (place + 1)
digits_on text place d inside is so_far =
    so_far ∙ ap (λ x. take place text ++ x) (digit_here text place d true inside is)
    ∙ sym (append_assoc (take place text) (get_or text place d ∷ []) (take_while is_digit (drop (place + 1) text)))
    ∙ ap (λ x. x ++ take_while is_digit (drop (place + 1) text)) (sym (take_more text place d inside))

pub digits_stop : (text : List ℕ) (place d : ℕ) → place < length text → is_digit (get_or text place d) ≡ false → DigitsUpTo text place → take place text ≡ take_while is_digit text
digits_stop text place d inside is so_far = sym (so_far ∙ ap (λ x. take place text ++ x) (digit_here text place d false inside is) ∙ append-nil (take place text))

pub digits_all : (text : List ℕ) (place : ℕ) → length text ≤ place → DigitsUpTo text place → text ≡ take_while is_digit text
digits_all text place past so_far =
    sym (so_far ∙ ap (λ rest. take place text ++ take_while is_digit rest) (drop_all place text past) ∙ append-nil (take place text) ∙ take_all place text past)

-- THE FIRST BYTE AND THE OTHERS

pub nothing_left : (bytes : List ℕ) → length bytes < 1 → bytes ≡ []
nothing_left [] none = refl
nothing_left (b ∷ bytes) none = absurd (omega (arith, none))

others_are : (b : ℕ) (bytes : List ℕ) → take (length (b ∷ bytes) - 1) bytes ≡ bytes
others_are b bytes = take_all (length (b ∷ bytes) - 1) bytes (omega arith)

pub named_next : (old new whole left : List ℕ) → 1 ≤ length left → new ≡ old ++ named_here left → old ++ events_named left ≡ whole → new ++ events_named (take (length left - 1) (drop 1 left)) ≡ whole
named_next old new whole [] some adds is = absurd (omega (arith, some))
named_next old new whole (b ∷ bytes) some adds is = ap (λ bs. new ++ events_named bs) (others_are b bytes) ∙ named_on old new whole b bytes adds is

pub remark_first : (line : List ℕ) (d : ℕ) → 1 ≤ length line → (if get_or line 0 d == 35 then words_on (take (length line - 1) (drop 1 line)) else []) ≡ remark_on line
remark_first [] d some = absurd (omega (arith, some))
remark_first (b ∷ words) d some = ap (λ ws. if b == 35 then words_on ws else []) (others_are b words)

pub no_remark : (line : List ℕ) → length line < 1 → [] ≡ remark_on line
no_remark [] none = refl
no_remark (b ∷ words) none = absurd (omega (arith, none))

pub output_first : (words : List ℕ) (d : ℕ) → 1 ≤ length words → (get_or words 0 d == 62) ≡ is_output words
output_first [] d some = absurd (omega (arith, some))
output_first (b ∷ words) d some = refl

pub no_output : (words : List ℕ) → length words < 1 → false ≡ is_output words
no_output [] none = refl
no_output (b ∷ words) none = absurd (omega (arith, none))
