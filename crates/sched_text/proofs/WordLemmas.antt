-- Words after single spaces: they are cut in one way.
use Rattle.std.proofs.Common.{◌≡◌, ◌≢◌, refl, sym, ◌∙◌, ap, ℕ, suc, ◌+◌, ◌≤◌, ◌<◌, List, [], ◌∷◌, ◌++◌, length, arith}
use Rattle.std.specs.List.{All}
use Rattle.std.specs.Prelude.{codes, decimal}
use Rattle.std.specs.Str.Parse.{AllDigits, digits_value}
use Rattle.std.proofs.lemmas.List.Elements.{All-cons}
use Rattle.std.proofs.lemmas.Fmt.{decimal_is_IsNumeral}
use Rattle.std.proofs.lemmas.Str.Parse.{digit_from_value}
use Rattle.sched_text.specs.EventText.{IsNamed, spaced}
use Rattle.sched_text.specs.Reading.{AreNumbers, Stops}

-- no space stands in a word
abbrev pub IsWord : List ℕ → Type 0
IsWord word = All (λ byte. byte ≢ 32) word

tail_of : (b : ℕ) (bs : List ℕ) → IsWord (b ∷ bs) → IsWord bs
tail_of b bs word = λ k d inside. word (suc k) d (omega (arith, inside))

head_of : (b : ℕ) (bs : List ℕ) → IsWord (b ∷ bs) → b ≢ 32
head_of b bs word = word 0 b (omega arith)

-- what stands before the first space, and the rest
pub one_cut : (a b r s : List ℕ) → IsWord a → IsWord b → Stops r → Stops s → a ++ r ≡ b ++ s → (a ≡ b) × (r ≡ s)
one_cut [] [] r s p q u v same = (refl, same)
one_cut [] (y ∷ ys) [] s p q u v same = absurd (cc)
one_cut [] (y ∷ ys) (x ∷ r) s p q u v same = let heads : x ≡ y = cc in absurd (head_of y ys q (sym heads ∙ u))
one_cut (x ∷ xs) [] r [] p q u v same = absurd (cc)
one_cut (x ∷ xs) [] r (y ∷ s) p q u v same = let heads : x ≡ y = cc in absurd (head_of x xs p (heads ∙ v))
one_cut (x ∷ xs) (y ∷ ys) r s p q u v same =
    let heads : x ≡ y = cc in
    let tails : xs ++ r ≡ ys ++ s = cc in
    let (word, rest) = one_cut xs ys r s (tail_of x xs p) (tail_of y ys q) u v tails in
    (cc, rest)

-- a number is a word, and its text is its own
digits_word : (ds : List ℕ) → AllDigits 10 ds → IsWord ds
digits_word [] each = λ k d inside. absurd (omega (arith, inside))
digits_word (b ∷ bs) each =
    let range = digit_from_value b each.0 in
    let other : b ≢ 32 = λ same. omega (arith, range.0, same) in
    All-cons (λ byte. byte ≢ 32) b bs other (digits_word bs each.1)

pub number_word : (n : ℕ) → IsNamed n → IsWord (decimal n)
number_word n named = digits_word (decimal n) (decimal_is_IsNumeral n (omega (arith, named.1))).0.1

pub one_number : (m n : ℕ) → IsNamed m → IsNamed n → decimal m ≡ decimal n → m ≡ n
one_number m n p q same = sym (decimal_is_IsNumeral m (omega (arith, p.1))).1 ∙ ap (digits_value 10) same ∙ (decimal_is_IsNumeral n (omega (arith, q.1))).1

pub one_front : (m n : ℕ) (r s : List ℕ) → IsNamed m → IsNamed n → Stops r → Stops s → codes " " ++ decimal m ++ r ≡ codes " " ++ decimal n ++ s → (m ≡ n) × (r ≡ s)
one_front m n r s p q u v same =
    let tails : decimal m ++ r ≡ decimal n ++ s = cc in
    let (digits, rest) = one_cut (decimal m) (decimal n) r s (number_word m p) (number_word n q) u v tails in
    (one_number m n p q digits, rest)

pub stops_spaced : (ns : List ℕ) → Stops (spaced ns)
stops_spaced [] = tt
stops_spaced (n ∷ ns) = refl

-- numbers after spaces are these alone
pub one_list : (ms ns : List ℕ) → All IsNamed ms → All IsNamed ns → spaced ms ≡ spaced ns → ms ≡ ns
one_list [] [] p q same = refl
one_list [] (n ∷ ns) p q same = absurd (cc)
one_list (m ∷ ms) [] p q same = absurd (cc)
one_list (m ∷ ms) (n ∷ ns) p q same =
    let (first, rest) = one_front m n (spaced ms) (spaced ns) (p 0 m (omega arith)) (q 0 n (omega arith)) (stops_spaced ms) (stops_spaced ns) same in
    let more = one_list ms ns (λ k d inside. p (suc k) d (omega (arith, inside))) (λ k d inside. q (suc k) d (omega (arith, inside))) rest in
    cc

-- no number that a schedule can name stands at the front, after a space
abbrev pub NoNumber : List ℕ → Type 0
NoNumber bytes = (n : ℕ) (rest : List ℕ) → IsNamed n → Stops rest → bytes ≡ codes " " ++ decimal n ++ rest → ⊥

-- the bytes are no list of so many numbers at most
pub record NoList (most : ℕ) (bytes : List ℕ) : Type 0 where
  pub none : (ns : List ℕ) → All IsNamed ns → 1 ≤ length ns → length ns ≤ most → bytes ≡ spaced ns → ⊥

pub no_first : (most : ℕ) (bytes : List ℕ) → NoNumber bytes → NoList most bytes
no_first most bytes lacks = record { none = at }
  where
    at : (ns : List ℕ) → All IsNamed ns → 1 ≤ length ns → length ns ≤ most → bytes ≡ spaced ns → ⊥
    at [] named some few is = omega (arith, some)
    at (n ∷ ns) named some few is = lacks n (spaced ns) (named 0 n (omega arith)) (stops_spaced ns) is

pub no_more : (bytes : List ℕ) → NoList 0 bytes
no_more bytes = record { none = λ ns named some few is. omega (arith, some, few) }

pub no_later : (most : ℕ) (bytes rest : List ℕ) (n : ℕ) → IsNamed n × Stops rest × (bytes ≡ codes " " ++ decimal n ++ rest) → 0 < length rest → NoList most rest → NoList (most + 1) bytes
no_later most bytes rest n front left lacks = record { none = at }
  where
    at : (ns : List ℕ) → All IsNamed ns → 1 ≤ length ns → length ns ≤ most + 1 → bytes ≡ spaced ns → ⊥
    at [] others some few same = omega (arith, some)
    at (m ∷ ns) others some few same =
        let (first, tails) = one_front n m rest (spaced ns) front.0 (others 0 m (omega arith)) front.1 (stops_spaced ns) (sym front.2 ∙ same) in
        on ns (λ k d inside. others (suc k) d (omega (arith, inside))) (omega (arith, few)) tails
      where
        on : (ns : List ℕ) → All IsNamed ns → length ns ≤ most → rest ≡ spaced ns → ⊥
        on [] named few same = omega (arith, left, ap length same)
        on (n ∷ ns) named few same = lacks.none (n ∷ ns) named (omega arith) few same

pub not_listed : (bytes : List ℕ) → NoList 3 bytes → (ns : List ℕ) → AreNumbers ns → bytes ≡ spaced ns → ⊥
not_listed bytes lacks ns numbers is = lacks.none ns numbers.named numbers.some numbers.few is

pub no_number : (bytes after digits rest : List ℕ) → bytes ≡ 32 ∷ after → after ≡ digits ++ rest → IsWord digits → Stops rest → ((n : ℕ) → IsNamed n → digits ≡ decimal n → ⊥) → NoNumber bytes
no_number bytes after digits rest begins cut word stops lacks = λ n others named stop is.
    let both : 32 ∷ (digits ++ rest) ≡ 32 ∷ (decimal n ++ others) = ap (λ t. 32 ∷ t) (sym cut) ∙ sym begins ∙ is in
    let tails : digits ++ rest ≡ decimal n ++ others = cc in
    let (digits_is, rest_is) = one_cut digits (decimal n) rest others word (number_word n named) stops stop tails in
    lacks n named digits_is
