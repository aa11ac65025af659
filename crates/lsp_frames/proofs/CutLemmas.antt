-- A frame stays the first of a stream, whatever comes after it.
use Rattle.std.proofs.Common.{◌≡◌, refl, ◌∙◌, ap, subst, ℕ, ◌+◌, ◌-◌, ◌≤◌, ◌<◌, List, [], ◌∷◌, ◌++◌, length, take, drop, arith, length-append, length-drop, take_all}
use Rattle.std.specs.Prelude.{Bool, true, false, if◌then◌else◌, ◌==◌, ◌&&◌, nat_le, nat_lt, Option, Some, None}
use Rattle.std.proofs.Math.Seq.{take-append-add}
use Rattle.std.proofs.lemmas.List.{drop-append-le, take-append-le}
use Rattle.lsp_frames.specs.declared.cutting.Cut.{Cut}
use Rattle.lsp_frames.specs.declared.cutting.Cut.TheVariants.{More, Content, Unread, Large}
use Rattle.lsp_frames.specs.declared.cutting.TheConstants.{HEADER_MAX, CONTENT_MAX}
use Rattle.lsp_frames.specs.Frames.{blank_after, blank_end, cut, cut_at, cut_behind, cut_by, cut_content, told_length}

-- AN EMPTY LINE

-- where a line ends here, or an empty one ends later
stays_by : (ends fresh : Bool) (here m : ℕ) (next other next_too other_too : Option ℕ) → (next ≡ Some m → next_too ≡ Some m) → (other ≡ Some m → other_too ≡ Some m)
    → (if ends then (if fresh then Some here else next) else other) ≡ Some m → (if ends then (if fresh then Some here else next_too) else other_too) ≡ Some m
stays_by true true here m next other next_too other_too one two is = is
stays_by true false here m next other next_too other_too one two is = one is
stays_by false fresh here m next other next_too other_too one two is = two is

-- one that ends in some bytes ends there in more
pub blank_stays : (n m : ℕ) (fresh : Bool) (xs ys : List ℕ) → blank_after n fresh xs ≡ Some m → blank_after n fresh (xs ++ ys) ≡ Some m
blank_stays n m fresh [] ys is = absurd (let none : ◌≡◌ {A = Option ℕ} None (Some m) = is in cc)
blank_stays n m fresh (x ∷ xs) ys is =
    stays_by (x == 10) fresh (n + 1) m (blank_after (n + 1) true xs) (blank_after (n + 1) (fresh && x == 13) xs)
    (blank_after (n + 1) true (xs ++ ys)) (blank_after (n + 1) (fresh && x == 13) (xs ++ ys))
    (blank_stays (n + 1) m true xs ys) (blank_stays (n + 1) m (fresh && x == 13) xs ys) is

within_by : (ends fresh : Bool) (n m size : ℕ) (next other : Option ℕ) → (next ≡ Some m → m ≤ n + 1 + size) → (other ≡ Some m → m ≤ n + 1 + size)
    → (if ends then (if fresh then Some (n + 1) else next) else other) ≡ Some m → m ≤ n + 1 + size
within_by true true n m size next other one two is = let is : Some (n + 1) ≡ Some m = is in let here : n + 1 ≡ m = cc in omega (arith, here)
within_by true false n m size next other one two is = one is
within_by false fresh n m size next other one two is = two is

-- it ends within them
pub blank_within : (n m : ℕ) (fresh : Bool) (xs : List ℕ) → blank_after n fresh xs ≡ Some m → m ≤ n + length xs
blank_within n m fresh [] is = absurd (let none : ◌≡◌ {A = Option ℕ} None (Some m) = is in cc)
blank_within n m fresh (x ∷ xs) is =
    let all : m ≤ n + 1 + length xs =
    within_by (x == 10) fresh n m (length xs) (blank_after (n + 1) true xs) (blank_after (n + 1) (fresh && x == 13) xs)
    (blank_within (n + 1) m true xs) (blank_within (n + 1) m (fresh && x == 13) xs) is in
    omega (arith, all)

-- A CONTENT

both_by : (b c : Bool) (there : Cut) → (b ≡ true → c ≡ true) → ((if b then there else More) ≡ More → ⊥) → (if c then there else More) ≡ (if b then there else More)
both_by true c there on some = rw (on refl) refl
both_by false c there on some = absurd (some refl)

-- one that has come is there with more bytes too
pub content_stays : (first size come more : ℕ) → (cut_content first size come ≡ More → ⊥) → cut_content first size (come + more) ≡ cut_content first size come
content_stays first size come more some =
    both_by (nat_le first come && nat_le size (come - first)) (nat_le first (come + more) && nat_le size (come + more - first)) (Content first size) (λ fits. grind arith) some

by_stays : (first come more : ℕ) (told : Option ℕ) → (cut_by first told come ≡ More → ⊥) → cut_by first told (come + more) ≡ cut_by first told come
by_stays first come more None some = refl
by_stays first come more (Some size) some = large_by (nat_lt CONTENT_MAX size) first size come more some
  where
    large_by : (large : Bool) (first size come more : ℕ) → ((if large then Large first size else cut_content first size come) ≡ More → ⊥)
        → (if large then Large first size else cut_content first size (come + more)) ≡ (if large then Large first size else cut_content first size come)
    large_by true first size come more some = refl
    large_by false first size come more some = content_stays first size come more some

-- THE FRAME

-- where an empty line was found
found_stays : (first come more : ℕ) (front longer : List ℕ) → take first longer ≡ take first front → (cut_behind first front come ≡ More → ⊥)
    → cut_behind first longer (come + more) ≡ cut_behind first front come
found_stays first come more front longer same some = ap (λ header. cut_by first (told_length header) (come + more)) same ∙ by_stays first come more (told_length (take first front)) some

-- where none was found yet, but so many bytes have come that none is looked for any more
none_stays : (come more : ℕ) (front longer : List ℕ) (found : Option ℕ) → HEADER_MAX ≤ come → (cut_at None front come ≡ More → ⊥) → found ≡ None → cut_at found longer (come + more) ≡ cut_at None front come
none_stays come more front longer found all some is =
    let here : nat_lt come HEADER_MAX ≡ false = grind arith in
    let there : nat_lt (come + more) HEADER_MAX ≡ false = grind arith in
    rw (is, here, there) refl

-- all bytes that are looked at have come
whole_stays : (xs ys : List ℕ) → HEADER_MAX ≤ length xs → (cut xs ≡ More → ⊥) → cut (xs ++ ys) ≡ cut xs
unfolding cut
whole_stays xs ys all some =
    let same : take HEADER_MAX (xs ++ ys) ≡ take HEADER_MAX xs = take-append-le HEADER_MAX xs ys all in
    rw (same, length-append xs ys) (at_stays (blank_end (take HEADER_MAX xs)) (take HEADER_MAX xs) (length xs) (length ys) all some)
  where
    at_stays : (found : Option ℕ) (front : List ℕ) (come more : ℕ) → HEADER_MAX ≤ come → (cut_at found front come ≡ More → ⊥) → cut_at found front (come + more) ≡ cut_at found front come
    at_stays (Some first) front come more all some = by_stays first come more (told_length (take first front)) some
    at_stays None front come more all some = none_stays come more front front None all some refl

-- the bytes that are looked at, where some of them are of the first part
take_split : (xs ys : List ℕ) (n : ℕ) → length xs ≤ n → take n (xs ++ ys) ≡ xs ++ take (n - length xs) ys
take_split xs ys n le = let sum : n ≡ length xs + (n - length xs) = omega (arith, le) in ap (λ k. take k (xs ++ ys)) sum ∙ take-append-add xs ys (n - length xs)

-- some are still to come: then an empty line was found among those that have
part_stays : (xs ys : List ℕ) → length xs < HEADER_MAX → (cut xs ≡ More → ⊥) → cut (xs ++ ys) ≡ cut xs
unfolding cut
part_stays xs ys few some =
    let all : take HEADER_MAX xs ≡ xs = take_all HEADER_MAX xs (omega (arith, few)) in
    rw all (of (blank_end xs) refl (subst (λ front. cut_at (blank_end front) front (length xs) ≡ More → ⊥) all some))
  where
    of : (found : Option ℕ) → blank_end xs ≡ found → (cut_at (blank_end xs) xs (length xs) ≡ More → ⊥)
        → cut_at (blank_end (take HEADER_MAX (xs ++ ys))) (take HEADER_MAX (xs ++ ys)) (length (xs ++ ys)) ≡ cut_at (blank_end xs) xs (length xs)
    of None is some = absurd (some (let less : nat_lt (length xs) HEADER_MAX ≡ true = grind arith in rw (is, less) refl))
    of (Some first) is some =
        let more = take (HEADER_MAX - length xs) ys in
        let front : take HEADER_MAX (xs ++ ys) ≡ xs ++ more = take_split xs ys HEADER_MAX (omega (arith, few)) in
        let still : blank_end (xs ++ more) ≡ Some first = blank_stays 0 first true xs more is in
        let within : first ≤ length xs = omega (arith, blank_within 0 first true xs is) in
        let header : take first (xs ++ more) ≡ take first xs = take-append-le first xs more within in
        rw (front, still, is, length-append xs ys) (found_stays first (length xs) (length ys) xs (xs ++ more) header (subst (λ found. cut_at found xs (length xs) ≡ More → ⊥) is some))

-- the first frame of what has come is the first of the stream
pub cut_grows : (xs ys : List ℕ) → (cut xs ≡ More → ⊥) → cut (xs ++ ys) ≡ cut xs
cut_grows xs ys some = of (nat_le HEADER_MAX (length xs)) refl
  where
    of : (all : Bool) → nat_le HEADER_MAX (length xs) ≡ all → cut (xs ++ ys) ≡ cut xs
    of true is = whole_stays xs ys (grind arith) some
    of false is = part_stays xs ys (grind arith) some

-- THE PLACE OF A CONTENT

none_by : (less : Bool) (first size : ℕ) → (if less then More else Unread HEADER_MAX) ≡ Content first size → ⊥
none_by true first size is = let is : More ≡ Content first size = is in cc
none_by false first size is = let is : Unread HEADER_MAX ≡ Content first size = is in cc

fits_by : (fits : Bool) (n k come first size : ℕ) → (nat_le n come && nat_le k (come - n)) ≡ fits → (if fits then Content n k else More) ≡ Content first size → first + size ≤ come
fits_by true n k come first size fits is =
    let is : Content n k ≡ Content first size = is in
    let one : n ≡ first = cc in
    let two : k ≡ size = cc in
    grind arith
fits_by false n k come first size fits is = absurd (let is : More ≡ Content first size = is in cc)

large_come : (large : Bool) (n k come first size : ℕ) → (if large then Large n k else cut_content n k come) ≡ Content first size → first + size ≤ come
large_come true n k come first size is = absurd (let is : Large n k ≡ Content first size = is in cc)
large_come false n k come first size is = fits_by (nat_le n come && nat_le k (come - n)) n k come first size refl is

come_by : (n : ℕ) (told : Option ℕ) (come first size : ℕ) → cut_by n told come ≡ Content first size → first + size ≤ come
come_by n None come first size is = absurd (let is : Unread n ≡ Content first size = is in cc)
come_by n (Some k) come first size is = large_come (nat_lt CONTENT_MAX k) n k come first size is

come_at : (found : Option ℕ) (front : List ℕ) (come first size : ℕ) → cut_at found front come ≡ Content first size → first + size ≤ come
come_at None front come first size is = absurd (none_by (nat_lt come HEADER_MAX) first size is)
come_at (Some n) front come first size is = come_by n (told_length (take n front)) come first size is

-- a content that was found has come
pub content_come : (xs : List ℕ) (first size : ℕ) → cut xs ≡ Content first size → first + size ≤ length xs
unfolding cut
content_come xs first size is = come_at (blank_end (take HEADER_MAX xs)) (take HEADER_MAX xs) (length xs) first size is

-- and it is the same, whatever comes after it
pub content_stays_there : (xs ys : List ℕ) (first size : ℕ) → cut xs ≡ Content first size → take size (drop first (xs ++ ys)) ≡ take size (drop first xs)
content_stays_there xs ys first size is =
    let all : first + size ≤ length xs = content_come xs first size is in
    let header : first ≤ length xs = omega (arith, all) in
    let content : size ≤ length (drop first xs) = omega (arith, all, length-drop first xs) in
    rw (drop-append-le first xs ys header) (take-append-le size (drop first xs) ys content)
