-- What is left of a stream after a piece has come, and after bytes are passed over.
use Rattle.std.proofs.Common.{◌≡◌, refl, ◌∙◌, ap, subst, sym, ℕ, ◌+◌, ◌-◌, ◌≤◌, ◌<◌, List, [], ◌∷◌, ◌++◌, length, take, drop, replicate, min, arith, append_assoc, drop-drop, drop_of_length-le, length-take-le}
use Rattle.std.specs.Prelude.{Bool, true, false, nat_le, Option, Some, None}
use Rattle.std.proofs.Math.Seq.{drop-append-add, drop-append_seam}
use Rattle.std.proofs.lemmas.List.{drop-append-le, length-replicate}
use Rattle.lsp_frames.specs.Source.{HasCome}
use Rattle.lsp_frames.specs.Stream.{HasNone, RemainsOf}

-- BYTES PASSED OVER

-- of bytes and others after them, of which the first so many are left out already
pub passed : (come left : List ℕ) (skip count here : ℕ) → here ≡ min count (length come) → drop here come ++ drop (skip + (count - here)) left ≡ drop count (come ++ drop skip left)
passed come left skip count here is = of (nat_le count (length come)) refl
  where
    of : (few : Bool) → nat_le count (length come) ≡ few → drop here come ++ drop (skip + (count - here)) left ≡ drop count (come ++ drop skip left)
    of true fits =
        let within : count ≤ length come = grind arith in
        let all : here ≡ count = omega (arith, is, within) in
        let none : count - here ≡ 0 = omega (arith, all) in
        let same : skip + (count - here) ≡ skip = omega (arith, none) in
        rw (same, all) (sym (drop-append-le count come (drop skip left) within))
    of false fits =
        let past : length come ≤ count = grind arith in
        let all : here ≡ length come = omega (arith, is, past) in
        let sum : count ≡ length come + (count - length come) = omega (arith, past) in
        let gone : drop (length come) come ≡ [] = drop_of_length-le come (omega arith) in
        rw (all, gone) (sym (drop-drop (count - length come) skip left) ∙ sym (drop-append-add come (drop skip left) (count - length come)) ∙ ap (λ n. drop n (come ++ drop skip left)) (sym sum))

-- what is not told may begin with bytes that are passed over
seam : (k : ℕ) (later : List ℕ) → drop k (replicate k 0 ++ later) ≡ later
seam k later = ap (λ n. drop n (replicate k 0 ++ later)) (sym (length-replicate k 0)) ∙ drop-append_seam (replicate k 0) later

-- what is left then is what was left, without so many bytes
pub passed_on : (come : List ℕ) (skip count here : ℕ) (left : Option (List ℕ)) (rest : List ℕ) → here ≡ min count (length come) → RemainsOf (drop here come) (skip + (count - here)) left rest
    → (stream : List ℕ) × RemainsOf come skip left stream × (rest ≡ drop count stream)
passed_on come skip count here (Some bytes) rest is left = (come ++ drop skip bytes, refl, left ∙ passed come bytes skip count here is)
passed_on come skip count here None rest is (later, left) =
    let more = replicate (count - here) 0 ++ later in
    let none : 0 + (count - here) ≡ count - here = omega arith in
    let back : drop (0 + (count - here)) more ≡ later = ap (λ k. drop k more) none ∙ seam (count - here) later in
    (come ++ more, (more, refl), left ∙ ap (λ xs. drop here come ++ xs) (sym back) ∙ passed come more 0 count here is)

-- A PIECE

-- n bytes that were to come have come, but for those of them that are left out
pub taken : (come piece after : List ℕ) (skip n : ℕ) → n ≡ length piece → (come ++ drop (min skip n) piece) ++ drop (skip - min skip n) after ≡ come ++ drop skip (piece ++ after)
taken come piece after skip n size = append_assoc come (drop (min skip n) piece) (drop (skip - min skip n) after) ∙ ap (λ xs. come ++ xs) (of (nat_le skip n) refl)
  where
    of : (few : Bool) → nat_le skip n ≡ few → drop (min skip n) piece ++ drop (skip - min skip n) after ≡ drop skip (piece ++ after)
    of true fits =
        let within : skip ≤ length piece = grind arith in
        let all : min skip n ≡ skip = omega (arith, within, size) in
        let none : skip - min skip n ≡ 0 = omega (arith, all) in
        rw (none, all) (sym (drop-append-le skip piece after within))
    of false fits =
        let past : length piece ≤ skip = grind arith in
        let all : min skip n ≡ length piece = omega (arith, past, size) in
        let sum : skip ≡ length piece + (skip - length piece) = omega (arith, past) in
        let gone : drop (length piece) piece ≡ [] = drop_of_length-le piece (omega arith) in
        rw (all, gone) (sym (drop-append-add piece after (skip - length piece)) ∙ ap (λ k. drop k (piece ++ after)) (sym sum))

-- what was left then is what is left now
pub came_on : (come buf : List ℕ) (skip n : ℕ) (left now : Option (List ℕ)) (rest : List ℕ) → n ≤ length buf → HasCome left n buf now
    → RemainsOf (come ++ drop (min skip n) (take n buf)) (skip - min skip n) now rest → RemainsOf come skip left rest
came_on come buf skip n None now rest within came remains =
    let (later, is) = subst (λ x. RemainsOf (come ++ drop (min skip n) (take n buf)) (skip - min skip n) x rest) came remains in
    (drop (min skip n) (take n buf) ++ later, is ∙ append_assoc come (drop (min skip n) (take n buf)) later)
came_on come buf skip n (Some bytes) now rest within (after, now_is, piece) remains =
    let is : rest ≡ (come ++ drop (min skip n) (take n buf)) ++ drop (skip - min skip n) after = subst (λ x. RemainsOf (come ++ drop (min skip n) (take n buf)) (skip - min skip n) x rest) now_is remains in
    is ∙ taken come (take n buf) after skip n (sym (length-take-le n buf within)) ∙ ap (λ xs. come ++ drop skip xs) (sym piece.front)

-- where none came nothing was to come
pub none_came : (buf : List ℕ) (n : ℕ) (left now : Option (List ℕ)) → HasCome left n buf now → 0 < length buf → n ≡ 0 → HasNone left
none_came buf n None now came room none = tt
none_came buf n (Some []) now came room none = refl
none_came buf n (Some (b ∷ bytes)) now (after, now_is, piece) room none = absurd (let some : 0 < n = piece.some room (omega arith) in omega (arith, some, none))

-- WHAT IS LEFT begins with what has come
pub later_of : (come : List ℕ) (skip : ℕ) (left : Option (List ℕ)) (rest : List ℕ) → RemainsOf come skip left rest → (later : List ℕ) × (rest ≡ come ++ later)
later_of come skip None rest remains = remains
later_of come skip (Some bytes) rest remains = (drop skip bytes, remains)
