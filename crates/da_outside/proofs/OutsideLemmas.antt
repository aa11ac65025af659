-- What several calls of a source or a sink come to.
use Rattle.std.proofs.Common.{◌≡◌, refl, ◌∙◌, ap, subst, sym, ℕ, ◌+◌, ◌-◌, ◌≤◌, ◌<◌, List, ◌++◌, [], take, drop, length, arith, append_assoc, append-nil, length-append, length-drop, length-take-le, take_all}
use Rattle.std.specs.Prelude.{Option, Some, None, min}
use Rattle.std.proofs.Math.Seq.{take-add, take-append-add, take-length}
use Rattle.std.proofs.lemmas.List.{take-append-le, take_min}
use Rattle.da_outside.specs.Outside.{Appends, AppendsPrefix, HasCause, HasPrefix, ReadsTold}

-- THE CAUSE OF A FAULT

-- the same fault by another name
pub cause_as : {P Q : Type 0} (before now : ℕ) → (P → Q) → (Q → P) → HasCause before now P → HasCause before now Q
cause_as before now to from cause = record { later = cause.later; failed = λ q. cause.failed (from q); rises = λ rose. to (cause.rises rose) }

-- one that never comes, where nothing was done
pub no_cause : {P : Type 0} (n : ℕ) → (P → ⊥) → HasCause n n P
no_cause n never = record { later = omega arith; failed = λ p. absurd (never p); rises = λ rose. absurd (let rose : n < n = rose in omega (arith, rose)) }

-- ONE WRITE AFTER ANOTHER

pub appends_then : (a b c : Option (List ℕ)) (xs ys : List ℕ) → Appends a b xs → Appends b c ys → Appends a c (xs ++ ys)
appends_then None b c xs ys first next = rw (next, first) refl
appends_then (Some told) b c xs ys first next = rw (next, first) (ap Some (append_assoc told xs ys))

-- no byte more
pub appends_none : (a : Option (List ℕ)) → Appends a a []
appends_none None = refl
appends_none (Some told) = ap Some (sym (append-nil told))

-- THE FRONT OF BYTES

-- all of them
pub prefix_whole : (a b : Option (List ℕ)) (bytes : List ℕ) → Appends a b bytes → AppendsPrefix a b bytes
prefix_whole a b bytes written = (length bytes, rw (take-length bytes) written)

-- none of them
pub prefix_none : (a : Option (List ℕ)) (bytes : List ℕ) → AppendsPrefix a a bytes
prefix_none None bytes = (0, refl)
prefix_none (Some told) bytes = (0, ap Some (sym (append-nil told)))

-- some, where more were due after them
pub prefix_before : (a b : Option (List ℕ)) (xs ys : List ℕ) → AppendsPrefix a b xs → AppendsPrefix a b (xs ++ ys)
prefix_before a b xs ys (n, front) =
    let within : min n (length xs) ≤ length xs = omega arith in
    (min n (length xs), rw (take-append-le (min n (length xs)) xs ys within, take_min n xs) front)

-- some, after others that were taken whole
pub prefix_after : (a b c : Option (List ℕ)) (xs ys : List ℕ) → Appends a b xs → AppendsPrefix b c ys → AppendsPrefix a c (xs ++ ys)
prefix_after a b c xs ys first (n, front) = (length xs + n, rw (take-append-add xs ys n) (appends_then a b c xs (take n ys) first front))

-- BYTES IN PIECES

rest-whole : (at : ℕ) (bytes : List ℕ) → take (length bytes - at) (drop at bytes) ≡ drop at bytes
rest-whole at bytes = take_all (length bytes - at) (drop at bytes) (omega (arith, length-drop at bytes))

-- the first bytes are taken, and then n more
pub appends_more : (a b c : Option (List ℕ)) (bytes : List ℕ) (at n : ℕ) → Appends a b (take at bytes) → Appends b c (take n (take (length bytes - at) (drop at bytes)))
    → Appends a c (take (at + n) bytes)
appends_more a b c bytes at n first next =
    let next : Appends b c (take n (drop at bytes)) = subst (λ xs. Appends b c (take n xs)) (rest-whole at bytes) next in
    rw (take-add at n bytes) (appends_then a b c (take at bytes) (take n (drop at bytes)) first next)

-- a prefix of the content, and then n more bytes
prefix_more : (told : Option (List ℕ)) (text new piece : List ℕ) (n : ℕ) → HasPrefix told text → ReadsTold told (length text) n piece → new ≡ text ++ take n piece → HasPrefix told new
prefix_more None text new piece n front reads added = tt
prefix_more (Some bytes) text new piece n front reads added =
    let size : length (take n piece) ≡ n = rw reads.read (omega (arith, length-take-le n (drop (length text) bytes) reads.within)) in
    rw (added, length-append, size, take-add (length text) n bytes, ← front, reads.read) refl

pub prefix_read : (told : Option (List ℕ)) (text new buf rest : List ℕ) (at n : ℕ) → at ≡ length text → n ≤ length buf → HasPrefix told text → ReadsTold told at n buf
    → new ≡ text ++ take n (buf ++ rest) → HasPrefix told new
prefix_read told text new buf rest at n at_is within front reads added =
    prefix_more told text new buf n front (subst (λ k. ReadsTold told k n buf) at_is reads) (added ∙ ap (λ xs. text ++ xs) (take-append-le n buf rest within))
