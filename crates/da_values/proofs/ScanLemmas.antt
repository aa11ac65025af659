-- A scan, a piece at a time.
use Rattle.std.proofs.Common.{◌≡◌, ℕ, zero, suc, ◌-◌, ◌≤◌, ◌<◌, List, [], ◌∷◌, ◌++◌, length, drop, Ok, Err, refl, sym, ap, ◌∙◌, append_assoc, arith}
use Rattle.da_values.specs.declared.token.Token.{Token}
use Rattle.da_values.specs.Piece.{front, size}
use Rattle.da_values.specs.Tokens.{Fault, Scan, Scanned, Levelled, step_at, after, prepend, scan, finish}
use Rattle.da_values.proofs.PieceLemmas.{piece-within}

-- the bytes that are left of a piece are passed
pub scan_skips : (n : ℕ) (s : Scan) (z : List ℕ) → n ≤ length z → scan n s z ≡ scan 0 s (drop n z)
unfolding scan
scan_skips zero s [] le = refl
scan_skips zero s (b ∷ z) le = refl
scan_skips (suc n) s [] le = absurd (omega arith)
scan_skips (suc n) s (b ∷ z) le = scan_skips n s z (omega arith)

pub front-some : (text : List ℕ) → 0 < length text → 1 ≤ size (front text)
front-some [] some = absurd (omega arith)
front-some (b ∷ z) some = (piece-within b z).some

pub front-within : (text : List ℕ) → 0 < length text → size (front text) ≤ length text
front-within [] some = absurd (omega arith)
front-within (b ∷ z) some = (piece-within b z).within

after-same : (l : Levelled) (f g : Scan → Scanned) → ((s : Scan) → f s ≡ g s) → after l f ≡ after l g
after-same (Ok (ts, s)) f g same = ap (prepend ts) (same s)
after-same (Err e) f g same = refl

pub drop-tail : (n b : ℕ) (z : List ℕ) → 1 ≤ n → drop n (b ∷ z) ≡ drop (n - 1) z
drop-tail zero b z some = absurd (omega arith)
drop-tail (suc n) b z some = let e : suc n - 1 ≡ n = omega arith in rw e refl

-- a step, from the front of a text on
pub scan_step : (s : Scan) (text : List ℕ) → 0 < length text → scan 0 s text ≡ after (step_at s text) (λ next. scan 0 next (drop (size (front text)) text))
unfolding scan
scan_step s [] some = absurd (omega arith)
scan_step s (b ∷ z) some =
    let n = size (front (b ∷ z)) in
    let fits = piece-within b z in
    let some : 1 ≤ n = fits.some in
    let short : n - 1 ≤ length z = omega (arith, fits.within) in
    after-same (step_at s (b ∷ z)) _ _ (λ next. scan_skips (n - 1) next z short ∙ ap (scan 0 next) (sym (drop-tail n b z some)))

prepend-append : (ts us : List Token) (r : Scanned) → prepend (ts ++ us) r ≡ prepend ts (prepend us r)
prepend-append ts us (Ok vs) = ap Ok (append_assoc ts us vs)
prepend-append ts us (Err e) = refl

-- one step further
pub go_on : (before ts new : List Token) (s next : Scan) (text : List ℕ) (whole : Scanned) → 0 < length text → step_at s text ≡ Ok (ts, next) → new ≡ before ++ ts
    → prepend before (scan 0 s text) ≡ whole → prepend new (scan 0 next (drop (size (front text)) text)) ≡ whole
go_on before ts new s next text whole some stepped grown so_far =
    rw grown (prepend-append before ts (scan 0 next (drop (size (front text)) text))
    ∙ ap (λ l. prepend before (after l (λ n. scan 0 n (drop (size (front text)) text)))) (sym stepped)
    ∙ ap (prepend before) (sym (scan_step s text some)) ∙ so_far)

-- a fault at a step
pub stopped : (before : List Token) (s : Scan) (text : List ℕ) (e : Fault) (whole : Scanned) → 0 < length text → step_at s text ≡ Err e
    → prepend before (scan 0 s text) ≡ whole → whole ≡ Err e
stopped before s text e whole some failed so_far =
    sym so_far ∙ ap (prepend before) (scan_step s text some ∙ ap (λ l. after l (λ n. scan 0 n (drop (size (front text)) text))) failed)

-- the end of the text
pub ended : (before : List Token) (s : Scan) (text : List ℕ) (whole : Scanned) → length text ≡ 0 → prepend before (scan 0 s text) ≡ whole → whole ≡ prepend before (finish s)
unfolding scan
ended before s [] whole none so_far = sym so_far
ended before s (b ∷ z) whole none so_far = absurd (omega arith)
