-- How many tokens a text has.
use Rattle.std.proofs.Common.{◌≡◌, ℕ, zero, suc, ◌+◌, ◌-◌, ◌*◌, ◌≤◌, Bool, true, false, List, [], ◌∷◌, ◌++◌, length, replicate, Ok, Err, refl, ap, subst, arith}
use Rattle.std.proofs.lemmas.List.{length-append}
use Rattle.std.specs.Prelude.{◌||◌, ◌==◌, nat_lt, if◌then◌else◌}
use Rattle.da_values.specs.declared.token.Piece.{Piece}
use Rattle.da_values.specs.declared.token.Piece.TheVariants as piece_is
use Rattle.da_values.specs.declared.token.Token.{Token}
use Rattle.da_values.specs.declared.token.TokenKind.{TokenKind}
use Rattle.da_values.specs.declared.token.TokenKind.TheVariants as kind
use Rattle.da_values.specs.Piece.{piece, size}
use Rattle.da_values.specs.Tokens.{Fault, Scan, Scanned, Levelled, after, empty, passed, prepend, top, popped, level, levelled, bracketed, with_token, line_end, step, finish, scan, start, tokens}
use Rattle.da_values.proofs.StepLemmas.{Gets, gets_at, line_end-tokens}

length-replicate : (n : ℕ) (t : Token) → length (replicate n t) ≡ n
length-replicate zero t = refl
length-replicate (suc n) t = omega (arith, length-replicate n t)

popped-fewer : (most : ℕ) (ls : List ℕ) → length (popped most ls) ≤ length ls
popped-fewer most [] = omega arith
popped-fewer most (l ∷ ls) = elim (nat_lt most l) as (λ b. length (if b then popped most ls else l ∷ ls) ≤ suc (length ls))
    [ true ↦ omega (arith, popped-fewer most ls) | false ↦ omega arith ]

-- The tokens of a step, and the levels that it opens besides, are at most so many.
abbrev Few : ℕ → Scan → List Token → Scan → Type 0
Few most s ts next = length ts + length next.levels ≤ length s.levels + most

chosen : (P : List Token → Scan → Type 0) (b : Bool) (l r : Levelled) → Gets P l → Gets P r → Gets P (if b then l else r)
chosen P true l r first second = first
chosen P false l r first second = second

level-few : (s : Scan) → Gets (Few 2 s) (level s)
unfolding level
level-few s =
    let kept = popped s.spaces s.levels in
    let count = length s.levels - length kept in
    let dedent = empty kind.Dedent s.at s.line in
    chosen (Few 2 s) (nat_lt (top s.levels) s.spaces) _ _
    (omega arith)
    (chosen (Few 2 s) (top kept == s.spaces) _ _ (omega (arith, length-replicate count dedent, popped-fewer s.spaces s.levels)) tt)

levelled-few : (s : Scan) → Gets (Few 2 s) (levelled s)
levelled-few s = chosen (Few 2 s) s.is_fresh _ _ (level-few s) (omega arith)

bracketed-levels : (b : ℕ) (s : Scan) → (bracketed b s).levels ≡ s.levels
unfolding bracketed
bracketed-levels b s =
    elim (b == 40 || b == 91 || b == 123) as (λ c. (let r : Scan = if c then record s { brackets = s.brackets + 1; bracket_line = if s.brackets == 0 then s.line else s.bracket_line } else if b == 41 || b == 93 || b == 125 then record s { brackets = s.brackets - 1 } else s in r).levels ≡ s.levels)
    [ true ↦ refl | false ↦ elim (b == 41 || b == 93 || b == 125) as (λ c. (let r : Scan = if c then record s { brackets = s.brackets - 1 } else s in r).levels ≡ s.levels) [ true ↦ refl | false ↦ refl ] ]

with_token-few : (s : Scan) (k : TokenKind) (n b : ℕ) (l : Levelled) → Gets (Few 2 s) l → Gets (Few 3 s) (with_token k n b l)
with_token-few s k n b (Ok (ts, m)) few =
    let token : Token = record { kind = k; first = m.at; length = n; line = m.line } in
    let behind : Scan = record m { past = m.at + n; last_line = m.line } in
    omega (arith, few, length-append ts (token ∷ []), ap length (bracketed-levels b behind))
with_token-few s k n b (Err e) few = tt

line_end-few : (s : Scan) → length (line_end s) ≤ 1
line_end-few s = line_end-tokens s (λ ts. length ts ≤ 1) (omega arith) (omega arith)

step-few : (s : Scan) (b : ℕ) (p : Piece) → Gets (Few 3 s) (step s b p)
unfolding step
step-few s b piece_is.Space = omega arith
step-few s b piece_is.LineEnd = omega (arith, line_end-few s)
step-few s b (piece_is.Passed n) = omega arith
step-few s b (piece_is.Token k n) = with_token-few s k n b (levelled s) (levelled-few s)
step-few s b (piece_is.Fault f) = tt

same : (b : Bool) (us ts : List Token) (f : Fault) → (if b then Ok us else Err f) ≡ Ok ts → us ≡ ts
same true us ts f e = cc
same false us ts f e = cc

finish-few : (s : Scan) (ts : List Token) → finish s ≡ Ok ts → length ts ≤ length s.levels + 1
unfolding finish
finish-few s ts e =
    let dedents = replicate (length s.levels - 1) (empty kind.Dedent s.at s.last_line) in
    let found : length (line_end s ++ dedents) ≤ length s.levels + 1 =
    omega (arith, line_end-few s, length-append (line_end s) dedents, length-replicate (length s.levels - 1) (empty kind.Dedent s.at s.last_line)) in
    subst (λ (us : List Token). length us ≤ length s.levels + 1) (same (s.brackets == 0) _ _ _ e) found

behind : (us ts : List Token) (rest : Scanned) → prepend us rest ≡ Ok ts → (vs : List Token) × (rest ≡ Ok vs) × (us ++ vs ≡ ts)
behind us ts (Ok vs) e = (vs, refl, cc)
behind us ts (Err f) e = absurd (cc)

-- the tokens of a step, and those after it
parted : (l : Levelled) (n : ℕ) (go : Scan → Scanned) (ts : List Token) → after (passed n l) go ≡ Ok ts
    → (us : List Token) × (vs : List Token) × (next : Scan) × (l ≡ Ok (us, next)) × (go (record next { at = next.at + n }) ≡ Ok vs) × (us ++ vs ≡ ts)
parted (Ok (us, next)) n go ts e = let (vs, found, is) = behind us ts (go (record next { at = next.at + n })) e in (us, vs, next, refl, found, is)
parted (Err f) n go ts e = absurd (cc)

scan-few : (left : ℕ) (s : Scan) (z : List ℕ) (ts : List Token) → scan left s z ≡ Ok ts → length ts ≤ 3 * length z + length s.levels + 1
unfolding scan
scan-few left s [] ts e = omega (arith, finish-few s ts e)
scan-few (suc left) s (b ∷ z) ts e = omega (arith, scan-few left s z ts e)
scan-few zero s (b ∷ z) ts e =
    let n = size (piece b z) in
    let (us, vs, next, stepped, found, is) = parted (step s b (piece b z)) n (λ (next : Scan). scan (n - 1) next z) ts e in
    let few = gets_at (Few 3 s) _ us next stepped (step-few s b (piece b z)) in
    let more = scan-few (n - 1) (record next { at = next.at + n }) z vs found in
    omega (arith, few, more, length-append us vs, ap length is)

-- at most three for each byte, and two besides
pub few_tokens : (text : List ℕ) (ts : List Token) → tokens text ≡ Ok ts → length ts ≤ 3 * length text + 2
few_tokens text ts e = omega (arith, scan-few 0 start text ts e)
