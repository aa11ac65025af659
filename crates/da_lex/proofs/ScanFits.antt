-- A scan's counts stay small.
use Rattle.std.proofs.Common.{◌≡◌, ℕ, ◌+◌, ◌-◌, ◌≤◌, ◌<◌, List, [], ◌∷◌, length, Ok, Err, sym, ap, arith}
use Rattle.da_values.specs.declared.token.Piece.{Piece}
use Rattle.da_values.specs.declared.token.Piece.TheVariants as piece_is
use Rattle.da_values.specs.declared.token.Token.{Token}
use Rattle.da_values.specs.Piece.{front, piece, size}
use Rattle.da_values.specs.Tokens.{Scan, Levelled, step, step_at, passed}
use Rattle.da_values.proofs.PieceKinds.{ends, piece-read}
use Rattle.da_values.proofs.PieceLemmas.{piece-within}
use Rattle.da_values.proofs.StepLemmas.{gets_at, Stepped, step-stepped}
use Rattle.da_lex.specs.Scanning.{Fits}

ends-one : (p : Piece) → ends p ≤ 1
ends-one piece_is.LineEnd = omega arith
ends-one _ = omega arith

passed-ok : (n : ℕ) (l : Levelled) (ts : List Token) (s : Scan) → passed n l ≡ Ok (ts, s) → (next : Scan) × (l ≡ Ok (ts, next)) × (s ≡ record next { at = next.at + n })
passed-ok n (Ok (us, next)) ts s e =
    let same : (us, record next { at = next.at + n }) ≡ (ts, s) = cc in
    (next, ap (λ (us : List Token). Ok (us, next)) (ap (λ (p : List Token × Scan). p.0) same), sym (ap (λ (p : List Token × Scan). p.1) same))
passed-ok n (Err f) ts s e = absurd (cc)

-- what fitted fits after a step
pub step-fits : (s next : Scan) (ts : List Token) (text : List ℕ) → 0 < length text → Fits s (length text) → step_at s text ≡ Ok (ts, next)
    → Fits next (length text - size (front text))
step-fits s next ts [] some fits stepped = absurd (omega arith)
step-fits s next ts (b ∷ z) some fits stepped =
    let n = size (piece b z) in
    let within = piece-within b z in
    let (mid, found, is) = passed-ok n (step s b (piece b z)) ts next stepped in
    let does = gets_at (Stepped s (piece b z)) _ ts mid found (step-stepped s b (piece b z) (piece-read b z)) in
    rw is (record {
      at = omega (arith, fits.at, does.at, within.within);
      line = omega (arith, fits.line, does.at, does.line, ends-one (piece b z), within.some);
      spaces = omega (arith, fits.spaces, does.at, does.spaces, within.some);
      brackets = omega (arith, fits.brackets, does.at, does.brackets, within.some);
    })
