-- What a step of a scan changes, and where its tokens stand.
use Rattle.std.proofs.Common.{◌≡◌, ℕ, zero, suc, ◌+◌, ◌-◌, ◌≤◌, ◌⊎◌, inl, inr, Bool, true, false, not, ◌||◌, List, [], ◌∷◌, ◌++◌, length, replicate, Ok, Err, refl, ◌∙◌, subst, arith}
use Rattle.std.proofs.lemmas.List.Elements.{All-append, All-cons, All-nil}
use Rattle.std.specs.Prelude.{All, MatchBool, if◌then◌else◌, nat_lt, ◌==◌}
use Rattle.da_values.specs.declared.token.Piece.{Piece}
use Rattle.da_values.specs.declared.token.Piece.TheVariants as piece_is
use Rattle.da_values.specs.declared.token.Token.{Token}
use Rattle.da_values.specs.declared.token.TokenKind.{TokenKind}
use Rattle.da_values.specs.declared.token.TokenKind.TheVariants as kind
use Rattle.da_values.specs.Piece.{size}
use Rattle.da_values.proofs.PieceKinds.{ends, IsRead}
use Rattle.da_values.specs.TokenFacts.{Rises, has_bytes}
use Rattle.da_values.specs.Tokens.{Scan, Levelled, empty, top, popped, level, levelled, bracketed, with_token, line_end, step}

-- a fact of what was found, where there was no fault
abbrev pub Gets : (List Token → Scan → Type 0) → Levelled → Type 0
Gets P (Ok (ts, s)) = P ts s
Gets P (Err e) = Unit {0}

pub gets_at : (P : List Token → Scan → Type 0) (l : Levelled) (ts : List Token) (s : Scan) → l ≡ Ok (ts, s) → Gets P l → P ts s
gets_at P l ts s e got = subst (λ (x : Levelled). Gets P x) e got

chosen : (P : List Token → Scan → Type 0) (b : Bool) (l r : Levelled) → Gets P l → Gets P r → Gets P (if b then l else r)
chosen P true l r first second = first
chosen P false l r first second = second

pub Rises-lower : (from lower end : ℕ) (ts : List Token) → lower ≤ from → Rises from ts end → Rises lower ts end
Rises-lower from lower end [] low rises = omega (arith, rises)
Rises-lower from lower end (t ∷ ts) low rises = (omega (arith, rises.0), rises.1)

pub Rises-append : (from mid end : ℕ) (ts us : List Token) → Rises from ts mid → Rises mid us end → Rises from (ts ++ us) end
Rises-append from mid end [] us first second = Rises-lower mid from end us first second
Rises-append from mid end (t ∷ ts) us first second = (first.0, Rises-append (t.first + t.length) mid end ts us first.1 second)

pub Rises-replicate : (n from end : ℕ) (t : Token) → t.length ≡ 0 → from ≤ t.first → t.first ≤ end → Rises from (replicate n t) end
Rises-replicate zero from end t none low high = omega arith
Rises-replicate (suc n) from end t none low high = (low, Rises-replicate n (t.first + t.length) end t none (omega arith) high)

pub All-replicate : (P : Token → Type 0) (n : ℕ) (t : Token) → P t → All P (replicate n t)
All-replicate P zero t holds = All-nil P
All-replicate P (suc n) t holds = All-cons P t (replicate n t) holds (All-replicate P n t holds)

-- a token of a step on a piece p at the byte `at`
abbrev pub StandsAt : ℕ → Piece → Token → Type 0
StandsAt at p t = MatchBool (has_bytes t.kind) ((t.first ≡ at) × (p ≡ piece_is.Token t.kind t.length)) (t.length ≡ 0)

-- what the level of a line leaves as it was, and its tokens
pub record Levels (s : Scan) (p : Piece) (ts : List Token) (next : Scan) : Type 0 where
  pub at : next.at ≡ s.at
  pub line : next.line ≡ s.line
  pub spaces : next.spaces ≡ s.spaces
  pub brackets : next.brackets ≡ s.brackets
  pub past : next.past ≡ s.past
  pub last_line : next.last_line ≡ s.last_line
  pub rises : Rises s.at ts s.at
  pub on_line : All (λ t. t.line ≡ s.line) ts
  pub stand : All (StandsAt s.at p) ts

level-levels : (s : Scan) (p : Piece) → Gets (Levels s p) (level s)
unfolding level
level-levels s p =
    let indent = empty kind.Indent s.at s.line in
    let dedent = empty kind.Dedent s.at s.line in
    let kept = popped s.spaces s.levels in
    let count = length s.levels - length kept in
    chosen (Levels s p) (nat_lt (top s.levels) s.spaces) _ _
    (record {
      at = refl;
      line = refl;
      spaces = refl;
      brackets = refl;
      past = refl;
      last_line = refl;
      rises = (omega arith, omega arith);
      on_line = All-cons (λ (t : Token). t.line ≡ s.line) indent [] refl (All-nil (λ (t : Token). t.line ≡ s.line));
      stand = All-cons (StandsAt s.at p) indent [] refl (All-nil (StandsAt s.at p));
    })
    (chosen (Levels s p) (top kept == s.spaces) _ _
    (record {
      at = refl;
      line = refl;
      spaces = refl;
      brackets = refl;
      past = refl;
      last_line = refl;
      rises = Rises-replicate count s.at s.at dedent refl (omega arith) (omega arith);
      on_line = All-replicate (λ (t : Token). t.line ≡ s.line) count dedent refl;
      stand = All-replicate (StandsAt s.at p) count dedent refl;
    })
    tt)

levelled-levels : (s : Scan) (p : Piece) → Gets (Levels s p) (levelled s)
levelled-levels s p = chosen (Levels s p) s.is_fresh _ _ (level-levels s p)
    (record {
      at = refl;
      line = refl;
      spaces = refl;
      brackets = refl;
      past = refl;
      last_line = refl;
      rises = omega arith;
      on_line = All-nil (λ (t : Token). t.line ≡ s.line);
      stand = All-nil (StandsAt s.at p);
    })

record Bracketed (s next : Scan) : Type 0 where
  at : next.at ≡ s.at
  line : next.line ≡ s.line
  spaces : next.spaces ≡ s.spaces
  brackets : next.brackets ≤ s.brackets + 1
  past : next.past ≡ s.past
  last_line : next.last_line ≡ s.last_line

chosen_scan : (P : Scan → Type 0) (b : Bool) (l r : Scan) → P l → P r → P (if b then l else r)
chosen_scan P true l r first second = first
chosen_scan P false l r first second = second

bracketed-kept : (b : ℕ) (s : Scan) → Bracketed s (bracketed b s)
unfolding bracketed
bracketed-kept b s =
    chosen_scan (Bracketed s) (b == 40 || b == 91 || b == 123) _ _
    (record { at = refl; line = refl; spaces = refl; brackets = omega arith; past = refl; last_line = refl })
    (chosen_scan (Bracketed s) (b == 41 || b == 93 || b == 125) _ _
    (record { at = refl; line = refl; spaces = refl; brackets = omega arith; past = refl; last_line = refl })
    (record { at = refl; line = refl; spaces = refl; brackets = omega arith; past = refl; last_line = refl }))

-- what a step changes, and its tokens
pub record Stepped (s : Scan) (p : Piece) (ts : List Token) (next : Scan) : Type 0 where
  pub at : next.at ≡ s.at
  pub line : next.line ≡ s.line + ends p
  pub spaces : next.spaces ≤ s.spaces + 1
  pub brackets : next.brackets ≤ s.brackets + 1
  pub past : s.past ≤ s.at → next.past ≤ s.at + size p
  pub last_line : (next.last_line ≡ s.last_line) ⊎ (next.last_line ≡ s.line)
  pub rises : s.past ≤ s.at → Rises s.past ts next.past
  pub on_line : All (λ t. t.line ≡ s.line) ts
  pub stand : All (StandsAt s.at p) ts

with_token-stepped : (s : Scan) (k : TokenKind) (n b : ℕ) (l : Levelled) → has_bytes k ≡ true → Gets (Levels s (piece_is.Token k n)) l
    → Gets (Stepped s (piece_is.Token k n)) (with_token k n b l)
with_token-stepped s k n b (Ok (ts, m)) bytes levels =
    let token : Token = record { kind = k; first = m.at; length = n; line = m.line } in
    let behind : Scan = record m { past = m.at + n; last_line = m.line } in
    let counted = bracketed-kept b behind in
    record {
      at = counted.at ∙ levels.at;
      line = omega (arith, counted.line, levels.line);
      spaces = omega (arith, counted.spaces, levels.spaces);
      brackets = omega (arith, counted.brackets, levels.brackets);
      past = λ e. omega (arith, counted.past, levels.at);
      last_line = inr (counted.last_line ∙ levels.line);
      rises = λ e. Rises-append s.past s.at (bracketed b behind).past ts (token ∷ []) (Rises-lower s.at s.past s.at ts e levels.rises)
          (omega (arith, levels.at), omega (arith, counted.past));
      on_line = All-append (λ (t : Token). t.line ≡ s.line) ts (token ∷ []) levels.on_line
          (All-cons (λ (t : Token). t.line ≡ s.line) token [] levels.line (All-nil (λ (t : Token). t.line ≡ s.line)));
      stand = All-append (StandsAt s.at (piece_is.Token k n)) ts (token ∷ []) levels.stand
          (All-cons (StandsAt s.at (piece_is.Token k n)) token [] (rw bytes (levels.at, refl)) (All-nil (StandsAt s.at (piece_is.Token k n))));
    }
with_token-stepped s k n b (Err e) bytes levels = tt

pub line_end-tokens : (s : Scan) (P : List Token → Type 0) → P [] → P (empty kind.Newline s.past s.line ∷ []) → P (line_end s)
line_end-tokens s P none one = elim (s.is_fresh || not (s.brackets == 0)) as (λ b. P (if b then [] else empty kind.Newline s.past s.line ∷ [])) [ true ↦ none | false ↦ one ]

pub step-stepped : (s : Scan) (b : ℕ) (p : Piece) → IsRead p → Gets (Stepped s p) (step s b p)
unfolding step
step-stepped s b piece_is.Space bytes = record {
  at = refl;
  line = omega arith;
  spaces = omega arith;
  brackets = omega arith;
  past = λ e. omega arith;
  last_line = inl refl;
  rises = λ e. omega arith;
  on_line = All-nil (λ (t : Token). t.line ≡ s.line);
  stand = All-nil (StandsAt s.at piece_is.Space);
}
step-stepped s b piece_is.LineEnd bytes =
    let newline = empty kind.Newline s.past s.line in
    record {
      at = refl;
      line = refl;
      spaces = omega arith;
      brackets = omega arith;
      past = λ e. omega arith;
      last_line = inl refl;
      rises = λ e. line_end-tokens s (λ (ts : List Token). Rises s.past ts s.past) (omega arith) (omega arith, omega arith);
      on_line = line_end-tokens s (All (λ (t : Token). t.line ≡ s.line)) (All-nil (λ (t : Token). t.line ≡ s.line))
          (All-cons (λ (t : Token). t.line ≡ s.line) newline [] refl (All-nil (λ (t : Token). t.line ≡ s.line)));
      stand = line_end-tokens s (All (StandsAt s.at piece_is.LineEnd)) (All-nil (StandsAt s.at piece_is.LineEnd))
          (All-cons (StandsAt s.at piece_is.LineEnd) newline [] refl (All-nil (StandsAt s.at piece_is.LineEnd)));
    }
step-stepped s b (piece_is.Passed n) bytes = record {
  at = refl;
  line = omega arith;
  spaces = omega arith;
  brackets = omega arith;
  past = λ e. omega arith;
  last_line = inl refl;
  rises = λ e. omega arith;
  on_line = All-nil (λ (t : Token). t.line ≡ s.line);
  stand = All-nil (StandsAt s.at (piece_is.Passed n));
}
step-stepped s b (piece_is.Token k n) bytes = with_token-stepped s k n b (levelled s) bytes (levelled-levels s (piece_is.Token k n))
step-stepped s b (piece_is.Fault f) bytes = tt
