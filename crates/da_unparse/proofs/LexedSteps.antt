-- What the scan of a text does at a token, a space, a line's end and a line's beginning.
use Rattle.std.proofs.Common.{◌≡◌, ℕ, zero, suc, ◌+◌, ◌-◌, ◌*◌, ◌<◌, Bool, true, false, ◌||◌, List, [], ◌∷◌, ◌++◌, length, take, drop, replicate, Ok, Err, append_assoc, refl, sym, ap, ◌∙◌, subst, arith}
use Rattle.std.proofs.lemmas.List.{drop_at, map-append}
use Rattle.std.proofs.Math.Seq.{take-append_seam}
use Rattle.std.specs.Prelude.{◌==◌, if◌then◌else◌}
use Rattle.da_values.specs.declared.token.Mark.{Mark}
use Rattle.da_values.specs.declared.token.Mark.TheVariants as m
use Rattle.da_values.specs.declared.token.Piece.TheVariants as piece_is
use Rattle.da_values.specs.declared.token.Token.{Token}
use Rattle.da_values.specs.declared.token.TokenKind.{TokenKind}
use Rattle.da_values.specs.declared.token.TokenKind.TheVariants as kind
use Rattle.da_values.specs.Marks.{Tok, mark_of, tok, toks}
use Rattle.da_values.specs.Piece.{piece, front, size}
use Rattle.da_values.specs.Tokens.{Scan, Scanned, empty, level, levelled, bracketed, with_token, line_end, step, prepend, passed, step_at, after, scan}
use Rattle.da_values.proofs.ScanLemmas.{scan_step}
use Rattle.da_unparse.specs.Pieces.{token}
use Rattle.da_unparse.specs.Printable.{Makes, opens, closes, opened}
use Rattle.da_unparse.proofs.LexedPieces.{First, first_byte}

-- ---- a part of a scan

-- From s with z left the scan goes on to `next` with `rest` left, and finds these tokens in the text.
pub record Goes (text : List ℕ) (s : Scan) (z : List ℕ) (found : List Tok) (next : Scan) (rest : List ℕ) : Type 0 where
  pub made : List Token
  pub is : scan 0 s z ≡ prepend made (scan 0 next rest)
  pub seen : toks text made ≡ found

prepend-none : (r : Scanned) → r ≡ prepend [] r
prepend-none (Ok us) = refl
prepend-none (Err e) = refl

prepend-append : (ts us : List Token) (r : Scanned) → prepend ts (prepend us r) ≡ prepend (ts ++ us) r
prepend-append ts us (Ok vs) = ap Ok (sym (append_assoc ts us vs))
prepend-append ts us (Err e) = refl

pub stands_still : (text : List ℕ) (s : Scan) (z : List ℕ) → Goes text s z [] s z
stands_still text s z = record { made = []; is = prepend-none (scan 0 s z); seen = refl }

pub goes_further : {text : List ℕ} {s next last : Scan} {z y w : List ℕ} {found more : List Tok} → Goes text s z found next y → Goes text next y more last w → Goes text s z (found ++ more) last w
goes_further {text} {last = last} {w = w} {found = found} first second = record {
  made = first.made ++ second.made;
  is = first.is ∙ ap (prepend first.made) second.is ∙ prepend-append first.made second.made (scan 0 last w);
  seen = map-append (tok text) first.made second.made ∙ ap (λ ts. ts ++ toks text second.made) first.seen ∙ ap (λ ts. found ++ ts) second.seen;
}

-- one step
step_goes : (text : List ℕ) (s next : Scan) (b : ℕ) (z : List ℕ) (ts : List Token) → step_at s (b ∷ z) ≡ Ok (ts, next)
    → Goes text s (b ∷ z) (toks text ts) next (drop (size (front (b ∷ z))) (b ∷ z))
step_goes text s next b z ts e = record {
  made = ts;
  is = scan_step s (b ∷ z) (omega arith) ∙ ap (λ l. after l (λ n. scan 0 n (drop (size (front (b ∷ z))) (b ∷ z)))) e;
  seen = refl;
}

-- ---- where a scan stands

-- the open levels, when so many blocks are open
abbrev pub levels_of : ℕ → List ℕ
levels_of zero = 0 ∷ []
levels_of (suc blocks) = 4 * suc blocks ∷ levels_of blocks

-- on a line whose level is known
pub record Ready (s : Scan) (place number blocks depth : ℕ) : Type 0 where
  pub at : s.at ≡ place
  pub line : s.line ≡ number
  pub fresh : s.is_fresh ≡ false
  pub levels : s.levels ≡ levels_of blocks
  pub brackets : s.brackets ≡ depth

-- on a line after its first token
pub record In (s : Scan) (place number blocks depth : ℕ) : Type 0 where
  pub ready : Ready s place number blocks depth
  pub last_line : s.last_line ≡ number

-- at the beginning of a line, after some spaces
pub record Before (s : Scan) (place number blocks room : ℕ) : Type 0 where
  pub at : s.at ≡ place
  pub line : s.line ≡ number
  pub fresh : s.is_fresh ≡ true
  pub levels : s.levels ≡ levels_of blocks
  pub brackets : s.brackets ≡ 0
  pub spaces : s.spaces ≡ room
  pub last_line : 0 < blocks → s.last_line ≡ number - 1

-- ---- a token

record Counted (s next : Scan) (depth : ℕ) : Type 0 where
  at : next.at ≡ s.at
  line : next.line ≡ s.line
  fresh : next.is_fresh ≡ s.is_fresh
  levels : next.levels ≡ s.levels
  brackets : next.brackets ≡ depth
  last_line : next.last_line ≡ s.last_line

bracketed-counted : (b : ℕ) (s : Scan) (opening closing : Bool) → opening ≡ (b == 40 || b == 91 || b == 123) → closing ≡ (b == 41 || b == 93 || b == 125)
    → Counted s (bracketed b s) (if opening then s.brackets + 1 else if closing then s.brackets - 1 else s.brackets)
unfolding bracketed
bracketed-counted b s opening closing o c = rw (← o, ← c) (counted opening closing)
  where
    counted : (o c : Bool) → Counted s (if o then record s { brackets = s.brackets + 1; bracket_line = if s.brackets == 0 then s.line else s.bracket_line } else if c then record s { brackets = s.brackets - 1 } else s)
        (if o then s.brackets + 1 else if c then s.brackets - 1 else s.brackets)
    counted true c = record { at = refl; line = refl; fresh = refl; levels = refl; brackets = refl; last_line = refl }
    counted false true = record { at = refl; line = refl; fresh = refl; levels = refl; brackets = refl; last_line = refl }
    counted false false = record { at = refl; line = refl; fresh = refl; levels = refl; brackets = refl; last_line = refl }

-- the scan after a token of n bytes that begins with b
abbrev behind : ℕ → ℕ → Scan → Scan
behind n b s = let counted = bracketed b (record s { past = s.at + n; last_line = s.line }) in record counted { at = counted.at + n }

behind-in : (k : Mark) (n b : ℕ) (s : Scan) (place number blocks depth : ℕ) (bytes : List ℕ) → First k b → Ready s place number blocks depth
    → In (behind n b s) (place + n) number blocks (opened depth (token k bytes))
behind-in k n b s place number blocks depth bytes first ready =
    let counted = bracketed-counted b (record s { past = s.at + n; last_line = s.line }) (opens k) (closes k) first.opens first.closes in
    record {
      ready = record {
        at = ap (λ a. a + n) (counted.at ∙ ready.at);
        line = counted.line ∙ ready.line;
        fresh = counted.fresh ∙ ready.fresh;
        levels = counted.levels ∙ ready.levels;
        brackets = counted.brackets ∙ ap (λ n. opened n (token k bytes)) ready.brackets;
      };
      last_line = counted.last_line ∙ ready.line;
    }

-- the bytes of a token that stands in the text
token_seen : (before bytes rest : List ℕ) (k : Mark) (l : TokenKind) (at number line : ℕ) → k ≡ mark_of l bytes → at ≡ length before → line ≡ number
    → ◌≡◌ {A = Tok} (tok (before ++ (bytes ++ rest)) (record { kind = l; first = at; length = length bytes; line = line })) (record { mark = k; text = bytes; line = number })
token_seen before bytes rest k l at number line mark place is =
    let slice : take (length bytes) (drop at (before ++ (bytes ++ rest))) ≡ bytes =
    ap (λ t. take (length bytes) t) (drop_at before (bytes ++ rest) at (sym place)) ∙ take-append_seam bytes rest in
    ap (λ t. record { mark = mark_of l t; text = t; line = line }) slice ∙ ap (λ k. record { mark = k; text = bytes; line = line }) (sym mark) ∙ ap (λ n. record { mark = k; text = bytes; line = n }) is

token_step : (s ready : Scan) (b n : ℕ) (z : List ℕ) (l : TokenKind) (ts : List Token) → front (b ∷ z) ≡ piece_is.Token l n → levelled s ≡ Ok (ts, ready)
    → step_at s (b ∷ z) ≡ Ok (ts ++ record { kind = l; first = ready.at; length = n; line = ready.line } ∷ [], behind n b ready)
unfolding step
token_step s ready b n z l ts stands levels = ap (λ p. passed (size p) (step s b p)) stands ∙ ap (λ o. passed n (with_token l n b o)) levels

-- a token, after the tokens of its line's level
pub token_goes : {number blocks depth : ℕ} (before bytes rest : List ℕ) (k : Mark) (s ready : Scan) (ts : List Token) → (made : Makes k bytes)
    → front (bytes ++ rest) ≡ piece_is.Token made.kind (length bytes) → levelled s ≡ Ok (ts, ready) → Ready ready (length before) number blocks depth
    → (next : Scan) × In next (length before + length bytes) number blocks (opened depth (token k bytes))
    × Goes (before ++ (bytes ++ rest)) s (bytes ++ rest) (toks (before ++ (bytes ++ rest)) ts ++ record { mark = k; text = bytes; line = number } ∷ []) next rest
token_goes before [] rest k s ready ts made stands levels is = (let none = made.stands in absurd (cc))
token_goes {number} {blocks} {depth} before (b ∷ z) rest k s ready ts made stands levels is =
    let text = before ++ (b ∷ z ++ rest) in
    let n = length (b ∷ z) in
    let t : Token = record { kind = made.kind; first = ready.at; length = n; line = ready.line } in
    let one = step_goes text s (behind n b ready) b (z ++ rest) (ts ++ t ∷ []) (token_step s ready b n (z ++ rest) made.kind ts stands levels) in
    let seen : toks text (ts ++ t ∷ []) ≡ toks text ts ++ record { mark = k; text = b ∷ z; line = number } ∷ [] =
    map-append (tok text) ts (t ∷ []) ∙ ap (λ (u : Tok). toks text ts ++ u ∷ []) (token_seen before (b ∷ z) rest k made.kind ready.at number ready.line made.mark is.at is.line) in
    let left : drop (size (front (b ∷ (z ++ rest)))) (b ∷ (z ++ rest)) ≡ rest = ap (λ p. drop (size p) (b ∷ (z ++ rest))) stands ∙ drop_at (b ∷ z) rest n refl in (
      behind n b ready,
      behind-in k n b ready (length before) number blocks depth (b ∷ z) (first_byte k (b ∷ z) made) is,
      subst (λ (y : List ℕ). Goes text s (b ∷ (z ++ rest)) (toks text ts ++ record { mark = k; text = b ∷ z; line = number } ∷ []) (behind n b ready) y) left
          (subst (λ (found : List Tok). Goes text s (b ∷ (z ++ rest)) found (behind n b ready) (drop (size (front (b ∷ (z ++ rest)))) (b ∷ (z ++ rest)))) seen one),
    )

-- a token that is not the first one of its line
pub token_in : {number blocks depth : ℕ} (before bytes rest : List ℕ) (k : Mark) (s : Scan) → (made : Makes k bytes)
    → front (bytes ++ rest) ≡ piece_is.Token made.kind (length bytes) → In s (length before) number blocks depth
    → (next : Scan) × In next (length before + length bytes) number blocks (opened depth (token k bytes))
    × Goes (before ++ (bytes ++ rest)) s (bytes ++ rest) (record { mark = k; text = bytes; line = number } ∷ []) next rest
token_in before bytes rest k s made stands is =
    token_goes before bytes rest k s s [] made stands (ap (λ f. if f then level s else Ok ([], s)) is.ready.fresh) is.ready

-- ---- spaces and the end of a line

-- a space after a token
pub gap_in : {place number blocks depth : ℕ} (text rest : List ℕ) (s : Scan) → In s place number blocks depth
    → (next : Scan) × In next (place + 1) number blocks depth × Goes text s (32 ∷ rest) [] next rest
unfolding step piece
gap_in text rest s is =
    let next = record s { at = s.at + 1; spaces = s.spaces + 1 } in (
      next,
      record { ready = record { at = ap (λ a. a + 1) is.ready.at; line = is.ready.line; fresh = is.ready.fresh; levels = is.ready.levels; brackets = is.ready.brackets }; last_line = is.last_line },
      step_goes text s next 32 rest [] refl,
    )

-- the spaces of a line's level
pub spaces_before : (n : ℕ) {place number blocks room : ℕ} (text rest : List ℕ) (s : Scan) → Before s place number blocks room
    → (next : Scan) × Before next (place + n) number blocks (room + n) × Goes text s (replicate n 32 ++ rest) [] next rest
unfolding step piece
spaces_before zero {place} {number} {blocks} {room} text rest s is =
    (s, record { at = omega (arith, is.at); line = is.line; fresh = is.fresh; levels = is.levels; brackets = is.brackets; spaces = omega (arith, is.spaces); last_line = is.last_line }, stands_still text s rest)
spaces_before (suc n) {place} {number} {blocks} {room} text rest s is =
    let next = record s { at = s.at + 1; spaces = s.spaces + 1 } in
    let there : Before next (place + 1) number blocks (room + 1) =
    record { at = ap (λ a. a + 1) is.at; line = is.line; fresh = is.fresh; levels = is.levels; brackets = is.brackets; spaces = ap (λ a. a + 1) is.spaces; last_line = is.last_line } in
    let (last, more, goes) = spaces_before n text rest next there in (
      last,
      record { at = omega (arith, more.at); line = more.line; fresh = more.fresh; levels = more.levels; brackets = more.brackets; spaces = omega (arith, more.spaces); last_line = more.last_line },
      goes_further (step_goes text s next 32 (replicate n 32 ++ rest) [] refl) goes,
    )

-- the end of a line at which no bracket is open
pub line_ends : {place number blocks : ℕ} (text rest : List ℕ) (s : Scan) → In s place number blocks 0
    → (next : Scan) × Before next (place + 1) (number + 1) blocks 0 × Goes text s (10 ∷ rest) (record { mark = m.Newline; text = []; line = number } ∷ []) next rest
unfolding step piece
line_ends {number = number} text rest s is =
    let next = record s { at = s.at + 1; line = s.line + 1; is_fresh = s.is_fresh || s.brackets == 0; spaces = 0 } in
    let newline : line_end s ≡ empty kind.Newline s.past s.line ∷ [] = rw (is.ready.fresh, is.ready.brackets) refl in
    let seen : toks text (line_end s) ≡ record { mark = m.Newline; text = []; line = number } ∷ [] = ap (toks text) newline ∙ ap (λ n. record { mark = m.Newline; text = []; line = n } ∷ []) is.ready.line in (
      next,
      record {
        at = ap (λ a. a + 1) is.ready.at;
        line = ap (λ a. a + 1) is.ready.line;
        fresh = rw (is.ready.fresh, is.ready.brackets) refl;
        levels = is.ready.levels;
        brackets = is.ready.brackets;
        spaces = refl;
        last_line = λ some. omega (arith, is.last_line);
      },
      subst (λ (found : List Tok). Goes text s (10 ∷ rest) found next rest) seen (step_goes text s next 10 rest (line_end s) refl),
    )
