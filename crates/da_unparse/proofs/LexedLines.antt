-- The tokens of the text of printable lines are those that the lines were printed from.
use Rattle.std.proofs.Common.{◌≡◌, ℕ, ◌+◌, ◌*◌, ◌≤◌, List, [], ◌∷◌, ◌++◌, length, replicate, Ok, append_assoc, length-append, refl, sym, ap, ◌∙◌, subst, arith}
use Rattle.std.proofs.lemmas.List.{length-replicate, map-append}
use Rattle.da_values.specs.declared.token.Mark.{Mark}
use Rattle.da_values.specs.declared.token.Mark.TheVariants as m
use Rattle.da_values.specs.declared.token.Piece.TheVariants as piece_is
use Rattle.da_values.specs.declared.token.Token.{Token}
use Rattle.da_values.specs.Marks.{Tok, tok, toks}
use Rattle.da_values.specs.Piece.{front}
use Rattle.da_values.specs.Tokens.{Scan, start, prepend, scan, tokens}
use Rattle.da_unparse.specs.Lines.{Line, line_text, lines_text, piece_toks, toks_of, lines_toks}
use Rattle.da_unparse.specs.Lines as lines
use Rattle.da_unparse.specs.Pieces.{Piece, gap, token, piece_text, text_of}
use Rattle.da_unparse.specs.Printable.{Makes, Touch, opened, open_behind, IsPrintable, Follow, ArePrintable}
use Rattle.da_unparse.proofs.LexedPieces.{Stays, end, front_stays, first_byte, touch_stays}
use Rattle.da_unparse.proofs.LexedSteps.{Goes, stands_still, goes_further, In, Before, token_goes, token_in, gap_in, spaces_before, line_ends}
use Rattle.da_unparse.proofs.LexedLevels.{level_goes, finish_goes}

-- ---- what stands after a token of a line

record Behind (k : Mark) (rest : List ℕ) : Type 0 where
  next : ℕ
  more : List ℕ
  is : rest ≡ next ∷ more
  stays : Stays k next

behind : (k : Mark) (bytes : List ℕ) (ps : List Piece) (more : List ℕ) → Touch (token k bytes) ps gap → Behind k (text_of ps ++ 10 ∷ more)
behind k bytes [] more touch = record { next = 10; more = more; is = refl; stays = end refl }
behind k bytes (gap ∷ ps) more touch = record { next = 32; more = text_of ps ++ 10 ∷ more; is = refl; stays = end refl }
behind k bytes (token l [] ∷ ps) more touch = (let none = touch.1.stands in absurd (cc))
behind k bytes (token l (c ∷ z) ∷ ps) more touch = record { next = c; more = z ++ text_of ps ++ 10 ∷ more; is = refl; stays = touch_stays k l c touch.0 (first_byte l (c ∷ z) touch.1) }

-- the token at the front of what is left of a line
front_token : (k : Mark) (bytes : List ℕ) (ps : List Piece) (more : List ℕ) → (made : Makes k bytes) → Touch (token k bytes) ps gap
    → front (bytes ++ (text_of ps ++ 10 ∷ more)) ≡ piece_is.Token made.kind (length bytes)
front_token k bytes ps more made touch =
    let follows = behind k bytes ps more touch in
    ap (λ r. front (bytes ++ r)) follows.is ∙ front_stays k bytes follows.next follows.more made follows.stays

-- ---- the pieces of a line

-- where pieces after the first token of a line lead
record Through (text : List ℕ) (s : Scan) (ps : List Piece) (place number blocks depth : ℕ) (more : List ℕ) : Type 0 where
  next : Scan
  there : In next (place + length (text_of ps)) number blocks (open_behind depth ps)
  goes : Goes text s (text_of ps ++ 10 ∷ more) (toks_of number ps) next (10 ∷ more)

-- after one more piece
through_more : {text : List ℕ} {s next : Scan} {number blocks depth : ℕ} (p : Piece) (ps : List Piece) (place : ℕ) (more : List ℕ)
    → Goes text s (piece_text p ++ (text_of ps ++ 10 ∷ more)) (piece_toks number p) next (text_of ps ++ 10 ∷ more)
    → Through text next ps (place + length (piece_text p)) number blocks (opened depth p) more → Through text s (p ∷ ps) place number blocks depth more
through_more {text} {s} {number = number} {blocks = blocks} {depth = depth} p ps place more goes through = record {
  next = through.next;
  there = (let along : place + length (piece_text p) + length (text_of ps) ≡ place + length (text_of (p ∷ ps)) = omega (arith, length-append (piece_text p) (text_of ps)) in
      subst (λ (n : ℕ). In through.next n number blocks (open_behind depth (p ∷ ps))) along through.there);
  goes = subst (λ (z : List ℕ). Goes text s z (toks_of number (p ∷ ps)) through.next (10 ∷ more)) (sym (append_assoc (piece_text p) (text_of ps) (10 ∷ more))) (goes_further goes through.goes);
}

-- a text up to a piece, and with it
split_off : (text before first second rest : List ℕ) → text ≡ before ++ ((first ++ second) ++ rest) → text ≡ before ++ (first ++ (second ++ rest))
split_off text before first second rest is = is ∙ ap (λ z. before ++ z) (append_assoc first second rest)

take_in : (text before first rest : List ℕ) → text ≡ before ++ (first ++ rest) → text ≡ (before ++ first) ++ rest
take_in text before first rest is = is ∙ sym (append_assoc before first rest)

pieces_go : (ps : List Piece) {number blocks depth : ℕ} (text before more : List ℕ) (p : Piece) (s : Scan) → text ≡ before ++ (text_of ps ++ 10 ∷ more) → Touch p ps gap
    → In s (length before) number blocks depth → Through text s ps (length before) number blocks depth more
pieces_go [] text before more p s is touch inside = record {
  next = s;
  there = record {
    ready = record { at = omega (arith, inside.ready.at); line = inside.ready.line; fresh = inside.ready.fresh; levels = inside.ready.levels; brackets = inside.ready.brackets };
    last_line = inside.last_line;
  };
  goes = stands_still text s (10 ∷ more);
}
pieces_go (gap ∷ ps) {number} {blocks} {depth} text before more p s is touch inside =
    let rest = text_of ps ++ 10 ∷ more in
    let (next, there, goes) = gap_in text rest s inside in
    let place : length before + 1 ≡ length (before ++ 32 ∷ []) = sym (length-append before (32 ∷ [])) in
    let through = pieces_go ps text (before ++ 32 ∷ []) more gap next (take_in text before (32 ∷ []) rest is) touch.2 (subst (λ (n : ℕ). In next n number blocks depth) place there) in
    through_more gap ps (length before) more goes (subst (λ (n : ℕ). Through text next ps n number blocks depth more) (sym place) through)
pieces_go (token k bytes ∷ ps) {number} {blocks} {depth} text before more p s is touch inside =
    let rest = text_of ps ++ 10 ∷ more in
    let whole = split_off text before bytes (text_of ps) (10 ∷ more) is in
    let (next, there, goes) = token_in before bytes rest k s touch.1 (front_token k bytes ps more touch.1 touch.2) inside in
    let place : length before + length bytes ≡ length (before ++ bytes) = sym (length-append before bytes) in
    let through = pieces_go ps text (before ++ bytes) more (token k bytes) next (take_in text before bytes rest whole) touch.2
    (subst (λ (n : ℕ). In next n number blocks (opened depth (token k bytes))) place there) in
    through_more (token k bytes) ps (length before) more
    (subst (λ (t : List ℕ). Goes t s (bytes ++ rest) (record { mark = k; text = bytes; line = number } ∷ []) next rest) (sym whole) goes)
    (subst (λ (n : ℕ). Through text next ps n number blocks (opened depth (token k bytes)) more) (sym place) through)

-- ---- a line

abbrev newline : ℕ → Tok
newline number = record { mark = m.Newline; text = []; line = number }

-- where a line leads from, with so many blocks open before
record Past (text : List ℕ) (s : Scan) (l : Line) (place number blocks : ℕ) (more : List ℕ) : Type 0 where
  next : Scan
  there : Before next (place + length (line_text l)) (number + 1) l.level 0
  goes : Goes text s (line_text l ++ more) (lines.levelled number blocks l.level ++ toks_of number l.pieces ++ newline number ∷ []) next more

-- the spaces, the pieces and the LF of a line
parts : (l : Line) (more : List ℕ) → line_text l ++ more ≡ replicate (4 * l.level) 32 ++ (text_of l.pieces ++ 10 ∷ more)
parts l more = append_assoc (replicate (4 * l.level) 32 ++ text_of l.pieces) (10 ∷ []) more ∙ append_assoc (replicate (4 * l.level) 32) (text_of l.pieces) (10 ∷ more)

line_length : (l : Line) → length (line_text l) ≡ 4 * l.level + length (text_of l.pieces) + 1
line_length l = omega (arith, length-append (replicate (4 * l.level) 32 ++ text_of l.pieces) (10 ∷ []), length-append (replicate (4 * l.level) 32) (text_of l.pieces), length-replicate {A = ℕ} (4 * l.level) 32)

-- the first token of a line, after its spaces
first_goes : {number blocks : ℕ} (text before more : List ℕ) (level : ℕ) (k : Mark) (bytes : List ℕ) (ps : List Piece) (s : Scan)
    → text ≡ before ++ (text_of (token k bytes ∷ ps) ++ 10 ∷ more) → Makes k bytes → Touch (token k bytes) ps gap → level ≤ blocks + 1
    → Before s (length before) number blocks (4 * level)
    → (next : Scan) × In next (length before + length (text_of (token k bytes ∷ ps))) number level (open_behind 0 (token k bytes ∷ ps))
    × Goes text s (text_of (token k bytes ∷ ps) ++ 10 ∷ more) (lines.levelled number blocks level ++ toks_of number (token k bytes ∷ ps)) next (10 ∷ more)
first_goes {number} {blocks} text before more level k bytes ps s is made touch most stands =
    let rest = text_of ps ++ 10 ∷ more in
    let whole = split_off text before bytes (text_of ps) (10 ∷ more) is in
    let t : Tok = record { mark = k; text = bytes; line = number } in
    let levels = level_goes text level s stands most in
    let (next, there, goes) = token_goes before bytes rest k s levels.next levels.made made (front_token k bytes ps more made touch) levels.is levels.ready in
    let here : Goes text s (bytes ++ rest) (toks text levels.made ++ t ∷ []) next rest =
    subst (λ (u : List ℕ). Goes u s (bytes ++ rest) (toks u levels.made ++ t ∷ []) next rest) (sym whole) goes in
    let seen : Goes text s (bytes ++ rest) (lines.levelled number blocks level ++ t ∷ []) next rest =
    subst (λ (found : List Tok). Goes text s (bytes ++ rest) (found ++ t ∷ []) next rest) levels.seen here in
    let place : length (before ++ bytes) ≡ length before + length bytes = length-append before bytes in
    let through = pieces_go ps text (before ++ bytes) more (token k bytes) next (take_in text before bytes rest whole) touch
    (subst (λ (n : ℕ). In next n number level (opened 0 (token k bytes))) (sym place) there) in
    let along : length (before ++ bytes) + length (text_of ps) ≡ length before + length (text_of (token k bytes ∷ ps)) = omega (arith, place, length-append bytes (text_of ps)) in (
      through.next,
      subst (λ (n : ℕ). In through.next n number level (open_behind 0 (token k bytes ∷ ps))) along through.there,
      subst (λ (z : List ℕ). Goes text s z (lines.levelled number blocks level ++ toks_of number (token k bytes ∷ ps)) through.next (10 ∷ more)) (sym (append_assoc bytes (text_of ps) (10 ∷ more)))
          (subst (λ (found : List Tok). Goes text s (bytes ++ rest) found through.next (10 ∷ more)) (append_assoc (lines.levelled number blocks level) (t ∷ []) (toks_of number ps)) (goes_further seen through.goes)),
    )

-- the same for the pieces of a printable line
content_goes : {number blocks : ℕ} (text before more : List ℕ) (level : ℕ) (ps : List Piece) (s : Scan) → text ≡ before ++ (text_of ps ++ 10 ∷ more) → Touch gap ps gap → level ≤ blocks + 1
    → Before s (length before) number blocks (4 * level)
    → (next : Scan) × In next (length before + length (text_of ps)) number level (open_behind 0 ps)
    × Goes text s (text_of ps ++ 10 ∷ more) (lines.levelled number blocks level ++ toks_of number ps) next (10 ∷ more)
content_goes text before more level [] s is touch most stands = absurd (cc)
content_goes text before more level (gap ∷ ps) s is touch most stands = (let none = touch.0 in absurd (cc))
content_goes text before more level (token k bytes ∷ ps) s is touch most stands = first_goes text before more level k bytes ps s is touch.1 touch.2 most stands

line_goes : {number blocks : ℕ} (text before more : List ℕ) (l : Line) (s : Scan) → text ≡ before ++ (line_text l ++ more) → IsPrintable l.pieces → l.level ≤ blocks + 1
    → Before s (length before) number blocks 0 → Past text s l (length before) number blocks more
line_goes {number} {blocks} text before more l s is printable most stands =
    let spaces : List ℕ = replicate (4 * l.level) 32 in
    let rest = text_of l.pieces ++ 10 ∷ more in
    let (first, room, spaced) = spaces_before (4 * l.level) text rest s stands in
    let place : length before + 4 * l.level ≡ length (before ++ spaces) = omega (arith, length-append before spaces, length-replicate {A = ℕ} (4 * l.level) 32) in
    let four : 0 + 4 * l.level ≡ 4 * l.level = omega arith in
    let here : Before first (length (before ++ spaces)) number blocks (4 * l.level) =
    subst (λ (n : ℕ). Before first (length (before ++ spaces)) number blocks n) four (subst (λ (n : ℕ). Before first n number blocks (0 + 4 * l.level)) place room) in
    let apart : text ≡ (before ++ spaces) ++ rest = is ∙ ap (λ z. before ++ z) (parts l more) ∙ sym (append_assoc before spaces rest) in
    let (second, inside, content) = content_goes text (before ++ spaces) more l.level l.pieces first apart printable.touch most here in
    let closed : In second (length (before ++ spaces) + length (text_of l.pieces)) number l.level 0 =
    subst (λ (n : ℕ). In second (length (before ++ spaces) + length (text_of l.pieces)) number l.level n) printable.closed inside in
    let (third, past, ended) = line_ends text more second closed in
    let along : length (before ++ spaces) + length (text_of l.pieces) + 1 ≡ length before + length (line_text l) = omega (arith, place, line_length l) in
    record {
      next = third;
      there = subst (λ (n : ℕ). Before third n (number + 1) l.level 0) along past;
      goes = subst (λ (z : List ℕ). Goes text s z (lines.levelled number blocks l.level ++ toks_of number l.pieces ++ newline number ∷ []) third more) (sym (parts l more))
          (goes_further {last = third} (goes_further {last = second} spaced content) ended);
    }

-- ---- the lines of a text

lines_go : (ls : List Line) {number blocks : ℕ} (most : ℕ) (text before : List ℕ) (s : Scan) → text ≡ before ++ lines_text ls → Follow most ls → most ≤ blocks + 1
    → Before s (length before) number blocks 0
    → (made : List Token) × (scan 0 s (lines_text ls) ≡ Ok made) × (toks text made ≡ lines_toks number blocks ls)
lines_go [] most text before s is follow deep stands = finish_goes text s stands
lines_go (l ∷ ls) {number} {blocks} most text before s is follow deep stands =
    let line = line_goes text before (lines_text ls) l s is follow.1 (omega (arith, follow.0)) stands in
    let place : length before + length (line_text l) ≡ length (before ++ line_text l) = sym (length-append before (line_text l)) in
    let (made, found, seen) = lines_go ls (l.level + 1) text (before ++ line_text l) line.next (take_in text before (line_text l) (lines_text ls) is) follow.2 (omega arith)
    (subst (λ (n : ℕ). Before line.next n (number + 1) l.level 0) place line.there) in (
      line.goes.made ++ made,
      line.goes.is ∙ ap (prepend line.goes.made) found,
      map-append (tok text) line.goes.made made ∙ ap (λ ts. ts ++ toks text made) line.goes.seen ∙ ap (λ ts. (lines.levelled number blocks l.level ++ toks_of number l.pieces ++ newline number ∷ []) ++ ts) seen
          ∙ append_assoc (lines.levelled number blocks l.level ++ toks_of number l.pieces) (newline number ∷ []) (lines_toks (number + 1) l.level ls),
    )

-- the tokens of printed lines
pub lexed : (ls : List Line) → ArePrintable ls → (list : List Token) × (tokens (lines_text ls) ≡ Ok list) × (toks (lines_text ls) list ≡ lines_toks 1 0 ls)
lexed ls printable =
    lines_go ls 0 (lines_text ls) [] start refl printable (omega arith)
    (record { at = refl; line = refl; fresh = refl; levels = refl; brackets = refl; spaces = refl; last_line = λ some. absurd (omega arith) })
