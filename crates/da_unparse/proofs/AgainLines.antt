-- The tokens of printed lines, block by block: where a line stands, where a block opens, and where it ends. And what it is that
-- printed lines spell something again, but for the numbers of lines.
use Rattle.std.proofs.Common.{◌≡◌, ℕ, suc, ◌+◌, ◌-◌, ◌≤◌, true, false, List, [], ◌∷◌, ◌++◌, map, refl, sym, ap, ◌∙◌, subst, arith, append_assoc, append-nil, replicate}
use Rattle.std.proofs.lemmas.Bool.Decides.{nat_tests}
use Rattle.std.specs.List.{flat_map}
use Rattle.std.specs.Prelude.{nat_lt, if◌then◌else◌}
use Rattle.da_values.specs.declared.token.Mark.TheVariants as m
use Rattle.da_values.specs.Marks.{Tok}
use Rattle.da_lang.specs.Spelling as g
use Rattle.da_lang.specs.Spelling.{Spelling, At, Opens, Many, Ended}
use Rattle.da_unparse.specs.Lines.{Line, levelled, lines_toks, toks_of}
use Rattle.da_unparse.specs.Pieces.{Piece}
use Rattle.da_unparse.specs.Statements.{Block}
use Rattle.da_unparse.proofs.AgainTools.{put, tok_of}

-- the lines begin at this level
pub record Begins (level : ℕ) (ls : List Line) : Type 0 where
  pub first : List Piece
  pub others : List Line
  pub is : ls ≡ record { level = level; pieces = first } ∷ others

-- they do not begin deeper
abbrev pub Low : ℕ → List Line → Type 0
Low level [] = Unit {0}
Low level (l ∷ ls) = l.level ≤ level

pub low-begins : {level : ℕ} {ls : List Line} (rest : List Line) → Begins level ls → Low level (ls ++ rest)
low-begins {level} rest h = subst (λ z. Low level (z ++ rest)) (sym h.is) (omega arith)

pub begins-append : {level : ℕ} {ls : List Line} (rest : List Line) → Begins level ls → Begins level (ls ++ rest)
begins-append rest h = record { first = h.first; others = h.others ++ rest; is = ap (λ z. z ++ rest) h.is }

pub low-more : (level : ℕ) (ls : List Line) → Low level ls → Low (level + 1) ls
low-more level [] low = tt
low-more level (l ∷ ls) low = omega arith

-- ---- levels

same_level : (n level : ℕ) → levelled n level level ≡ []
same_level n level =
    let no : nat_lt level level ≡ false = grind (arith, nat_tests) in
    let none : level - level ≡ 0 = omega arith in
    ap (λ b. if b then tok_of n m.Indent [] ∷ [] else replicate (level - level) (tok_of n m.Dedent [])) no ∙ ap (λ k. replicate k (tok_of n m.Dedent [])) none

deeper_level : (n level : ℕ) → levelled n level (level + 1) ≡ tok_of n m.Indent [] ∷ []
deeper_level n level =
    let yes : nat_lt level (level + 1) ≡ true = grind (arith, nat_tests) in
    ap (λ b. if b then tok_of n m.Indent [] ∷ [] else replicate (level - (level + 1)) (tok_of n m.Dedent [])) yes

lower_level : (n blocks level : ℕ) → level ≤ blocks → levelled n blocks level ≡ replicate (blocks - level) (tok_of n m.Dedent [])
lower_level n blocks level le =
    let no : nat_lt blocks level ≡ false = grind (arith, nat_tests) in
    ap (λ b. if b then tok_of n m.Indent [] ∷ [] else replicate (blocks - level) (tok_of n m.Dedent [])) no

level_ends : (n blocks level : ℕ) → level ≤ blocks → levelled n (blocks + 1) level ≡ tok_of n m.Dedent [] ∷ levelled n blocks level
level_ends n blocks level le =
    let more : blocks + 1 - level ≡ suc (blocks - level) = omega arith in
    lower_level n (blocks + 1) level (omega arith) ∙ ap (λ k. replicate k (tok_of n m.Dedent [])) more ∙ ap (λ z. tok_of n m.Dedent [] ∷ z) (sym (lower_level n blocks level le))

-- a line at the level of the block that is open
pub line-toks : (n level : ℕ) (ps : List Piece) (ls : List Line)
    → lines_toks n level (record { level = level; pieces = ps } ∷ ls) ≡ put n ps (tok_of n m.Newline [] ∷ lines_toks (n + 1) level ls)
unfolding put
line-toks n level ps ls = ap (λ z. z ++ toks_of n ps ++ tok_of n m.Newline [] ∷ lines_toks (n + 1) level ls) (same_level n level)

first_opens : (n level : ℕ) (ps : List Piece) (ls : List Line)
    → let l = record { level = level + 1; pieces = ps } ∷ ls in lines_toks n level l ≡ tok_of n m.Indent [] ∷ lines_toks n (level + 1) l
first_opens n level ps ls =
    let tail = tok_of n m.Newline [] ∷ lines_toks (n + 1) (level + 1) ls in
    ap (λ z. z ++ toks_of n ps ++ tail) (deeper_level n level) ∙ ap (λ z. tok_of n m.Indent [] ∷ (z ++ toks_of n ps ++ tail)) (sym (same_level n (level + 1)))

-- a block opens
pub block_opens : (n level : ℕ) {ls : List Line} → Begins (level + 1) ls → lines_toks n level ls ≡ tok_of n m.Indent [] ∷ lines_toks n (level + 1) ls
block_opens n level h = subst (λ z. lines_toks n level z ≡ tok_of n m.Indent [] ∷ lines_toks n (level + 1) z) (sym h.is) (first_opens n level h.first h.others)

-- and it ends
pub block_ends : (n level : ℕ) (ls : List Line) → Low level ls → At m.Dedent (lines_toks n (level + 1) ls) (lines_toks n level ls)
block_ends n level [] low =
    let e : suc level ≡ level + 1 = omega arith in
    subst (λ k. At m.Dedent (replicate k (tok_of (n - 1) m.Dedent [])) (replicate level (tok_of (n - 1) m.Dedent []))) e (g.At.at refl)
block_ends n level (l ∷ ls) low =
    subst (λ z. At m.Dedent (z ++ toks_of n l.pieces ++ tok_of n m.Newline [] ∷ lines_toks (n + 1) l.level ls) (lines_toks n level (l ∷ ls))) (sym (level_ends n level l.level low)) (g.At.at refl)

-- ---- what is spelled again, but for the numbers of lines

-- the lines of x, of which the first has the number n and the others go on with `rest`, spell something that is x but for the numbers of lines
pub record Reprinted {A : Type 0} (Item : Spelling A) (lines : A → Block) (unlined : A → A) (x : A) (n level : ℕ) (rest : List Line) : Type 0 where
  pub now : A
  pub next : ℕ
  pub same : unlined now ≡ unlined x
  pub spelled : Item now (lines_toks n level (lines x level ++ rest)) (lines_toks next level rest)

-- after INDENT
abbrev pub Indented : {A : Type 0} → Spelling A → Spelling A
Indented {A} Inside x i r = (s : List Tok) × At m.Indent i s × Inside x s r

-- whatever spells something, its lines do
abbrev pub Reprints : {A : Type 0} → Spelling A → Spelling A → (A → Block) → (A → A) → Type 0
Reprints {A} Item Printed lines unlined = (x : A) (i r : List Tok) → Item x i r → (n level : ℕ) (rest : List Line) → Low level rest → Reprinted Printed lines unlined x n level rest

-- its lines begin where they should
abbrev pub Starts : {A : Type 0} → Spelling A → (A → Block) → Type 0
Starts {A} Item lines = (x : A) (i r : List Tok) → Item x i r → (level : ℕ) → Begins level (lines x level)

-- the lines of several things, one after another
abbrev pub all_lines : {A : Type 0} → (A → Block) → List A → Block
all_lines lines xs level = flat_map (λ x. lines x level) xs

module _ {A : Type 0} {Item Printed : Spelling A} (lines : A → Block) (unlined : A → A) (item : Reprints Item Printed lines unlined) (starts : Starts Item lines) where
  pub many-low : (xs : List A) (i r : List Tok) → Many Item xs i r → (level : ℕ) (rest : List Line) → Low level rest → Low level (all_lines lines xs level ++ rest)
  many-low _ i r g.Many.none level rest low = low
  many-low _ i r (g.Many.one {x} {xs} a others) level rest low =
      rw (append_assoc (lines x level) (all_lines lines xs level) rest) (low-begins (all_lines lines xs level ++ rest) (starts x _ _ a level))

  pub many-again : (xs : List A) (i r : List Tok) → Many Item xs i r → (n level : ℕ) (rest : List Line) → Low level rest
      → Reprinted (Many Printed) (all_lines lines) (map unlined) xs n level rest
  many-again _ i r g.Many.none n level rest low = record { now = []; next = n; same = refl; spelled = g.Many.none }
  many-again _ i r (g.Many.one {x} {xs} a others) n level rest low =
      let one = item x _ _ a n level (all_lines lines xs level ++ rest) (many-low xs _ _ others level rest low) in
      let more = many-again xs _ _ others one.next level rest low in
      record {
        now = one.now ∷ more.now;
        next = more.next;
        same = cc (one.same, more.same);
        spelled = rw (append_assoc (lines x level) (all_lines lines xs level) rest) (g.Many.one one.spelled more.spelled);
      }

  pub ended-begins : (xs : List A) (i r : List Tok) → Ended Item xs i r → (level : ℕ) → Begins level (all_lines lines xs level)
  ended-begins _ i r (g.Ended.ends {x} a h) level = begins-append [] (starts x _ _ a level)
  ended-begins _ i r (g.Ended.goes_on {x} {xs} a others) level = begins-append (all_lines lines xs level) (starts x _ _ a level)

  ended-inside : (xs : List A) (i r : List Tok) → Ended Item xs i r → (n level : ℕ) (rest : List Line) → Low level rest
      → (now : List A) × (next : ℕ) × (map unlined now ≡ map unlined xs) × Ended Printed now (lines_toks n (level + 1) (all_lines lines xs (level + 1) ++ rest)) (lines_toks next level rest)
  ended-inside _ i r (g.Ended.ends {x} a h) n level rest low =
      let one = item x _ _ a n (level + 1) rest (low-more level rest low) in
      (one.now ∷ [], one.next, cc (one.same), rw (append-nil (lines x (level + 1))) (g.Ended.ends one.spelled (block_ends one.next level rest low)))
  ended-inside _ i r (g.Ended.goes_on {x} {xs} a others) n level rest low =
      let one = item x _ _ a n (level + 1) (all_lines lines xs (level + 1) ++ rest) (low-begins rest (ended-begins xs _ _ others (level + 1))) in
      let (now, next, same, spelled) = ended-inside xs _ _ others one.next level rest low in
      (one.now ∷ now, next, cc (one.same, same), rw (append_assoc (lines x (level + 1)) (all_lines lines xs (level + 1)) rest) (g.Ended.goes_on one.spelled spelled))

  -- items one level deeper, up to where their block ends
  pub ended-again : (xs : List A) (i r : List Tok) → Ended Item xs i r → (n level : ℕ) (rest : List Line) → Low level rest
      → Reprinted (Indented (Ended Printed)) (λ xs level. all_lines lines xs (level + 1)) (map unlined) xs n level rest
  ended-again xs i r h n level rest low =
      let (now, next, same, spelled) = ended-inside xs i r h n level rest low in
      record {
        now = now;
        next = next;
        same = same;
        spelled = rw (block_opens n level (begins-append rest (ended-begins xs i r h (level + 1)))) (_, g.At.at refl, spelled);
      }
