-- What the scan of a text does where the level of a line is looked at, and at the end of the text.
use Rattle.std.proofs.Common.{◌≡◌, ℕ, zero, suc, ◌+◌, ◌-◌, ◌*◌, ◌<◌, ◌≤◌, Bool, true, false, List, [], ◌∷◌, ◌++◌, map, length, replicate, Ok, refl, sym, ap, ◌∙◌, arith}
use Rattle.std.proofs.lemmas.Bool.Decides.{nat_tests}
use Rattle.std.specs.Prelude.{nat_lt, ◌==◌, if◌then◌else◌}
use Rattle.da_values.specs.declared.token.Mark.TheVariants as m
use Rattle.da_values.specs.declared.token.Token.{Token}
use Rattle.da_values.specs.declared.token.TokenKind.TheVariants as kind
use Rattle.da_values.specs.Marks.{Tok, tok, toks}
use Rattle.da_values.specs.Tokens.{Scan, empty, top, popped, level, levelled, line_end, finish, scan}
use Rattle.da_unparse.specs.Lines as lines
use Rattle.da_unparse.proofs.LexedSteps.{levels_of, Ready, Before}

map_replicate : {X Y : Type 0} (f : X → Y) (n : ℕ) (x : X) → map f (replicate n x) ≡ replicate n (f x)
map_replicate f zero x = refl
map_replicate f (suc n) x = ap (λ ys. f x ∷ ys) (map_replicate f n x)

-- ---- the open levels

top_level : (blocks : ℕ) → top (levels_of blocks) ≡ 4 * blocks
top_level zero = refl
top_level (suc blocks) = refl

count_levels : (blocks : ℕ) → length (levels_of blocks) ≡ blocks + 1
count_levels zero = refl
count_levels (suc blocks) = omega (arith, count_levels blocks)

-- the deeper ones are popped
popped_levels : (blocks l : ℕ) → l ≤ blocks → popped (4 * l) (levels_of blocks) ≡ levels_of l
popped_levels zero l le = let none : l ≡ 0 = omega arith in rw none refl
popped_levels (suc blocks) l le = step (nat_lt (4 * l) (4 * suc blocks)) refl (popped_levels blocks l)
  where
    step : (c : Bool) → nat_lt (4 * l) (4 * suc blocks) ≡ c → (l ≤ blocks → popped (4 * l) (levels_of blocks) ≡ levels_of l)
        → (if c then popped (4 * l) (levels_of blocks) else levels_of (suc blocks)) ≡ levels_of l
    step true e more = let less : 4 * l < 4 * suc blocks = grind (arith, nat_tests) in more (omega arith)
    step false e more = let least : 4 * suc blocks ≤ 4 * l = grind (arith, nat_tests) in let same : suc blocks ≡ l = omega arith in ap levels_of same

-- ---- the level of a line

level_deeper : (s : Scan) → nat_lt (top s.levels) s.spaces ≡ true → level s ≡ Ok (empty kind.Indent s.at s.line ∷ [], record s { is_fresh = false; levels = s.spaces ∷ s.levels })
unfolding level
level_deeper s e = rw e refl

level_less : (s : Scan) → nat_lt (top s.levels) s.spaces ≡ false → (top (popped s.spaces s.levels) == s.spaces) ≡ true
    → level s ≡ Ok (replicate (length s.levels - length (popped s.spaces s.levels)) (empty kind.Dedent s.at s.line), record s { is_fresh = false; levels = popped s.spaces s.levels })
unfolding level
level_less s e d = rw (e, d) refl

abbrev indent : ℕ → Tok
indent number = record { mark = m.Indent; text = []; line = number }

abbrev dedent : ℕ → Tok
dedent number = record { mark = m.Dedent; text = []; line = number }

dedents_seen : (text : List ℕ) (n first line : ℕ) → toks text (replicate n (empty kind.Dedent first line)) ≡ replicate n (dedent line)
dedents_seen text n first line = map_replicate (tok text) n (empty kind.Dedent first line)

-- what the level of a line gives
pub record Levelled (text : List ℕ) (s : Scan) (place number blocks l : ℕ) : Type 0 where
  pub made : List Token
  pub next : Scan
  pub is : levelled s ≡ Ok (made, next)
  pub ready : Ready next place number l 0
  pub seen : toks text made ≡ lines.levelled number blocks l

-- a deeper line opens one block, and a line less deep closes some
pub level_goes : {place number blocks : ℕ} (text : List ℕ) (l : ℕ) (s : Scan) → Before s place number blocks (4 * l) → l ≤ blocks + 1 → Levelled text s place number blocks l
level_goes {place} {number} {blocks} text l s is most = step (nat_lt blocks l) refl
  where
    fresh : levelled s ≡ level s
    fresh = ap (λ f. if f then level s else Ok ([], s)) is.fresh

    tested : nat_lt (top s.levels) s.spaces ≡ nat_lt (4 * blocks) (4 * l)
    tested = ap (λ ls. nat_lt (top ls) s.spaces) is.levels ∙ ap (λ t. nat_lt t s.spaces) (top_level blocks) ∙ ap (nat_lt (4 * blocks)) is.spaces

    deeper : nat_lt blocks l ≡ true → Levelled text s place number blocks l
    deeper e =
        let less : blocks < l = grind (arith, nat_tests) in
        let one : l ≡ suc blocks = omega arith in
        let times : 4 * blocks < 4 * l = omega arith in
        let passes : nat_lt (4 * blocks) (4 * l) ≡ true = grind (arith, nat_tests) in
        let levels : levels_of l ≡ 4 * suc blocks ∷ levels_of blocks = ap levels_of one in
        let four : 4 * l ≡ 4 * suc blocks = ap (λ n. 4 * n) one in
        record {
          made = empty kind.Indent s.at s.line ∷ [];
          next = record s { is_fresh = false; levels = s.spaces ∷ s.levels };
          is = fresh ∙ level_deeper s (tested ∙ passes);
          ready = record { at = is.at; line = is.line; fresh = refl; levels = ap (λ ls. s.spaces ∷ ls) is.levels ∙ ap (λ n. n ∷ levels_of blocks) (is.spaces ∙ four) ∙ sym levels; brackets = is.brackets };
          seen = ap (λ n. indent n ∷ []) is.line ∙ ap (λ b. if b then indent number ∷ [] else replicate (blocks - l) (dedent number)) (sym e);
        }

    less_deep : nat_lt blocks l ≡ false → Levelled text s place number blocks l
    less_deep e =
        let least : l ≤ blocks = grind (arith, nat_tests) in
        let times : 4 * l ≤ 4 * blocks = omega arith in
        let fails : nat_lt (4 * blocks) (4 * l) ≡ false = grind (arith, nat_tests) in
        let kept : popped s.spaces s.levels ≡ levels_of l = ap (λ n. popped n s.levels) is.spaces ∙ ap (popped (4 * l)) is.levels ∙ popped_levels blocks l least in
        let same : (4 * l == 4 * l) ≡ true = grind (arith, nat_tests) in
        let count : length s.levels - length (popped s.spaces s.levels) ≡ blocks - l =
        omega (arith, ap length is.levels, ap length kept, count_levels blocks, count_levels l) in
        record {
          made = replicate (length s.levels - length (popped s.spaces s.levels)) (empty kind.Dedent s.at s.line);
          next = record s { is_fresh = false; levels = popped s.spaces s.levels };
          is = fresh ∙ level_less s (tested ∙ fails) (ap (λ ls. top ls == s.spaces) kept ∙ ap (λ t. t == s.spaces) (top_level l) ∙ ap (λ n. 4 * l == n) is.spaces ∙ same);
          ready = record { at = is.at; line = is.line; fresh = refl; levels = kept; brackets = is.brackets };
          seen = dedents_seen text (length s.levels - length (popped s.spaces s.levels)) s.at s.line ∙ ap (λ n. replicate n (dedent s.line)) count
              ∙ ap (λ n. replicate (blocks - l) (dedent n)) is.line ∙ ap (λ b. if b then indent number ∷ [] else replicate (blocks - l) (dedent number)) (sym e);
        }

    step : (c : Bool) → nat_lt blocks l ≡ c → Levelled text s place number blocks l
    step true e = deeper e
    step false e = less_deep e

-- ---- the end of the text

last_dedents : (blocks last line : ℕ) → (0 < blocks → last ≡ line) → replicate blocks (dedent last) ≡ replicate blocks (dedent line)
last_dedents zero last line same = refl
last_dedents (suc blocks) last line same = ap (λ n. replicate (suc blocks) (dedent n)) (same (omega arith))

pub finish_goes : {place number blocks : ℕ} (text : List ℕ) (s : Scan) → Before s place number blocks 0
    → (made : List Token) × (scan 0 s [] ≡ Ok made) × (toks text made ≡ lines.lines_toks number blocks [])
unfolding scan finish
finish_goes {place} {number} {blocks} text s is =
    let none : line_end s ≡ [] = rw is.fresh refl in
    let count : length s.levels - 1 ≡ blocks = omega (arith, ap length is.levels, count_levels blocks) in (
      line_end s ++ replicate (length s.levels - 1) (empty kind.Dedent s.at s.last_line),
      rw is.brackets refl,
      ap (λ ts. toks text (ts ++ replicate (length s.levels - 1) (empty kind.Dedent s.at s.last_line))) none
          ∙ dedents_seen text (length s.levels - 1) s.at s.last_line ∙ ap (λ n. replicate n (dedent s.last_line)) count ∙ last_dedents blocks s.last_line (number - 1) is.last_line,
    )
