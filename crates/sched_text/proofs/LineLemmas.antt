-- The first line of a text.
use Rattle.std.proofs.Common.{◌≡◌, ◌≢◌, refl, ◌∙◌, ap, ℕ, ◌<◌, Bool, true, false, List, [], ◌∷◌, ◌++◌, length, arith, length-append, true≢false}
use Rattle.std.proofs.lemmas.Bool.Decides.{nat_tests}
use Rattle.std.proofs.lemmas.List.Splits.{slice_split_at, slice_split_none}
use Rattle.std.specs.List.{All, slice_split}
use Rattle.std.specs.Prelude.{◌==◌, slice_index_or}
use Rattle.std.specs.Str.Lines.{lines, lines_of_parts, strip_carriage_return}
use Rattle.sched_text.specs.TraceText.{bare_parts, trace_lines}

abbrev is_end : ℕ → Bool
is_end b = b == 10

-- a text has one part or more between its ends of lines
record Parts (text : List ℕ) : Type 0 where
  first : List ℕ
  more : List (List ℕ)
  is : slice_split is_end text ≡ first ∷ more

parts_of : (text : List ℕ) → Parts text
parts_of [] = record { first = []; more = []; is = refl }
parts_of (b ∷ bs) = at_first (is_end b) refl (parts_of bs)
  where
    at_first : (ends : Bool) → is_end b ≡ ends → Parts bs → Parts (b ∷ bs)
    at_first true is inner = record { first = []; more = slice_split is_end bs; is = rw is refl }
    at_first false is inner = record { first = b ∷ inner.first; more = inner.more; is = rw (is, inner.is) refl }

no_end : (b : ℕ) → b ≢ 10 → (b == 10) ≡ false
no_end b other = grind (arith, nat_tests)

none_ends : (line : List ℕ) → All (λ b. b ≢ 10) line → All (λ b. is_end b ≡ false) line
none_ends line plain = λ k d inside. no_end (slice_index_or line k d) (plain k d inside)

-- a line that has an end
pub line_first : (text line rest : List ℕ) → All (λ b. b ≢ 10) line → text ≡ line ++ 10 ∷ rest → lines text ≡ strip_carriage_return line ∷ lines rest
line_first text line rest plain is =
    let parts = parts_of rest in
    ap lines is ∙ ap lines_of_parts (slice_split_at is_end line 10 rest (none_ends line plain) refl) ∙ rw parts.is refl

pub rest_shorter : (text line rest : List ℕ) → text ≡ line ++ 10 ∷ rest → length rest < length text
rest_shorter text line rest is = omega (arith, ap length is, length-append line (10 ∷ rest))

-- a last line without an end
not_empty : (n : ℕ) → 0 < n → (n == 0) ≡ false
not_empty n some = grind (arith, nat_tests)

one_part : (line : List ℕ) (empty : Bool) → (length line == 0) ≡ empty → empty ≡ false → lines_of_parts (line ∷ []) ≡ line ∷ []
one_part line true is other = absurd (true≢false other)
one_part line false is other = rw is refl

pub line_last : (text : List ℕ) → 0 < length text → All (λ b. b ≢ 10) text → lines text ≡ text ∷ []
line_last text some plain =
    ap lines_of_parts (slice_split_none is_end text (none_ends text plain)) ∙ one_part text (length text == 0) refl (not_empty (length text) some)

-- the same, where a carriage return is a byte of the line
pub bare_first : (text line rest : List ℕ) → All (λ b. b ≢ 10) line → text ≡ line ++ 10 ∷ rest → trace_lines text ≡ line ∷ trace_lines rest
bare_first text line rest plain is =
    let parts = parts_of rest in
    ap trace_lines is ∙ ap bare_parts (slice_split_at is_end line 10 rest (none_ends line plain) refl) ∙ rw parts.is refl

bare_part : (line : List ℕ) (empty : Bool) → (length line == 0) ≡ empty → empty ≡ false → bare_parts (line ∷ []) ≡ line ∷ []
bare_part line true is other = absurd (true≢false other)
bare_part line false is other = rw is refl

pub bare_last : (text : List ℕ) → 0 < length text → All (λ b. b ≢ 10) text → trace_lines text ≡ text ∷ []
bare_last text some plain =
    ap bare_parts (slice_split_none is_end text (none_ends text plain)) ∙ bare_part text (length text == 0) refl (not_empty (length text) some)
