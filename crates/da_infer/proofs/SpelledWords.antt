-- Names, and the words and signs of what is added, each make one token alone.
use Rattle.std.specs.Prelude.{◌≡◌, refl, ℕ, zero, suc, ◌+◌, ◌≤◌, ◌==◌, ◌&&◌, ◌||◌, not, Bool, true, false, cond, if◌then◌else◌, List, [], ◌∷◌, length, take, is_some, codes}
use Rattle.std.specs.Char.{is_ascii_digit}
use Rattle.std.specs.List.{All, AllByRecursion, list_all, prefix_len}
use Rattle.std.specs.Str.{bytes_eq}
use Rattle.std.proofs.Common.{◌∙◌, ap, sym, arith}
use Rattle.std.proofs.lemmas.Bool.Decides.{nat_tests}
use Rattle.std.proofs.lemmas.List.Elements.{All-head}
use Rattle.da_values.specs.declared.token.Mark.{Mark}
use Rattle.da_values.specs.declared.token.Mark.TheVariants as m
use Rattle.da_values.specs.declared.token.Piece.TheVariants as piece_is
use Rattle.da_values.specs.declared.token.TokenKind.{TokenKind}
use Rattle.da_values.specs.declared.token.TokenKind.TheVariants as kind
use Rattle.da_values.specs.Marks.{Tok}
use Rattle.da_values.specs.Piece.{begins_name, in_name, front, piece, name_kind, named}
use Rattle.da_values.specs.Words.{words, symbols}
use Rattle.da_values.specs.Words as word
use Rattle.da_lang.specs.Spelling.{IsSpelled, Named, spelled}
use Rattle.added_names.specs.declared.added.AddedVariable.{AddedVariable}
use Rattle.added_names.specs.Changes.{Changes}
use Rattle.added_names.specs.Names.{is_reserved, is_name}

-- a token on a line
abbrev pub tok_of : ℕ → Mark → List ℕ → Tok
tok_of line k bytes = record { mark = k; text = bytes; line = line }

-- ---- names

letter : (b : ℕ) → begins_name b ≡ true → (65 ≤ b) × (b ≤ 122)
letter b e = (grind (arith, nat_tests), grind (arith, nat_tests))

-- a prefix that is all
whole_prefix : (p : ℕ → Bool) (z : List ℕ) → list_all p z ≡ true → prefix_len p z ≡ length z
whole_prefix p [] all = refl
whole_prefix p (c ∷ cs) all = step (p c) all (whole_prefix p cs)
  where
    step : (b : Bool) → (b && list_all p cs) ≡ true → (list_all p cs ≡ true → prefix_len p cs ≡ length cs) → cond b (1 + prefix_len p cs) 0 ≡ suc (length cs)
    step true all more = (let e = more all in omega arith)
    step false all more = absurd (cc)

take_all : (z : List ℕ) → take (length z) z ≡ z
take_all [] = refl
take_all (c ∷ cs) = ap (λ l. c ∷ l) (take_all cs)

name_front : (b : ℕ) (z : List ℕ) → begins_name b ≡ true → list_all in_name z ≡ true → front (b ∷ z) ≡ named (b ∷ z)
unfolding piece
name_front b z e all =
    let (low, high) = letter b e in
    let space : (b == 32) ≡ false = grind (arith, nat_tests) in
    let lf : (b == 10) ≡ false = grind (arith, nat_tests) in
    let cr : (b == 13) ≡ false = grind (arith, nat_tests) in
    let comment : (b == 35) ≡ false = grind (arith, nat_tests) in
    let quote : (b == 39) ≡ false = grind (arith, nat_tests) in
    let digit : is_ascii_digit b ≡ false = grind (arith, nat_tests) in
    let size : 1 + prefix_len in_name z ≡ length (b ∷ z) = omega (arith, whole_prefix in_name z all) in
    rw (space, lf, cr, comment, quote, digit, e) (ap (λ n. named (take n (b ∷ z))) size ∙ ap named (take_all (b ∷ z)))

and_three : (a b c : Bool) → (a && b && c) ≡ true → (a ≡ true) × (b ≡ true) × (c ≡ true)
and_three true true true e = (refl, refl, refl)
and_three true true false e = absurd (cc)
and_three true false c e = absurd (cc)
and_three false b c e = absurd (cc)

no_other : (a b : Bool) → not (a || b) ≡ true → (if a then kind.Wild else if b then kind.Word else kind.Name) ≡ kind.Name
no_other false false e = refl
no_other false true e = absurd (cc)
no_other true b e = absurd (cc)

kind_of_name : (z : List ℕ) → not (is_reserved z) ≡ true → name_kind z ≡ kind.Name
unfolding is_reserved name_kind
kind_of_name z e = no_other (bytes_eq z (codes "_")) (is_some (word.spelled words z)) e

pub name_spelled : (line : ℕ) (z : List ℕ) → is_name z ≡ true → IsSpelled (tok_of line m.Name z)
unfolding is_name
name_spelled line [] e = absurd (cc)
name_spelled line (b ∷ z) e =
    let (begins, others, free) = and_three (begins_name b) (list_all in_name z) (not (is_reserved (b ∷ z))) e in
    spelled kind.Name refl (name_front b z begins others ∙ ap (λ k. piece_is.Token k (length (b ∷ z))) (kind_of_name (b ∷ z) free))

-- tokens that are names have texts that make names on every line
abbrev pub IsWord : List ℕ → Type 0
IsWord z = (line : ℕ) → IsSpelled (tok_of line m.Name z)

abbrev pub AreWords : Changes → Type 0
AreWords vs = AllByRecursion (λ (v : AddedVariable). IsWord v.name) vs

name_again : (a : Tok) → IsSpelled a → a.mark ≡ m.Name → IsWord a.text
name_again a (spelled k is bytes) e line = spelled k (sym e ∙ is) bytes

pub word_of : (b : List ℕ) (t r : List Tok) → Named b t r → All IsSpelled t → IsWord b
word_of _ t r (Named.named {t = a} {r = q} e) all = name_again a (All-head IsSpelled a q all) e

-- ---- words

pub var_spelled : (line : ℕ) → IsSpelled (tok_of line m.Var (codes "var"))
unfolding piece name_kind words
var_spelled line = spelled kind.Word refl refl

pub message_spelled : (line : ℕ) → IsSpelled (tok_of line m.Message (codes "message"))
unfolding piece name_kind words
message_spelled line = spelled kind.Word refl refl

pub int_spelled : (line : ℕ) → IsSpelled (tok_of line m.Int (codes "int"))
unfolding piece name_kind words
int_spelled line = spelled kind.Word refl refl

pub set_spelled : (line : ℕ) → IsSpelled (tok_of line m.Set (codes "set"))
unfolding piece name_kind words
set_spelled line = spelled kind.Word refl refl

-- ---- signs

pub colon_spelled : (line : ℕ) → IsSpelled (tok_of line m.Colon (codes ":"))
unfolding piece symbols
colon_spelled line = spelled kind.Symbol refl refl

pub comma_spelled : (line : ℕ) → IsSpelled (tok_of line m.Comma (codes ","))
unfolding piece symbols
comma_spelled line = spelled kind.Symbol refl refl

pub open_paren_spelled : (line : ℕ) → IsSpelled (tok_of line m.OpenParen (codes "("))
unfolding piece symbols
open_paren_spelled line = spelled kind.Symbol refl refl

pub close_paren_spelled : (line : ℕ) → IsSpelled (tok_of line m.CloseParen (codes ")"))
unfolding piece symbols
close_paren_spelled line = spelled kind.Symbol refl refl

pub open_bracket_spelled : (line : ℕ) → IsSpelled (tok_of line m.OpenBracket (codes "["))
unfolding piece symbols
open_bracket_spelled line = spelled kind.Symbol refl refl

pub close_bracket_spelled : (line : ℕ) → IsSpelled (tok_of line m.CloseBracket (codes "]"))
unfolding piece symbols
close_bracket_spelled line = spelled kind.Symbol refl refl

pub newline_spelled : (line : ℕ) → IsSpelled (tok_of line m.Newline [])
newline_spelled line = spelled kind.Newline refl refl
