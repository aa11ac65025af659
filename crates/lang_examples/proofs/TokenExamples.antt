-- The tokens of texts, or their first faults. Of each token there is its kind, its first byte, its length and its line.
use Rattle.std.specs.Prelude.{◌≡◌, ◌++◌, refl, ℕ, List, [], ◌∷◌, Ok, Err, codes, map}
use Rattle.da_values.specs.declared.token.LexKind.{LexKind}
use Rattle.da_values.specs.declared.token.LexKind.TheVariants as fault
use Rattle.da_values.specs.declared.token.Token.{Token}
use Rattle.da_values.specs.declared.token.TokenKind.{TokenKind}
use Rattle.da_values.specs.declared.token.TokenKind.TheVariants as kind
use Rattle.da_values.specs.Piece.{name_kind, number, number_of, piece, quoted}
use Rattle.da_values.specs.Tokens.{Scanned, bracketed, finish, level, scan, step, tokens}
use Rattle.da_values.specs.Words.{symbols, words}

abbrev t : TokenKind → ℕ → ℕ → ℕ → Token
t k first length line = record { kind = k; first = first; length = length; line = line }

abbrev Has : List ℕ → List Token → Type 0
Has text ts = ◌≡◌ {A = Scanned} (tokens text) (Ok ts)

abbrev Fails : List ℕ → LexKind → ℕ → Type 0
Fails text k line = ◌≡◌ {A = Scanned} (tokens text) (Err (record { kind = k; line = line }))

-- nothing
tokens_1 : Has [] []
unfolding scan step level bracketed finish piece quoted number name_kind number_of words symbols
tokens_1 = refl

-- blank lines and lines of comments
tokens_2 : Has (codes " \n\n# c\n   # d\n") []
unfolding scan step level bracketed finish piece quoted number name_kind number_of words symbols
tokens_2 = refl

-- a last line without its end
tokens_3 : Has (codes "x") (t kind.Name 0 1 1 ∷ t kind.Newline 1 0 1 ∷ [])
unfolding scan step level bracketed finish piece quoted number name_kind number_of words symbols
tokens_3 = refl

-- a line's end begins behind its last token
tokens_4 : Has (codes "x # y" ++ (13 ∷ []) ++ codes "\n") (t kind.Name 0 1 1 ∷ t kind.Newline 1 0 1 ∷ [])
unfolding scan step level bracketed finish piece quoted number name_kind number_of words symbols
tokens_4 = refl

tokens_5 : Has (codes "a" ++ (13 ∷ []) ++ codes "\nb" ++ (13 ∷ []) ++ codes "\n") (t kind.Name 0 1 1 ∷ t kind.Newline 1 0 1 ∷ t kind.Name 3 1 2 ∷ t kind.Newline 4 0 2 ∷ [])
unfolding scan step level bracketed finish piece quoted number name_kind number_of words symbols
tokens_5 = refl

-- a comment holds any byte
tokens_6 : Has (codes "# " ++ (255 ∷ 9 ∷ 13 ∷ []) ++ codes "a\nx") (t kind.Name 7 1 2 ∷ t kind.Newline 8 0 2 ∷ [])
unfolding scan step level bracketed finish piece quoted number name_kind number_of words symbols
tokens_6 = refl

-- every symbol
tokens_7 : Has (codes "( ) { } [ ] , : . | = == != < <= > >= + - * // % --") (t kind.Symbol 0 1 1 ∷ t kind.Symbol 2 1 1 ∷ t kind.Symbol 4 1 1 ∷ t kind.Symbol 6 1 1 ∷ t kind.Symbol 8 1 1 ∷ t kind.Symbol 10 1 1 ∷ t kind.Symbol 12 1 1 ∷ t kind.Symbol 14 1 1 ∷ t kind.Symbol 16 1 1 ∷ t kind.Symbol 18 1 1 ∷ t kind.Symbol 20 1 1 ∷ t kind.Symbol 22 2 1 ∷ t kind.Symbol 25 2 1 ∷ t kind.Symbol 28 1 1 ∷ t kind.Symbol 30 2 1 ∷ t kind.Symbol 33 1 1 ∷ t kind.Symbol 35 2 1 ∷ t kind.Symbol 38 1 1 ∷ t kind.Symbol 40 1 1 ∷ t kind.Symbol 42 1 1 ∷ t kind.Symbol 44 2 1 ∷ t kind.Symbol 47 1 1 ∷ t kind.Symbol 49 2 1 ∷ t kind.Newline 51 0 1 ∷ [])
unfolding scan step level bracketed finish piece quoted number name_kind number_of words symbols
tokens_7 = refl

-- the longest spelling
tokens_8 : Has (codes "---") (t kind.Symbol 0 2 1 ∷ t kind.Symbol 2 1 1 ∷ t kind.Newline 3 0 1 ∷ [])
unfolding scan step level bracketed finish piece quoted number name_kind number_of words symbols
tokens_8 = refl

tokens_9 : Has (codes "==-===") (t kind.Symbol 0 2 1 ∷ t kind.Symbol 2 1 1 ∷ t kind.Symbol 3 2 1 ∷ t kind.Symbol 5 1 1 ∷ t kind.Newline 6 0 1 ∷ [])
unfolding scan step level bracketed finish piece quoted number name_kind number_of words symbols
tokens_9 = refl

tokens_10 : Has (codes "<==!=>>=////") (t kind.Symbol 0 2 1 ∷ t kind.Symbol 2 1 1 ∷ t kind.Symbol 3 2 1 ∷ t kind.Symbol 5 1 1 ∷ t kind.Symbol 6 2 1 ∷ t kind.Symbol 8 2 1 ∷ t kind.Symbol 10 2 1 ∷ t kind.Newline 12 0 1 ∷ [])
unfolding scan step level bracketed finish piece quoted number name_kind number_of words symbols
tokens_10 = refl

-- words, names and `_`
tokens_11 : Has (codes "self selfx _self _ __ x_1 If if") (t kind.Word 0 4 1 ∷ t kind.Name 5 5 1 ∷ t kind.Name 11 5 1 ∷ t kind.Wild 17 1 1 ∷ t kind.Name 19 2 1 ∷ t kind.Name 22 3 1 ∷ t kind.Name 26 2 1 ∷ t kind.Word 29 2 1 ∷ t kind.Newline 31 0 1 ∷ [])
unfolding scan step level bracketed finish piece quoted number name_kind number_of words symbols
tokens_11 = refl

tokens_12 : Has (codes "logical_time unreliable") (t kind.Word 0 12 1 ∷ t kind.Word 13 10 1 ∷ t kind.Newline 23 0 1 ∷ [])
unfolding scan step level bracketed finish piece quoted number name_kind number_of words symbols
tokens_12 = refl

-- numbers
tokens_13 : Has (codes "0 10 9223372036854775807 12ab 0x") (t kind.Number 0 1 1 ∷ t kind.Number 2 2 1 ∷ t kind.Number 5 19 1 ∷ t kind.Number 25 2 1 ∷ t kind.Name 27 2 1 ∷ t kind.Number 30 1 1 ∷ t kind.Name 31 1 1 ∷ t kind.Newline 32 0 1 ∷ [])
unfolding scan step level bracketed finish piece quoted number name_kind number_of words symbols
tokens_13 = refl

-- texts
tokens_14 : Has (codes "'' 'a#b' # '\n") (t kind.Quoted 0 2 1 ∷ t kind.Quoted 3 5 1 ∷ t kind.Newline 8 0 1 ∷ [])
unfolding scan step level bracketed finish piece quoted number name_kind number_of words symbols
tokens_14 = refl

tokens_15 : Has (codes "'a''b'") (t kind.Quoted 0 3 1 ∷ t kind.Quoted 3 3 1 ∷ t kind.Newline 6 0 1 ∷ [])
unfolding scan step level bracketed finish piece quoted number name_kind number_of words symbols
tokens_15 = refl

-- levels
tokens_16 : Has (codes "a\n   b\n     c\n   d\ne\n") (t kind.Name 0 1 1 ∷ t kind.Newline 1 0 1 ∷ t kind.Indent 5 0 2 ∷ t kind.Name 5 1 2 ∷ t kind.Newline 6 0 2 ∷ t kind.Indent 12 0 3 ∷ t kind.Name 12 1 3 ∷ t kind.Newline 13 0 3 ∷ t kind.Dedent 17 0 4 ∷ t kind.Name 17 1 4 ∷ t kind.Newline 18 0 4 ∷ t kind.Dedent 19 0 5 ∷ t kind.Name 19 1 5 ∷ t kind.Newline 20 0 5 ∷ [])
unfolding scan step level bracketed finish piece quoted number name_kind number_of words symbols
tokens_16 = refl

-- two levels end at once
tokens_17 : Has (codes "a\n b\n  c\nd") (t kind.Name 0 1 1 ∷ t kind.Newline 1 0 1 ∷ t kind.Indent 3 0 2 ∷ t kind.Name 3 1 2 ∷ t kind.Newline 4 0 2 ∷ t kind.Indent 7 0 3 ∷ t kind.Name 7 1 3 ∷ t kind.Newline 8 0 3 ∷ t kind.Dedent 9 0 4 ∷ t kind.Dedent 9 0 4 ∷ t kind.Name 9 1 4 ∷ t kind.Newline 10 0 4 ∷ [])
unfolding scan step level bracketed finish piece quoted number name_kind number_of words symbols
tokens_17 = refl

-- levels that are open at the end
tokens_18 : Has (codes "a\n b\n  c") (t kind.Name 0 1 1 ∷ t kind.Newline 1 0 1 ∷ t kind.Indent 3 0 2 ∷ t kind.Name 3 1 2 ∷ t kind.Newline 4 0 2 ∷ t kind.Indent 7 0 3 ∷ t kind.Name 7 1 3 ∷ t kind.Newline 8 0 3 ∷ t kind.Dedent 8 0 3 ∷ t kind.Dedent 8 0 3 ∷ [])
unfolding scan step level bracketed finish piece quoted number name_kind number_of words symbols
tokens_18 = refl

tokens_19 : Has (codes "a\n b\n\n  # c\n") (t kind.Name 0 1 1 ∷ t kind.Newline 1 0 1 ∷ t kind.Indent 3 0 2 ∷ t kind.Name 3 1 2 ∷ t kind.Newline 4 0 2 ∷ t kind.Dedent 12 0 2 ∷ [])
unfolding scan step level bracketed finish piece quoted number name_kind number_of words symbols
tokens_19 = refl

-- a first line with a level
tokens_20 : Has (codes "  a\n") (t kind.Indent 2 0 1 ∷ t kind.Name 2 1 1 ∷ t kind.Newline 3 0 1 ∷ t kind.Dedent 4 0 1 ∷ [])
unfolding scan step level bracketed finish piece quoted number name_kind number_of words symbols
tokens_20 = refl

-- lines without a token have no level
tokens_21 : Has (codes "a\n\n   \n   # c\nb") (t kind.Name 0 1 1 ∷ t kind.Newline 1 0 1 ∷ t kind.Name 14 1 5 ∷ t kind.Newline 15 0 5 ∷ [])
unfolding scan step level bracketed finish piece quoted number name_kind number_of words symbols
tokens_21 = refl

-- a bracket over lines
tokens_22 : Has (codes "f(\n  1,\n\n# c\n)\ng") (t kind.Name 0 1 1 ∷ t kind.Symbol 1 1 1 ∷ t kind.Number 5 1 2 ∷ t kind.Symbol 6 1 2 ∷ t kind.Symbol 13 1 5 ∷ t kind.Newline 14 0 5 ∷ t kind.Name 15 1 6 ∷ t kind.Newline 16 0 6 ∷ [])
unfolding scan step level bracketed finish piece quoted number name_kind number_of words symbols
tokens_22 = refl

-- brackets are counted together
tokens_23 : Has (codes "([}\n)x\n") (t kind.Symbol 0 1 1 ∷ t kind.Symbol 1 1 1 ∷ t kind.Symbol 2 1 1 ∷ t kind.Symbol 4 1 2 ∷ t kind.Name 5 1 2 ∷ t kind.Newline 6 0 2 ∷ [])
unfolding scan step level bracketed finish piece quoted number name_kind number_of words symbols
tokens_23 = refl

-- brackets that close none
tokens_24 : Has (codes ")\n ]\n") (t kind.Symbol 0 1 1 ∷ t kind.Newline 1 0 1 ∷ t kind.Indent 3 0 2 ∷ t kind.Symbol 3 1 2 ∷ t kind.Newline 4 0 2 ∷ t kind.Dedent 5 0 2 ∷ [])
unfolding scan step level bracketed finish piece quoted number name_kind number_of words symbols
tokens_24 = refl

-- texts that are refused
-- bytes that are not allowed
tokens_25 : Fails ((9 ∷ []) ++ codes "x") fault.BadByte 1
unfolding scan step level bracketed finish piece quoted number name_kind number_of words symbols
tokens_25 = refl

tokens_26 : Fails (codes "x\ny" ++ (127 ∷ [])) fault.BadByte 2
unfolding scan step level bracketed finish piece quoted number name_kind number_of words symbols
tokens_26 = refl

tokens_27 : Fails (195 ∷ 164 ∷ []) fault.BadByte 1
unfolding scan step level bracketed finish piece quoted number name_kind number_of words symbols
tokens_27 = refl

tokens_28 : Fails (codes "x" ++ (13 ∷ [])) fault.BadByte 1
unfolding scan step level bracketed finish piece quoted number name_kind number_of words symbols
tokens_28 = refl

tokens_29 : Fails (codes "x" ++ (13 ∷ 13 ∷ []) ++ codes "\n") fault.BadByte 1
unfolding scan step level bracketed finish piece quoted number name_kind number_of words symbols
tokens_29 = refl

tokens_30 : Fails (codes "'a" ++ (1 ∷ []) ++ codes "'") fault.BadByte 1
unfolding scan step level bracketed finish piece quoted number name_kind number_of words symbols
tokens_30 = refl

-- one inside a text that is not closed comes first
tokens_31 : Fails (codes "'a" ++ (1 ∷ [])) fault.BadByte 1
unfolding scan step level bracketed finish piece quoted number name_kind number_of words symbols
tokens_31 = refl

tokens_32 : Fails (codes "'a" ++ (13 ∷ [])) fault.BadByte 1
unfolding scan step level bracketed finish piece quoted number name_kind number_of words symbols
tokens_32 = refl

-- texts and brackets that are not closed
tokens_33 : Fails (codes "'a" ++ (13 ∷ []) ++ codes "\n") fault.Unclosed 1
unfolding scan step level bracketed finish piece quoted number name_kind number_of words symbols
tokens_33 = refl

tokens_34 : Fails (codes "x\n'a#") fault.Unclosed 2
unfolding scan step level bracketed finish piece quoted number name_kind number_of words symbols
tokens_34 = refl

tokens_35 : Fails (codes "x\n'a\n" ++ (1 ∷ [])) fault.Unclosed 2
unfolding scan step level bracketed finish piece quoted number name_kind number_of words symbols
tokens_35 = refl

tokens_36 : Fails (codes "(\n{\n}") fault.Unclosed 1
unfolding scan step level bracketed finish piece quoted number name_kind number_of words symbols
tokens_36 = refl

tokens_37 : Fails (codes "()\n[\n(\n)") fault.Unclosed 2
unfolding scan step level bracketed finish piece quoted number name_kind number_of words symbols
tokens_37 = refl

tokens_38 : Fails (codes "(\n'a") fault.Unclosed 2
unfolding scan step level bracketed finish piece quoted number name_kind number_of words symbols
tokens_38 = refl

-- no tokens
tokens_39 : Fails (codes "007") fault.BadToken 1
unfolding scan step level bracketed finish piece quoted number name_kind number_of words symbols
tokens_39 = refl

tokens_40 : Fails (codes "x\n00") fault.BadToken 2
unfolding scan step level bracketed finish piece quoted number name_kind number_of words symbols
tokens_40 = refl

tokens_41 : Fails (codes "9223372036854775808") fault.BadToken 1
unfolding scan step level bracketed finish piece quoted number name_kind number_of words symbols
tokens_41 = refl

tokens_42 : Fails (codes "10000000000000000000000000000000000000000") fault.BadToken 1
unfolding scan step level bracketed finish piece quoted number name_kind number_of words symbols
tokens_42 = refl

tokens_43 : Fails (codes "!") fault.BadToken 1
unfolding scan step level bracketed finish piece quoted number name_kind number_of words symbols
tokens_43 = refl

tokens_44 : Fails (codes "a / b") fault.BadToken 1
unfolding scan step level bracketed finish piece quoted number name_kind number_of words symbols
tokens_44 = refl

tokens_45 : Fails (34 ∷ []) fault.BadToken 1
unfolding scan step level bracketed finish piece quoted number name_kind number_of words symbols
tokens_45 = refl

tokens_46 : Fails (codes "$") fault.BadToken 1
unfolding scan step level bracketed finish piece quoted number name_kind number_of words symbols
tokens_46 = refl

tokens_47 : Fails (codes "&") fault.BadToken 1
unfolding scan step level bracketed finish piece quoted number name_kind number_of words symbols
tokens_47 = refl

tokens_48 : Fails (codes "?") fault.BadToken 1
unfolding scan step level bracketed finish piece quoted number name_kind number_of words symbols
tokens_48 = refl

tokens_49 : Fails (codes "@") fault.BadToken 1
unfolding scan step level bracketed finish piece quoted number name_kind number_of words symbols
tokens_49 = refl

tokens_50 : Fails (92 ∷ []) fault.BadToken 1
unfolding scan step level bracketed finish piece quoted number name_kind number_of words symbols
tokens_50 = refl

tokens_51 : Fails (codes "^") fault.BadToken 1
unfolding scan step level bracketed finish piece quoted number name_kind number_of words symbols
tokens_51 = refl

tokens_52 : Fails (codes "`") fault.BadToken 1
unfolding scan step level bracketed finish piece quoted number name_kind number_of words symbols
tokens_52 = refl

tokens_53 : Fails (codes "~") fault.BadToken 1
unfolding scan step level bracketed finish piece quoted number name_kind number_of words symbols
tokens_53 = refl

tokens_54 : Fails (codes ";") fault.BadToken 1
unfolding scan step level bracketed finish piece quoted number name_kind number_of words symbols
tokens_54 = refl

-- levels that are not open
tokens_55 : Fails (codes "a\n  b\n c") fault.BadIndent 3
unfolding scan step level bracketed finish piece quoted number name_kind number_of words symbols
tokens_55 = refl

tokens_56 : Fails (codes "  a\n b\n'") fault.BadIndent 2
unfolding scan step level bracketed finish piece quoted number name_kind number_of words symbols
tokens_56 = refl

tokens_57 : Fails (codes "a\n  b\n c !") fault.BadIndent 3
unfolding scan step level bracketed finish piece quoted number name_kind number_of words symbols
tokens_57 = refl

tokens_58 : Fails (codes "a\n  b\n c" ++ (1 ∷ [])) fault.BadIndent 3
unfolding scan step level bracketed finish piece quoted number name_kind number_of words symbols
tokens_58 = refl

-- a line whose first token is not read to its end has no level
tokens_59 : Fails (codes "a\n  b\n 007") fault.BadToken 3
unfolding scan step level bracketed finish piece quoted number name_kind number_of words symbols
tokens_59 = refl

tokens_60 : Fails (codes "a\n  b\n 'x") fault.Unclosed 3
unfolding scan step level bracketed finish piece quoted number name_kind number_of words symbols
tokens_60 = refl

tokens_61 : Fails (codes "a\n  b\n 'x" ++ (1 ∷ []) ++ codes "'") fault.BadByte 3
unfolding scan step level bracketed finish piece quoted number name_kind number_of words symbols
tokens_61 = refl

tokens_62 : Fails (codes "!\n  b\n c") fault.BadToken 1
unfolding scan step level bracketed finish piece quoted number name_kind number_of words symbols
tokens_62 = refl
