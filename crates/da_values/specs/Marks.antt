-- What the grammar sees of the tokens of a text.
use Rattle.std.specs.Prelude.{ℕ, List, map, take, drop, Option, option_map, unwrap_or}
use Rattle.da_values.specs.declared.token.Token.{Token}
use Rattle.da_values.specs.declared.token.TokenKind.{TokenKind}
use Rattle.da_values.specs.declared.token.TokenKind.TheVariants as kind
use Rattle.da_values.specs.declared.token.Mark.{Mark}
use Rattle.da_values.specs.declared.token.Mark.TheVariants as m
use Rattle.da_values.specs.Words.{Entry, words, symbols, spelled}

-- a token as the grammar sees it
pub record Tok : Type 0 where
  pub mark : Mark
  pub text : List ℕ
  pub line : ℕ

-- the mark of an entry, if one was found
abbrev pub mark_found : Option Entry → Option Mark
mark_found = option_map (λ entry. entry.1)

-- the mark of a token of this kind with this text (no word or symbol of a text is in neither table)
abbrev pub mark_of : TokenKind → List ℕ → Mark
mark_of kind.Number text = m.Number
mark_of kind.Quoted text = m.Quoted
mark_of kind.Name text = m.Name
mark_of kind.Wild text = m.Wild
mark_of kind.Word text = unwrap_or (mark_found (spelled words text)) m.Name
mark_of kind.Symbol text = unwrap_or (mark_found (spelled symbols text)) m.Wild
mark_of kind.Newline text = m.Newline
mark_of kind.Indent text = m.Indent
mark_of kind.Dedent text = m.Dedent

-- the bytes of a token
abbrev pub slice_of : List ℕ → Token → List ℕ
slice_of text t = take t.length (drop t.first text)

abbrev pub tok : List ℕ → Token → Tok
tok text t = record { mark = mark_of t.kind (slice_of text t); text = slice_of text t; line = t.line }

abbrev pub toks : List ℕ → List Token → List Tok
toks text = map (tok text)
