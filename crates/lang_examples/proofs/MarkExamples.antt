-- Marks of tokens, reserved words and symbols, and numbers in decimal.
use Rattle.std.specs.Prelude.{◌≡◌, refl, ℕ, Option, Some, None, option_map, pos, negsuc, [], codes}
use Rattle.std.specs.Fmt.{digits, signed_decimal}
use Rattle.da_values.specs.declared.token.Mark.{Mark}
use Rattle.da_values.specs.declared.token.Mark.TheVariants as m
use Rattle.da_values.specs.declared.token.TokenKind.TheVariants as kind
use Rattle.da_values.specs.Marks.{mark_found, mark_of}
use Rattle.da_values.specs.Piece.{number_of}
use Rattle.da_values.specs.Words.{Entry, front_symbol, spelled, symbols, words}

-- marks of tokens
mark_1 : mark_of kind.Word (codes "logical_time") ≡ m.LogicalTime
unfolding words symbols
mark_1 = refl

mark_2 : mark_of kind.Word (codes "self") ≡ m.SelfWord
unfolding words symbols
mark_2 = refl

mark_3 : mark_of kind.Symbol (codes "--") ≡ m.Dashes
unfolding words symbols
mark_3 = refl

mark_4 : mark_of kind.Symbol (codes "-") ≡ m.Minus
unfolding words symbols
mark_4 = refl

mark_5 : mark_of kind.Name (codes "x") ≡ m.Name
unfolding words symbols
mark_5 = refl

mark_6 : mark_of kind.Number (codes "0") ≡ m.Number
unfolding words symbols
mark_6 = refl

mark_7 : mark_of kind.Quoted (codes "'--'") ≡ m.Quoted
unfolding words symbols
mark_7 = refl

mark_8 : mark_of kind.Dedent [] ≡ m.Dedent
unfolding words symbols
mark_8 = refl

-- reserved words, and symbols in front
mark_9 : ◌≡◌ {A = Option Mark} (mark_found (spelled words (codes "unreliable"))) (Some m.Unreliable)
unfolding words
mark_9 = refl

mark_10 : ◌≡◌ {A = Option Mark} (mark_found (spelled words (codes "unreliably"))) (None)
unfolding words
mark_10 = refl

mark_11 : ◌≡◌ {A = Option Entry} (front_symbol (codes "---")) (Some (codes "--", m.Dashes))
unfolding symbols
mark_11 = refl

mark_12 : ◌≡◌ {A = Option Entry} (front_symbol (codes "a-")) None
unfolding symbols
mark_12 = refl

-- numbers
mark_13 : ◌≡◌ {A = Option ℕ} (number_of (codes "0")) (Some 0)
unfolding number_of
mark_13 = refl

mark_14 : ◌≡◌ {A = Option ℕ} (number_of (codes "9223372036854775807")) (Some 9223372036854775807)
unfolding number_of
mark_14 = refl

mark_15 : ◌≡◌ {A = Option ℕ} (number_of (codes "9223372036854775808")) (None)
unfolding number_of
mark_15 = refl

mark_16 : ◌≡◌ {A = Option ℕ} (number_of (codes "1a")) (None)
unfolding number_of
mark_16 = refl

mark_17 : signed_decimal (pos 9223372036854775807) ≡ codes "9223372036854775807"
unfolding digits
mark_17 = refl

mark_18 : signed_decimal (negsuc 6) ≡ codes "-7"
unfolding digits
mark_18 = refl
