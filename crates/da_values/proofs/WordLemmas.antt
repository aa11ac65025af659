-- The tables of words and symbols: how many there are, and that each spelling finds its own entry.
use Rattle.std.proofs.Common.{◌≡◌, refl, map, length}
use Rattle.std.specs.Prelude.{Some}
use Rattle.da_values.specs.declared.marks.TheConstants.{WORDS, SYMBOLS}
use Rattle.da_values.specs.Words.{words, symbols, spelled, front_symbol}

pub words_count : length words ≡ 54
unfolding words
words_count = refl

pub symbols_count : length symbols ≡ 23
unfolding symbols
symbols_count = refl

pub words_differ : map (λ entry. spelled words entry.0) words ≡ map Some words
unfolding words
words_differ = refl

pub symbols_differ : map (λ entry. spelled symbols entry.0) symbols ≡ map Some symbols
unfolding symbols
symbols_differ = refl

-- no symbol is taken for a shorter one that begins it
pub longest_first : map (λ entry. front_symbol entry.0) symbols ≡ map Some symbols
unfolding symbols
longest_first = refl

-- the tables of the code are those of the definition
pub same_words : map (λ (entry : _). (entry.0.now, entry.1)) WORDS ≡ words
unfolding words
same_words = refl

pub same_symbols : map (λ (entry : _). (entry.0.now, entry.1)) SYMBOLS ≡ symbols
unfolding symbols
same_symbols = refl
