-- The tree of a text is written: a text of the size that programs may have has fewer than 2^32 tokens.
use Rattle.std.proofs.Common.{◌≡◌, ℕ, ◌≤◌, List, length, Ok, arith}
use Rattle.std.proofs.lemmas.List.{length-map}
use Rattle.da_values.specs.declared.token.Token.{Token}
use Rattle.da_values.specs.Marks.{tok, toks}
use Rattle.da_values.specs.Tokens.{tokens}
use Rattle.da_lex.proofs.TokenCounts.{few_tokens}
use Rattle.da_lang.specs.declared.tree.Tree.{Tree}
use Rattle.da_lang.specs.Accepted.{IsWritten}
use Rattle.da_lang.specs.Grammar.{SpellsWithin}
use Rattle.da_parse.proofs.WholePrograms.{SpellsWithin_spells}

pub written_tree : (text : List ℕ) (ts : List Token) (t : Tree) → tokens text ≡ Ok ts → length text ≤ 1048576 → SpellsWithin 32 t (toks text ts) → IsWritten t
written_tree text ts t is short spells = record {
  tokens = toks text ts;
  few = omega (arith, few_tokens text ts is, short, length-map ts (tok text));
  spells = SpellsWithin_spells 32 t (toks text ts) spells;
}
