-- The tokens of a printed text spell its tree again.
use Rattle.std.proofs.Common.{◌≡◌, ◌<◌, ℕ, suc, List, Ok, subst, sym}
use Rattle.std.specs.Prelude.{Result, Err, IfOk}
use Rattle.da_values.specs.declared.list.NoMemory.{NoMemory}
use Rattle.da_values.specs.declared.token.Token.{Token}
use Rattle.da_values.specs.Marks.{Tok, toks}
use Rattle.da_values.specs.Tokens.{tokens}
use Rattle.da_lang.specs.declared.tree.Tree.{Tree}
use Rattle.da_lang.specs.Grammar.{IsTypedProgram, Spells, SpellsWithin}
use Rattle.da_parse.proofs.Spelled.{toks-spelled}
use Rattle.da_parse.proofs.WholePrograms.{SpellsWithin_spells}
use Rattle.da_unparse.specs.Lines.{lines_toks}
use Rattle.da_unparse.specs.Prints.{SpellsAgain, SpellsAgainWithin}
use Rattle.da_unparse.specs.Programs.{tree_lines, tree_text}
use Rattle.da_unparse.proofs.Again.{again-within, again-anywhere}
use Rattle.da_unparse.proofs.LexedLines.{lexed}
use Rattle.da_unparse.proofs.Printed.{printable}

cut_again : (t : Tree) (i : List Tok) → Spells t i → (list : List Token) × (tokens (tree_text t) ≡ Ok list) × (toks (tree_text t) list ≡ lines_toks 1 0 (tree_lines t))
unfolding tree_text
cut_again t i spells = lexed (tree_lines t) (printable t i spells)

pub spells_again : (t : Tree) (i : List Tok) → Spells t i → SpellsAgain (tree_text t) t
unfolding Spells
spells_again t i (all, (f, is)) =
    let (list, lexed, seen) = cut_again t i (all, (f, is)) in
    let (u, same, spelled) = again-anywhere f t i is in
    record {
      list = list;
      lexed = lexed;
      other = u;
      same = same;
      spelled = (toks-spelled (tree_text t) list lexed, (f, subst (IsTypedProgram (λ d t. Unit {0}) f u) (sym seen) spelled));
    }

pub spells_again_within : (most : ℕ) (t : Tree) (i : List Tok) → SpellsWithin most t i → SpellsAgainWithin most (tree_text t) t
unfolding SpellsWithin
spells_again_within most t i (all, is) =
    let (list, lexed, seen) = cut_again t i (SpellsWithin_spells most t i (all, is)) in
    let (u, same, spelled) = again-within most (suc most) t i is in
    record {
      list = list;
      lexed = lexed;
      other = u;
      same = same;
      spelled = (toks-spelled (tree_text t) list lexed, subst (IsTypedProgram (λ d t. d < most) (suc most) u) (sym seen) spelled);
    }

-- the same of the text that a call gave
pub again_law : (r : Result (List ℕ) NoMemory) (t : Tree) (i : List Tok) → IfOk r (λ text. text ≡ tree_text t) → Spells t i → IfOk r (λ text. SpellsAgain text t)
again_law (Ok text) t i is spells = subst (λ x. SpellsAgain x t) (sym is) (spells_again t i spells)
again_law (Err e) t i is spells = tt

pub nesting_law : (most : ℕ) (r : Result (List ℕ) NoMemory) (t : Tree) (i : List Tok) → IfOk r (λ text. text ≡ tree_text t) → SpellsWithin most t i → IfOk r (λ text. SpellsAgainWithin most text t)
nesting_law most (Ok text) t i is spells = subst (λ x. SpellsAgainWithin most x t) (sym is) (spells_again_within most t i spells)
nesting_law most (Err e) t i is spells = tt
