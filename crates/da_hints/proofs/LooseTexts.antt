-- The tree of a text that may lack declarations.
use Rattle.std.proofs.Common.{◌≡◌, sym, subst, ℕ, ◌≤◌, List, length}
use Rattle.std.specs.Prelude.{Result, Ok, true}
use Rattle.da_values.specs.declared.token.Token.{Token}
use Rattle.da_values.specs.Marks.{toks}
use Rattle.da_values.specs.Tokens.{Fault as LexFault, tokens}
use Rattle.da_infer.specs.Fills.{IsLoose, most_bytes}
use Rattle.da_lang.specs.declared.tree.Tree.{Tree}
use Rattle.da_parse.specs.declared.loose.LooseTree.{LooseTree}
use Rattle.da_parse.specs.Loose.{loose_of}
use Rattle.da_parse.specs.Parameters.{SpellsWithinBy}

-- what the parser answers
pub is_loose : (text seen : List ℕ) (list : List Token) (l : LooseTree) → length text ≤ 1048576 → seen ≡ text → tokens text ≡ Ok list
    → (tokens seen ≡ Ok list → (tree : Tree) × SpellsWithinBy true 32 tree (toks seen list) × (l ≡ loose_of tree)) → IsLoose l
unfolding most_bytes
is_loose text seen list l few same lexed spelled =
    let there : tokens seen ≡ Ok list = subst (λ (x : List ℕ). ◌≡◌ {A = Result (List Token) LexFault} (tokens x) (Ok list)) (sym same) lexed in
    let (tree, here, made) = spelled there in
    record {
      text = text;
      size = few;
      list = list;
      lexed = lexed;
      tree = tree;
      spelled = subst (λ x. SpellsWithinBy true 32 tree (toks x list)) same here;
      made = made;
    }
