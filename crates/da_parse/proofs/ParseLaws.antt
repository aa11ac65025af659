-- What `parse` answers, in the words of the grammar.
use Rattle.std.proofs.Common.{◌≡◌, ℕ, true, false, List, Result, Ok, Err, refl, sym, ◌∙◌, subst}
use Rattle.std.specs.Prelude.{IfOk, MatchResult}
use Rattle.da_values.specs.declared.token.Token.{Token}
use Rattle.da_values.specs.Marks.{Tok, toks}
use Rattle.da_values.specs.Tokens.{tokens}
use Rattle.da_lang.specs.declared.tree.Tree.{Tree}
use Rattle.da_lang.specs.Grammar.{SpellsWithin}
use Rattle.da_parse.specs.declared.loose.LooseTree.{LooseTree}
use Rattle.da_parse.specs.declared.whole.ParseFault.{ParseFault}
use Rattle.da_parse.specs.declared.whole.ParseFault.TheVariants as fault
use Rattle.da_parse.specs.Loose.{IsMadeOf, LooselyAnswers, loose_of}
use Rattle.da_parse.specs.Parameters.{SpellsWithinBy}
use Rattle.da_parse.specs.Parse.{parsed, parsed_by, Answers}
use Rattle.da_parse.proofs.Spelled.{toks-spelled}
use Rattle.da_parse.proofs.WholePrograms.{parsed-sound, parsed-complete}

-- what is answered is spelled so
pub spelled_law : (text : List ℕ) (list : List Token) (r : Result Tree ParseFault) → Answers r (parsed (toks text list)) → tokens text ≡ Ok list → IfOk r (λ tree. SpellsWithin 32 tree (toks text list))
unfolding SpellsWithin
spelled_law text list (Ok tree) is lexed = (toks-spelled text list lexed, parsed-sound false (toks text list) tree is)
spelled_law text list (Err e) is lexed = tt

read_within : (i : List Tok) (tree : Tree) → SpellsWithin 32 tree i → parsed i ≡ Ok tree
unfolding SpellsWithin
read_within i tree spells = parsed-complete false i tree spells.1

-- what is spelled so is answered, unless memory was refused
pub only_law : (i : List Tok) (r : Result Tree ParseFault) (tree : Tree) → Answers r (parsed i) → SpellsWithin 32 tree i → MatchResult r (λ found. found ≡ tree) (λ e. e ≡ fault.Memory)
only_law i (Ok found) tree is spells = let both : ◌≡◌ {A = Result Tree ParseFault} (Ok found) (Ok tree) = sym is ∙ read_within i tree spells in cc
only_law i (Err fault.Memory) tree is spells = refl
only_law i (Err (fault.Syntax line)) tree is spells = let both : ◌≡◌ {A = Result Tree ParseFault} (Err (fault.Syntax line)) (Ok tree) = sym is ∙ read_within i tree spells in absurd (cc)
only_law i (Err (fault.Deep line)) tree is spells = let both : ◌≡◌ {A = Result Tree ParseFault} (Err (fault.Deep line)) (Ok tree) = sym is ∙ read_within i tree spells in absurd (cc)

-- ---- where parameters may lack their types

made_spelled : (text : List ℕ) (list : List Token) (found : LooseTree) (given : Result Tree ParseFault) → parsed_by true (toks text list) ≡ given → IsMadeOf found given → tokens text ≡ Ok list
    → (tree : Tree) × SpellsWithinBy true 32 tree (toks text list) × (found ≡ loose_of tree)
unfolding SpellsWithinBy
made_spelled text list found (Ok tree) e is lexed = (tree, (toks-spelled text list lexed, parsed-sound true (toks text list) tree e), is)
made_spelled text list found (Err why) e is lexed = absurd is

pub loose_spelled_law : (text : List ℕ) (list : List Token) (r : Result LooseTree ParseFault) → LooselyAnswers r (parsed_by true (toks text list)) → tokens text ≡ Ok list
    → IfOk r (λ found. (tree : Tree) × SpellsWithinBy true 32 tree (toks text list) × (found ≡ loose_of tree))
loose_spelled_law text list (Ok found) is lexed = made_spelled text list found (parsed_by true (toks text list)) refl is lexed
loose_spelled_law text list (Err e) is lexed = tt

loose_read_within : (i : List Tok) (tree : Tree) → SpellsWithinBy true 32 tree i → parsed_by true i ≡ Ok tree
unfolding SpellsWithinBy
loose_read_within i tree spells = parsed-complete true i tree spells.1

pub loose_only_law : (i : List Tok) (r : Result LooseTree ParseFault) (tree : Tree) → LooselyAnswers r (parsed_by true i) → SpellsWithinBy true 32 tree i → MatchResult r (λ found. found ≡ loose_of tree) (λ e. e ≡ fault.Memory)
loose_only_law i (Ok found) tree is spells = subst (IsMadeOf found) (loose_read_within i tree spells) is
loose_only_law i (Err fault.Memory) tree is spells = refl
loose_only_law i (Err (fault.Syntax line)) tree is spells = let both : ◌≡◌ {A = Result Tree ParseFault} (Err (fault.Syntax line)) (Ok tree) = sym is ∙ loose_read_within i tree spells in absurd (cc)
loose_only_law i (Err (fault.Deep line)) tree is spells = let both : ◌≡◌ {A = Result Tree ParseFault} (Err (fault.Deep line)) (Ok tree) = sym is ∙ loose_read_within i tree spells in absurd (cc)
