-- What reading answers where parameters may lack their types, from what the reader of trees answers.
use Rattle.std.proofs.Common.{◌≡◌, ℕ, List, Result, Ok, Err, refl, sym, subst}
use Rattle.std.specs.List.{All}
use Rattle.std.specs.Prelude.{IfOk, IfErr}
use Rattle.da_values.specs.declared.token.Token.{Token}
use Rattle.da_values.specs.TokenFacts.{IsOnLine}
use Rattle.da_lang.specs.declared.tree.Tree.{Tree}
use Rattle.da_parse.specs.declared.loose.LooseTree.{LooseTree}
use Rattle.da_parse.specs.declared.whole.ParseFault.{ParseFault}
use Rattle.da_parse.specs.declared.whole.ParseFault.TheVariants as fault
use Rattle.da_parse.specs.Loose.{IsMadeOf, LooselyAnswers, loose_of}
use Rattle.da_parse.specs.Parse.{Answers, NamesLine}

-- a fault of the reader is the answer
pub fault_answers : (why : ParseFault) (given : Result Tree ParseFault) → Answers (Err why) given → LooselyAnswers (Err why) given
fault_answers fault.Memory given is = tt
fault_answers (fault.Syntax line) given is = is
fault_answers (fault.Deep line) given is = is

-- a tree of the reader gives the answer that is made of it, or want of memory
pub tree_answers : (r : Result LooseTree ParseFault) (tree : Tree) (given : Result Tree ParseFault) → Answers (Ok tree) given → IfOk r (λ found. found ≡ loose_of tree) → IfErr r (λ why. why ≡ fault.Memory) → LooselyAnswers r given
tree_answers (Ok found) tree given is made memory = subst (IsMadeOf found) (sym is) made
tree_answers (Err why) tree given is made memory = subst (λ w. LooselyAnswers (Err w) given) (sym memory) tt

pub memory_line : (text : List ℕ) (list : List Token) (r : Result LooseTree ParseFault) → IfErr r (λ why. why ≡ fault.Memory) → IfErr r (λ why. All (IsOnLine text) list → NamesLine text why)
memory_line text list (Ok found) memory = tt
memory_line text list (Err why) memory = λ all. subst (NamesLine text) (sym memory) tt
