-- What parsing tells of a text without a tree, in the words of the grammar.
use Rattle.std.proofs.Common.{◌≡◌, ◌≢◌, ℕ, Bool, true, false, List, Result, Ok, Err, refl, sym, ap, ◌∙◌, subst}
use Rattle.std.specs.List.{All}
use Rattle.std.specs.Prelude.{IfErr, MatchResult}
use Rattle.da_values.specs.Marks.{Tok}
use Rattle.da_lang.specs.declared.tree.Tree.{Tree}
use Rattle.da_lang.specs.Spelling.{IsSpelled}
use Rattle.da_phrases.specs.declared.cursor.Stop.{Stop}
use Rattle.da_phrases.specs.declared.cursor.Stop.TheVariants as stop
use Rattle.da_parse.specs.declared.whole.ParseFault.{ParseFault}
use Rattle.da_parse.specs.declared.whole.ParseFault.TheVariants as fault
use Rattle.da_parse.specs.declared.loose.LooseTree.{LooseTree}
use Rattle.da_parse.specs.FirstFault.{IsFirst}
use Rattle.da_parse.specs.Loose.{LooselyAnswers}
use Rattle.da_parse.specs.Parameters.{SpellsWithinBy, IsSyntaxBy, IsDeepBy, IsFirstBy}
use Rattle.da_parse.specs.Parse.{answer, line_at, parsed, parsed_by, Answers}
use Rattle.da_parse.specs.Programs.{outermost, program}
use Rattle.da_phrases.specs.Reader.{Reading}
use Rattle.da_parse.proofs.FirstFaults.{syntax_is_first, deep_is_first}
use Rattle.da_parse.proofs.FirstTyped.{first_typed, typed_first}
use Rattle.da_parse.proofs.FirstOnce.{first_once, first_no_tree}
use Rattle.da_parse.proofs.WholePrograms.{parsed-sound}

-- where parameters may lack their types or may not
module _ (loose : Bool) where
  syntax_told : (i : List Tok) → All IsSpelled i → (line : ℕ) (o : Reading Tree) → program (outermost loose) i ≡ o → answer i o ≡ Err (fault.Syntax line) → IsSyntaxBy loose i line
  syntax_told i all line (Ok z) e is = cc
  syntax_told i all line (Err stop.Memory) e is = cc
  syntax_told i all line (Err (stop.Syntax left)) e is = let there : line_at i left ≡ line = cc in subst (IsSyntaxBy loose i) there (syntax_is_first loose i all left e)
  syntax_told i all line (Err (stop.Deep left)) e is = cc

  deep_told : (i : List Tok) → All IsSpelled i → (line : ℕ) (o : Reading Tree) → program (outermost loose) i ≡ o → answer i o ≡ Err (fault.Deep line) → IsDeepBy loose i line
  deep_told i all line (Ok z) e is = cc
  deep_told i all line (Err stop.Memory) e is = cc
  deep_told i all line (Err (stop.Syntax left)) e is = cc
  deep_told i all line (Err (stop.Deep left)) e is = let there : line_at i left ≡ line = cc in subst (IsDeepBy loose i) there (deep_is_first loose i all left e)

  -- what is told is the first fault
  parsed_first_by : (i : List Tok) → All IsSpelled i → (why : ParseFault) → why ≢ fault.Memory → parsed_by loose i ≡ Err why → IsFirstBy loose i why
  unfolding parsed_by
  parsed_first_by i all (fault.Syntax line) other is = syntax_told i all line (program (outermost loose) i) refl is
  parsed_first_by i all (fault.Deep line) other is = deep_told i all line (program (outermost loose) i) refl is
  parsed_first_by i all fault.Memory other is = absurd (other refl)

  pub first_law_by : (i : List Tok) (r : Result Tree ParseFault) → Answers r (parsed_by loose i) → All IsSpelled i → IfErr r (λ why. why ≢ fault.Memory → IsFirstBy loose i why)
  first_law_by i (Ok tree) is all = tt
  first_law_by i (Err fault.Memory) is all = λ other. absurd (other refl)
  first_law_by i (Err (fault.Syntax line)) is all = λ other. parsed_first_by i all (fault.Syntax line) other is
  first_law_by i (Err (fault.Deep line)) is all = λ other. parsed_first_by i all (fault.Deep line) other is

  -- the first fault is told, unless memory was refused
  pub told_law_by : (i : List Tok) (r : Result Tree ParseFault) (why : ParseFault) → Answers r (parsed_by loose i) → All IsSpelled i → IsFirstBy loose i why → MatchResult r (λ tree. ⊥) (λ given. given ≢ fault.Memory → given ≡ why)
  unfolding SpellsWithinBy
  told_law_by i (Ok tree) why is all first = first_no_tree loose i why first tree (all, parsed-sound loose i tree is)
  told_law_by i (Err given) why is all first = λ other. first_once loose i given why (first_law_by i (Err given) is all other) first

-- ---- where each parameter has its type

pub parsed_first : (i : List Tok) → All IsSpelled i → (why : ParseFault) → why ≢ fault.Memory → parsed i ≡ Err why → IsFirst i why
parsed_first i all why other is = first_typed i why (parsed_first_by false i all why other is)

pub first_law : (i : List Tok) (r : Result Tree ParseFault) → Answers r (parsed i) → All IsSpelled i → IfErr r (λ why. why ≢ fault.Memory → IsFirst i why)
first_law i (Ok tree) is all = tt
first_law i (Err why) is all = λ other. first_typed i why (first_law_by false i (Err why) is all other)

pub told_law : (i : List Tok) (r : Result Tree ParseFault) (why : ParseFault) → Answers r (parsed i) → All IsSpelled i → IsFirst i why → MatchResult r (λ tree. ⊥) (λ given. given ≢ fault.Memory → given ≡ why)
told_law i r why is all first = told_law_by false i r why is all (typed_first i why first)

-- ---- where parameters may lack their types

as_answer : (why : ParseFault) (given : Result Tree ParseFault) → LooselyAnswers (Err why) given → Answers (Err why) given
as_answer fault.Memory given is = tt
as_answer (fault.Syntax line) given is = is
as_answer (fault.Deep line) given is = is

pub loose_first_law : (i : List Tok) (r : Result LooseTree ParseFault) → LooselyAnswers r (parsed_by true i) → All IsSpelled i → IfErr r (λ why. why ≢ fault.Memory → IsFirstBy true i why)
loose_first_law i (Ok found) is all = tt
loose_first_law i (Err why) is all = first_law_by true i (Err why) (as_answer why (parsed_by true i) is) all

loose_tree_told : (i : List Tok) (found : LooseTree) (why : ParseFault) (given : Result Tree ParseFault) → parsed_by true i ≡ given → LooselyAnswers (Ok found) given → All IsSpelled i → IsFirstBy true i why → ⊥
unfolding SpellsWithinBy
loose_tree_told i found why (Ok tree) given is all first = first_no_tree true i why first tree (all, parsed-sound true i tree given)
loose_tree_told i found why (Err e) given is all first = is

pub loose_told_law : (i : List Tok) (r : Result LooseTree ParseFault) (why : ParseFault) → LooselyAnswers r (parsed_by true i) → All IsSpelled i → IsFirstBy true i why → MatchResult r (λ found. ⊥) (λ given. given ≢ fault.Memory → given ≡ why)
loose_told_law i (Ok found) why is all first = loose_tree_told i found why (parsed_by true i) refl is all first
loose_told_law i (Err given) why is all first = told_law_by true i (Err given) why (as_answer given (parsed_by true i) is) all first
