-- The replies of `infer`.
use Rattle.std.proofs.Common.{◌≡◌, sym, ◌∙◌, subst, ℕ, ◌+◌, ◌≤◌, inl, inr, ◌⊎◌, List, length, take}
use Rattle.std.specs.Prelude.{Option, Result, Ok, true, ◌≢◌}
use Rattle.da_values.specs.declared.token.Token.{Token}
use Rattle.da_values.specs.Marks.{toks}
use Rattle.da_values.specs.Tokens.{Fault as LexFault, tokens}
use Rattle.da_infer.specs.declared.top.InferFault.{InferFault}
use Rattle.da_infer.specs.declared.top.InferFault.TheVariants as infer_fault
use Rattle.da_infer.specs.Answers.{IsInferred, IsRefusedAs}
use Rattle.da_infer.specs.Fills.{IsLoose, most_bytes}
use Rattle.da_lang.specs.declared.tree.Tree.{Tree}
use Rattle.da_parse.specs.declared.loose.LooseTree.{LooseTree}
use Rattle.da_parse.specs.declared.whole.ParseFault.{ParseFault}
use Rattle.da_parse.specs.declared.whole.ParseFault.TheVariants as parse_fault
use Rattle.da_parse.specs.Loose.{loose_of}
use Rattle.da_parse.specs.Parameters.{IsFirstBy, SpellsWithinBy}
use Rattle.da_parse.specs.Parse.{IsLineOf, NamesLine}
use Rattle.da_front.specs.declared.refusal.ProgramFault.{ProgramFault}
use Rattle.da_front.specs.declared.refusal.ProgramFault.TheVariants as fault
use Rattle.da_front.specs.declared.refusal.RefusedKind.{RefusedKind}
use Rattle.da_front.specs.declared.refusal.RefusedKind.TheVariants as kind_is
use Rattle.da_commands.specs.declared.status.Status.{Status}
use Rattle.da_commands.specs.declared.status.Status.TheVariants.{Memory, ReadFault, WriteFault}
use Rattle.da_commands.specs.Faults.{after_infer}
use Rattle.da_commands.specs.InferReplies.{HasLoose, HasNoLoose, InferReply, IsCompleted, IsCompletedWhole, IsLooselyRefusedAs, RefusesLoosely, misnamed, no_program, not_cut, too_deep, too_large, too_long, untypable}
use Rattle.da_commands.specs.Replies.{IsAnswer, IsEnd}
use Rattle.da_commands.specs.Told.{Begins, HasReplied, OfTold}
use Rattle.da_front.specs.Verdict.{IsNotCutAs, NotCut, overlong, program_limit, uncut}
use Rattle.da_commands.proofs.ToldLemmas.{begins_nothing, of_any, quiet_answer, take_beyond, take_within}
use Rattle.da_commands.proofs.TopLemmas.{told_whole}

-- WHAT IS READ

-- a text that is not cut into tokens
cut_so : (text : List ℕ) (kind : RefusedKind) (line : ℕ) → NotCut text kind line → RefusesLoosely text kind line
cut_so text _ _ (overlong long) = too_long long
cut_so text _ _ (uncut kind line is) = not_cut kind line is

pub cut_loosely : (text : List ℕ) (why : ProgramFault) → IsNotCutAs text why → IsLooselyRefusedAs text why
cut_loosely text (fault.Refused kind line) is = cut_so text kind line is
cut_loosely text fault.Memory is = tt

-- what the parser answers
pub has_loose : (text seen : List ℕ) (list : List Token) (l : LooseTree) → length text ≤ program_limit → seen ≡ text → tokens text ≡ Ok list
    → (tokens seen ≡ Ok list → (tree : Tree) × SpellsWithinBy true 32 tree (toks seen list) × (l ≡ loose_of tree)) → HasLoose text l
has_loose text seen list l few same lexed spelled =
    let there : tokens seen ≡ Ok list = subst (λ (x : List ℕ). ◌≡◌ {A = Result (List Token) LexFault} (tokens x) (Ok list)) (sym same) lexed in
    let (tree, here, made) = spelled there in
    record {
      size = few;
      list = list;
      lexed = lexed;
      tree = tree;
      spelled = subst (λ x. SpellsWithinBy true 32 tree (toks x list)) same here;
      made = made;
    }

-- the tokens spell no tree, where the parser answers another fault than want of memory
module _ (text seen : List ℕ) (list : List Token) (e : ParseFault) (same : seen ≡ text) (few : length text ≤ program_limit) (lexed : tokens text ≡ Ok list)
    (only : (tree : Tree) → SpellsWithinBy true 32 tree (toks seen list) → e ≡ parse_fault.Memory)
    (first : tokens seen ≡ Ok list → e ≢ parse_fault.Memory → IsFirstBy true (toks seen list) e) (inside : NamesLine seen e) where
  lacks : (why : ParseFault) (line : ℕ) → e ≡ why → (why ≡ parse_fault.Memory → ⊥) → (NamesLine text why → IsLineOf text line) → HasNoLoose text why line
  lacks why line is other on =
      let there : tokens seen ≡ Ok list = subst (λ (x : List ℕ). ◌≡◌ {A = Result (List Token) LexFault} (tokens x) (Ok list)) (sym same) lexed in
      let here : IsFirstBy true (toks seen list) e = first there (λ memory. other (sym is ∙ memory)) in
      record {
        size = few;
        list = list;
        lexed = lexed;
        none = λ tree spelled. other (sym is ∙ only tree (subst (λ x. SpellsWithinBy true 32 tree (toks x list)) (sym same) spelled));
        told = subst (λ x. IsFirstBy true (toks x list) why) same (subst (IsFirstBy true (toks seen list)) is here);
        on = on (subst (λ x. NamesLine x why) same (subst (NamesLine seen) is inside));
      }

  pub is_loose_syntax : (line : ℕ) → e ≡ parse_fault.Syntax line → RefusesLoosely text kind_is.Syntax line
  is_loose_syntax line is = no_program line (lacks (parse_fault.Syntax line) line is (λ memory. absurd (cc)) (λ on. on))

  pub is_loose_deep : (line : ℕ) → e ≡ parse_fault.Deep line → RefusesLoosely text kind_is.Deep line
  is_loose_deep line is = too_deep line (lacks (parse_fault.Deep line) line is (λ memory. absurd (cc)) (λ on. on))

-- WHAT IS INFERRED

pub is_loose : (text : List ℕ) (l : LooseTree) → HasLoose text l → IsLoose l
unfolding most_bytes
is_loose text l has = record { text = text; size = has.size; list = has.list; lexed = has.lexed; tree = has.tree; spelled = has.spelled; made = has.made }

pub is_completed : (text : List ℕ) (l : LooseTree) (tree : Tree) → HasLoose text l → IsInferred l tree → IsCompleted text tree
is_completed text l tree has is = record { loose = l; has = has; inferred = is }

pub not_inferred : (text : List ℕ) (l : LooseTree) (why : InferFault) → HasLoose text l → (why ≢ infer_fault.Memory → IsRefusedAs l why) → IsLooselyRefusedAs text (after_infer why)
not_inferred text l (infer_fault.Name kind line) has is = misnamed l kind line has (is (λ memory. absurd (cc)))
not_inferred text l (infer_fault.Limit which line) has is = too_large l which line has (is (λ memory. absurd (cc)))
not_inferred text l (infer_fault.NoTypes line) has is = untypable l line has (is (λ memory. absurd (cc)))
not_inferred text l infer_fault.Memory has is = tt

-- so it is for a text that was read whole
pub completed_within : (text whole : List ℕ) (tree : Tree) → text ≡ take (program_limit + 1) whole → IsCompleted text tree → IsCompleted whole tree
completed_within text whole tree is completed = subst (λ t. IsCompleted t tree) (take_within program_limit text whole is completed.has.size) completed

module _ (text whole : List ℕ) (is : text ≡ take (program_limit + 1) whole) where
  within : (kind : RefusedKind) (line : ℕ) → length text ≤ program_limit → RefusesLoosely text kind line → RefusesLoosely whole kind line
  within kind line few = subst (λ t. RefusesLoosely t kind line) (take_within program_limit text whole is few)

  refuses_whole : (kind : RefusedKind) (line : ℕ) → RefusesLoosely text kind line → RefusesLoosely whole kind line
  refuses_whole _ _ (too_long long) = too_long (take_beyond program_limit text whole is long)
  refuses_whole _ _ (not_cut which at why) = within _ _ why.0 (not_cut which at why)
  refuses_whole _ _ (no_program at why) = within _ _ why.size (no_program at why)
  refuses_whole _ _ (too_deep at why) = within _ _ why.size (too_deep at why)
  refuses_whole _ _ (misnamed l which at has why) = within _ _ has.size (misnamed l which at has why)
  refuses_whole _ _ (too_large l which at has why) = within _ _ has.size (too_large l which at has why)
  refuses_whole _ _ (untypable l at has why) = within _ _ has.size (untypable l at has why)

pub refused_within : (text whole : List ℕ) (kind : RefusedKind) (line : ℕ) (why : ProgramFault) → text ≡ take (program_limit + 1) whole → why ≡ fault.Refused kind line
    → IsLooselyRefusedAs text why → RefusesLoosely whole kind line
refused_within text whole kind line why is same refused =
    let here : RefusesLoosely text kind line = subst (IsLooselyRefusedAs text) same refused in
    refuses_whole text whole is kind line here

-- THE REPLIES

pub none_completed : (told x : Option (List ℕ)) → OfTold told (λ t. Begins (InferReply t) x x)
none_completed told x = of_any told _ (λ t. begins_nothing (InferReply t) x)

pub is_completed_whole : (told : Option (List ℕ)) (status : Status) (before after : Option (List ℕ)) → IsEnd status → (status ≡ ReadFault → ⊥) → (status ≡ WriteFault → ⊥)
    → OfTold told (λ t. HasReplied (InferReply t) status before after) → IsCompletedWhole told status before after
is_completed_whole told status before after ends read write replies = by_answer (quiet_answer status ends read write)
  where
    by_answer : (status ≡ Memory) ⊎ IsAnswer status → IsCompletedWhole told status before after
    by_answer (inl memory) = inl memory
    by_answer (inr answer) = inr (told_whole InferReply told status before after replies answer)
