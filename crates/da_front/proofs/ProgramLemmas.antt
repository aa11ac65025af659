-- From what the lexer, the parser, names, limits and types answer to what is said of a text.
use Rattle.std.proofs.Common.{◌≡◌, refl, sym, ◌∙◌, subst, ℕ, ◌≤◌, List, length}
use Rattle.std.specs.Prelude.{Ok, Err, None, Some}
use Rattle.da_lex.specs.Scanning.{IsFaultOf}
use Rattle.da_lex.specs.declared.fault.LexFault.{LexFault}
use Rattle.da_lex.specs.declared.fault.LexFault.TheVariants as lex_fault
use Rattle.da_values.specs.declared.token.LexKind.{LexKind}
use Rattle.da_values.specs.declared.token.Token.{Token}
use Rattle.da_values.specs.Marks.{toks}
use Rattle.da_values.specs.Tokens.{tokens}
use Rattle.da_lang.specs.declared.program.Program.{Program}
use Rattle.da_lang.specs.declared.tree.Tree.{Tree}
use Rattle.da_lang.specs.Accepted.{IsWritten}
use Rattle.da_lang.specs.Grammar.{SpellsWithin}
use Rattle.da_core.specs.PlanLimit.{nodes_fault}
use Rattle.da_lang.specs.Limits.{Resolves}
use Rattle.da_lang.specs.Typing.{Typed}
use Rattle.da_parse.specs.declared.whole.ParseFault.{ParseFault}
use Rattle.da_parse.specs.declared.whole.ParseFault.TheVariants as parse_fault
use Rattle.da_parse.specs.Parse.{Answers, IsLineOf, NamesLine, parsed}
use Rattle.da_parse.proofs.ParseFirst.{parsed_first}
use Rattle.da_parse.proofs.Spelled.{toks-spelled}
use Rattle.da_parse.proofs.WrittenTrees.{written_tree}
use Rattle.da_scope.specs.declared.top.ScopeFault.{ScopeFault}
use Rattle.da_scope.specs.declared.top.ScopeFault.TheVariants as scope
use Rattle.da_scope.specs.Resolving.{IsRefusedAs as IsNotResolved}
use Rattle.da_types.specs.declared.top.TypeFault.{TypeFault}
use Rattle.da_types.specs.declared.top.TypeFault.TheVariants as types
use Rattle.da_types.specs.Refusing.{IsRefusedAs as IsNotTyped}
use Rattle.quant_norm.specs.declared.top.PlanFault.{PlanFault}
use Rattle.quant_norm.specs.declared.top.PlanFault.TheVariants as plan
use Rattle.da_front.specs.declared.refusal.ProgramFault.{ProgramFault}
use Rattle.da_front.specs.declared.refusal.ProgramFault.TheVariants as program_fault
use Rattle.da_front.specs.declared.refusal.RefusedKind.{RefusedKind}
use Rattle.da_front.specs.declared.refusal.RefusedKind.TheVariants as kind_is
use Rattle.da_front.specs.Faults.{after_names, after_plans, after_types}
use Rattle.da_front.specs.Verdict.{Accepts, HasProgram, HasTree, HasNoTree, HasTyped, IsNotCutAs, IsRefusedAs, NotCut, Refuses, kind_after, misnamed, mistyped, no_program, not_cut, overlong, overplanned, too_deep, too_large, too_long, program_limit, uncut}

-- the text is not cut into tokens
pub is_not_cut : (text : List ℕ) (e : LexFault) (kind : LexKind) (line : ℕ) (told : RefusedKind) (told_line : ℕ) → length text ≤ program_limit → IsFaultOf e (tokens text)
    → e ≡ lex_fault.Refused kind line → told ≡ kind_after kind → told_line ≡ line → NotCut text told told_line
is_not_cut text e kind line told told_line few faults is same same_line =
    let here : IsFaultOf (lex_fault.Refused kind line) (tokens text) = subst (λ x. IsFaultOf x (tokens text)) is faults in
    let there : NotCut text told line = subst (λ k. NotCut text k line) (sym same) (uncut kind line (few, here)) in
    subst (NotCut text told) (sym same_line) there

cut_so : (text : List ℕ) (kind : RefusedKind) (line : ℕ) → NotCut text kind line → Refuses text kind line
cut_so text _ _ (overlong long) = too_long long
cut_so text _ _ (uncut kind line is) = not_cut kind line is

pub cut_refused : (text : List ℕ) (why : ProgramFault) → IsNotCutAs text why → IsRefusedAs text why
cut_refused text (program_fault.Refused kind line) is = cut_so text kind line is
cut_refused text program_fault.Memory is = tt

-- the tokens spell no tree, where the parser answers another fault than want of memory
module _ (text seen : List ℕ) (list : List Token) (e : ParseFault) (same : seen ≡ text) (few : length text ≤ program_limit) (lexed : tokens text ≡ Ok list)
    (only : (tree : Tree) → SpellsWithin 32 tree (toks seen list) → e ≡ parse_fault.Memory) (answer : Answers (Err e) (parsed (toks seen list))) (inside : NamesLine seen e) where
  lacks : (why : ParseFault) (line : ℕ) → e ≡ why → (why ≡ parse_fault.Memory → ⊥) → (Answers (Err why) (parsed (toks text list)) → parsed (toks text list) ≡ Err why) → (NamesLine text why → IsLineOf text line) → HasNoTree text why line
  lacks why line is other told on = record {
    size = few;
    list = list;
    lexed = lexed;
    none = λ tree spelled. other (sym is ∙ only tree (subst (λ x. SpellsWithin 32 tree (toks x list)) (sym same) spelled));
    told = parsed_first (toks text list) (toks-spelled text list lexed) why other (told (subst (λ (x : List ℕ). Answers (Err why) (parsed (toks x list))) same (subst (λ x. Answers (Err x) (parsed (toks seen list))) is answer)));
    on = on (subst (λ x. NamesLine x why) same (subst (NamesLine seen) is inside));
  }

  pub is_syntax : (line : ℕ) → e ≡ parse_fault.Syntax line → Refuses text kind_is.Syntax line
  is_syntax line is = no_program line (lacks (parse_fault.Syntax line) line is (λ memory. absurd (cc)) (λ told. told) (λ on. on))

  pub is_deep : (line : ℕ) → e ≡ parse_fault.Deep line → Refuses text kind_is.Deep line
  is_deep line is = too_deep line (lacks (parse_fault.Deep line) line is (λ memory. absurd (cc)) (λ told. told) (λ on. on))

pub is_written : (text : List ℕ) (tree : Tree) → HasTree text tree → IsWritten tree
is_written text tree has = written_tree text has.list tree has.lexed has.size has.spelled

pub not_resolved : (text : List ℕ) (tree : Tree) (why : ScopeFault) → HasTree text tree → IsNotResolved tree why → IsRefusedAs text (after_names why)
not_resolved text tree (scope.Refused kind line) has is = misnamed kind line (record { tree = tree; has = has; is = is })
not_resolved text tree (scope.Limit which line) has is = too_large which line (record { tree = tree; has = has; named = is.0; is = is.1 })
not_resolved text tree scope.Memory has is = tt

pub has_program : (text : List ℕ) (tree : Tree) (p : Program) → HasTree text tree → Resolves tree p → HasProgram text p
has_program text tree p has resolves = record { tree = tree; has = has; resolves = resolves }

pub not_typed : (text : List ℕ) (p : Program) (why : TypeFault) → HasProgram text p → IsNotTyped p why → IsRefusedAs text (after_types why)
not_typed text p (types.Refused line) has is = mistyped line (record { tree = has.tree; has = has.has; resolved = p; resolves = has.resolves; is = is })
not_typed text p types.Memory has is = tt

pub has_typed : (text : List ℕ) (p q : Program) → HasProgram text p → Typed p q → HasTyped text q
has_typed text p q has typed = record { resolved = p; has = has; typed = typed }

pub not_planned : (text : List ℕ) (q : Program) (why : PlanFault) → HasTyped text q → ((line : ℕ) → why ≡ plan.TooMany line → nodes_fault q ≡ Some line) → IsRefusedAs text (after_plans why)
not_planned text q (plan.TooMany line) typed many =
    overplanned line (record { tree = typed.has.tree; has = typed.has.has; resolved = typed.resolved; resolves = typed.has.resolves; program = q; typed = typed.typed; is = many line refl })
not_planned text q plan.Memory typed many = tt

-- a program that was read
pub accepts_read : (text : List ℕ) (q : Program) → HasTyped text q → nodes_fault q ≡ None → Accepts text q
accepts_read text q typed planned =
    record { tree = typed.has.tree; has = typed.has.has; resolved = typed.resolved; resolves = typed.has.resolves; typed = typed.typed; planned = planned }
