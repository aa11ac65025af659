-- A text is accepted or refused, and gives one program.
use Rattle.std.proofs.Common.{◌≡◌, sym, ◌∙◌, ap, subst, ℕ, List, [], arith}
use Rattle.std.specs.Prelude.{Option, Some, None, Result, Ok, Err}
use Rattle.da_values.specs.declared.token.Token.{Token}
use Rattle.da_values.specs.Marks.{toks}
use Rattle.da_values.specs.Tokens.{Fault as LexFault, tokens}
use Rattle.da_lang.specs.declared.program.Program.{Program}
use Rattle.da_lang.specs.declared.refusal.LimitKind.{LimitKind}
use Rattle.da_lang.specs.declared.refusal.ScopeKind.{ScopeKind}
use Rattle.da_lang.specs.declared.tree.Tree.{Tree}
use Rattle.da_lang.specs.Grammar.{SpellsWithin}
use Rattle.da_lang.specs.Limits.{Resolves, limit_fault, limit_refusals}
use Rattle.da_lang.specs.Limits as limits
use Rattle.da_lang.specs.NameRules.{name_fault, name_refusals}
use Rattle.da_lang.specs.NameRules as names
use Rattle.da_lang.specs.Resolution.{resolved}
use Rattle.da_lang.specs.Scopes as scopes
use Rattle.da_lang.specs.Typing.{filled, least, type_breaks}
use Rattle.da_parse.specs.declared.whole.ParseFault.{ParseFault}
use Rattle.da_parse.proofs.WholePrograms.{Spells_unique, SpellsWithin_spells}
use Rattle.da_front.specs.declared.refusal.RefusedKind.{RefusedKind}
use Rattle.da_core.specs.PlanLimit.{nodes_fault}
use Rattle.da_front.specs.Verdict.{Accepts, HasNoTree, HasTree, IsMisnamed, IsMistyped, IsOverplanned, IsRefused, IsTooLarge, Refuses, too_long, not_cut, no_program, too_deep, misnamed, too_large, mistyped, overplanned}

same_list : (text : List ℕ) (ts us : List Token) → tokens text ≡ Ok ts → tokens text ≡ Ok us → ts ≡ us
same_list text ts us one other = let both : ◌≡◌ {A = Result (List Token) LexFault} (Ok ts) (Ok us) = sym one ∙ other in cc

-- a text that is cut has no fault
cut_or_not : (text : List ℕ) (ts : List Token) (fault : LexFault) → tokens text ≡ Ok ts → tokens text ≡ Err fault → ⊥
cut_or_not text ts fault one other = let both : ◌≡◌ {A = Result (List Token) LexFault} (Ok ts) (Err fault) = sym one ∙ other in cc

-- a text has one tree
one_tree : (text : List ℕ) (tree other : Tree) → HasTree text tree → HasTree text other → tree ≡ other
one_tree text tree other has also =
    let list = same_list text also.list has.list also.lexed has.lexed in
    let spelled : SpellsWithin 32 other (toks text has.list) = subst (λ ts. SpellsWithin 32 other (toks text ts)) list also.spelled in
    Spells_unique tree other (toks text has.list) (SpellsWithin_spells 32 tree (toks text has.list) has.spelled) (SpellsWithin_spells 32 other (toks text has.list) spelled)

no_tree : (text : List ℕ) (tree : Tree) (why : ParseFault) (line : ℕ) → HasTree text tree → HasNoTree text why line → ⊥
no_tree text tree why line has lacks =
    lacks.none tree (subst (λ ts. SpellsWithin 32 tree (toks text ts)) (same_list text has.list lacks.list has.lexed lacks.lexed) has.spelled)

-- a list of which something is told has an element
none_told : {K : Type 0} (rank : K → ℕ) (xs : List (scopes.Refused K)) (x : scopes.Refused K) → xs ≡ [] → scopes.told rank xs ≡ Some x → ⊥
none_told rank xs x empty is =
    let clash : ◌≡◌ {A = Option _} None (Some x) = sym (ap (scopes.told rank) empty) ∙ is in
    cc

none_least : (lines : List ℕ) (line : ℕ) → lines ≡ [] → least lines ≡ Some line → ⊥
none_least lines line empty is =
    let clash : ◌≡◌ {A = Option ℕ} None (Some line) = sym (ap least empty) ∙ is in
    cc

-- a text is not both accepted and refused
same_resolved : (tree other : Tree) (p q : Program) → tree ≡ other → Resolves tree p → Resolves other q → p ≡ q
same_resolved tree other p q same one also = one.becomes ∙ ap resolved same ∙ sym also.becomes

named : (t : List ℕ) (program : Program) (kind : ScopeKind) (line : ℕ) → Accepts t program → IsMisnamed t kind line → ⊥
named t program kind line accepts is =
    none_told names.rank (name_refusals is.tree) _ (ap name_refusals (one_tree t is.tree accepts.tree is.has accepts.has) ∙ accepts.resolves.named) is.is

within : (t : List ℕ) (program : Program) (which : LimitKind) (line : ℕ) → Accepts t program → IsTooLarge t which line → ⊥
within t program which line accepts is =
    none_told limits.rank (limit_refusals is.tree) _ (ap limit_refusals (one_tree t is.tree accepts.tree is.has accepts.has) ∙ accepts.resolves.within) is.is

typed : (t : List ℕ) (program : Program) (line : ℕ) → Accepts t program → IsMistyped t line → ⊥
typed t program line accepts is =
    none_least (type_breaks is.resolved) line
    (ap type_breaks (same_resolved is.tree accepts.tree is.resolved accepts.resolved (one_tree t is.tree accepts.tree is.has accepts.has) is.resolves accepts.resolves) ∙ accepts.typed.keeps) is.is

fits : (t : List ℕ) (program : Program) (line : ℕ) → Accepts t program → IsOverplanned t line → ⊥
fits t program line accepts is =
    let resolved_one = same_resolved is.tree accepts.tree is.resolved accepts.resolved (one_tree t is.tree accepts.tree is.has accepts.has) is.resolves accepts.resolves in
    let one : is.program ≡ program = is.typed.becomes ∙ ap filled resolved_one ∙ sym accepts.typed.becomes in
    let clash : ◌≡◌ {A = Option ℕ} None (Some line) = sym accepts.planned ∙ sym (ap nodes_fault one) ∙ is.is in
    cc

pub accepted_or_not : (t : List ℕ) (program : Program) (kind : RefusedKind) (line : ℕ) → Accepts t program → Refuses t kind line → ⊥
accepted_or_not t program _ _ accepts (too_long long) = omega (arith, long, accepts.has.size)
accepted_or_not t program _ _ accepts (not_cut kind line is) = cut_or_not t accepts.has.list _ accepts.has.lexed is.1
accepted_or_not t program _ _ accepts (no_program line lacks) = no_tree t accepts.tree _ line accepts.has lacks
accepted_or_not t program _ _ accepts (too_deep line lacks) = no_tree t accepts.tree _ line accepts.has lacks
accepted_or_not t program _ _ accepts (misnamed kind line is) = named t program kind line accepts is
accepted_or_not t program _ _ accepts (too_large which line is) = within t program which line accepts is
accepted_or_not t program _ _ accepts (mistyped line is) = typed t program line accepts is
accepted_or_not t program _ _ accepts (overplanned line is) = fits t program line accepts is

-- a text gives one program
pub accepts_one : (t : List ℕ) (program other : Program) → Accepts t program → Accepts t other → other ≡ program
accepts_one t program other accepts also =
    also.typed.becomes ∙ ap filled (same_resolved also.tree accepts.tree also.resolved accepts.resolved (one_tree t also.tree accepts.tree also.has accepts.has) also.resolves accepts.resolves)
    ∙ sym accepts.typed.becomes

-- a text that is accepted is not refused
pub not_refused : (t : List ℕ) (program : Program) → Accepts t program → IsRefused t → ⊥
not_refused t program accepts refusal = accepted_or_not t program refusal.kind refusal.line accepts refusal.refuses
