-- Every expression has the type that is found, and fits where what it demands is met.
use Rattle.std.specs.Prelude.{◌≡◌, refl, ℕ, Bool, List, Option, Some, None}
use Rattle.std.proofs.Common.{◌∙◌, ap, sym, subst}
use Rattle.da_lang.specs.declared.program.ChainPart.{ChainPart}
use Rattle.da_lang.specs.declared.program.RExpr.{RExpr}
use Rattle.da_lang.specs.declared.query.Query.{Query}
use Rattle.da_lang.specs.ExprTypes.{ExprType, Further, typing, part_typing}
use Rattle.da_lang.specs.QueryTypes.{Known, given, literal_type, slot_type, query_type}
use Rattle.da_lang.specs.World.{at_number}
use Rattle.da_lang.proofs.ExprInduction.{Cases, expr_induction}
use Rattle.da_lang.proofs.typing.ExprTypesAt.{typing-Const, typing-Procs, typing-Me, typing-Slot, typing-Clock, typing-Ask, typing-Range, typing-Tuple, typing-SetOf, typing-Or, typing-And, typing-Not, typing-Cmp, typing-Member, typing-Chain, part_typing-of}
use Rattle.type_table.specs.Fits.{Meaning}
use Rattle.type_demands.specs.Syms.{Context, found, literal_sym}
use Rattle.type_demands.specs.Conds.{asked_sym}
use Rattle.type_demands.specs.Exprs.{ExprSym, FurtherSym, expr_sym, further_sym}
use Rattle.type_demands.specs.Meets.{Means, Agrees}
use Rattle.type_demands.proofs.ExprLaws.{procs_agree, me_agrees, clock_agrees, range_agrees, not_agrees, cmp_agrees, member_agrees, truths_agree, tuple_agrees, set_agrees, chain_agrees}
use Rattle.type_demands.proofs.ExprsAt.{sym-Const, sym-Procs, sym-Me, sym-Slot, sym-Clock, sym-Ask, sym-Range, sym-Tuple, sym-SetOf, sym-Or, sym-And, sym-Not, sym-Cmp, sym-Member, sym-Chain, further-of}
use Rattle.type_demands.proofs.FoundLaws.{literal_found, alone_agrees}
use Rattle.type_demands.proofs.QueriesAgree.{query_found}

module _ (m : Meaning) (headed : ℕ → Bool) (known : Known) (context : Context) (queries : List Query) (means : Means m headed known context) where
  abbrev T : RExpr → ExprType
  T = typing known queries

  abbrev S : RExpr → ExprSym
  S = expr_sym context queries

  abbrev PT : ChainPart → Further
  PT = part_typing known queries

  abbrev PS : ChainPart → FurtherSym
  PS = further_sym context queries

  -- by the layers of both
  by_forms : {e f : ExprType} {x y : ExprSym} → e ≡ f → x ≡ y → Agrees m headed f y → Agrees m headed e x
  by_forms {e} {f} {x} {y} of_type of_sym agrees = subst (λ z. Agrees m headed z x) (sym of_type) (subst (λ z. Agrees m headed f z) (sym of_sym) agrees)

  asked_found : (o : Option Query) → given o (query_type known) ≡ found m headed (asked_sym context o)
  asked_found None = refl
  asked_found (Some query) = query_found m headed known context means query

  abbrev cases : Cases
  cases = record {
    Of_expr = λ x. Agrees m headed (T x) (S x);
    Of_part = λ p. ((PT p).op ≡ (PS p).op) × Agrees m headed (PT p).typing (PS p).sym;
    constant = λ v. by_forms (typing-Const known queries v) (sym-Const context queries v) (alone_agrees m headed (literal_type v) (literal_sym v) (literal_found m headed v));
    processes = λ ps. by_forms (typing-Procs known queries ps) (sym-Procs context queries ps) (procs_agree m headed);
    itself = by_forms (typing-Me known queries) (sym-Me context queries) (me_agrees m headed);
    slot = λ k. by_forms (typing-Slot known queries k) (sym-Slot context queries k) (alone_agrees m headed (slot_type known k) (context.slot k) (means.slots k));
    clock = by_forms (typing-Clock known queries) (sym-Clock context queries) (clock_agrees m headed);
    question = λ n. by_forms (typing-Ask known queries n) (sym-Ask context queries n) (alone_agrees m headed (given (at_number queries n) (query_type known)) (asked_sym context (at_number queries n)) (asked_found (at_number queries n)));
    range = λ a b p q. by_forms (typing-Range known queries a b) (sym-Range context queries a b) (range_agrees m headed (T a) (T b) (S a) (S b) p q);
    tuple = λ xs each. by_forms (typing-Tuple known queries xs) (sym-Tuple context queries xs) (tuple_agrees m headed T S xs each);
    set_of = λ xs each. by_forms (typing-SetOf known queries xs) (sym-SetOf context queries xs) (set_agrees m headed T S xs each);
    disjunction = λ xs each. by_forms (typing-Or known queries xs) (sym-Or context queries xs) (truths_agree m headed T S xs each);
    conjunction = λ xs each. by_forms (typing-And known queries xs) (sym-And context queries xs) (truths_agree m headed T S xs each);
    negation = λ x p. by_forms (typing-Not known queries x) (sym-Not context queries x) (not_agrees m headed (T x) (S x) p);
    comparison = λ o a b p q. by_forms (typing-Cmp known queries o a b) (sym-Cmp context queries o a b) (cmp_agrees m headed o (T a) (T b) (S a) (S b) p q);
    membership = λ a b p q. by_forms (typing-Member known queries a b) (sym-Member context queries a b) (member_agrees m headed (T a) (T b) (S a) (S b) p q);
    chain = λ a more p each. by_forms (typing-Chain known queries a more) (sym-Chain context queries a more) (chain_agrees m headed PT PS (T a) (S a) p more each);
    part = λ o x p. (
      ap (λ (z : Further). z.op) (part_typing-of known queries o x) ∙ sym (ap (λ (z : FurtherSym). z.op) (further-of context queries o x)),
      by_forms (ap (λ (z : Further). z.typing) (part_typing-of known queries o x)) (ap (λ (z : FurtherSym). z.sym) (further-of context queries o x)) p,
    );
  }

  pub expr_agrees : (x : RExpr) → Agrees m headed (T x) (S x)
  expr_agrees = expr_induction cases
