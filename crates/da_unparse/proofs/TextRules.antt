-- The equations of texts, as sets of rules, and those of chains by their first link.
use Rattle.std.proofs.Common.{append_assoc, codes, Result, Ok, Err, OnOk, ◌≡◌, ℕ, List, [], ◌∷◌, length, get_or, flat_map, ◌++◌, ◌<◌, ◌≤◌, ap, sym, ◌∙◌, arith}
use Rattle.da_lang.specs.declared.tree.ChainTree.{ChainTree, out-ChainTree}
use Rattle.da_lang.specs.declared.tree.Expr.{Expr}
use Rattle.da_lang.specs.declared.tree.Expr.TheVariants as ex
use Rattle.da_unparse.specs.Expressions.{either}
use Rattle.da_unparse.specs.Texts.{holds, held_by, text_at, expr_text, asked_by, link_text, one_argument}
use Rattle.da_unparse.proofs.StmtTexts as st
use Rattle.da_unparse.proofs.TextsAt as at
use Rattle.da_unparse.proofs.TextsOf.{text_at-put_in, text_at-as_is}

-- what was appended last, seen from the beginning
pub seen : {E : Type 0} (r : Result (Unit {0}) E) (old mid new t u : List ℕ) → OnOk r (new ≡ mid ++ t) → mid ++ t ≡ old ++ u → OnOk r (new ≡ old ++ u)
seen (Ok x) old mid new t u wrote same = wrote ∙ same
seen (Err e) old mid new t u wrote same = wrote

-- what was appended, under its other name
pub told : {E : Type 0} (r : Result (Unit {0}) E) (old new t u : List ℕ) → OnOk r (new ≡ old ++ t) → t ≡ u → OnOk r (new ≡ old ++ u)
told r old new t u wrote same = seen r old old new t u wrote (ap (λ v. old ++ v) same)

-- two texts one after another
pub two_parts : (old a first second all : List ℕ) → a ≡ old ++ first → all ≡ first ++ second → a ++ second ≡ old ++ all
two_parts old a first second all one same = ap (λ u. u ++ second) one ∙ append_assoc old first second ∙ ap (λ u. old ++ u) (sym same)

-- three texts one after another
pub three_parts : (old a b first second third all : List ℕ) → a ≡ old ++ first → b ≡ a ++ second → all ≡ first ++ second ++ third → b ++ third ≡ old ++ all
three_parts old a b first second third all one two same =
    ap (λ u. u ++ third) (two ∙ ap (λ u. u ++ second) one ∙ append_assoc old first second) ∙ append_assoc old (first ++ second) third ∙ ap (λ u. old ++ u) (sym same)

-- five texts as three
pub comp_parts : (a b c d e : List ℕ) → a ++ b ++ c ++ d ++ e ≡ (a ++ (b ++ c)) ++ (d ++ e)
comp_parts a b c d e = append_assoc (a ++ b ++ c) d e ∙ ap (λ u. u ++ (d ++ e)) (append_assoc a b c)

pub ruleset holds_rules = (at.holds-Quant, at.holds-Or, at.holds-And, at.holds-Not, at.holds-Cmp, at.holds-Member, at.holds-Int, at.holds-Text, at.holds-Truth, at.holds-Me, at.holds-Name, at.holds-Clock, at.holds-Range, at.holds-Tuple, at.holds-SetOf, at.holds-Comp, at.holds-Count, at.holds-Sum, at.holds-Min, at.holds-Max)

pub holds-no_link : (x : Expr) (links : List ChainTree) → length links < 1 → holds (ex.Chain x links) ≡ holds x
holds-no_link x [] none = at.holds-lone x
holds-no_link x (c ∷ links) none = absurd (omega (arith, none))

pub holds-first_link : (x : Expr) (links : List ChainTree) (c : ChainTree) → 1 ≤ length links → c ≡ get_or links 0 c → holds (ex.Chain x links) ≡ held_by (out-ChainTree c).op
holds-first_link x [] c some here = absurd (omega (arith, some))
holds-first_link x (d ∷ links) c some here = at.holds-Chain x d links ∙ ap (λ l. held_by (out-ChainTree l).op) (sym here)

pub ruleset type_rules = (append_assoc, at.type_text-Int, at.type_text-Bool, at.type_text-Text, at.type_text-Proc, at.type_text-Tuple, at.type_text-Set)

-- calls with one argument, after the word with its parenthesis
pub expr_text-count : (x : Expr) → expr_text (ex.Count x) ≡ codes "count(" ++ text_at either x ++ codes ")"
unfolding one_argument
expr_text-count x = at.expr_text-Count x

pub expr_text-sum : (x : Expr) → expr_text (ex.Sum x) ≡ codes "sum(" ++ text_at either x ++ codes ")"
unfolding one_argument
expr_text-sum x = at.expr_text-Sum x

pub ruleset place_rules = (append_assoc, text_at-put_in, text_at-as_is)

pub expr_text-no_link : (x : Expr) (links : List ChainTree) → length links < 1 → expr_text (ex.Chain x links) ≡ expr_text x
expr_text-no_link x [] none = at.expr_text-lone x
expr_text-no_link x (c ∷ links) none = absurd (omega (arith, none))

pub expr_text-first_link : (x : Expr) (links : List ChainTree) (c : ChainTree) → 1 ≤ length links → c ≡ get_or links 0 c
    → expr_text (ex.Chain x links) ≡ text_at (asked_by (out-ChainTree c).op) x ++ flat_map (link_text (asked_by (out-ChainTree c).op)) links
expr_text-first_link x [] c some here = absurd (omega (arith, some))
expr_text-first_link x (d ∷ links) c some here =
    at.expr_text-Chain x d links ∙ ap (λ l. text_at (asked_by (out-ChainTree l).op) x ++ flat_map (link_text (asked_by (out-ChainTree l).op)) (d ∷ links)) (sym here)

pub ruleset peer_rules = (append_assoc, at.peer_text-From, at.peer_text-To)

pub ruleset pattern_rules = (append_assoc, at.pattern_text-Tuple)

pub ruleset stmt_rules = (append_assoc, st.stmt_text-Assign, st.stmt_text-Add, st.stmt_text-Del, st.stmt_text-Send, st.stmt_text-Output, st.stmt_text-Pass, st.stmt_text-Label, st.stmt_text-Call, st.stmt_text-If, st.stmt_text-While, st.stmt_text-For, st.stmt_text-AwaitOne, st.stmt_text-Await)
