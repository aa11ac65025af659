-- What is noted of a query was noted of the expression that it comes from, and so it is of conditions and of patterns.
use Rattle.std.specs.Prelude.{◌≡◌, ℕ, suc, ◌+◌, ◌≤◌, Bool, true, false, if◌then◌else◌, List, [], ◌∷◌, ◌++◌, map, length, Option, Some, None, option_map, option_to_list}
use Rattle.std.specs.List.{AllByRecursion, list_all}
use Rattle.std.proofs.Common.{◌∙◌, ap, sym, subst, ⊎_elim, arith}
use Rattle.std.proofs.lemmas.List.{append-nil, length-map}
use Rattle.da_values.specs.declared.value.Value.{Value}
use Rattle.da_values.specs.declared.value.Value.TheVariants as kept
use Rattle.da_values.specs.Sets.{Has}
use Rattle.da_values.proofs.Members.{Has-append_left, Has-append_right, of_append}
use Rattle.da_lang.specs.declared.program.RExpr.{RExpr}
use Rattle.da_lang.specs.declared.program.RExpr.TheVariants as re
use Rattle.da_lang.specs.declared.query.AggOp.{AggOp}
use Rattle.da_lang.specs.declared.query.AggOp.TheVariants as agg
use Rattle.da_lang.specs.declared.query.Cond.{Cond}
use Rattle.da_lang.specs.declared.query.Cond.TheVariants as co
use Rattle.da_lang.specs.declared.query.Operand.{Operand}
use Rattle.da_lang.specs.declared.query.Operand.TheVariants as od
use Rattle.da_lang.specs.declared.query.Pattern.{Pattern}
use Rattle.da_lang.specs.declared.query.Pattern.TheVariants as pa
use Rattle.da_lang.specs.declared.query.Term.{Term}
use Rattle.da_lang.specs.declared.query.Term.TheVariants as te
use Rattle.da_lang.specs.declared.tree.ChainTree.{ChainTree, roll-ChainTree}
use Rattle.da_lang.specs.declared.tree.Expr.{Expr}
use Rattle.da_lang.specs.declared.tree.Expr.TheVariants as ex
use Rattle.da_lang.specs.declared.tree.GenTree.{GenTree, roll-GenTree}
use Rattle.da_lang.specs.declared.tree.PatternTree.{PatternTree}
use Rattle.da_lang.specs.declared.tree.PeerTree.{PeerTree}
use Rattle.da_lang.specs.declared.tree.SourceTree.{SourceTree}
use Rattle.da_lang.specs.ExprMeaning.{Generator, InRow, InSlot, Matching, Meaning, Meant, OneProcess, Peer, Processes, Range, Signed, Tables, aggregated, all_conditions, as_condition, as_operand, as_term, scope_after_gens, chain_operand, chain_outside, cond_after, constant, foreign, generator, gens_in, is_apt, is_sum, list_outside, matching, meant, misplaced, name_meant, name_term, one_outside, patterns_in, peer_of, peer_pattern, quantified, signed_of, signed_operand, two_outside, width, with_row}
use Rattle.da_lang.specs.Scopes.{Scope, look}
use Rattle.da_lang.proofs.CondInduction.{Where}
use Rattle.da_lang.proofs.MeantAt.{meant-Quant, meant-Or, meant-And, meant-Not, meant-Cmp, meant-Member, meant-Chain, meant-Int, meant-Text, meant-Truth, meant-Me, meant-Name, meant-Clock, meant-Range, meant-Tuple, meant-SetOf, meant-Comp, meant-Count, meant-Sum, meant-Min, meant-Max, matching-Wild, matching-Name, matching-Int, matching-Text, matching-Truth, matching-Me, matching-Equal, matching-Tuple, peer_of-From, peer_of-To, signed_of-of, generator-of}
use Rattle.da_lang.proofs.TreeInduction.{Cases, expr_induction, pattern_induction}
use Rattle.da_types.specs.Constants.{Literal, Signs, Notes, all, notes, pattern_notes, peer_notes, link_notes, gen_notes, signs}
use Rattle.da_types.specs.QueryNotes.{term_notes, match_notes, range_notes, ranges_notes, cond_notes, operand_notes, signed_notes, where_notes}
use Rattle.da_types.proofs.resolved.NotesAt.{notes-Quant, notes-Or, notes-And, notes-Not, notes-Cmp, notes-Member, notes-Chain, notes-Int, notes-Text, notes-Truth, notes-Me, notes-Name, notes-Clock, notes-Range, notes-Tuple, notes-SetOf, notes-Comp, notes-Count, notes-Sum, notes-Min, notes-Max, pattern_notes-Wild, pattern_notes-Name, pattern_notes-Int, pattern_notes-Text, pattern_notes-Truth, pattern_notes-Me, pattern_notes-Equal, pattern_notes-Tuple, peer_notes-From, peer_notes-To, link_notes-of, gen_notes-of}
use Rattle.da_types.proofs.resolved.QueryNotesAt.{term_notes-Const, term_notes-Me, term_notes-Slot, term_notes-Part, term_notes-Foreign, term_notes-Tuple, match_notes-Any, match_notes-Bind, match_notes-Const, match_notes-Me, match_notes-Equal, match_notes-Tuple, cond_notes-Truth, cond_notes-Cmp, cond_notes-Not, cond_notes-And, cond_notes-Or, cond_notes-Quant, operand_notes-Term, operand_notes-Agg, operand_notes-Chain, signed_notes-of, agg_notes-of}

-- signs of both
pub signs-append : (xs ys : Notes) → signs (xs ++ ys) ≡ signs xs + signs ys
signs-append [] ys = omega arith
signs-append (Literal value ∷ xs) ys = signs-append xs ys
signs-append (Signs count ∷ xs) ys = omega (arith, signs-append xs ys)

-- the constants of the one are in the other, and it has no more signs
pub record Within (ns ms : Notes) : Type 0 where
  pub values : (v : Value) → Has ns (Literal v) → Has ms (Literal v)
  pub few : signs ns ≤ signs ms

pub same_within : (ns : Notes) → Within ns ns
same_within ns = record { values = λ v h. h; few = omega arith }

pub none_within : (ns ms : Notes) → ns ≡ [] → Within ns ms
none_within ns ms is = subst (λ z. Within z ms) (sym is) (record { values = λ v h. absurd h; few = omega arith })

pub both_within : (xs ys ms ns : Notes) → Within xs ms → Within ys ns → Within (xs ++ ys) (ms ++ ns)
both_within xs ys ms ns first second = record {
  values = λ v h. ⊎_elim (λ k. Has-append_left ms ns (Literal v) (first.values v k)) (λ k. Has-append_right ms ns (Literal v) (second.values v k)) (of_append xs ys (Literal v) h);
  few = omega (arith, signs-append xs ys, signs-append ms ns, first.few, second.few);
}

pub turned_within : (xs ys ms ns : Notes) → Within xs ns → Within ys ms → Within (xs ++ ys) (ms ++ ns)
turned_within xs ys ms ns first second = record {
  values = λ v h. ⊎_elim (λ k. Has-append_right ms ns (Literal v) (first.values v k)) (λ k. Has-append_left ms ns (Literal v) (second.values v k)) (of_append xs ys (Literal v) h);
  few = omega (arith, signs-append xs ys, signs-append ms ns, first.few, second.few);
}

pub nil_within : (xs ms : Notes) → Within xs ms → Within (xs ++ []) ms
nil_within xs ms one = subst (λ z. Within z ms) (sym (append-nil xs)) one

within_nil : (xs ms : Notes) → Within xs ms → Within xs (ms ++ [])
within_nil xs ms one = subst (λ z. Within xs z) (sym (append-nil ms)) one

pub equal_within : (xs ys ms : Notes) → xs ≡ ys → Within ys ms → Within xs ms
equal_within xs ys ms is one = subst (λ z. Within z ms) (sym is) one

-- what an expression becomes as a term, as the argument of an aggregate, as a side of a comparison, as a condition
abbrev pub argument_notes : Range → Notes
argument_notes r = ranges_notes r.gens ++ where_notes r.cond ++ term_notes r.term

pub record Keeps (ns : Notes) (m : Meant) : Type 0 where
  pub of_term : (scope : Scope Meaning) → Within (term_notes (m.term scope)) ns
  pub of_range : (scope : Scope Meaning) → Within (argument_notes (m.range scope)) ns
  pub of_operand : (scope : Scope Meaning) → Within (operand_notes (m.operand scope)) ns
  pub of_condition : (scope : Scope Meaning) → Within (cond_notes (m.condition scope)) ns

abbrev ExprKeeps : Expr → Type 0
ExprKeeps x = Keeps (notes x) (meant x)

abbrev PatternKeeps : PatternTree → Type 0
PatternKeeps q = (scope : Scope Meaning) → Within (match_notes ((matching q).pattern scope)) (pattern_notes q)

abbrev PeerKeeps : PeerTree → Type 0
PeerKeeps q = (scope : Scope Meaning) → Within (match_notes ((peer_of q).matching.pattern scope)) (peer_notes q)

abbrev LinkKeeps : ChainTree → Type 0
LinkKeeps l = (scope : Scope Meaning) → Within (operand_notes ((signed_of l).meant.operand scope)) (link_notes l)

abbrev GenKeeps : GenTree → Type 0
GenKeeps g = (scope : Scope Meaning) → Within (range_notes ((generator g).gen_ scope)) (gen_notes g)

abbrev Outside : Type 0
Outside = Scope Meaning → Tables → RExpr × Tables

as_kept : (x : Expr) (m : Meant) (ns : Notes) → meant x ≡ m → notes x ≡ ns → Keeps ns m → ExprKeeps x
as_kept x m ns is noted keeps = subst (λ z. Keeps z (meant x)) (sym noted) (subst (Keeps ns) (sym is) keeps)

-- what is no term, no argument, no side and no condition
no_term : (ns : Notes) → Within (term_notes te.Foreign) ns
no_term ns = none_within _ ns term_notes-Foreign

plain_argument : (ns : Notes) → Within (argument_notes (record { gens = []; cond = None; term = te.Foreign })) ns
plain_argument ns = none_within _ ns term_notes-Foreign

as_side : (ns : Notes) (t : Term) → Within (term_notes t) ns → Within (operand_notes (od.Term t)) ns
as_side ns t one = equal_within _ _ ns (operand_notes-Term t) one

as_truth : (ns : Notes) (t : Term) → Within (term_notes t) ns → Within (cond_notes (co.Truth t)) ns
as_truth ns t one = equal_within _ _ ns (cond_notes-Truth t) one

term_keeps : (ns : Notes) (outside : Outside) (term : Scope Meaning → Term) → ((scope : Scope Meaning) → Within (term_notes (term scope)) ns) → Keeps ns (as_term outside term)
term_keeps ns outside term one = record { of_term = one; of_range = λ scope. plain_argument ns; of_operand = λ scope. as_side ns (term scope) (one scope); of_condition = λ scope. as_truth ns (term scope) (one scope) }

foreign_keeps : (ns : Notes) (outside : Outside) → Keeps ns (foreign outside)
foreign_keeps ns outside = record { of_term = λ scope. no_term ns; of_range = λ scope. plain_argument ns; of_operand = λ scope. as_side ns te.Foreign (no_term ns); of_condition = λ scope. as_truth ns te.Foreign (no_term ns) }

condition_keeps : (ns : Notes) (outside : Outside) (condition : Scope Meaning → Cond) → ((scope : Scope Meaning) → Within (cond_notes (condition scope)) ns) → Keeps ns (as_condition outside condition)
condition_keeps ns outside condition one = record { of_term = λ scope. no_term ns; of_range = λ scope. plain_argument ns; of_operand = λ scope. as_side ns te.Foreign (no_term ns); of_condition = one }

operand_keeps : (ns : Notes) (outside : Outside) (operand : Scope Meaning → Operand) → ((scope : Scope Meaning) → Within (operand_notes (operand scope)) ns) → Keeps ns (as_operand outside operand)
operand_keeps ns outside operand one = record { of_term = λ scope. no_term ns; of_range = λ scope. plain_argument ns; of_operand = one; of_condition = λ scope. as_truth ns te.Foreign (no_term ns) }

literal_keeps : (x : RExpr) (v : Value) → Keeps (Literal v ∷ []) (constant x (te.Const v))
literal_keeps x v = term_keeps (Literal v ∷ []) (λ scope tables. (x, tables)) (λ scope. te.Const v) (λ scope. equal_within _ _ _ (term_notes-Const v) (same_within _))

me_keeps : Keeps [] (constant re.Me te.Me)
me_keeps = term_keeps [] (λ scope tables. (re.Me, tables)) (λ scope. te.Me) (λ scope. none_within _ [] term_notes-Me)

named_term : (means : Option Meaning) → term_notes (name_term means) ≡ []
named_term None = term_notes-Foreign
named_term (Some (InSlot slot)) = term_notes-Slot slot
named_term (Some (InRow part)) = term_notes-Part part
named_term (Some (OneProcess process)) = term_notes-Foreign
named_term (Some (Processes processes)) = term_notes-Foreign

slot_argument : (part : ℕ) → match_notes pa.Bind ++ match_notes pa.Any ++ [] ++ [] ++ term_notes (te.Part part) ≡ []
slot_argument part =
    ap (λ (z : Notes). z ++ match_notes pa.Any ++ [] ++ [] ++ term_notes (te.Part part)) match_notes-Bind
    ∙ ap (λ (z : Notes). [] ++ z ++ [] ++ [] ++ term_notes (te.Part part)) match_notes-Any ∙ term_notes-Part part

name_keeps : (name : List ℕ) → Keeps [] (name_meant name)
name_keeps name = record {
  of_term = λ scope. none_within _ [] (named_term (look scope name));
  of_range = λ scope. none_within _ [] (slot_argument (suc (width scope)));
  of_operand = λ scope. as_side [] (name_term (look scope name)) (none_within _ [] (named_term (look scope name)));
  of_condition = λ scope. as_truth [] (name_term (look scope name)) (none_within _ [] (named_term (look scope name)));
}

-- all of a list
terms_within : (xs : List Expr) → AllByRecursion ExprKeeps xs → (scope : Scope Meaning) → Within (all (map term_notes (map (λ (x : Meant). x.term scope) (map meant xs)))) (all (map notes xs))
terms_within [] each scope = same_within []
terms_within (x ∷ xs) each scope = both_within _ _ (notes x) _ (each.0.of_term scope) (terms_within xs each.1 scope)

conditions_within : (xs : List Expr) → AllByRecursion ExprKeeps xs → (scope : Scope Meaning) → Within (all (map cond_notes (all_conditions (map meant xs) scope))) (all (map notes xs))
conditions_within [] each scope = same_within []
conditions_within (x ∷ xs) each scope = both_within _ _ (notes x) _ (each.0.of_condition scope) (conditions_within xs each.1 scope)

patterns_within : (ps : List PatternTree) → AllByRecursion PatternKeeps ps → (scope : Scope Meaning) → Within (all (map match_notes (patterns_in (map matching ps) scope))) (all (map pattern_notes ps))
patterns_within [] each scope = same_within []
patterns_within (q ∷ ps) each scope = both_within _ _ (pattern_notes q) _ (each.0 scope) (patterns_within ps each.1 (with_row (matching q).binds scope))

gens_within : (gs : List GenTree) → AllByRecursion GenKeeps gs → (scope : Scope Meaning) → Within (ranges_notes (gens_in (map generator gs) scope)) (all (map gen_notes gs))
gens_within [] each scope = same_within []
gens_within (g ∷ gs) each scope = both_within _ _ (gen_notes g) _ (each.0 scope) (gens_within gs each.1 (with_row (generator g).binds scope))

links_within : (more : List ChainTree) → AllByRecursion LinkKeeps more → (scope : Scope Meaning) → Within (all (map signed_notes (map (signed_operand scope) (map signed_of more)))) (all (map link_notes more))
links_within [] each scope = same_within []
links_within (l ∷ more) each scope = both_within _ _ (link_notes l) _ (equal_within _ _ _ (signed_notes-of _ ((signed_of l).meant.operand scope)) (each.0 scope)) (links_within more each.1 scope)

-- generators and a condition after them
where_within : (gs : List Generator) (cond : Option Expr) → Where ExprKeeps cond → (scope : Scope Meaning) → Within (where_notes (cond_after gs (option_map meant cond) scope)) (all (option_to_list (option_map notes cond)))
where_within gs None keeps scope = same_within []
where_within gs (Some x) keeps scope = within_nil _ (notes x) (keeps.of_condition (scope_after_gens gs scope))

rows_within : (gs : List GenTree) (cond : Option Expr) → AllByRecursion GenKeeps gs → Where ExprKeeps cond → (scope : Scope Meaning)
    → Within (ranges_notes (gens_in (map generator gs) scope) ++ where_notes (cond_after (map generator gs) (option_map meant cond) scope)) (all (map gen_notes gs) ++ all (option_to_list (option_map notes cond)))
rows_within gs cond each keeps scope = both_within _ _ (all (map gen_notes gs)) _ (gens_within gs each scope) (where_within (map generator gs) cond keeps scope)

quant_keeps : (each : Bool) (gens : List GenTree) (cond : Option Expr) → AllByRecursion GenKeeps gens → Where ExprKeeps cond → ExprKeeps (ex.Quant each gens cond)
quant_keeps each gens cond rows keeps =
    let outside : Outside = (quantified each (map generator gens) (option_map meant cond)).outside in
    let condition : Scope Meaning → Cond = λ scope. co.Quant each (gens_in (map generator gens) scope) (cond_after (map generator gens) (option_map meant cond) scope) in
    as_kept _ _ _ (meant-Quant each gens cond) (notes-Quant each gens cond)
    (condition_keeps _ outside condition (λ scope. equal_within _ _ _ (cond_notes-Quant each _ _) (rows_within gens cond rows keeps scope)))

comp_keeps : (x : Expr) (gens : List GenTree) (cond : Option Expr) → ExprKeeps x → AllByRecursion GenKeeps gens → Where ExprKeeps cond → ExprKeeps (ex.Comp x gens cond)
comp_keeps x gens cond term rows keeps =
    let plain = foreign_keeps (notes x ++ (all (map gen_notes gens) ++ all (option_to_list (option_map notes cond)))) (λ scope tables. (re.Me, tables)) in
    as_kept _ _ _ (meant-Comp x gens cond) (notes-Comp x gens cond) (record {
      of_term = plain.of_term;
      of_range = λ scope. turned_within _ _ (notes x) _ (rows_within gens cond rows keeps scope) (term.of_term (scope_after_gens (map generator gens) scope));
      of_operand = plain.of_operand;
      of_condition = plain.of_condition;
    })

-- aggregates
one_agg : (o : AggOp) (x : Expr) → ExprKeeps x → Keeps (notes x) (aggregated o (meant x) None)
one_agg o x keeps =
    let m = aggregated o (meant x) None in
    operand_keeps (notes x) m.outside m.operand (λ scope. (
    let r = (meant x).range scope in
    equal_within _ _ _ (operand_notes-Agg _ ∙ agg_notes-of o r.gens r.cond r.term None) (nil_within _ (notes x) (keeps.of_range scope))))

two_agg : (o : AggOp) (x other : Expr) → ExprKeeps x → ExprKeeps other → Keeps (notes x ++ notes other) (aggregated o (meant x) (Some (meant other)))
two_agg o x other keeps last =
    let m = aggregated o (meant x) (Some (meant other)) in
    operand_keeps (notes x ++ notes other) m.outside m.operand (λ scope. (
    let r = (meant x).range scope in
    equal_within _ _ _ (operand_notes-Agg _ ∙ agg_notes-of o r.gens r.cond r.term (Some ((meant other).term scope))) (both_within _ _ (notes x) _ (keeps.of_range scope) (last.of_term scope))))

-- chains
chain_keeps : (x : Expr) (more : List ChainTree) → ExprKeeps x → AllByRecursion LinkKeeps more → ExprKeeps (ex.Chain x more)
chain_keeps x more keeps each =
    let whole = Signs (length more) ∷ notes x ++ all (map link_notes more) in
    as_kept _ _ whole (meant-Chain x more) (notes-Chain x more) (operand_keeps whole (chain_outside (meant x) (map signed_of more)) (chain_operand (meant x) (map signed_of more)) (λ scope. go scope (list_all (λ (y : Signed). is_sum y.op) (map signed_of more))))
  where
    go : (scope : Scope Meaning) (b : Bool) → Within (operand_notes (if b then od.Chain ((meant x).operand scope) (map (signed_operand scope) (map signed_of more)) else od.Term te.Foreign)) (Signs (length more) ∷ notes x ++ all (map link_notes more))
    go scope true =
        let parts = both_within _ _ (notes x) _ (keeps.of_operand scope) (links_within more each scope) in
        let size = length-map (map signed_of more) (signed_operand scope) ∙ length-map more signed_of in
        equal_within _ _ _ (operand_notes-Chain _ _ ∙ ap (λ n. Signs n ∷ operand_notes ((meant x).operand scope) ++ all (map signed_notes (map (signed_operand scope) (map signed_of more)))) size)
        (both_within (Signs (length more) ∷ []) _ (Signs (length more) ∷ []) _ (same_within _) parts)
    go scope false = as_side _ te.Foreign (no_term _)

-- patterns and generators
pattern_kept : (q : PatternTree) (m : Matching) (ns : Notes) → matching q ≡ m → pattern_notes q ≡ ns → ((scope : Scope Meaning) → Within (match_notes (m.pattern scope)) ns) → PatternKeeps q
pattern_kept q m ns is noted keeps scope = subst (λ z. Within (match_notes (z.pattern scope)) (pattern_notes q)) (sym is) (subst (λ z. Within (match_notes (m.pattern scope)) z) (sym noted) (keeps scope))

peer_kept : (q : PeerTree) (m : Peer) (ns : Notes) → peer_of q ≡ m → peer_notes q ≡ ns → ((scope : Scope Meaning) → Within (match_notes (m.matching.pattern scope)) ns) → PeerKeeps q
peer_kept q m ns is noted keeps scope = subst (λ (z : Peer). Within (match_notes (z.matching.pattern scope)) (peer_notes q)) (sym is) (subst (λ z. Within (match_notes (m.matching.pattern scope)) z) (sym noted) (keeps scope))

misplaced_within : (p : Pattern) (ns : Notes) → Within (match_notes p) ns → Within (match_notes (misplaced p)) ns
misplaced_within p ns one =
    equal_within _ _ ns
    (match_notes-Tuple (pa.Equal te.Foreign ∷ p ∷ []) ∙ ap (λ z. z ++ (match_notes p ++ [])) (match_notes-Equal te.Foreign ∙ term_notes-Foreign) ∙ append-nil (match_notes p)) one

peer_within : (source : SourceTree) (q : Option PeerTree) → Where PeerKeeps q → (scope : Scope Meaning) → Within (match_notes (peer_pattern source scope (option_map peer_of q))) (all (option_to_list (option_map peer_notes q)))
peer_within source None keeps scope = none_within _ _ match_notes-Any
peer_within source (Some q) keeps scope = go (is_apt (peer_of q).from source)
  where
    go : (b : Bool) → Within (match_notes (if b then (peer_of q).matching.pattern scope else misplaced ((peer_of q).matching.pattern scope))) (peer_notes q ++ [])
    go true = within_nil _ (peer_notes q) (keeps scope)
    go false = misplaced_within ((peer_of q).matching.pattern scope) _ (within_nil _ (peer_notes q) (keeps scope))

gen_keeps : (message : PatternTree) (q : Option PeerTree) (source : SourceTree) → PatternKeeps message → Where PeerKeeps q → GenKeeps (roll-GenTree (record { message = message; peer = q; source = source }))
gen_keeps message q source first second scope =
    subst (λ (z : Generator). Within (range_notes (z.gen_ scope)) (gen_notes (roll-GenTree (record { message = message; peer = q; source = source })))) (sym (generator-of message q source))
    (subst (λ z. Within (match_notes ((matching message).pattern scope) ++ match_notes (peer_pattern source (with_row (matching message).binds scope) (option_map peer_of q))) z) (sym (gen_notes-of message q source))
    (both_within _ _ (pattern_notes message) _ (first scope) (peer_within source q second (with_row (matching message).binds scope))))

kept_cases : Cases
kept_cases = record {
  Of_expr = ExprKeeps;
  Of_pattern = PatternKeeps;
  Of_peer = PeerKeeps;
  Of_link = LinkKeeps;
  Of_gen = GenKeeps;
  quant = quant_keeps;
  either = λ xs each. as_kept _ _ _ (meant-Or xs) (notes-Or xs) (condition_keeps _ (list_outside re.Or (map meant xs)) (λ scope. co.Or (all_conditions (map meant xs) scope)) (λ scope. equal_within _ _ _ (cond_notes-Or _) (conditions_within xs each scope)));
  both = λ xs each. as_kept _ _ _ (meant-And xs) (notes-And xs) (condition_keeps _ (list_outside re.And (map meant xs)) (λ scope. co.And (all_conditions (map meant xs) scope)) (λ scope. equal_within _ _ _ (cond_notes-And _) (conditions_within xs each scope)));
  negation = λ x keeps. as_kept _ _ _ (meant-Not x) (notes-Not x) (condition_keeps _ (one_outside re.Not (meant x)) (λ scope. co.Not ((meant x).condition scope)) (λ scope. equal_within _ _ _ (cond_notes-Not _) (keeps.of_condition scope)));
  comparison = λ o x y first second. as_kept _ _ _ (meant-Cmp o x y) (notes-Cmp o x y) (condition_keeps _ (two_outside (re.Cmp o) (meant x) (meant y)) (λ scope. co.Cmp o ((meant x).operand scope) ((meant y).operand scope)) (λ scope. equal_within _ _ _ (cond_notes-Cmp o _ _) (both_within _ _ (notes x) _ (first.of_operand scope) (second.of_operand scope))));
  member = λ x y first second. as_kept _ _ _ (meant-Member x y) (notes-Member x y) (foreign_keeps _ (two_outside re.Member (meant x) (meant y)));
  chain = chain_keeps;
  number = λ number. as_kept _ _ _ (meant-Int number) (notes-Int number) (literal_keeps (re.Const (kept.Int number)) (kept.Int number));
  text = λ bytes. as_kept _ _ _ (meant-Text bytes) (notes-Text bytes) (literal_keeps (re.Const (kept.Text bytes)) (kept.Text bytes));
  truth = λ truth. as_kept _ _ _ (meant-Truth truth) (notes-Truth truth) (literal_keeps (re.Const (kept.Bool truth)) (kept.Bool truth));
  me = as_kept _ _ _ meant-Me notes-Me me_keeps;
  name = λ name. as_kept _ _ _ (meant-Name name) (notes-Name name) (name_keeps name);
  clock = as_kept _ _ _ meant-Clock notes-Clock (foreign_keeps _ (λ scope tables. (re.Clock, tables)));
  range = λ x y first second. as_kept _ _ _ (meant-Range x y) (notes-Range x y) (foreign_keeps _ (two_outside re.Range (meant x) (meant y)));
  tuple = λ xs each. as_kept _ _ _ (meant-Tuple xs) (notes-Tuple xs) (term_keeps _ (list_outside re.Tuple (map meant xs)) (λ scope. te.Tuple (map (λ (x : Meant). x.term scope) (map meant xs))) (λ scope. equal_within _ _ _ (term_notes-Tuple _) (terms_within xs each scope)));
  set_of = λ xs each. as_kept _ _ _ (meant-SetOf xs) (notes-SetOf xs) (foreign_keeps _ (list_outside re.SetOf (map meant xs)));
  comprehension = comp_keeps;
  count = λ x keeps. as_kept _ _ _ (meant-Count x) (notes-Count x) (one_agg agg.Count x keeps);
  sum = λ x keeps. as_kept _ _ _ (meant-Sum x) (notes-Sum x) (one_agg agg.Sum x keeps);
  least = λ x other first second. as_kept _ _ _ (meant-Min x other) (notes-Min x other) (two_agg agg.Min x other first second);
  greatest = λ x other first second. as_kept _ _ _ (meant-Max x other) (notes-Max x other) (two_agg agg.Max x other first second);
  any = pattern_kept _ _ _ matching-Wild pattern_notes-Wild (λ scope. none_within _ _ match_notes-Any);
  variable = λ name. pattern_kept _ _ _ (matching-Name name) (pattern_notes-Name name) (λ scope. none_within _ _ match_notes-Bind);
  number_pattern = λ number. pattern_kept _ _ _ (matching-Int number) (pattern_notes-Int number) (λ scope. equal_within _ _ _ (match_notes-Const (kept.Int number)) (same_within _));
  text_pattern = λ bytes. pattern_kept _ _ _ (matching-Text bytes) (pattern_notes-Text bytes) (λ scope. equal_within _ _ _ (match_notes-Const (kept.Text bytes)) (same_within _));
  truth_pattern = λ truth. pattern_kept _ _ _ (matching-Truth truth) (pattern_notes-Truth truth) (λ scope. equal_within _ _ _ (match_notes-Const (kept.Bool truth)) (same_within _));
  me_pattern = pattern_kept _ _ _ matching-Me pattern_notes-Me (λ scope. none_within _ _ match_notes-Me);
  equal = λ x keeps. pattern_kept _ _ _ (matching-Equal x) (pattern_notes-Equal x) (λ scope. equal_within _ _ _ (match_notes-Equal _) (keeps.of_term scope));
  tuple_pattern = λ ps each. pattern_kept _ _ _ (matching-Tuple ps) (pattern_notes-Tuple ps) (λ scope. equal_within _ _ _ (match_notes-Tuple _) (patterns_within ps each scope));
  from = λ q keeps. peer_kept _ _ _ (peer_of-From q) (peer_notes-From q) keeps;
  to = λ q keeps. peer_kept _ _ _ (peer_of-To q) (peer_notes-To q) keeps;
  link = λ op x keeps scope. subst (λ (z : Signed). Within (operand_notes (z.meant.operand scope)) (link_notes (roll-ChainTree (record { op = op; operand = x })))) (sym (signed_of-of op x)) (subst (λ z. Within (operand_notes ((meant x).operand scope)) z) (sym (link_notes-of op x)) (keeps.of_operand scope));
  generator = gen_keeps;
}

pub expr_keeps : (x : Expr) → Keeps (notes x) (meant x)
unfolding kept_cases
expr_keeps = expr_induction kept_cases

pub pattern_keeps : (q : PatternTree) (scope : Scope Meaning) → Within (match_notes ((matching q).pattern scope)) (pattern_notes q)
unfolding kept_cases
pattern_keeps = pattern_induction kept_cases
