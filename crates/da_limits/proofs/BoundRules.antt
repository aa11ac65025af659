-- How many names patterns, generators and conditions bind, from how many their parts bind.
use Rattle.std.specs.Prelude.{◌≡◌, refl, ℕ, ℤ, ◌+◌, ◌<◌, Bool, true, false, List, [], ◌∷◌, ◌++◌, map, length, Option, Some, None, option_to_list, flat_map}
use Rattle.std.specs.List.{AllByRecursion}
use Rattle.std.specs.Option.{option_map}
use Rattle.std.proofs.Common.{◌∙◌, ap, sym, arith, get_or, take, length-append}
use Rattle.std.proofs.lemmas.List.{map-append}
use Rattle.da_lang.specs.declared.tree.ChainTree.{ChainTree}
use Rattle.da_lang.specs.declared.tree.CmpOp.{CmpOp}
use Rattle.da_lang.specs.declared.tree.Expr.{Expr}
use Rattle.da_lang.specs.declared.tree.Expr.TheVariants as ex
use Rattle.da_lang.specs.declared.tree.GenTree.{GenTree, out-GenTree}
use Rattle.da_lang.specs.declared.tree.PatternTree.{PatternTree}
use Rattle.da_lang.specs.declared.tree.PatternTree.TheVariants as pattern
use Rattle.da_lang.specs.declared.tree.PeerTree.TheVariants as peer
use Rattle.da_lang.specs.declared.tree.SourceTree.{SourceTree}
use Rattle.da_lang.specs.declared.tree.SourceTree.TheVariants as source_tree
use Rattle.da_lang.specs.ExprMeaning.{Matching, matching}
use Rattle.da_lang.specs.ExprNames.{Part, pattern_part, peer_part, gen_part, source_part, found_in}
use Rattle.da_lang.proofs.MeantAt.{matching-Wild, matching-Name, matching-Int, matching-Text, matching-Truth, matching-Me, matching-Equal, matching-Tuple}
use Rattle.da_lang.proofs.NamesAt.{pattern_part-Wild, pattern_part-Name, pattern_part-Int, pattern_part-Text, pattern_part-Truth, pattern_part-Me, pattern_part-Equal, pattern_part-Tuple, peer_part-From, peer_part-To, gen_part-of}
use Rattle.da_lang.proofs.TreeInduction.{Cases, pattern_induction}
use Rattle.da_lang.proofs.Taken.{taken}
use Rattle.da_limits.specs.Bound.{bound_by, bound, bound_in_all, bound_by_from, bound_by_peer, bound_by_gen, bound_by_all, found}
use Rattle.da_limits.specs.Capped.{capped}

abbrev binds_of : List Part → List (List ℕ)
binds_of parts = flat_map (λ (part : Part). part.binds) parts

-- the variables of a pattern are the same for the rules of names and for its meaning
abbrev SameBinds : PatternTree → Type 0
SameBinds p = (matching p).binds ≡ (pattern_part p).binds

all_same : (ps : List PatternTree) → AllByRecursion SameBinds ps → flat_map (λ (m : Matching). m.binds) (map matching ps) ≡ binds_of (map pattern_part ps)
all_same [] each = refl
all_same (p ∷ ps) each = ap (λ names. names ++ flat_map (λ (m : Matching). m.binds) (map matching ps)) each.0 ∙ ap (λ names. (pattern_part p).binds ++ names) (all_same ps each.1)

abbrev binds : Matching → List (List ℕ)
binds m = m.binds

abbrev part_binds : Part → List (List ℕ)
part_binds part = part.binds

abbrev same_cases : Cases
same_cases = record {
  Of_expr = λ x. Unit {0};
  Of_pattern = SameBinds;
  Of_peer = λ p. Unit {0};
  Of_link = λ link. Unit {0};
  Of_gen = λ g. Unit {0};
  quant = λ each gens cond of_gens of_cond. tt;
  either = λ xs each. tt;
  both = λ xs each. tt;
  negation = λ x of_x. tt;
  comparison = λ o x y first second. tt;
  member = λ x y first second. tt;
  chain = λ x more first each. tt;
  number = λ number. tt;
  text = λ bytes. tt;
  truth = λ truth. tt;
  me = tt;
  name = λ name. tt;
  clock = tt;
  range = λ x y first second. tt;
  tuple = λ xs each. tt;
  set_of = λ xs each. tt;
  comprehension = λ x gens cond of_x of_gens of_cond. tt;
  count = λ x of_x. tt;
  sum = λ x of_x. tt;
  least = λ x other of_x of_other. tt;
  greatest = λ x other of_x of_other. tt;
  any = ap binds matching-Wild ∙ sym (ap part_binds pattern_part-Wild);
  variable = λ name. ap binds (matching-Name name) ∙ sym (ap part_binds (pattern_part-Name name));
  number_pattern = λ number. ap binds (matching-Int number) ∙ sym (ap part_binds (pattern_part-Int number));
  text_pattern = λ bytes. ap binds (matching-Text bytes) ∙ sym (ap part_binds (pattern_part-Text bytes));
  truth_pattern = λ truth. ap binds (matching-Truth truth) ∙ sym (ap part_binds (pattern_part-Truth truth));
  me_pattern = ap binds matching-Me ∙ sym (ap part_binds pattern_part-Me);
  equal = λ x of_x. ap binds (matching-Equal x) ∙ sym (ap part_binds (pattern_part-Equal x));
  tuple_pattern = λ ps each. ap binds (matching-Tuple ps) ∙ all_same ps each ∙ sym (ap part_binds (pattern_part-Tuple ps));
  from = λ p of_p. tt;
  to = λ p of_p. tt;
  link = λ op operand of_operand. tt;
  generator = λ message peer source of_message of_peer. tt;
}

pub same_binds : (p : PatternTree) → (matching p).binds ≡ (pattern_part p).binds
same_binds = pattern_induction same_cases

pub bound-matching : (p : PatternTree) → capped (length (matching p).binds) ≡ bound p
unfolding bound
bound-matching p = ap (λ (names : List (List ℕ)). capped (length names)) (same_binds p)

-- two lists of parts
bound_by-append : (xs ys : List Part) → bound_by (xs ++ ys) ≡ capped (bound_by xs + bound_by ys)
bound_by-append [] ys = omega arith
bound_by-append (x ∷ xs) ys =
    omega (arith, bound_by-append xs ys, length-append x.binds (binds_of (xs ++ ys)), length-append x.binds (binds_of xs))

bound_by-one : (x : Part) → bound_by (x ∷ []) ≡ capped (length x.binds)
bound_by-one x = omega (arith, length-append x.binds [])

bound_by-cons : (x : Part) (xs : List Part) → bound_by (x ∷ xs) ≡ capped (capped (length x.binds) + bound_by xs)
bound_by-cons x xs = omega (arith, length-append x.binds (binds_of xs))

-- patterns
pub bound-Wild : bound pattern.Wild ≡ 0
unfolding bound
bound-Wild = ap (λ (part : Part). capped (length part.binds)) pattern_part-Wild

pub bound-Name : (name : List ℕ) → bound (pattern.Name name) ≡ 1
unfolding bound
bound-Name name = ap (λ (part : Part). capped (length part.binds)) (pattern_part-Name name)

pub bound-Int : (number : ℤ) → bound (pattern.Int number) ≡ 0
unfolding bound
bound-Int number = ap (λ (part : Part). capped (length part.binds)) (pattern_part-Int number)

pub bound-Text : (bytes : List ℕ) → bound (pattern.Text bytes) ≡ 0
unfolding bound
bound-Text bytes = ap (λ (part : Part). capped (length part.binds)) (pattern_part-Text bytes)

pub bound-Truth : (truth : Bool) → bound (pattern.Truth truth) ≡ 0
unfolding bound
bound-Truth truth = ap (λ (part : Part). capped (length part.binds)) (pattern_part-Truth truth)

pub bound-Me : bound pattern.Me ≡ 0
unfolding bound
bound-Me = ap (λ (part : Part). capped (length part.binds)) pattern_part-Me

pub bound-Equal : (x : Expr) → bound (pattern.Equal x) ≡ 0
unfolding bound
bound-Equal x = ap (λ (part : Part). capped (length part.binds)) (pattern_part-Equal x)

pub bound-Tuple : (ps : List PatternTree) → bound (pattern.Tuple ps) ≡ bound_in_all ps
unfolding bound bound_in_all
bound-Tuple ps = ap (λ (part : Part). capped (length part.binds)) (pattern_part-Tuple ps)

pub ruleset pattern_rules = (bound-Wild, bound-Name, bound-Int, bound-Text, bound-Truth, bound-Me, bound-Equal, bound-Tuple)

pub bound_in_all-none : bound_in_all [] ≡ 0
unfolding bound_in_all
bound_in_all-none = refl

pub ruleset patterns_rules = (bound_in_all-none)

pub from-None : bound_by_from None ≡ 0
unfolding bound_by_from
from-None = refl

pub from-Some : (p : PatternTree) → bound_by_from (Some p) ≡ bound p
unfolding bound_by_from
from-Some p = bound-matching p

pub ruleset from_rules = (from-None, from-Some)

-- the pattern of the other process, and generators
pub peer-None : bound_by_peer None ≡ 0
unfolding bound_by_peer
peer-None = refl

pub peer-From : (p : PatternTree) → bound_by_peer (Some (peer.From p)) ≡ bound p
unfolding bound_by_peer bound
peer-From p = bound_by-one (peer_part (peer.From p)) ∙ ap (λ (part : Part). capped (length part.binds)) (peer_part-From p)

pub peer-To : (p : PatternTree) → bound_by_peer (Some (peer.To p)) ≡ bound p
unfolding bound_by_peer bound
peer-To p = bound_by-one (peer_part (peer.To p)) ∙ ap (λ (part : Part). capped (length part.binds)) (peer_part-To p)

pub ruleset peer_rules = (peer-None, peer-From, peer-To)

source_binds : (source : SourceTree) → (source_part source).binds ≡ []
source_binds source_tree.Received = refl
source_binds source_tree.Sent = refl
source_binds (source_tree.Name name) = refl

source-none : (source : SourceTree) → bound_by (source_part source ∷ []) ≡ 0
source-none source = bound_by-one (source_part source) ∙ ap (λ (names : List (List ℕ)). capped (length names)) (source_binds source)

pub gen-of : (g : GenTree) → bound_by_gen g ≡ capped (bound (out-GenTree g).message + bound_by_peer (out-GenTree g).peer)
unfolding bound_by_gen bound bound_by_peer
gen-of g =
    let v = out-GenTree g in
    let message = pattern_part v.message in
    let other = option_to_list (option_map peer_part v.peer) in
    let last = source_part v.source ∷ [] in
    let whole : bound_by_gen g ≡ bound_by (message ∷ (other ++ last)) = ap (λ (part : Part). capped (length part.binds)) (gen_part-of v.message v.peer v.source) in
    let front : bound_by (message ∷ (other ++ last)) ≡ capped (capped (length message.binds) + bound_by (other ++ last)) = bound_by-cons message (other ++ last) in
    let back : bound_by (other ++ last) ≡ bound_by other = omega (arith, bound_by-append other last, source-none v.source) in
    whole ∙ front ∙ ap (λ n. capped (capped (length message.binds) + n)) back

pub ruleset gen_rules = (gen-of)

pub gens-none : bound_by_all [] ≡ 0
unfolding bound_by_all
gens-none = refl

pub ruleset gens_rules = (gens-none)

-- one more of a list
bound_step : {A : Type 0} (f : A → Part) (xs : List A) (i : ℕ) (x : A) → i < length xs → x ≡ get_or xs i x → bound_by (map f (take (i + 1) xs)) ≡ capped (bound_by (map f (take i xs)) + capped (length (f x).binds))
bound_step f xs i x inside here =
    ap (λ ys. bound_by (map f ys)) (taken xs i x inside here) ∙ ap bound_by (map-append f (take i xs) (x ∷ [])) ∙ bound_by-append (map f (take i xs)) (f x ∷ [])
    ∙ ap (λ n. capped (bound_by (map f (take i xs)) + n)) (bound_by-one (f x))

pub pattern_step : (ps : List PatternTree) (i : ℕ) (p : PatternTree) → i < length ps → p ≡ get_or ps i p → bound_in_all (take (i + 1) ps) ≡ capped (bound_in_all (take i ps) + bound p)
unfolding bound_in_all bound
pattern_step ps i p inside here = bound_step pattern_part ps i p inside here

pub gen_step : (gs : List GenTree) (i : ℕ) (g : GenTree) → i < length gs → g ≡ get_or gs i g → bound_by_all (take (i + 1) gs) ≡ capped (bound_by_all (take i gs) + bound_by_gen g)
unfolding bound_by_all bound_by_gen
gen_step gs i g inside here = bound_step gen_part gs i g inside here

flat-map : (gens : List GenTree) → flat_map (λ g. (gen_part g).binds) gens ≡ binds_of (map gen_part gens)
flat-map [] = refl
flat-map (g ∷ gens) = ap (λ names. (gen_part g).binds ++ names) (flat-map gens)

-- conditions: `some` binds the variables of its generators
pub found-some : (gens : List GenTree) (cond : Option Expr) → found (ex.Quant false gens cond) ≡ bound_by_all gens
unfolding found bound_by_all
found-some gens cond = ap (λ v. capped (length (found_in v))) (ex.outs-Quant false gens cond) ∙ ap (λ (names : List (List ℕ)). capped (length names)) (flat-map gens)

pub found-each : (gens : List GenTree) (cond : Option Expr) → found (ex.Quant true gens cond) ≡ 0
unfolding found
found-each gens cond = ap (λ v. capped (length (found_in v))) (ex.outs-Quant true gens cond)

pub found-Or : (xs : List Expr) → found (ex.Or xs) ≡ 0
unfolding found
found-Or xs = ap (λ v. capped (length (found_in v))) (ex.outs-Or xs)

pub found-And : (xs : List Expr) → found (ex.And xs) ≡ 0
unfolding found
found-And xs = ap (λ v. capped (length (found_in v))) (ex.outs-And xs)

pub found-Not : (x : Expr) → found (ex.Not x) ≡ 0
unfolding found
found-Not x = ap (λ v. capped (length (found_in v))) (ex.outs-Not x)

pub found-Cmp : (o : CmpOp) (x y : Expr) → found (ex.Cmp o x y) ≡ 0
unfolding found
found-Cmp o x y = ap (λ v. capped (length (found_in v))) (ex.outs-Cmp o x y)

pub found-Member : (x y : Expr) → found (ex.Member x y) ≡ 0
unfolding found
found-Member x y = ap (λ v. capped (length (found_in v))) (ex.outs-Member x y)

pub found-Chain : (x : Expr) (more : List ChainTree) → found (ex.Chain x more) ≡ 0
unfolding found
found-Chain x more = ap (λ v. capped (length (found_in v))) (ex.outs-Chain x more)

pub found-Int : (number : ℤ) → found (ex.Int number) ≡ 0
unfolding found
found-Int number = ap (λ v. capped (length (found_in v))) (ex.outs-Int number)

pub found-Text : (bytes : List ℕ) → found (ex.Text bytes) ≡ 0
unfolding found
found-Text bytes = ap (λ v. capped (length (found_in v))) (ex.outs-Text bytes)

pub found-Truth : (truth : Bool) → found (ex.Truth truth) ≡ 0
unfolding found
found-Truth truth = ap (λ v. capped (length (found_in v))) (ex.outs-Truth truth)

pub found-Me : found ex.Me ≡ 0
unfolding found
found-Me = ap (λ v. capped (length (found_in v))) ex.outs-Me

pub found-Name : (name : List ℕ) → found (ex.Name name) ≡ 0
unfolding found
found-Name name = ap (λ v. capped (length (found_in v))) (ex.outs-Name name)

pub found-Clock : found ex.Clock ≡ 0
unfolding found
found-Clock = ap (λ v. capped (length (found_in v))) ex.outs-Clock

pub found-Range : (x y : Expr) → found (ex.Range x y) ≡ 0
unfolding found
found-Range x y = ap (λ v. capped (length (found_in v))) (ex.outs-Range x y)

pub found-Tuple : (xs : List Expr) → found (ex.Tuple xs) ≡ 0
unfolding found
found-Tuple xs = ap (λ v. capped (length (found_in v))) (ex.outs-Tuple xs)

pub found-SetOf : (xs : List Expr) → found (ex.SetOf xs) ≡ 0
unfolding found
found-SetOf xs = ap (λ v. capped (length (found_in v))) (ex.outs-SetOf xs)

pub found-Comp : (x : Expr) (gens : List GenTree) (cond : Option Expr) → found (ex.Comp x gens cond) ≡ 0
unfolding found
found-Comp x gens cond = ap (λ v. capped (length (found_in v))) (ex.outs-Comp x gens cond)

pub found-Count : (x : Expr) → found (ex.Count x) ≡ 0
unfolding found
found-Count x = ap (λ v. capped (length (found_in v))) (ex.outs-Count x)

pub found-Sum : (x : Expr) → found (ex.Sum x) ≡ 0
unfolding found
found-Sum x = ap (λ v. capped (length (found_in v))) (ex.outs-Sum x)

pub found-Min : (x other : Expr) → found (ex.Min x other) ≡ 0
unfolding found
found-Min x other = ap (λ v. capped (length (found_in v))) (ex.outs-Min x other)

pub found-Max : (x other : Expr) → found (ex.Max x other) ≡ 0
unfolding found
found-Max x other = ap (λ v. capped (length (found_in v))) (ex.outs-Max x other)

pub ruleset found_rules = (found-some, found-each, found-Or, found-And, found-Not, found-Cmp, found-Member, found-Chain, found-Int, found-Text, found-Truth, found-Me, found-Name, found-Clock, found-Range, found-Tuple, found-SetOf, found-Comp, found-Count, found-Sum, found-Min, found-Max)
