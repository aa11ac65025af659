-- The variables of patterns as the rules of names have them are those that the meaning has.
use Rattle.std.proofs.Common.{◌≡◌, ◌∙◌, ap, sym, refl, ℕ, ℤ, Bool, false, true, if◌then◌else◌, List, [], ◌∷◌, ◌++◌, map, flat_map, append-nil, append_assoc, Option, Some, None}
use Rattle.std.specs.List.{AllByRecursion}
use Rattle.std.specs.Option.{option_map}
use Rattle.std.specs.Prelude.{option_to_list}
use Rattle.std.proofs.lemmas.List.{map-append}
use Rattle.std.proofs.lemmas.List.Concat.{flat_map-cons}
use denote.Bor.{Bor}
use Rattle.da_lang.specs.declared.tree.Expr.{Expr, out-Expr}
use Rattle.da_lang.specs.declared.tree.Expr.TheVariants as ex
use Rattle.da_lang.specs.declared.tree.Expr.TheVariants.{outs-Quant, outs-Or, outs-And, outs-Not, outs-Cmp, outs-Member, outs-Chain, outs-Int, outs-Text, outs-Truth, outs-Me, outs-Name, outs-Clock, outs-Range, outs-Tuple, outs-SetOf, outs-Comp, outs-Count, outs-Sum, outs-Min, outs-Max}
use Rattle.da_lang.specs.declared.tree.Expr.TheOpen.{Expr-F}
use Rattle.da_lang.specs.declared.tree.GenTree.{GenTree, roll-GenTree}
use Rattle.da_lang.specs.declared.tree.ChainTree.{ChainTree}
use Rattle.da_lang.specs.declared.tree.CmpOp.{CmpOp}
use Rattle.da_lang.specs.BodyMeaning.{finds_in}
use Rattle.da_lang.specs.declared.tree.PatternTree.{PatternTree}
use Rattle.da_lang.specs.declared.tree.PatternTree.TheVariants as pattern
use Rattle.da_lang.specs.declared.tree.PeerTree.{PeerTree}
use Rattle.da_lang.specs.declared.tree.PeerTree.TheVariants as peer
use Rattle.da_lang.specs.declared.tree.SourceTree.{SourceTree}
use Rattle.da_lang.specs.declared.tree.SourceTree.TheVariants as source_tree
use Rattle.da_lang.specs.ExprMeaning.{Generator, Matching, Peer, generator, matching, peer_of}
use Rattle.da_lang.specs.ExprNames.{Part, found_in, gen_part, pattern_part, peer_part, source_part}
use Rattle.da_lang.proofs.CondInduction.{Where}
use Rattle.da_lang.proofs.MeantAt.{generator-of, peer_of-From, peer_of-To}
use Rattle.da_lang.proofs.NamesAt.{gen_part-of, pattern_part-Wild, pattern_part-Name, pattern_part-Int, pattern_part-Text, pattern_part-Truth, pattern_part-Me, pattern_part-Equal, pattern_part-Tuple, peer_part-From, peer_part-To}
use Rattle.da_lang.proofs.TreeInduction.{Cases, gen_induction}
use Rattle.da_scope.specs.NamesView.{texts}
use Rattle.da_meaning.proofs.GensAt.{binds-at}
use Rattle.da_meaning.proofs.PatternsAt.{binds-Wild, binds-Name, binds-Int, binds-Text, binds-Truth, binds-Me, binds-Equal, binds-Tuple}

abbrev named : Part → List (List ℕ)
named part = part.binds

abbrev SamePattern : PatternTree → Type 0
SamePattern p = (pattern_part p).binds ≡ (matching p).binds

abbrev SamePeer : PeerTree → Type 0
SamePeer p = (peer_part p).binds ≡ (peer_of p).matching.binds

abbrev SameGen : GenTree → Type 0
SameGen g = (gen_part g).binds ≡ (generator g).binds

same_patterns : (ps : List PatternTree) → AllByRecursion SamePattern ps → flat_map named (map pattern_part ps) ≡ flat_map (λ (m : Matching). m.binds) (map matching ps)
same_patterns [] all = refl
same_patterns (p ∷ ps) all =
    flat_map-cons named (pattern_part p) (map pattern_part ps) ∙ ap (λ names. names ++ flat_map named (map pattern_part ps)) all.0 ∙ ap (λ names. (matching p).binds ++ names) (same_patterns ps all.1)
    ∙ sym (flat_map-cons (λ (m : Matching). m.binds) (matching p) (map matching ps))

two_parts : (a c : Part) → c.binds ≡ [] → flat_map named (a ∷ c ∷ []) ≡ a.binds ++ []
two_parts a c none = flat_map-cons named a (c ∷ []) ∙ ap (λ names. a.binds ++ names) (flat_map-cons named c [] ∙ ap (λ (names : List (List ℕ)). names ++ []) none)

three_parts : (a b c : Part) → c.binds ≡ [] → flat_map named (a ∷ b ∷ c ∷ []) ≡ a.binds ++ b.binds
three_parts a b c none = flat_map-cons named a (b ∷ c ∷ []) ∙ ap (λ names. a.binds ++ names) (two_parts b c none ∙ append-nil b.binds)

source_binds : (s : SourceTree) → (source_part s).binds ≡ []
source_binds source_tree.Received = refl
source_binds source_tree.Sent = refl
source_binds (source_tree.Name name) = refl

same_gen : (message_ : PatternTree) (peer_ : Option PeerTree) (source_ : SourceTree) → SamePattern message_ → Where SamePeer peer_ → SameGen (roll-GenTree (record { message = message_; peer = peer_; source = source_ }))
same_gen m None s pattern other =
    ap named (gen_part-of m None s) ∙ two_parts (pattern_part m) (source_part s) (source_binds s) ∙ ap (λ (names : List (List ℕ)). names ++ []) pattern ∙ sym (ap (λ (g : Generator). g.binds) (generator-of m None s))
same_gen m (Some p) s pattern other =
    ap named (gen_part-of m (Some p) s) ∙ three_parts (pattern_part m) (peer_part p) (source_part s) (source_binds s) ∙ ap (λ names. names ++ (peer_part p).binds) pattern ∙ ap (λ names. (matching m).binds ++ names) other
    ∙ sym (ap (λ (g : Generator). g.binds) (generator-of m (Some p) s))

abbrev cases : Cases
cases = record {
  Of_expr = λ x. Unit {0};
  Of_pattern = SamePattern;
  Of_peer = SamePeer;
  Of_link = λ link. Unit {0};
  Of_gen = SameGen;
  quant = λ each gens cond all where_. tt;
  either = λ xs all. tt;
  both = λ xs all. tt;
  negation = λ x one. tt;
  comparison = λ o x y one two. tt;
  member = λ x y one two. tt;
  chain = λ x more one all. tt;
  number = λ number. tt;
  text = λ bytes. tt;
  truth = λ truth. tt;
  me = tt;
  name = λ name. tt;
  clock = tt;
  range = λ x y one two. tt;
  tuple = λ xs all. tt;
  set_of = λ xs all. tt;
  comprehension = λ x gens cond one all where_. tt;
  count = λ x one. tt;
  sum = λ x one. tt;
  least = λ x y one two. tt;
  greatest = λ x y one two. tt;
  any = ap named pattern_part-Wild ∙ sym binds-Wild;
  variable = λ name. ap named (pattern_part-Name name) ∙ sym (binds-Name name);
  number_pattern = λ number. ap named (pattern_part-Int number) ∙ sym (binds-Int number);
  text_pattern = λ bytes. ap named (pattern_part-Text bytes) ∙ sym (binds-Text bytes);
  truth_pattern = λ truth. ap named (pattern_part-Truth truth) ∙ sym (binds-Truth truth);
  me_pattern = ap named pattern_part-Me ∙ sym binds-Me;
  equal = λ x one. ap named (pattern_part-Equal x) ∙ sym (binds-Equal x);
  tuple_pattern = λ ps all. ap named (pattern_part-Tuple ps) ∙ same_patterns ps all ∙ sym (binds-Tuple ps);
  from = λ p one. ap named (peer_part-From p) ∙ one ∙ sym (ap (λ (q : Peer). q.matching.binds) (peer_of-From p));
  to = λ p one. ap named (peer_part-To p) ∙ one ∙ sym (ap (λ (q : Peer). q.matching.binds) (peer_of-To p));
  link = λ op_ operand_ one. tt;
  generator = same_gen;
}

same_gens : (gens : List GenTree) → flat_map (λ (g : GenTree). (gen_part g).binds) gens ≡ flat_map (λ (g : GenTree). (generator g).binds) gens
same_gens [] = refl
same_gens (g ∷ gens) =
    flat_map-cons (λ (h : GenTree). (gen_part h).binds) g gens ∙ ap (λ names. names ++ flat_map (λ (h : GenTree). (gen_part h).binds) gens) (gen_induction cases g) ∙ ap (λ names. (generator g).binds ++ names) (same_gens gens)
    ∙ sym (flat_map-cons (λ (h : GenTree). (generator h).binds) g gens)

-- the variables that a condition brings
found_quant : (each : Bool) (gens : List GenTree) (cond : Option Expr) → found_in (Expr-F.Quant each gens cond) ≡ (if each then [] else flat_map (λ (g : GenTree). (generator g).binds) gens)
found_quant true gens cond = refl
found_quant false gens cond = same_gens gens

finds_quant : (each : Bool) (gens : List GenTree) (cond : Option Expr) → finds_in (Expr-F.Quant each gens cond) ≡ (if each then false else true)
finds_quant true gens cond = refl
finds_quant false gens cond = refl

pub found-Quant : (each : Bool) (gens : List GenTree) (cond : Option Expr) → found_in (out-Expr (ex.Quant each gens cond)) ≡ (if each then [] else flat_map (λ (g : GenTree). (generator g).binds) gens)
found-Quant each gens cond = ap found_in (outs-Quant each gens cond) ∙ found_quant each gens cond

pub found-Or : (xs : List Expr) → found_in (out-Expr (ex.Or xs)) ≡ []
found-Or xs = ap found_in (outs-Or xs)

pub found-And : (xs : List Expr) → found_in (out-Expr (ex.And xs)) ≡ []
found-And xs = ap found_in (outs-And xs)

pub found-Not : (x : Expr) → found_in (out-Expr (ex.Not x)) ≡ []
found-Not x = ap found_in (outs-Not x)

pub found-Cmp : (o : CmpOp) (x y : Expr) → found_in (out-Expr (ex.Cmp o x y)) ≡ []
found-Cmp o x y = ap found_in (outs-Cmp o x y)

pub found-Member : (x y : Expr) → found_in (out-Expr (ex.Member x y)) ≡ []
found-Member x y = ap found_in (outs-Member x y)

pub found-Chain : (x : Expr) (more : List ChainTree) → found_in (out-Expr (ex.Chain x more)) ≡ []
found-Chain x more = ap found_in (outs-Chain x more)

pub found-Int : (number : ℤ) → found_in (out-Expr (ex.Int number)) ≡ []
found-Int number = ap found_in (outs-Int number)

pub found-Text : (bytes : List ℕ) → found_in (out-Expr (ex.Text bytes)) ≡ []
found-Text bytes = ap found_in (outs-Text bytes)

pub found-Truth : (truth : Bool) → found_in (out-Expr (ex.Truth truth)) ≡ []
found-Truth truth = ap found_in (outs-Truth truth)

pub found-Me : found_in (out-Expr ex.Me) ≡ []
found-Me = ap found_in outs-Me

pub found-Name : (name : List ℕ) → found_in (out-Expr (ex.Name name)) ≡ []
found-Name name = ap found_in (outs-Name name)

pub found-Clock : found_in (out-Expr ex.Clock) ≡ []
found-Clock = ap found_in outs-Clock

pub found-Range : (x y : Expr) → found_in (out-Expr (ex.Range x y)) ≡ []
found-Range x y = ap found_in (outs-Range x y)

pub found-Tuple : (xs : List Expr) → found_in (out-Expr (ex.Tuple xs)) ≡ []
found-Tuple xs = ap found_in (outs-Tuple xs)

pub found-SetOf : (xs : List Expr) → found_in (out-Expr (ex.SetOf xs)) ≡ []
found-SetOf xs = ap found_in (outs-SetOf xs)

pub found-Comp : (x : Expr) (gens : List GenTree) (cond : Option Expr) → found_in (out-Expr (ex.Comp x gens cond)) ≡ []
found-Comp x gens cond = ap found_in (outs-Comp x gens cond)

pub found-Count : (x : Expr) → found_in (out-Expr (ex.Count x)) ≡ []
found-Count x = ap found_in (outs-Count x)

pub found-Sum : (x : Expr) → found_in (out-Expr (ex.Sum x)) ≡ []
found-Sum x = ap found_in (outs-Sum x)

pub found-Min : (x y : Expr) → found_in (out-Expr (ex.Min x y)) ≡ []
found-Min x y = ap found_in (outs-Min x y)

pub found-Max : (x y : Expr) → found_in (out-Expr (ex.Max x y)) ≡ []
found-Max x y = ap found_in (outs-Max x y)

pub ruleset found_at = (found-Quant, found-Or, found-And, found-Not, found-Cmp, found-Member, found-Chain, found-Int, found-Text, found-Truth, found-Me, found-Name, found-Clock, found-Range, found-Tuple, found-SetOf, found-Comp, found-Count, found-Sum, found-Min, found-Max)

pub finds-Quant : (each : Bool) (gens : List GenTree) (cond : Option Expr) → finds_in (out-Expr (ex.Quant each gens cond)) ≡ (if each then false else true)
finds-Quant each gens cond = ap finds_in (outs-Quant each gens cond) ∙ finds_quant each gens cond

pub finds-Or : (xs : List Expr) → finds_in (out-Expr (ex.Or xs)) ≡ false
finds-Or xs = ap finds_in (outs-Or xs)

pub finds-And : (xs : List Expr) → finds_in (out-Expr (ex.And xs)) ≡ false
finds-And xs = ap finds_in (outs-And xs)

pub finds-Not : (x : Expr) → finds_in (out-Expr (ex.Not x)) ≡ false
finds-Not x = ap finds_in (outs-Not x)

pub finds-Cmp : (o : CmpOp) (x y : Expr) → finds_in (out-Expr (ex.Cmp o x y)) ≡ false
finds-Cmp o x y = ap finds_in (outs-Cmp o x y)

pub finds-Member : (x y : Expr) → finds_in (out-Expr (ex.Member x y)) ≡ false
finds-Member x y = ap finds_in (outs-Member x y)

pub finds-Chain : (x : Expr) (more : List ChainTree) → finds_in (out-Expr (ex.Chain x more)) ≡ false
finds-Chain x more = ap finds_in (outs-Chain x more)

pub finds-Int : (number : ℤ) → finds_in (out-Expr (ex.Int number)) ≡ false
finds-Int number = ap finds_in (outs-Int number)

pub finds-Text : (bytes : List ℕ) → finds_in (out-Expr (ex.Text bytes)) ≡ false
finds-Text bytes = ap finds_in (outs-Text bytes)

pub finds-Truth : (truth : Bool) → finds_in (out-Expr (ex.Truth truth)) ≡ false
finds-Truth truth = ap finds_in (outs-Truth truth)

pub finds-Me : finds_in (out-Expr ex.Me) ≡ false
finds-Me = ap finds_in outs-Me

pub finds-Name : (name : List ℕ) → finds_in (out-Expr (ex.Name name)) ≡ false
finds-Name name = ap finds_in (outs-Name name)

pub finds-Clock : finds_in (out-Expr ex.Clock) ≡ false
finds-Clock = ap finds_in outs-Clock

pub finds-Range : (x y : Expr) → finds_in (out-Expr (ex.Range x y)) ≡ false
finds-Range x y = ap finds_in (outs-Range x y)

pub finds-Tuple : (xs : List Expr) → finds_in (out-Expr (ex.Tuple xs)) ≡ false
finds-Tuple xs = ap finds_in (outs-Tuple xs)

pub finds-SetOf : (xs : List Expr) → finds_in (out-Expr (ex.SetOf xs)) ≡ false
finds-SetOf xs = ap finds_in (outs-SetOf xs)

pub finds-Comp : (x : Expr) (gens : List GenTree) (cond : Option Expr) → finds_in (out-Expr (ex.Comp x gens cond)) ≡ false
finds-Comp x gens cond = ap finds_in (outs-Comp x gens cond)

pub finds-Count : (x : Expr) → finds_in (out-Expr (ex.Count x)) ≡ false
finds-Count x = ap finds_in (outs-Count x)

pub finds-Sum : (x : Expr) → finds_in (out-Expr (ex.Sum x)) ≡ false
finds-Sum x = ap finds_in (outs-Sum x)

pub finds-Min : (x y : Expr) → finds_in (out-Expr (ex.Min x y)) ≡ false
finds-Min x y = ap finds_in (outs-Min x y)

pub finds-Max : (x y : Expr) → finds_in (out-Expr (ex.Max x y)) ≡ false
finds-Max x y = ap finds_in (outs-Max x y)

pub ruleset finds_at = (finds-Quant, finds-Or, finds-And, finds-Not, finds-Cmp, finds-Member, finds-Chain, finds-Int, finds-Text, finds-Truth, finds-Me, finds-Name, finds-Clock, finds-Range, finds-Tuple, finds-SetOf, finds-Comp, finds-Count, finds-Sum, finds-Min, finds-Max)

pub texts_push : (names : List (Bor (List ℕ))) (name : Bor (List ℕ)) → texts (names ++ name ∷ []) ≡ texts names ++ name.now ∷ []
texts_push names name = map-append (λ (n : Bor (List ℕ)). n.now) names (name ∷ [])

-- after other names
behind : (names : List (List ℕ)) (p : PatternTree) (binds : List (List ℕ)) → (matching p).binds ≡ binds → names ++ (matching p).binds ≡ names ++ binds
behind names p binds is = ap (λ ns. names ++ ns) is

pub more-Wild : (names : List (List ℕ)) → names ++ (matching pattern.Wild).binds ≡ names
more-Wild names = behind names pattern.Wild [] binds-Wild ∙ append-nil names

pub more-Name : (names : List (List ℕ)) (name : List ℕ) → names ++ (matching (pattern.Name name)).binds ≡ names ++ name ∷ []
more-Name names name = behind names (pattern.Name name) (name ∷ []) (binds-Name name)

pub more-Int : (names : List (List ℕ)) (number : ℤ) → names ++ (matching (pattern.Int number)).binds ≡ names
more-Int names number = behind names (pattern.Int number) [] (binds-Int number) ∙ append-nil names

pub more-Text : (names : List (List ℕ)) (bytes : List ℕ) → names ++ (matching (pattern.Text bytes)).binds ≡ names
more-Text names bytes = behind names (pattern.Text bytes) [] (binds-Text bytes) ∙ append-nil names

pub more-Truth : (names : List (List ℕ)) (truth : Bool) → names ++ (matching (pattern.Truth truth)).binds ≡ names
more-Truth names truth = behind names (pattern.Truth truth) [] (binds-Truth truth) ∙ append-nil names

pub more-Me : (names : List (List ℕ)) → names ++ (matching pattern.Me).binds ≡ names
more-Me names = behind names pattern.Me [] binds-Me ∙ append-nil names

pub more-Equal : (names : List (List ℕ)) (x : Expr) → names ++ (matching (pattern.Equal x)).binds ≡ names
more-Equal names x = behind names (pattern.Equal x) [] (binds-Equal x) ∙ append-nil names

pub ruleset variables_at = (texts_push, more-Wild, more-Name, more-Int, more-Text, more-Truth, more-Me, more-Equal, binds-Tuple)

pub ruleset generator_at = (binds-at, append_assoc)
