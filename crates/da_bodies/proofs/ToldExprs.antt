-- What is reported of an expression, a pattern and a generator, by what is reported of their parts.
use Rattle.std.specs.Prelude.{◌≡◌, refl, ℕ, ◌+◌, ◌-◌, length, drop, ℤ, Bool, List, [], ◌∷◌, ◌++◌, map, flat_map, Option, Some, None, option_map, option_to_list}
use Rattle.std.specs.List.{AllByRecursion, fold}
use Rattle.std.proofs.Common.{◌∙◌, sym, ap, arith, append_assoc, length-append}
use Rattle.std.proofs.Math.Seq.{drop-append_seam}
use Rattle.std.proofs.lemmas.List.{map-append}
use Rattle.std.proofs.lemmas.List.Sums.{fold-append}
use Rattle.da_lang.specs.declared.refusal.ScopeKind.TheVariants as refusal
use Rattle.da_lang.specs.declared.tree.ChainTree.{ChainTree, out-ChainTree, roll-out-ChainTree}
use Rattle.da_lang.specs.declared.tree.CmpOp.{CmpOp}
use Rattle.da_lang.specs.declared.tree.Expr.{Expr}
use Rattle.da_lang.specs.declared.tree.Expr.TheVariants as ex
use Rattle.da_lang.specs.declared.tree.GenTree.{GenTree, out-GenTree, roll-out-GenTree}
use Rattle.da_lang.specs.declared.tree.PatternTree.{PatternTree}
use Rattle.da_lang.specs.declared.tree.PatternTree.TheVariants as pattern
use Rattle.da_lang.specs.declared.tree.PeerTree.{PeerTree}
use Rattle.da_lang.specs.declared.tree.PeerTree.TheVariants as peer
use Rattle.da_lang.specs.declared.tree.SourceTree.{SourceTree}
use Rattle.da_lang.specs.declared.tree.SourceTree.TheVariants as source_tree
use Rattle.da_lang.specs.ExprNames.{Role, Local, QueryVariable, Part, in_order, inside, asked, together, comprehension, aggregate, unless, used, used_as_slot, taken, source_part, names_of, pattern_part, peer_part, chain_part, gen_part}
use Rattle.da_lang.specs.Scopes.{Scope, look}
use Rattle.da_lang.proofs.NamesAt as at
use Rattle.da_bodies.specs.Telling.{Refusal}
use Rattle.da_bodies.specs.Told.{entered_each, brought_each, after_part_of, behind_all, told_kinds, told_part, told_parts, told_all, told_expr, told_argument, told_link}
use Rattle.da_bodies.proofs.PartLaws.{Steady, all_append, all_map, all_of, plain_steady, expr_plain, pattern_steady, peer_steady, gen_steady, steady_source}
use Rattle.da_bodies.proofs.SameLook.{brought_each-nil, brought_each-append}
use Rattle.da_bodies.proofs.ToldParts.{told_kinds-nil, told_kinds-append, told_parts-nil, told_parts-cons, told_parts-one, told_all-nil, told_all-cons, told_all-one, told_all-snoc, behind_all-nil, behind_all-cons, behind_all-snoc, told_all-exprs}

module _ (line : ℕ) (scope : Scope Role) (found : Option Refusal) where
  told_parts-exprs : (role : Role) (xs : List Expr) → told_parts line role scope found (map names_of xs) ≡ fold (told_expr line scope) found xs
  unfolding told_all
  told_parts-exprs role xs = told_all-exprs line role scope found xs

  told_inside : (x : Expr) (ps : List Part) → names_of x ≡ inside ps → told_expr line scope found x ≡ told_parts line Local scope found ps
  unfolding told_expr told_parts
  told_inside x ps is = ap (λ (p : Part). told_kinds line found (p.kinds Local scope)) is

  told_asked : (x : Expr) (ps : List Part) → names_of x ≡ asked ps → told_expr line scope found x ≡ told_parts line QueryVariable scope found ps
  unfolding told_expr told_parts
  told_asked x ps is = ap (λ (p : Part). told_kinds line found (p.kinds Local scope)) is

  told_comprehension : (x : Expr) (ps : List Part) → names_of x ≡ comprehension ps → told_expr line scope found x ≡ told_parts line QueryVariable scope found ps
  unfolding told_expr told_parts
  told_comprehension x ps is = ap (λ (p : Part). told_kinds line found (p.kinds Local scope)) is

  told_nothing : (x : Expr) → names_of x ≡ inside [] → told_expr line scope found x ≡ found
  told_nothing x is = told_inside x [] is ∙ told_parts-nil line Local scope found

  told_list : (x : Expr) (xs : List Expr) → names_of x ≡ inside (map names_of xs) → told_expr line scope found x ≡ fold (told_expr line scope) found xs
  told_list x xs is = told_inside x (map names_of xs) is ∙ told_parts-exprs Local xs

  pub told_expr-Or : (xs : List Expr) → told_expr line scope found (ex.Or xs) ≡ fold (told_expr line scope) found xs
  told_expr-Or xs = told_list (ex.Or xs) xs (at.names_of-Or xs)

  pub told_expr-And : (xs : List Expr) → told_expr line scope found (ex.And xs) ≡ fold (told_expr line scope) found xs
  told_expr-And xs = told_list (ex.And xs) xs (at.names_of-And xs)

  pub told_expr-Not : (x : Expr) → told_expr line scope found (ex.Not x) ≡ told_expr line scope found x
  told_expr-Not x = told_list (ex.Not x) (x ∷ []) (at.names_of-Not x)

  pub told_expr-Cmp : (o : CmpOp) (x y : Expr) → told_expr line scope found (ex.Cmp o x y) ≡ told_expr line scope (told_expr line scope found x) y
  told_expr-Cmp o x y = told_list (ex.Cmp o x y) (x ∷ y ∷ []) (at.names_of-Cmp o x y)

  pub told_expr-Member : (x y : Expr) → told_expr line scope found (ex.Member x y) ≡ told_expr line scope (told_expr line scope found x) y
  told_expr-Member x y = told_list (ex.Member x y) (x ∷ y ∷ []) (at.names_of-Member x y)

  pub told_expr-Range : (x y : Expr) → told_expr line scope found (ex.Range x y) ≡ told_expr line scope (told_expr line scope found x) y
  told_expr-Range x y = told_list (ex.Range x y) (x ∷ y ∷ []) (at.names_of-Range x y)

  pub told_expr-Tuple : (xs : List Expr) → told_expr line scope found (ex.Tuple xs) ≡ fold (told_expr line scope) found xs
  told_expr-Tuple xs = told_list (ex.Tuple xs) xs (at.names_of-Tuple xs)

  pub told_expr-SetOf : (xs : List Expr) → told_expr line scope found (ex.SetOf xs) ≡ fold (told_expr line scope) found xs
  told_expr-SetOf xs = told_list (ex.SetOf xs) xs (at.names_of-SetOf xs)

  pub told_expr-Int : (n : ℤ) → told_expr line scope found (ex.Int n) ≡ found
  told_expr-Int n = told_nothing (ex.Int n) (at.names_of-Int n)

  pub told_expr-Text : (bytes : List ℕ) → told_expr line scope found (ex.Text bytes) ≡ found
  told_expr-Text bytes = told_nothing (ex.Text bytes) (at.names_of-Text bytes)

  pub told_expr-Truth : (b : Bool) → told_expr line scope found (ex.Truth b) ≡ found
  told_expr-Truth b = told_nothing (ex.Truth b) (at.names_of-Truth b)

  pub told_expr-Me : told_expr line scope found ex.Me ≡ found
  told_expr-Me = told_nothing ex.Me at.names_of-Me

  pub told_expr-Clock : told_expr line scope found ex.Clock ≡ found
  told_expr-Clock = told_nothing ex.Clock at.names_of-Clock

  pub told_expr-Name : (name : List ℕ) → told_expr line scope found (ex.Name name) ≡ told_kinds line found (used (look scope name))
  unfolding told_expr
  told_expr-Name name = ap (λ (p : Part). told_kinds line found (p.kinds Local scope)) (at.names_of-Name name)

-- a chain
link_operand : (c : ChainTree) → chain_part c ≡ names_of (out-ChainTree c).operand
link_operand c = ap chain_part (sym (roll-out-ChainTree c)) ∙ at.chain_part-of (out-ChainTree c).op (out-ChainTree c).operand

link_operands : (more : List ChainTree) → map chain_part more ≡ map names_of (map (λ c. (out-ChainTree c).operand) more)
link_operands [] = refl
link_operands (c ∷ more) = ap (λ (p : Part). p ∷ map chain_part more) (link_operand c) ∙ ap (λ (ps : List Part). names_of (out-ChainTree c).operand ∷ ps) (link_operands more)

fold_links : (line : ℕ) (scope : Scope Role) (found : Option Refusal) (more : List ChainTree) → fold (told_expr line scope) found (map (λ c. (out-ChainTree c).operand) more) ≡ fold (told_link line scope) found more
unfolding told_link
fold_links line scope found [] = refl
fold_links line scope found (c ∷ more) = fold_links line scope (told_expr line scope found (out-ChainTree c).operand) more

pub told_expr-Chain : (line : ℕ) (scope : Scope Role) (found : Option Refusal) (x : Expr) (more : List ChainTree) → told_expr line scope found (ex.Chain x more) ≡ fold (told_link line scope) (told_expr line scope found x) more
told_expr-Chain line scope found x more =
    told_list line scope found (ex.Chain x more) (x ∷ map (λ c. (out-ChainTree c).operand) more) (at.names_of-Chain x more ∙ ap (λ (ps : List Part). inside (names_of x ∷ ps)) (link_operands more))
    ∙ fold_links line scope (told_expr line scope found x) more

-- queries
all_exprs : (xs : List Expr) → AllByRecursion Steady (map names_of xs)
all_exprs xs = all_map Steady names_of xs (all_of (λ x. Steady (names_of x)) (λ x. plain_steady (names_of x) (expr_plain x)) xs)

all_gens : (gens : List GenTree) (xs : List Expr) → AllByRecursion Steady (map gen_part gens ++ map names_of xs)
all_gens gens xs = all_append Steady (map gen_part gens) (map names_of xs) (all_map Steady gen_part gens (all_of (λ g. Steady (gen_part g)) gen_steady gens)) (all_exprs xs)

gens_then : (line : ℕ) (role : Role) (scope : Scope Role) (found : Option Refusal) (gens : List GenTree) (xs : List Expr) → told_parts line role scope found (map gen_part gens ++ map names_of xs) ≡ fold (told_expr line (behind_all gen_part role scope gens)) (told_all gen_part line role scope found gens) xs
gens_then line role scope found [] xs =
    told_parts-exprs line scope found role xs
    ∙ ap (λ s. fold (told_expr line s) found xs) (sym (behind_all-nil gen_part gen_steady role scope))
    ∙ ap (λ f. fold (told_expr line (behind_all gen_part role scope [])) f xs) (sym (told_all-nil gen_part gen_steady line role scope found))
gens_then line role scope found (g ∷ gens) xs =
    told_parts-cons line role scope found (gen_part g) (map gen_part gens ++ map names_of xs) (all_gens gens xs)
    ∙ gens_then line role (after_part_of role scope (gen_part g)) (told_part line role scope found (gen_part g)) gens xs
    ∙ ap (λ s. fold (told_expr line s) (told_all gen_part line role (after_part_of role scope (gen_part g)) (told_part line role scope found (gen_part g)) gens) xs) (sym (behind_all-cons gen_part gen_steady role scope g gens))
    ∙ ap (λ f. fold (told_expr line (behind_all gen_part role scope (g ∷ gens))) f xs) (sym (told_all-cons gen_part gen_steady line role scope found g gens))

listed : (cond : Option Expr) → option_to_list (option_map names_of cond) ≡ map names_of (option_to_list cond)
listed None = refl
listed (Some x) = refl

pub told_expr-Quant : (line : ℕ) (scope : Scope Role) (found : Option Refusal) (each : Bool) (gens : List GenTree) (cond : Option Expr) → told_expr line scope found (ex.Quant each gens cond) ≡ fold (told_expr line (behind_all gen_part QueryVariable scope gens)) (told_all gen_part line QueryVariable scope found gens) (option_to_list cond)
told_expr-Quant line scope found each gens cond =
    told_asked line scope found (ex.Quant each gens cond) (map gen_part gens ++ option_to_list (option_map names_of cond)) (at.names_of-Quant each gens cond)
    ∙ ap (λ ps. told_parts line QueryVariable scope found (map gen_part gens ++ ps)) (listed cond)
    ∙ gens_then line QueryVariable scope found gens (option_to_list cond)

comp_parts : (gens : List GenTree) (cond : Option Expr) (term : Expr) → map gen_part gens ++ option_to_list (option_map names_of cond) ++ names_of term ∷ [] ≡ map gen_part gens ++ map names_of (option_to_list cond ++ term ∷ [])
comp_parts gens cond term =
    append_assoc (map gen_part gens) (option_to_list (option_map names_of cond)) (names_of term ∷ [])
    ∙ ap (λ ps. map gen_part gens ++ (ps ++ names_of term ∷ [])) (listed cond)
    ∙ ap (λ ps. map gen_part gens ++ ps) (sym (map-append names_of (option_to_list cond) (term ∷ [])))

pub told_expr-Comp : (line : ℕ) (scope : Scope Role) (found : Option Refusal) (term : Expr) (gens : List GenTree) (cond : Option Expr) → told_expr line scope found (ex.Comp term gens cond) ≡ told_expr line (behind_all gen_part QueryVariable scope gens) (fold (told_expr line (behind_all gen_part QueryVariable scope gens)) (told_all gen_part line QueryVariable scope found gens) (option_to_list cond)) term
told_expr-Comp line scope found term gens cond =
    told_comprehension line scope found (ex.Comp term gens cond) (map gen_part gens ++ option_to_list (option_map names_of cond) ++ names_of term ∷ []) (at.names_of-Comp term gens cond)
    ∙ ap (told_parts line QueryVariable scope found) (comp_parts gens cond term)
    ∙ gens_then line QueryVariable scope found gens (option_to_list cond ++ term ∷ [])
    ∙ fold-append (told_expr line (behind_all gen_part QueryVariable scope gens)) (told_all gen_part line QueryVariable scope found gens) (option_to_list cond) (term ∷ [])

-- aggregates
told_aggregate : (line : ℕ) (scope : Scope Role) (found : Option Refusal) (x y : Expr) (more : List Expr) → names_of x ≡ aggregate (names_of y) (map names_of more) → told_expr line scope found x ≡ fold (told_expr line scope) (told_argument line scope found y) more
unfolding told_expr told_argument told_parts
told_aggregate line scope found x y more is =
    ap (λ (p : Part). told_kinds line found (p.kinds Local scope)) is
    ∙ told_kinds-append line found (unless ((names_of y).ranges scope) refusal.Unknown) (in_order (names_of y ∷ map names_of more) Local scope)
    ∙ told_parts-exprs line scope (told_kinds line found (unless ((names_of y).ranges scope) refusal.Unknown)) Local (y ∷ more)

pub told_expr-Count : (line : ℕ) (scope : Scope Role) (found : Option Refusal) (x : Expr) → told_expr line scope found (ex.Count x) ≡ told_argument line scope found x
told_expr-Count line scope found x = told_aggregate line scope found (ex.Count x) x [] (at.names_of-Count x)

pub told_expr-Sum : (line : ℕ) (scope : Scope Role) (found : Option Refusal) (x : Expr) → told_expr line scope found (ex.Sum x) ≡ told_argument line scope found x
told_expr-Sum line scope found x = told_aggregate line scope found (ex.Sum x) x [] (at.names_of-Sum x)

pub told_expr-Min : (line : ℕ) (scope : Scope Role) (found : Option Refusal) (x other : Expr) → told_expr line scope found (ex.Min x other) ≡ told_expr line scope (told_argument line scope found x) other
told_expr-Min line scope found x other = told_aggregate line scope found (ex.Min x other) x (other ∷ []) (at.names_of-Min x other)

pub told_expr-Max : (line : ℕ) (scope : Scope Role) (found : Option Refusal) (x other : Expr) → told_expr line scope found (ex.Max x other) ≡ told_expr line scope (told_argument line scope found x) other
told_expr-Max line scope found x other = told_aggregate line scope found (ex.Max x other) x (other ∷ []) (at.names_of-Max x other)

pub ruleset expr_rules = (told_expr-Quant, told_expr-Or, told_expr-And, told_expr-Not, told_expr-Cmp, told_expr-Member, told_expr-Chain, told_expr-Int, told_expr-Text, told_expr-Truth, told_expr-Me, told_expr-Name, told_expr-Clock, told_expr-Range, told_expr-Tuple, told_expr-SetOf, told_expr-Comp, told_expr-Count, told_expr-Sum, told_expr-Min, told_expr-Max)

-- patterns
module _ (line : ℕ) (role : Role) (scope : Scope Role) (found : Option Refusal) where
  part_told : (p q : Part) → p ≡ q → told_part line role scope found p ≡ told_part line role scope found q
  part_told p q is = ap (told_part line role scope found) is

  told_empty : (p : Part) → p ≡ inside [] → told_part line role scope found p ≡ found
  unfolding told_part
  told_empty p is = ap (λ (q : Part). told_kinds line found (q.kinds role scope)) is ∙ told_kinds-nil line found

  pub told_pattern-Wild : told_part line role scope found (pattern_part pattern.Wild) ≡ found
  told_pattern-Wild = told_empty (pattern_part pattern.Wild) at.pattern_part-Wild

  pub told_pattern-Int : (n : ℤ) → told_part line role scope found (pattern_part (pattern.Int n)) ≡ found
  told_pattern-Int n = told_empty (pattern_part (pattern.Int n)) (at.pattern_part-Int n)

  pub told_pattern-Text : (bytes : List ℕ) → told_part line role scope found (pattern_part (pattern.Text bytes)) ≡ found
  told_pattern-Text bytes = told_empty (pattern_part (pattern.Text bytes)) (at.pattern_part-Text bytes)

  pub told_pattern-Truth : (b : Bool) → told_part line role scope found (pattern_part (pattern.Truth b)) ≡ found
  told_pattern-Truth b = told_empty (pattern_part (pattern.Truth b)) (at.pattern_part-Truth b)

  pub told_pattern-Me : told_part line role scope found (pattern_part pattern.Me) ≡ found
  told_pattern-Me = told_empty (pattern_part pattern.Me) at.pattern_part-Me

  pub told_pattern-Name : (name : List ℕ) → told_part line role scope found (pattern_part (pattern.Name name)) ≡ told_kinds line found (taken (look scope name))
  unfolding told_part
  told_pattern-Name name = ap (λ (q : Part). told_kinds line found (q.kinds role scope)) (at.pattern_part-Name name)

  pub told_pattern-Equal : (x : Expr) → told_part line role scope found (pattern_part (pattern.Equal x)) ≡ told_expr line scope found x
  unfolding told_part told_parts
  told_pattern-Equal x = ap (λ (q : Part). told_kinds line found (q.kinds role scope)) (at.pattern_part-Equal x) ∙ told_parts-exprs line scope found role (x ∷ [])

  pub told_pattern-Tuple : (ps : List PatternTree) → told_part line role scope found (pattern_part (pattern.Tuple ps)) ≡ told_all pattern_part line role scope found ps
  unfolding told_part told_parts told_all
  told_pattern-Tuple ps = ap (λ (q : Part). told_kinds line found (q.kinds role scope)) (at.pattern_part-Tuple ps)

  pub told_peer-From : (p : PatternTree) → told_part line role scope found (peer_part (peer.From p)) ≡ told_part line role scope found (pattern_part p)
  told_peer-From p = part_told (peer_part (peer.From p)) (pattern_part p) (at.peer_part-From p)

  pub told_peer-To : (p : PatternTree) → told_part line role scope found (peer_part (peer.To p)) ≡ told_part line role scope found (pattern_part p)
  told_peer-To p = part_told (peer_part (peer.To p)) (pattern_part p) (at.peer_part-To p)

  pub told_source-Received : told_part line role scope found (source_part source_tree.Received) ≡ found
  told_source-Received = told_empty (source_part source_tree.Received) refl

  pub told_source-Sent : told_part line role scope found (source_part source_tree.Sent) ≡ found
  told_source-Sent = told_empty (source_part source_tree.Sent) refl

  pub told_source-Name : (name : List ℕ) → told_part line role scope found (source_part (source_tree.Name name)) ≡ told_kinds line found (used_as_slot (look scope name))
  unfolding told_part
  told_source-Name name = refl

binds_of : (ps : List PatternTree) → flat_map (λ (part : Part). part.binds) (map pattern_part ps) ≡ flat_map (λ p. (pattern_part p).binds) ps
binds_of [] = refl
binds_of (p ∷ ps) = ap (λ ns. (pattern_part p).binds ++ ns) (binds_of ps)

module _ (role : Role) (scope : Scope Role) where
  behind_is : (p : Part) (ns : List (List ℕ)) → p.binds ≡ ns → after_part_of role scope p ≡ brought_each role ns scope
  unfolding after_part_of
  behind_is p ns is = ap (λ b. brought_each role b scope) is

  after_nothing : (p : Part) → p.binds ≡ [] → after_part_of role scope p ≡ scope
  after_nothing p is = behind_is p [] is ∙ brought_each-nil role scope

  pub after_pattern-Wild : after_part_of role scope (pattern_part pattern.Wild) ≡ scope
  after_pattern-Wild = after_nothing (pattern_part pattern.Wild) (ap (λ (p : Part). p.binds) at.pattern_part-Wild)

  pub after_pattern-Int : (n : ℤ) → after_part_of role scope (pattern_part (pattern.Int n)) ≡ scope
  after_pattern-Int n = after_nothing (pattern_part (pattern.Int n)) (ap (λ (p : Part). p.binds) (at.pattern_part-Int n))

  pub after_pattern-Text : (bytes : List ℕ) → after_part_of role scope (pattern_part (pattern.Text bytes)) ≡ scope
  after_pattern-Text bytes = after_nothing (pattern_part (pattern.Text bytes)) (ap (λ (p : Part). p.binds) (at.pattern_part-Text bytes))

  pub after_pattern-Truth : (b : Bool) → after_part_of role scope (pattern_part (pattern.Truth b)) ≡ scope
  after_pattern-Truth b = after_nothing (pattern_part (pattern.Truth b)) (ap (λ (p : Part). p.binds) (at.pattern_part-Truth b))

  pub after_pattern-Me : after_part_of role scope (pattern_part pattern.Me) ≡ scope
  after_pattern-Me = after_nothing (pattern_part pattern.Me) (ap (λ (p : Part). p.binds) at.pattern_part-Me)

  pub after_pattern-Equal : (x : Expr) → after_part_of role scope (pattern_part (pattern.Equal x)) ≡ scope
  after_pattern-Equal x = after_nothing (pattern_part (pattern.Equal x)) (ap (λ (p : Part). p.binds) (at.pattern_part-Equal x))

  pub after_pattern-Tuple : (ps : List PatternTree) → after_part_of role scope (pattern_part (pattern.Tuple ps)) ≡ behind_all pattern_part role scope ps
  unfolding behind_all
  after_pattern-Tuple ps = behind_is (pattern_part (pattern.Tuple ps)) (flat_map (λ p. (pattern_part p).binds) ps) (ap (λ (p : Part). p.binds) (at.pattern_part-Tuple ps) ∙ binds_of ps)

  pub after_peer-From : (p : PatternTree) → after_part_of role scope (peer_part (peer.From p)) ≡ after_part_of role scope (pattern_part p)
  after_peer-From p = ap (after_part_of role scope) (at.peer_part-From p)

  pub after_peer-To : (p : PatternTree) → after_part_of role scope (peer_part (peer.To p)) ≡ after_part_of role scope (pattern_part p)
  after_peer-To p = ap (after_part_of role scope) (at.peer_part-To p)

pub after_pattern-Name : (scope : Scope Role) (name : List ℕ) → after_part_of QueryVariable scope (pattern_part (pattern.Name name)) ≡ (name, QueryVariable) ∷ scope
after_pattern-Name scope name = behind_is QueryVariable scope (pattern_part (pattern.Name name)) (name ∷ []) (ap (λ (p : Part). p.binds) (at.pattern_part-Name name))

pub ruleset pattern_rules = (told_pattern-Wild, told_pattern-Int, told_pattern-Text, told_pattern-Truth, told_pattern-Me, told_pattern-Name, told_pattern-Equal, told_pattern-Tuple, after_pattern-Wild, after_pattern-Int, after_pattern-Text, after_pattern-Truth, after_pattern-Me, after_pattern-Name, after_pattern-Equal, after_pattern-Tuple)

-- generators
gen_parts : PatternTree → Option PeerTree → SourceTree → List Part
gen_parts message other source = pattern_part message ∷ option_to_list (option_map peer_part other) ++ source_part source ∷ []

gen_at : (g : GenTree) → gen_part g ≡ together (gen_parts (out-GenTree g).message (out-GenTree g).peer (out-GenTree g).source)
unfolding gen_parts
gen_at g = ap gen_part (sym (roll-out-GenTree g)) ∙ at.gen_part-of (out-GenTree g).message (out-GenTree g).peer (out-GenTree g).source

module _ (line : ℕ) (role : Role) (scope : Scope Role) (found : Option Refusal) where
  told_gen_parts : (message : PatternTree) (other : Option PeerTree) (source : SourceTree) → told_parts line role scope found (gen_parts message other source) ≡ told_part line role (behind_all peer_part role (after_part_of role scope (pattern_part message)) (option_to_list other)) (told_all peer_part line role (after_part_of role scope (pattern_part message)) (told_part line role scope found (pattern_part message)) (option_to_list other)) (source_part source)
  unfolding gen_parts
  told_gen_parts message None source =
      let s = after_part_of role scope (pattern_part message) in
      let f = told_part line role scope found (pattern_part message) in
      told_parts-cons line role scope found (pattern_part message) (source_part source ∷ []) (steady_source source, tt)
      ∙ told_parts-one line role s f (source_part source)
      ∙ ap (λ t. told_part line role t f (source_part source)) (sym (behind_all-nil peer_part peer_steady role s))
      ∙ ap (λ u. told_part line role (behind_all peer_part role s []) u (source_part source)) (sym (told_all-nil peer_part peer_steady line role s f))
  told_gen_parts message (Some p) source =
      let s = after_part_of role scope (pattern_part message) in
      let f = told_part line role scope found (pattern_part message) in
      told_parts-cons line role scope found (pattern_part message) (peer_part p ∷ source_part source ∷ []) (peer_steady p, (steady_source source, tt))
      ∙ told_parts-cons line role s f (peer_part p) (source_part source ∷ []) (steady_source source, tt)
      ∙ told_parts-one line role (after_part_of role s (peer_part p)) (told_part line role s f (peer_part p)) (source_part source)
      ∙ ap (λ t. told_part line role t (told_part line role s f (peer_part p)) (source_part source)) (sym (behind_all-cons peer_part peer_steady role s p [] ∙ behind_all-nil peer_part peer_steady role (after_part_of role s (peer_part p))))
      ∙ ap (λ u. told_part line role (behind_all peer_part role s (p ∷ [])) u (source_part source)) (sym (told_all-one peer_part peer_steady line role s f p))

  pub told_gen : (g : GenTree) → told_part line role scope found (gen_part g) ≡ told_part line role (behind_all peer_part role (after_part_of role scope (pattern_part (out-GenTree g).message)) (option_to_list (out-GenTree g).peer)) (told_all peer_part line role (after_part_of role scope (pattern_part (out-GenTree g).message)) (told_part line role scope found (pattern_part (out-GenTree g).message)) (option_to_list (out-GenTree g).peer)) (source_part (out-GenTree g).source)
  unfolding told_part told_parts
  told_gen g = ap (λ (q : Part). told_kinds line found (q.kinds role scope)) (gen_at g) ∙ told_gen_parts (out-GenTree g).message (out-GenTree g).peer (out-GenTree g).source

no_source_binds : (source : SourceTree) → (source_part source).binds ≡ []
no_source_binds source_tree.Received = refl
no_source_binds source_tree.Sent = refl
no_source_binds (source_tree.Name name) = refl

gen_binds : (message : PatternTree) (other : Option PeerTree) (source : SourceTree) → flat_map (λ (part : Part). part.binds) (gen_parts message other source) ≡ (pattern_part message).binds ++ flat_map (λ p. (peer_part p).binds) (option_to_list other)
unfolding gen_parts
gen_binds message None source = ap (λ ns. (pattern_part message).binds ++ (ns ++ [])) (no_source_binds source)
gen_binds message (Some p) source = ap (λ ns. (pattern_part message).binds ++ ((peer_part p).binds ++ (ns ++ []))) (no_source_binds source)

pub gen_binds_at : (g : GenTree) → (gen_part g).binds ≡ (pattern_part (out-GenTree g).message).binds ++ flat_map (λ p. (peer_part p).binds) (option_to_list (out-GenTree g).peer)
gen_binds_at g = ap (λ (p : Part). p.binds) (gen_at g) ∙ gen_binds (out-GenTree g).message (out-GenTree g).peer (out-GenTree g).source

pub after_gen : (role : Role) (scope : Scope Role) (g : GenTree) → after_part_of role scope (gen_part g) ≡ behind_all peer_part role (after_part_of role scope (pattern_part (out-GenTree g).message)) (option_to_list (out-GenTree g).peer)
unfolding after_part_of behind_all
after_gen role scope g =
    let v = out-GenTree g in
    ap (λ b. brought_each role b scope) (gen_binds_at g)
    ∙ brought_each-append role (pattern_part v.message).binds (flat_map (λ p. (peer_part p).binds) (option_to_list v.peer)) scope

pub ruleset gen_rules = (told_gen, after_gen)

-- peers and sources
pub told_no_peer : (line : ℕ) (role : Role) (scope : Scope Role) (found : Option Refusal) → told_all peer_part line role scope found [] ≡ found
told_no_peer = told_all-nil peer_part peer_steady

pub told_peer : (line : ℕ) (role : Role) (scope : Scope Role) (found : Option Refusal) (p : PeerTree) → told_all peer_part line role scope found (p ∷ []) ≡ told_part line role scope found (peer_part p)
told_peer = told_all-one peer_part peer_steady

pub after_no_peer : (role : Role) (scope : Scope Role) → behind_all peer_part role scope [] ≡ scope
after_no_peer = behind_all-nil peer_part peer_steady

pub after_peer : (role : Role) (scope : Scope Role) (p : PeerTree) → behind_all peer_part role scope (p ∷ []) ≡ after_part_of role scope (peer_part p)
after_peer role scope p = behind_all-cons peer_part peer_steady role scope p [] ∙ behind_all-nil peer_part peer_steady role (after_part_of role scope (peer_part p))

pub ruleset peer_rules = (told_no_peer, told_peer, after_no_peer, after_peer, told_peer-From, told_peer-To, after_peer-From, after_peer-To)

pub ruleset source_rules = (told_source-Received, told_source-Sent, told_source-Name)

-- one more of a list
pub told_patterns-snoc : (line : ℕ) (role : Role) (scope : Scope Role) (found : Option Refusal) (ps : List PatternTree) (p : PatternTree) → told_all pattern_part line role scope found (ps ++ p ∷ []) ≡ told_part line role (behind_all pattern_part role scope ps) (told_all pattern_part line role scope found ps) (pattern_part p)
told_patterns-snoc = told_all-snoc pattern_part pattern_steady

pub after_patterns-snoc : (role : Role) (scope : Scope Role) (ps : List PatternTree) (p : PatternTree) → behind_all pattern_part role scope (ps ++ p ∷ []) ≡ after_part_of role (behind_all pattern_part role scope ps) (pattern_part p)
after_patterns-snoc = behind_all-snoc pattern_part pattern_steady

pub told_gens-snoc : (line : ℕ) (role : Role) (scope : Scope Role) (found : Option Refusal) (gs : List GenTree) (g : GenTree) → told_all gen_part line role scope found (gs ++ g ∷ []) ≡ told_part line role (behind_all gen_part role scope gs) (told_all gen_part line role scope found gs) (gen_part g)
told_gens-snoc = told_all-snoc gen_part gen_steady

pub after_gens-snoc : (role : Role) (scope : Scope Role) (gs : List GenTree) (g : GenTree) → behind_all gen_part role scope (gs ++ g ∷ []) ≡ after_part_of role (behind_all gen_part role scope gs) (gen_part g)
after_gens-snoc = behind_all-snoc gen_part gen_steady

pub told_patterns-nil : (line : ℕ) (role : Role) (scope : Scope Role) (found : Option Refusal) → told_all pattern_part line role scope found [] ≡ found
told_patterns-nil = told_all-nil pattern_part pattern_steady

pub after_patterns-nil : (role : Role) (scope : Scope Role) → behind_all pattern_part role scope [] ≡ scope
after_patterns-nil = behind_all-nil pattern_part pattern_steady

pub told_gens-nil : (line : ℕ) (role : Role) (scope : Scope Role) (found : Option Refusal) → told_all gen_part line role scope found [] ≡ found
told_gens-nil = told_all-nil gen_part gen_steady

pub after_gens-nil : (role : Role) (scope : Scope Role) → behind_all gen_part role scope [] ≡ scope
after_gens-nil = behind_all-nil gen_part gen_steady

pub ruleset pattern_steps = (told_patterns-snoc, after_patterns-snoc, told_patterns-nil, after_patterns-nil)

pub ruleset gen_steps = (told_gens-snoc, after_gens-snoc, told_gens-nil, after_gens-nil)

-- the variables of a query leave it
sub_back : (a b : ℕ) → (a + b) - b ≡ a
sub_back a b = omega arith

pushed_by : (role : Role) (names : List (List ℕ)) (before : Scope Role) (scope : Scope Role) → drop (length (entered_each role names (before ++ scope)) - length scope) (entered_each role names (before ++ scope)) ≡ scope
pushed_by role [] before scope = ap (λ n. drop (n - length scope) (before ++ scope)) (length-append before scope) ∙ ap (λ n. drop n (before ++ scope)) (sub_back (length before) (length scope)) ∙ drop-append_seam before scope
pushed_by role (n ∷ ns) before scope = pushed_by role ns ((n, role) ∷ before) scope

pub pushed : (role : Role) (names : List (List ℕ)) (scope : Scope Role) → drop (length (entered_each role names scope) - length scope) (entered_each role names scope) ≡ scope
pushed role names scope = pushed_by role names [] scope

pub left_after_gens : (scope : Scope Role) (gens : List GenTree) → drop (length (behind_all gen_part QueryVariable scope gens) - length scope) (behind_all gen_part QueryVariable scope gens) ≡ scope
unfolding behind_all
left_after_gens scope gens = pushed QueryVariable (flat_map (λ g. (gen_part g).binds) gens) scope

-- the variables of a handler's patterns do not come into scope in them
pub after_local : (scope : Scope Role) (ps : List PatternTree) → behind_all pattern_part Local scope ps ≡ scope
unfolding behind_all
after_local scope ps = refl
