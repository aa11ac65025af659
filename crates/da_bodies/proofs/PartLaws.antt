-- What a part of a text refuses depends on what the names in scope stand for alone; of an expression it is the same for
-- each role of new variables, and no variable comes out of it.
use Rattle.std.specs.Prelude.{◌≡◌, refl, ℕ, List, [], ◌∷◌, ◌++◌, map, Option, Some, None, option_map, option_to_list}
use Rattle.std.specs.List.{AllByRecursion}
use Rattle.std.proofs.Common.{◌∙◌, sym, ap, subst}
use Rattle.da_lang.specs.declared.refusal.ScopeKind.TheVariants as refusal
use Rattle.da_lang.specs.declared.tree.Expr.{Expr}
use Rattle.da_lang.specs.declared.tree.GenTree.{GenTree}
use Rattle.da_lang.specs.declared.tree.PatternTree.{PatternTree}
use Rattle.da_lang.specs.declared.tree.PeerTree.{PeerTree}
use Rattle.da_lang.specs.declared.tree.ChainTree.{ChainTree}
use Rattle.da_lang.specs.declared.tree.SourceTree.{SourceTree}
use Rattle.da_lang.specs.declared.tree.SourceTree.TheVariants as source_tree
use Rattle.da_lang.specs.ExprNames.{Role, QueryVariable, Part, in_order, together, inside, asked, named, comprehension, aggregate, variable, source_part, unless, is_slot, used, used_as_slot, taken, brought, names_of, pattern_part, peer_part, chain_part, gen_part}
use Rattle.da_lang.specs.Scopes.{Scope}
use Rattle.da_lang.proofs.CondInduction.{Where}
use Rattle.da_lang.proofs.NamesAt as at
use Rattle.da_lang.proofs.TreeInduction.{Cases, expr_induction, pattern_induction, peer_induction, link_induction, gen_induction}
use Rattle.da_bodies.proofs.SameLook.{SameLook, same_brought, brought-nil}

pub record Steady (p : Part) : Type 0 where
  pub kinds : (role : Role) (s t : Scope Role) → SameLook s t → p.kinds role s ≡ p.kinds role t

pub record Plain (p : Part) : Type 0 where
  pub binds : p.binds ≡ []
  pub kinds : (role other : Role) (s t : Scope Role) → SameLook s t → p.kinds role s ≡ p.kinds other t
  pub ranges : (s t : Scope Role) → SameLook s t → p.ranges s ≡ p.ranges t

pub plain_steady : (p : Part) → Plain p → Steady p
plain_steady p h = record { kinds = λ role s t same. h.kinds role role s t same }

-- of lists of parts
pub all_append : {A : Type 0} (P : A → Type 0) (xs ys : List A) → AllByRecursion P xs → AllByRecursion P ys → AllByRecursion P (xs ++ ys)
all_append P [] ys h k = k
all_append P (x ∷ xs) ys h k = (h.0, all_append P xs ys h.1 k)

pub all_map : {A B : Type 0} (P : B → Type 0) (f : A → B) (xs : List A) → AllByRecursion (λ x. P (f x)) xs → AllByRecursion P (map f xs)
all_map P f [] h = tt
all_map P f (x ∷ xs) h = (h.0, all_map P f xs h.1)

pub all_option : {A B : Type 0} (P : B → Type 0) (f : A → B) (o : Option A) → Where (λ x. P (f x)) o → AllByRecursion P (option_to_list (option_map f o))
all_option P f None h = tt
all_option P f (Some x) h = (h, tt)

pub all_weaker : {A : Type 0} (P Q : A → Type 0) → ((x : A) → P x → Q x) → (xs : List A) → AllByRecursion P xs → AllByRecursion Q xs
all_weaker P Q f [] h = tt
all_weaker P Q f (x ∷ xs) h = (f x h.0, all_weaker P Q f xs h.1)

pub in_order-same : (ps : List Part) → AllByRecursion Steady ps → (role : Role) (s t : Scope Role) → SameLook s t → in_order ps role s ≡ in_order ps role t
in_order-same [] h role s t same = refl
in_order-same (p ∷ ps) h role s t same =
    ap (λ k. k ++ in_order ps role (brought role p.binds s)) (h.0.kinds role s t same)
    ∙ ap (λ k. p.kinds role t ++ k) (in_order-same ps h.1 role (brought role p.binds s) (brought role p.binds t) (same_brought role p.binds s t same))

no_binds : (p : Part) → Plain p → (role : Role) (s : Scope Role) → brought role p.binds s ≡ s
no_binds p h role s = ap (λ b. brought role b s) h.binds ∙ brought-nil role s

pub in_order-plain : (ps : List Part) → AllByRecursion Plain ps → (role other : Role) (s t : Scope Role) → SameLook s t → in_order ps role s ≡ in_order ps other t
in_order-plain [] h role other s t same = refl
in_order-plain (p ∷ ps) h role other s t same =
    ap (λ k. k ++ in_order ps role (brought role p.binds s)) (h.0.kinds role other s t same)
    ∙ ap (λ k. p.kinds other t ++ k) (ap (in_order ps role) (no_binds p h.0 role s) ∙ in_order-plain ps h.1 role other s t same ∙ sym (ap (in_order ps other) (no_binds p h.0 other t)))

-- of parts that are made of others
steady_together : (ps : List Part) → AllByRecursion Steady ps → Steady (together ps)
steady_together ps h = record { kinds = λ role s t same. in_order-same ps h role s t same }

plain_inside : (ps : List Part) → AllByRecursion Plain ps → Plain (inside ps)
plain_inside ps h = record { binds = refl; kinds = λ role other s t same. in_order-plain ps h role other s t same; ranges = λ s t same. refl }

plain_asked : (ps : List Part) → AllByRecursion Steady ps → Plain (asked ps)
plain_asked ps h = record { binds = refl; kinds = λ role other s t same. in_order-same ps h QueryVariable s t same; ranges = λ s t same. refl }

plain_comprehension : (ps : List Part) → AllByRecursion Steady ps → Plain (comprehension ps)
plain_comprehension ps h = record { binds = refl; kinds = λ role other s t same. in_order-same ps h QueryVariable s t same; ranges = λ s t same. refl }

plain_named : (name : List ℕ) → Plain (named name)
plain_named name = record { binds = refl; kinds = λ role other s t same. ap used (same.at name); ranges = λ s t same. ap is_slot (same.at name) }

plain_aggregate : (p : Part) (ps : List Part) → Plain p → AllByRecursion Plain ps → Plain (aggregate p ps)
plain_aggregate p ps h k = record {
  binds = refl;
  kinds = λ role other s t same. ap (λ b. unless b refusal.Unknown ++ in_order (p ∷ ps) role s) (h.ranges s t same) ∙ ap (λ rest. unless (p.ranges t) refusal.Unknown ++ rest) (in_order-plain (p ∷ ps) (h, k) role other s t same);
  ranges = λ s t same. refl;
}

steady_variable : (name : List ℕ) → Steady (variable name)
steady_variable name = record { kinds = λ role s t same. ap taken (same.at name) }

pub steady_source : (s : SourceTree) → Steady (source_part s)
steady_source source_tree.Received = plain_steady (inside []) (plain_inside [] tt)
steady_source source_tree.Sent = plain_steady (inside []) (plain_inside [] tt)
steady_source (source_tree.Name name) = record { kinds = λ role s t same. ap used_as_slot (same.at name) }

abbrev ExprPlain : Expr → Type 0
ExprPlain x = Plain (names_of x)

abbrev GenSteady : GenTree → Type 0
GenSteady g = Steady (gen_part g)

steady_exprs : (xs : List Expr) → AllByRecursion ExprPlain xs → AllByRecursion Plain (map names_of xs)
steady_exprs xs h = all_map Plain names_of xs h

query_parts : (gens : List GenTree) (cond : Option Expr) → AllByRecursion GenSteady gens → Where ExprPlain cond → AllByRecursion Steady (map gen_part gens ++ option_to_list (option_map names_of cond))
query_parts gens cond h k =
    all_append Steady (map gen_part gens) (option_to_list (option_map names_of cond)) (all_map Steady gen_part gens h)
    (all_weaker Plain Steady plain_steady (option_to_list (option_map names_of cond)) (all_option Plain names_of cond k))

peer_parts : (message : PatternTree) (peer : Option PeerTree) (source : SourceTree) → Steady (pattern_part message) → Where (λ p. Steady (peer_part p)) peer → AllByRecursion Steady (pattern_part message ∷ option_to_list (option_map peer_part peer) ++ source_part source ∷ [])
peer_parts message peer source h k =
    all_append Steady (pattern_part message ∷ option_to_list (option_map peer_part peer)) (source_part source ∷ []) (h, all_option Steady peer_part peer k) (steady_source source, tt)

abbrev cases : Cases
cases = record {
  Of_expr = ExprPlain;
  Of_pattern = λ p. Steady (pattern_part p);
  Of_peer = λ p. Steady (peer_part p);
  Of_link = λ c. Plain (chain_part c);
  Of_gen = GenSteady;
  quant = λ each gens cond h k. subst Plain (sym (at.names_of-Quant each gens cond)) (plain_asked (map gen_part gens ++ option_to_list (option_map names_of cond)) (query_parts gens cond h k));
  either = λ xs h. subst Plain (sym (at.names_of-Or xs)) (plain_inside (map names_of xs) (steady_exprs xs h));
  both = λ xs h. subst Plain (sym (at.names_of-And xs)) (plain_inside (map names_of xs) (steady_exprs xs h));
  negation = λ x h. subst Plain (sym (at.names_of-Not x)) (plain_inside (names_of x ∷ []) (h, tt));
  comparison = λ o x y h k. subst Plain (sym (at.names_of-Cmp o x y)) (plain_inside (names_of x ∷ names_of y ∷ []) (h, (k, tt)));
  member = λ x y h k. subst Plain (sym (at.names_of-Member x y)) (plain_inside (names_of x ∷ names_of y ∷ []) (h, (k, tt)));
  chain = λ x more h k. subst Plain (sym (at.names_of-Chain x more)) (plain_inside (names_of x ∷ map chain_part more) (h, all_map Plain chain_part more k));
  number = λ n. subst Plain (sym (at.names_of-Int n)) (plain_inside [] tt);
  text = λ bytes. subst Plain (sym (at.names_of-Text bytes)) (plain_inside [] tt);
  truth = λ b. subst Plain (sym (at.names_of-Truth b)) (plain_inside [] tt);
  me = subst Plain (sym at.names_of-Me) (plain_inside [] tt);
  name = λ name. subst Plain (sym (at.names_of-Name name)) (plain_named name);
  clock = subst Plain (sym at.names_of-Clock) (plain_inside [] tt);
  range = λ x y h k. subst Plain (sym (at.names_of-Range x y)) (plain_inside (names_of x ∷ names_of y ∷ []) (h, (k, tt)));
  tuple = λ xs h. subst Plain (sym (at.names_of-Tuple xs)) (plain_inside (map names_of xs) (steady_exprs xs h));
  set_of = λ xs h. subst Plain (sym (at.names_of-SetOf xs)) (plain_inside (map names_of xs) (steady_exprs xs h));
  comprehension = λ x gens cond h k m. subst Plain (sym (at.names_of-Comp x gens cond)) (plain_comprehension (map gen_part gens ++ option_to_list (option_map names_of cond) ++ names_of x ∷ []) (all_append Steady (map gen_part gens ++ option_to_list (option_map names_of cond)) (names_of x ∷ []) (query_parts gens cond k m) (plain_steady (names_of x) h, tt)));
  count = λ x h. subst Plain (sym (at.names_of-Count x)) (plain_aggregate (names_of x) [] h tt);
  sum = λ x h. subst Plain (sym (at.names_of-Sum x)) (plain_aggregate (names_of x) [] h tt);
  least = λ x y h k. subst Plain (sym (at.names_of-Min x y)) (plain_aggregate (names_of x) (names_of y ∷ []) h (k, tt));
  greatest = λ x y h k. subst Plain (sym (at.names_of-Max x y)) (plain_aggregate (names_of x) (names_of y ∷ []) h (k, tt));
  any = subst Steady (sym at.pattern_part-Wild) (plain_steady (inside []) (plain_inside [] tt));
  variable = λ name. subst Steady (sym (at.pattern_part-Name name)) (steady_variable name);
  number_pattern = λ n. subst Steady (sym (at.pattern_part-Int n)) (plain_steady (inside []) (plain_inside [] tt));
  text_pattern = λ bytes. subst Steady (sym (at.pattern_part-Text bytes)) (plain_steady (inside []) (plain_inside [] tt));
  truth_pattern = λ b. subst Steady (sym (at.pattern_part-Truth b)) (plain_steady (inside []) (plain_inside [] tt));
  me_pattern = subst Steady (sym at.pattern_part-Me) (plain_steady (inside []) (plain_inside [] tt));
  equal = λ x h. subst Steady (sym (at.pattern_part-Equal x)) (plain_steady (inside (names_of x ∷ [])) (plain_inside (names_of x ∷ []) (h, tt)));
  tuple_pattern = λ ps h. subst Steady (sym (at.pattern_part-Tuple ps)) (steady_together (map pattern_part ps) (all_map Steady pattern_part ps h));
  from = λ p h. subst Steady (sym (at.peer_part-From p)) h;
  to = λ p h. subst Steady (sym (at.peer_part-To p)) h;
  link = λ op x h. subst Plain (sym (at.chain_part-of op x)) h;
  generator = λ message peer source h k. subst Steady (sym (at.gen_part-of message peer source)) (steady_together (pattern_part message ∷ option_to_list (option_map peer_part peer) ++ source_part source ∷ []) (peer_parts message peer source h k));
}

pub expr_plain : (x : Expr) → Plain (names_of x)
expr_plain = expr_induction cases

pub pattern_steady : (p : PatternTree) → Steady (pattern_part p)
pattern_steady = pattern_induction cases

pub peer_steady : (p : PeerTree) → Steady (peer_part p)
peer_steady = peer_induction cases

pub link_plain : (c : ChainTree) → Plain (chain_part c)
link_plain = link_induction cases

pub gen_steady : (g : GenTree) → Steady (gen_part g)
gen_steady = gen_induction cases

pub all_of : {A : Type 0} (P : A → Type 0) → ((x : A) → P x) → (xs : List A) → AllByRecursion P xs
all_of P f [] = tt
all_of P f (x ∷ xs) = (f x, all_of P f xs)
