-- The variables of patterns, a layer each.
use Rattle.std.specs.Prelude.{◌≡◌, refl, ℕ, ℤ, Bool, true, false, List, [], ◌∷◌, ◌++◌, map, flat_map, Option, Some, None, option_to_list}
use Rattle.std.proofs.Common.{◌∙◌, sym, ap}
use Rattle.std.proofs.lemmas.List.{append-nil, map-append}
use Rattle.da_lang.specs.declared.tree.Expr.{Expr}
use Rattle.da_lang.specs.declared.tree.Expr.TheVariants as ex
use Rattle.da_lang.specs.declared.tree.GenTree.{GenTree, out-GenTree}
use Rattle.da_lang.specs.declared.tree.PatternTree.{PatternTree}
use Rattle.da_lang.specs.declared.tree.PatternTree.TheVariants as pattern
use Rattle.da_lang.specs.declared.tree.PeerTree.TheVariants as peer
use Rattle.da_lang.specs.ClassParts.{Declared}
use Rattle.da_lang.specs.ExprNames.{Part, found_names, pattern_part, peer_part, gen_part}
use Rattle.da_lang.proofs.NamesAt as at
use Rattle.da_bodies.specs.Repeats.{declared_in}
use Rattle.da_bodies.specs.declared.repeats.Declared as code
use Rattle.da_bodies.specs.Variables.{named_at, variables_at, peer_variables_at, gen_variables_at, found_at}
use Rattle.da_bodies.proofs.Found.{found_some, found_each, found_none}
use Rattle.da_bodies.proofs.ToldExprs.{gen_binds_at}

named_flat : {A : Type 0} (line : ℕ) (f : A → List (List ℕ)) (xs : List A) → named_at line (flat_map f xs) ≡ flat_map (λ x. named_at line (f x)) xs
named_flat line f [] = refl
named_flat line f (x ∷ xs) =
    let one : List ℕ → Declared = λ name. (name, line) in
    map-append one (f x) (flat_map f xs) ∙ ap (λ ds. named_at line (f x) ++ ds) (named_flat line f xs)

module _ (line : ℕ) where
  by_part : (p : PatternTree) (q : Part) → pattern_part p ≡ q → variables_at line p ≡ named_at line q.binds
  unfolding variables_at
  by_part p q is = ap (λ (r : Part). named_at line r.binds) is

  pub variables-Wild : variables_at line pattern.Wild ≡ []
  variables-Wild = by_part pattern.Wild _ at.pattern_part-Wild

  pub variables-Int : (n : ℤ) → variables_at line (pattern.Int n) ≡ []
  variables-Int n = by_part (pattern.Int n) _ (at.pattern_part-Int n)

  pub variables-Text : (bytes : List ℕ) → variables_at line (pattern.Text bytes) ≡ []
  variables-Text bytes = by_part (pattern.Text bytes) _ (at.pattern_part-Text bytes)

  pub variables-Truth : (b : Bool) → variables_at line (pattern.Truth b) ≡ []
  variables-Truth b = by_part (pattern.Truth b) _ (at.pattern_part-Truth b)

  pub variables-Me : variables_at line pattern.Me ≡ []
  variables-Me = by_part pattern.Me _ at.pattern_part-Me

  pub variables-Equal : (x : Expr) → variables_at line (pattern.Equal x) ≡ []
  variables-Equal x = by_part (pattern.Equal x) _ (at.pattern_part-Equal x)

  pub variables-Name : (name : List ℕ) → variables_at line (pattern.Name name) ≡ (name, line) ∷ []
  variables-Name name = by_part (pattern.Name name) _ (at.pattern_part-Name name)

  binds_flat : (ps : List PatternTree) → flat_map (λ (part : Part). part.binds) (map pattern_part ps) ≡ flat_map (λ p. (pattern_part p).binds) ps
  binds_flat [] = refl
  binds_flat (p ∷ ps) = ap (λ ns. (pattern_part p).binds ++ ns) (binds_flat ps)

  tuple_flat : (ps : List PatternTree) → named_at line (flat_map (λ p. (pattern_part p).binds) ps) ≡ flat_map (variables_at line) ps
  unfolding variables_at
  tuple_flat ps = named_flat line (λ p. (pattern_part p).binds) ps

  pub variables-Tuple : (ps : List PatternTree) → variables_at line (pattern.Tuple ps) ≡ flat_map (variables_at line) ps
  variables-Tuple ps = by_part (pattern.Tuple ps) _ (at.pattern_part-Tuple ps) ∙ ap (named_at line) (binds_flat ps) ∙ tuple_flat ps

  pub peer_variables-None : peer_variables_at line None ≡ []
  unfolding peer_variables_at
  peer_variables-None = refl

  pub peer_variables-From : (p : PatternTree) → peer_variables_at line (Some (peer.From p)) ≡ variables_at line p
  unfolding peer_variables_at variables_at
  peer_variables-From p = ap (named_at line) (append-nil (peer_part (peer.From p)).binds ∙ ap (λ (q : Part). q.binds) (at.peer_part-From p))

  pub peer_variables-To : (p : PatternTree) → peer_variables_at line (Some (peer.To p)) ≡ variables_at line p
  unfolding peer_variables_at variables_at
  peer_variables-To p = ap (named_at line) (append-nil (peer_part (peer.To p)).binds ∙ ap (λ (q : Part). q.binds) (at.peer_part-To p))

  pub gen_variables_of : (g : GenTree) → gen_variables_at line g ≡ variables_at line (out-GenTree g).message ++ peer_variables_at line (out-GenTree g).peer
  unfolding gen_variables_at peer_variables_at variables_at
  gen_variables_of g =
      let v = out-GenTree g in
      let one : List ℕ → Declared = λ name. (name, line) in
      ap (named_at line) (gen_binds_at g) ∙ map-append one (pattern_part v.message).binds (flat_map (λ p. (peer_part p).binds) (option_to_list v.peer))

  pub found_at-some : (x : Expr) (gens : List GenTree) (cond : Option Expr) → x ≡ ex.Quant false gens cond → found_at line x ≡ flat_map (gen_variables_at line) gens
  unfolding found_at gen_variables_at
  found_at-some x gens cond is = ap (named_at line) (found_some x gens cond is) ∙ named_flat line (λ g. (gen_part g).binds) gens

  pub found_at-each : (x : Expr) (gens : List GenTree) (cond : Option Expr) → x ≡ ex.Quant true gens cond → found_at line x ≡ []
  unfolding found_at
  found_at-each x gens cond is = ap (named_at line) (found_each x gens cond is)

  pub found_at-none : (x : Expr) → ((each : Bool) (gens : List GenTree) (cond : Option Expr) → x ≡ ex.Quant each gens cond → ⊥) → found_at line x ≡ []
  unfolding found_at
  found_at-none x none = ap (named_at line) (found_none x none)

-- the names of such variables
names_named : (line : ℕ) (names : List (List ℕ)) → map (λ (d : Declared). d.0) (named_at line names) ≡ names
names_named line [] = refl
names_named line (n ∷ ns) = ap (λ ms. n ∷ ms) (names_named line ns)

pub names-found_at : (line : ℕ) (x : Expr) → map (λ (d : Declared). d.0) (found_at line x) ≡ found_names x
unfolding found_at
names-found_at line x = names_named line (found_names x)

pub names-variables_at : (line : ℕ) (p : PatternTree) → map (λ (d : Declared). d.0) (variables_at line p) ≡ (pattern_part p).binds
unfolding variables_at
names-variables_at line p = names_named line (pattern_part p).binds

pub ruleset variable_rules = (variables-Wild, variables-Int, variables-Text, variables-Truth, variables-Me, variables-Equal, variables-Name, variables-Tuple, append-nil)

pub ruleset peer_variable_rules = (peer_variables-None, peer_variables-From, peer_variables-To, append-nil)

pub names_declared : (ds : List code.Declared) → map (λ d. d.name.now) ds ≡ map (λ (d : Declared). d.0) (declared_in ds)
names_declared [] = refl
names_declared (d ∷ ds) = ap (λ ns. d.name.now ∷ ns) (names_declared ds)
