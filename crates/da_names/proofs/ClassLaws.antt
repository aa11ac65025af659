-- The refusals of a class, found in another order.
use Rattle.std.specs.Prelude.{◌≡◌, refl, ℕ, List, [], ◌∷◌, ◌++◌, filter_map, flat_map, Option}
use Rattle.std.proofs.Common.{◌∙◌, sym, ap}
use Rattle.da_lang.specs.declared.refusal.ScopeKind.{ScopeKind}
use Rattle.da_lang.specs.declared.refusal.ScopeKind.TheVariants as refusal
use Rattle.da_lang.specs.declared.tree.ClassTree.{ClassTree}
use Rattle.da_lang.specs.ClassParts.{Body, bodies, is_setup, is_run}
use Rattle.da_lang.specs.Deeds.{Deed}
use Rattle.da_lang.specs.ExprNames.{Role}
use Rattle.da_lang.specs.NameRules as rules_of
use Rattle.da_lang.specs.Scopes.{Scope, at_lines}
use Rattle.da_names.specs.ClassRules.{body_refusals, deed_refusals, label_refusals, member_refusals, deeds_by, label_names, missing_at, lines_after, no_run_line}
use Rattle.da_bodies.specs.Repeats.{is_declared}
use Rattle.da_bodies.specs.Telling.{Refusal, telling}
use Rattle.da_bodies.proofs.AgainLaws.{at_lines-append}
use Rattle.da_names.proofs.SameBody.{flat_map-same, scope_refusals-same}
use Rattle.da_bodies.proofs.SameLook.{SameLook}
use Rattle.da_bodies.proofs.KindOrders.{name_order}
use Rattle.da_bodies.proofs.TellingLaws.{telling-append, telling-both, telling-swap}

-- lists that are found one after the other
abbrev pub tells : Option Refusal → List (List Refusal) → Option Refusal
tells found [] = found
tells found (xs ∷ rest) = tells (telling found xs) rest

sooner_found : (found : Option Refusal) (before : List (List Refusal)) (xs : List Refusal) (after : List (List Refusal)) → tells found (before ++ xs ∷ after) ≡ tells found (xs ∷ before ++ after)
sooner_found found [] xs after = refl
sooner_found found (y ∷ ys) xs after = sooner_found (telling found y) ys xs after ∙ ap (λ f. tells f (ys ++ after)) (telling-swap name_order found y xs)

module _ (f : Option Refusal) where
  pub tells_two : (a b : List Refusal) → telling f (a ++ b) ≡ tells f (a ∷ b ∷ [])
  tells_two a b = telling-append f a b

  pub tells_four : (a b c d : List Refusal) → telling f (a ++ b ++ c ++ d) ≡ tells f (a ∷ b ∷ c ∷ d ∷ [])
  tells_four a b c d = telling-append f (a ++ b ++ c) d ∙ ap (λ g. telling g d) (telling-append f (a ++ b) c ∙ ap (λ g. telling g c) (telling-append f a b))

  tells_seven : (a b c d e g h : List Refusal) → telling f (a ++ b ++ c ++ d ++ e ++ g ++ h) ≡ tells f (a ∷ b ∷ c ∷ d ∷ e ∷ g ∷ h ∷ [])
  tells_seven a b c d e g h =
      telling-append f (a ++ b ++ c ++ d ++ e ++ g) h
      ∙ ap (λ x. telling x h) (telling-append f (a ++ b ++ c ++ d ++ e) g ∙ ap (λ x. telling x g) (telling-append f (a ++ b ++ c ++ d) e ∙ ap (λ x. telling x e) (tells_four a b c d)))

  tells_nine : (a b c d e g h i j : List Refusal) → telling f (a ++ b ++ c ++ d ++ e ++ g ++ h ++ i ++ j) ≡ tells f (a ∷ b ∷ c ∷ d ∷ e ∷ g ∷ h ∷ i ∷ j ∷ [])
  tells_nine a b c d e g h i j =
      telling-append f (a ++ b ++ c ++ d ++ e ++ g ++ h ++ i) j
      ∙ ap (λ x. telling x j) (telling-append f (a ++ b ++ c ++ d ++ e ++ g ++ h) i ∙ ap (λ x. telling x i) (tells_seven a b c d e g h))

-- the order of the code, and that of the rules
in_other_order : (f : Option Refusal) (variables scopes named params yields early unknown arity labels missing methods setups runs norun recursive : List Refusal)
    → tells f (variables ∷ scopes ∷ named ∷ params ∷ yields ∷ early ∷ unknown ∷ arity ∷ labels ∷ missing ∷ methods ∷ setups ∷ runs ∷ norun ∷ recursive ∷ [])
    ≡ tells f (unknown ∷ missing ∷ scopes ∷ variables ∷ methods ∷ setups ∷ runs ∷ labels ∷ named ∷ params ∷ recursive ∷ yields ∷ early ∷ norun ∷ arity ∷ [])
in_other_order f variables scopes named params yields early unknown arity labels missing methods setups runs norun recursive =
    let f1 = telling f unknown in
    let f2 = telling f1 missing in
    let f3 = telling (telling f2 scopes) variables in
    let f4 = telling f3 methods in
    let f5 = telling f4 setups in
    let f6 = telling f5 runs in
    let f7 = telling (telling (telling f6 labels) named) params in
    let f8 = telling (telling (telling f7 recursive) yields) early in
    sooner_found f (variables ∷ scopes ∷ named ∷ params ∷ yields ∷ early ∷ []) unknown (arity ∷ labels ∷ missing ∷ methods ∷ setups ∷ runs ∷ norun ∷ recursive ∷ [])
    ∙ sooner_found f1 (variables ∷ scopes ∷ named ∷ params ∷ yields ∷ early ∷ arity ∷ labels ∷ []) missing (methods ∷ setups ∷ runs ∷ norun ∷ recursive ∷ [])
    ∙ sooner_found f2 (variables ∷ []) scopes (named ∷ params ∷ yields ∷ early ∷ arity ∷ labels ∷ methods ∷ setups ∷ runs ∷ norun ∷ recursive ∷ [])
    ∙ sooner_found f3 (named ∷ params ∷ yields ∷ early ∷ arity ∷ labels ∷ []) methods (setups ∷ runs ∷ norun ∷ recursive ∷ [])
    ∙ sooner_found f4 (named ∷ params ∷ yields ∷ early ∷ arity ∷ labels ∷ []) setups (runs ∷ norun ∷ recursive ∷ [])
    ∙ sooner_found f5 (named ∷ params ∷ yields ∷ early ∷ arity ∷ labels ∷ []) runs (norun ∷ recursive ∷ [])
    ∙ sooner_found f6 (named ∷ params ∷ yields ∷ early ∷ arity ∷ []) labels (norun ∷ recursive ∷ [])
    ∙ sooner_found f7 (yields ∷ early ∷ arity ∷ norun ∷ []) recursive []
    ∙ sooner_found f8 (arity ∷ []) norun []

-- lines of many things
pub flat_lines : {A : Type 0} (kind : ScopeKind) (p : A → List ℕ) (xs : List A) → flat_map (λ x. at_lines kind (p x)) xs ≡ at_lines kind (flat_map p xs)
flat_lines kind p [] = refl
flat_lines kind p (x ∷ xs) = ap (λ rs. at_lines kind (p x) ++ rs) (flat_lines kind p xs) ∙ sym (at_lines-append kind (p x) (flat_map p xs))

both_five : {A : Type 0} (f : Option Refusal) (p q r s t : A → List Refusal) (xs : List A) → telling f (flat_map (λ x. p x ++ q x ++ r x ++ s x ++ t x) xs) ≡ tells f (flat_map p xs ∷ flat_map q xs ∷ flat_map r xs ∷ flat_map s xs ∷ flat_map t xs ∷ [])
both_five f p q r s t xs =
    telling-both name_order (λ x. p x ++ q x ++ r x ++ s x) t f xs
    ∙ ap (λ g. telling g (flat_map t xs)) (telling-both name_order (λ x. p x ++ q x ++ r x) s f xs
    ∙ ap (λ g. telling g (flat_map s xs)) (telling-both name_order (λ x. p x ++ q x) r f xs
    ∙ ap (λ g. telling g (flat_map r xs)) (telling-both name_order p q f xs)))

twice_lines : (f : Option Refusal) (a b c d e g h : List ℕ) → telling f (at_lines refusal.Twice (a ++ b ++ c ++ d ++ e ++ g ++ h))
    ≡ tells f (at_lines refusal.Twice a ∷ at_lines refusal.Twice b ∷ at_lines refusal.Twice c ∷ at_lines refusal.Twice d ∷ at_lines refusal.Twice e ∷ at_lines refusal.Twice g ∷ at_lines refusal.Twice h ∷ [])
twice_lines f a b c d e g h =
    let at = at_lines refusal.Twice in
    ap (telling f) (
    at_lines-append refusal.Twice (a ++ b ++ c ++ d ++ e ++ g) h
    ∙ ap (λ x. x ++ at h) (at_lines-append refusal.Twice (a ++ b ++ c ++ d ++ e) g
    ∙ ap (λ x. x ++ at g) (at_lines-append refusal.Twice (a ++ b ++ c ++ d) e
    ∙ ap (λ x. x ++ at e) (at_lines-append refusal.Twice (a ++ b ++ c) d
    ∙ ap (λ x. x ++ at d) (at_lines-append refusal.Twice (a ++ b) c
    ∙ ap (λ x. x ++ at c) (at_lines-append refusal.Twice a b))))))
    ∙ tells_seven f (at a) (at b) (at c) (at d) (at e) (at g) (at h)

body_same : (c : ClassTree) (s t : Scope Role) (b : Body) → rules_of.scope_refusals s b ≡ rules_of.scope_refusals t b → body_refusals c s b ≡ body_refusals c t b
unfolding body_refusals
body_same c s t b same =
    ap (λ rs. rs ++ at_lines refusal.Twice (rules_of.named_again b) ++ at_lines refusal.Twice (rules_of.params_again b) ++ at_lines refusal.Yield (rules_of.yield_in c b) ++ at_lines refusal.Setup (rules_of.setup_in b)) same

-- the rules on bodies, on statements, and on members
module _ (f : Option Refusal) (c : ClassTree) where
  body_told : (scope : Scope Role) (bs : List Body) → telling f (flat_map (body_refusals c scope) bs)
      ≡ tells f (flat_map (rules_of.scope_refusals scope) bs ∷ at_lines refusal.Twice (flat_map rules_of.named_again bs) ∷ at_lines refusal.Twice (flat_map rules_of.params_again bs)
      ∷ at_lines refusal.Yield (flat_map (rules_of.yield_in c) bs) ∷ at_lines refusal.Setup (flat_map rules_of.setup_in bs) ∷ [])
  unfolding body_refusals
  body_told scope bs =
      let named = flat_lines refusal.Twice rules_of.named_again bs in
      let params = flat_lines refusal.Twice rules_of.params_again bs in
      let yields = flat_lines refusal.Yield (rules_of.yield_in c) bs in
      let early = flat_lines refusal.Setup rules_of.setup_in bs in
      both_five f (rules_of.scope_refusals scope) (λ b. at_lines refusal.Twice (rules_of.named_again b)) (λ b. at_lines refusal.Twice (rules_of.params_again b)) (λ b. at_lines refusal.Yield (rules_of.yield_in c b)) (λ b. at_lines refusal.Setup (rules_of.setup_in b)) bs
      ∙ five_same f (flat_map (rules_of.scope_refusals scope) bs) named params yields early
    where
      five_same : (g : Option Refusal) {a r c' s d t e u : List Refusal} (b : List Refusal) → a ≡ r → c' ≡ s → d ≡ t → e ≡ u → tells g (b ∷ a ∷ c' ∷ d ∷ e ∷ []) ≡ tells g (b ∷ r ∷ s ∷ t ∷ u ∷ [])
      five_same g b p q v w = cc

  deed_told : (ds : List Deed) (bs : List Body) → telling f (deed_refusals c ds bs)
      ≡ tells f (at_lines refusal.Unknown (rules_of.lines_where (λ d. rules_of.calls_none c d.does) ds) ∷ at_lines refusal.Arity (rules_of.lines_where (λ d. rules_of.misfits c d d.does) ds)
      ∷ at_lines refusal.Twice (rules_of.again (label_names ds)) ∷ at_lines refusal.Unknown (flat_map (missing_at (is_declared (label_names ds))) bs) ∷ [])
  unfolding deed_refusals label_refusals
  deed_told ds bs =
      let unknown = at_lines refusal.Unknown (rules_of.lines_where (λ d. rules_of.calls_none c d.does) ds) in
      let arity = at_lines refusal.Arity (rules_of.lines_where (λ d. rules_of.misfits c d d.does) ds) in
      let labels = at_lines refusal.Twice (rules_of.again (label_names ds)) in
      let missing = at_lines refusal.Unknown (flat_map (missing_at (is_declared (label_names ds))) bs) in
      telling-append f (unknown ++ arity) (labels ++ missing) ∙ ap (λ g. telling g (labels ++ missing)) (tells_two f unknown arity) ∙ tells_two (telling (telling f unknown) arity) labels missing

  member_told : (line : ℕ) (bs : List Body) → telling f (member_refusals line bs)
      ≡ tells f (at_lines refusal.Twice (rules_of.again (filter_map rules_of.named_body bs)) ∷ at_lines refusal.Twice (lines_after is_setup bs) ∷ at_lines refusal.Twice (lines_after is_run bs) ∷ at_lines refusal.NoRun (no_run_line line bs) ∷ [])
  unfolding member_refusals
  member_told line bs = tells_four f _ _ _ _

-- a whole class, by its rules
class_by : (f : Option Refusal) (variables scopes named params yields early unknown arity labels missing methods setups runs norun recursive twice : List Refusal) (g h i j last : Option Refusal)
    → g ≡ telling f variables
    → h ≡ tells g (scopes ∷ named ∷ params ∷ yields ∷ early ∷ [])
    → i ≡ tells h (unknown ∷ arity ∷ labels ∷ missing ∷ [])
    → j ≡ tells i (methods ∷ setups ∷ runs ∷ norun ∷ [])
    → last ≡ telling j recursive
    → ((k : Option Refusal) → telling k twice ≡ tells k (variables ∷ methods ∷ setups ∷ runs ∷ labels ∷ named ∷ params ∷ []))
    → last ≡ telling f (unknown ++ missing ++ scopes ++ twice ++ recursive ++ yields ++ early ++ norun ++ arity)
class_by f variables scopes named params yields early unknown arity labels missing methods setups runs norun recursive twice g h i j last first second third fourth fifth is_twice =
    fifth
    ∙ ap (λ k. telling k recursive) (fourth ∙ ap (λ k. tells k (methods ∷ setups ∷ runs ∷ norun ∷ [])) (third ∙ ap (λ k. tells k (unknown ∷ arity ∷ labels ∷ missing ∷ [])) (second ∙ ap (λ k. tells k (scopes ∷ named ∷ params ∷ yields ∷ early ∷ [])) first)))
    ∙ in_other_order f variables scopes named params yields early unknown arity labels missing methods setups runs norun recursive
    ∙ sym (
    tells_nine f unknown missing scopes twice recursive yields early norun arity
    ∙ ap (λ k. tells k (recursive ∷ yields ∷ early ∷ norun ∷ arity ∷ [])) (is_twice (telling (telling (telling f unknown) missing) scopes)))

-- with names in scope that stand for the same as the variables of the class
pub class_told : (f : Option Refusal) (c : ClassTree) (scope : Scope Role) (g h i j last : Option Refusal) → SameLook (rules_of.class_scope c) scope
    → g ≡ telling f (at_lines refusal.Twice (rules_of.variables_again c))
    → h ≡ telling g (flat_map (body_refusals c scope) (bodies c))
    → i ≡ telling h (deed_refusals c (deeds_by (bodies c)) (bodies c))
    → j ≡ telling i (member_refusals c.line (bodies c))
    → last ≡ telling j (at_lines refusal.Recursive (flat_map (rules_of.recursive_in c) (rules_of.method_names c)))
    → last ≡ telling f (rules_of.class_refusals c)
class_told f c scope g h i j last same first second third fourth fifth =
    let bs = bodies c in
    let ds = deeds_by bs in
    let scopes : flat_map (body_refusals c scope) bs ≡ flat_map (body_refusals c (rules_of.class_scope c)) bs =
    flat_map-same (body_refusals c scope) (body_refusals c (rules_of.class_scope c)) bs (λ b. body_same c scope (rules_of.class_scope c) b (sym (scope_refusals-same (rules_of.class_scope c) scope b same))) in
    class_by f
    (at_lines refusal.Twice (rules_of.variables_again c))
    (flat_map (rules_of.scope_refusals (rules_of.class_scope c)) bs)
    (at_lines refusal.Twice (flat_map rules_of.named_again bs))
    (at_lines refusal.Twice (flat_map rules_of.params_again bs))
    (at_lines refusal.Yield (flat_map (rules_of.yield_in c) bs))
    (at_lines refusal.Setup (flat_map rules_of.setup_in bs))
    (at_lines refusal.Unknown (rules_of.lines_where (λ d. rules_of.calls_none c d.does) ds))
    (at_lines refusal.Arity (rules_of.lines_where (λ d. rules_of.misfits c d d.does) ds))
    (at_lines refusal.Twice (rules_of.again (label_names ds)))
    (at_lines refusal.Unknown (flat_map (missing_at (is_declared (label_names ds))) bs))
    (at_lines refusal.Twice (rules_of.again (filter_map rules_of.named_body bs)))
    (at_lines refusal.Twice (lines_after is_setup bs))
    (at_lines refusal.Twice (lines_after is_run bs))
    (at_lines refusal.NoRun (no_run_line c.line bs))
    (at_lines refusal.Recursive (flat_map (rules_of.recursive_in c) (rules_of.method_names c)))
    (at_lines refusal.Twice (rules_of.twice_in c))
    g h i j last
    first
    (second ∙ ap (telling g) scopes ∙ body_told g c (rules_of.class_scope c) bs)
    (third ∙ deed_told h c ds bs)
    (fourth ∙ member_told i c c.line bs)
    fifth
    (λ k. twice_lines k (rules_of.variables_again c) (rules_of.methods_again c) (rules_of.after_first is_setup c) (rules_of.after_first is_run c) (rules_of.labels_again c) (flat_map rules_of.named_again bs) (flat_map rules_of.params_again bs))
