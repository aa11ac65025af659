-- Demands one after the other, and what is found where they are met.
use Rattle.std.specs.Prelude.{◌≡◌, refl, ℕ, Bool, true, false, ◌&&◌, if◌then◌else◌, List, [], ◌∷◌, ◌++◌, map, Option, Some, None}
use Rattle.std.proofs.Common.{◌∙◌, ap, ap₂, sym}
use Rattle.da_values.specs.declared.value.Value.{Value}
use Rattle.da_values.specs.declared.value.Value.TheVariants as kept
use Rattle.da_values.specs.Narrow.{is_i64}
use Rattle.da_lang.specs.declared.ty.Ty.{Ty}
use Rattle.da_lang.specs.declared.ty.Ty.TheVariants as t
use Rattle.da_lang.specs.ExprTypes.{by_itself, gives}
use Rattle.da_lang.specs.QueryTypes.{given, holds_of, when, flat, no_set, is_typed, all_types, literal_type}
use Rattle.da_lang.specs.Types.{is_flat, element_of}
use Rattle.type_table.specs.declared.scheme.Scheme.{Scheme}
use Rattle.type_table.specs.declared.scheme.Scheme.TheVariants as s
use Rattle.type_table.specs.Fits.{Meaning}
use Rattle.type_table.specs.Schemes.{stands}
use Rattle.type_table.proofs.SchemeLaws.{stands_int, stands_bool, stands_text, stands_proc, stands_tuple, stands_set, stands_element}
use Rattle.type_demands.specs.declared.demand.Demand.{Demand}
use Rattle.type_demands.specs.declared.demand.Demand.TheVariants as d
use Rattle.type_demands.specs.Demands.{met, all_met, is_single}
use Rattle.type_demands.specs.Syms.{Sym, found, plain, never, flat_sym, single_sym, same_as, demands_in, schemes_in, tuple_sym, literal_sym}
use Rattle.type_demands.specs.Terms.{element_sym}
use Rattle.type_demands.specs.Conds.{set_sym}
use Rattle.type_demands.specs.Exprs.{alone, where_met}
use Rattle.type_demands.specs.Meets.{Agrees}

pub and_true : (b : Bool) → (b && true) ≡ b
and_true true = refl
and_true false = refl

pub and_false : (b : Bool) → (b && false) ≡ false
and_false true = refl
and_false false = refl

pub and_assoc : (a b c : Bool) → ((a && b) && c) ≡ (a && (b && c))
and_assoc true b c = refl
and_assoc false b c = refl

-- a value where a test holds
abbrev pub guard : {A : Type 0} → Bool → Option A → Option A
guard b o = if b then o else None

pub given_guard : {A B : Type 0} (b : Bool) (o : Option A) (f : A → Option B) → given (guard b o) f ≡ guard b (given o f)
given_guard true o f = refl
given_guard false o f = refl

pub holds_guard : {A : Type 0} (b : Bool) (o : Option A) (test : A → Bool) → holds_of (guard b o) test ≡ (b && holds_of o test)
holds_guard true o test = refl
holds_guard false o test = refl

pub guard_twice : {A : Type 0} (a b : Bool) (o : Option A) → guard a (guard b o) ≡ guard (a && b) o
guard_twice true b o = refl
guard_twice false b o = refl

pub guard_none : {A : Type 0} (b : Bool) → ◌≡◌ {A = Option A} (guard b None) None
guard_none true = refl
guard_none false = refl

pub given_given : {A B C : Type 0} (o : Option A) (f : A → Option B) (g : B → Option C) → given (given o f) g ≡ given o (λ x. given (f x) g)
given_given None f g = refl
given_given (Some x) f g = refl

pub given_itself : {A : Type 0} (o : Option A) → o ≡ given o (λ x. Some x)
given_itself None = refl
given_itself (Some x) = refl

pub holds_both : {A : Type 0} (o : Option A) (f g : A → Bool) → holds_of o (λ x. f x && g x) ≡ (holds_of o f && holds_of o g)
holds_both None f g = refl
holds_both (Some x) f g = refl

given_test : (o : Option Ty) (test : Ty → Bool) → given o (λ ty. when (test ty) ty) ≡ guard (holds_of o test) o
given_test None test = refl
given_test (Some ty) test = refl

same_guard : (asked : Option Ty) (b : Bool) (o : Option Ty) → holds_of asked (is_typed (guard b o)) ≡ (b && holds_of asked (is_typed o))
same_guard None true o = refl
same_guard None false o = refl
same_guard (Some ty) true o = refl
same_guard (Some ty) false o = refl

two_guards : (b c : Bool) (o : Option Ty) (p : Option (List Ty)) → given (guard b o) (λ first. given (guard c p) (λ others. Some (first ∷ others))) ≡ guard (b && c) (given o (λ first. given p (λ others. Some (first ∷ others))))
two_guards true true o p = refl
two_guards true false None p = refl
two_guards true false (Some ty) p = refl
two_guards false c o p = refl

module _ (m : Meaning) (headed : ℕ → Bool) where
  abbrev Met : List Demand → Bool
  Met ds = all_met m headed ds

  pub met_both : (xs ys : List Demand) → Met (xs ++ ys) ≡ (Met xs && Met ys)
  met_both [] ys = refl
  met_both (x ∷ xs) ys = ap (λ b. met m headed x && b) (met_both xs ys) ∙ sym (and_assoc (met m headed x) (Met xs) (Met ys))

  pub met_last : (xs : List Demand) (x : Demand) → Met (xs ++ x ∷ []) ≡ (Met xs && met m headed x)
  met_last xs x = met_both xs (x ∷ []) ∙ ap (λ b. Met xs && b) (and_true (met m headed x))

  -- a test of the type that is found
  pub tests_found : (x : Sym) (test : Ty → Bool) (ds : List Demand) → holds_of (stands m x.scheme) test ≡ Met ds → holds_of (found m headed x) test ≡ Met (x.demands ++ ds)
  tests_found x test ds is = holds_guard (Met x.demands) (stands m x.scheme) test ∙ ap (λ b. Met x.demands && b) is ∙ sym (met_both x.demands ds)

  pub test_found : (x : Sym) (test : Ty → Bool) (demand : Demand) → met m headed demand ≡ holds_of (stands m x.scheme) test → holds_of (found m headed x) test ≡ Met (x.demands ++ demand ∷ [])
  test_found x test demand is = tests_found x test (demand ∷ []) (sym is ∙ sym (and_true (met m headed demand)))

  -- what comes after the type that is found
  pub next_found : {B : Type 0} (x : Sym) (f : Ty → Option B) (ds : List Demand) (r : Option B) → given (stands m x.scheme) f ≡ guard (Met ds) r → given (found m headed x) f ≡ guard (Met (x.demands ++ ds)) r
  next_found x f ds r is =
      given_guard (Met x.demands) (stands m x.scheme) f
      ∙ ap (guard (Met x.demands)) is
      ∙ guard_twice (Met x.demands) (Met ds) r
      ∙ ap (λ b. guard b r) (sym (met_both x.demands ds))

  tested_found : (x : Sym) (test : Ty → Bool) (demand : Demand) → met m headed demand ≡ holds_of (stands m x.scheme) test → given (found m headed x) (λ ty. when (test ty) ty) ≡ guard (Met (x.demands ++ demand ∷ [])) (stands m x.scheme)
  tested_found x test demand is =
      next_found x (λ ty. when (test ty) ty) (demand ∷ []) (stands m x.scheme)
      (given_test (stands m x.scheme) test ∙ ap (λ b. guard b (stands m x.scheme)) (sym is ∙ sym (and_true (met m headed demand))))

  pub flat_found : (x : Sym) → given (found m headed x) flat ≡ found m headed (flat_sym x)
  flat_found x = tested_found x is_flat (d.Flat x.scheme) refl

  pub single_found : (x : Sym) → given (found m headed x) no_set ≡ found m headed (single_sym x)
  single_found x = tested_found x is_single (d.Single x.scheme) refl

  -- it is the type that is asked for
  pub same_found : (x : Sym) (asked : Scheme) → holds_of (stands m asked) (is_typed (found m headed x)) ≡ Met (same_as asked x)
  same_found x asked = same_guard (stands m asked) (Met x.demands) (stands m x.scheme) ∙ sym (met_last x.demands (d.Same asked x.scheme))

  pub element_found : (x : Sym) → given (found m headed x) element_of ≡ found m headed (element_sym x)
  element_found x = given_guard (Met x.demands) (stands m x.scheme) element_of ∙ ap (guard (Met x.demands)) (sym (stands_element m x.scheme))

  set_stands : (o : Option Ty) → given o (λ ty. flat (t.Set ty)) ≡ given (given o (λ ty. Some (t.Set ty))) flat
  set_stands None = refl
  set_stands (Some ty) = refl

  pub set_found : (x : Sym) → given (found m headed x) (λ ty. flat (t.Set ty)) ≡ found m headed (set_sym x)
  set_found x =
      let set = s.Set x.scheme in
      next_found x (λ ty. flat (t.Set ty)) (d.Flat set ∷ []) (stands m set)
      (set_stands (stands m x.scheme) ∙ ap (λ o. given o flat) (sym (stands_set m x.scheme))
      ∙ given_test (stands m set) is_flat ∙ ap (λ b. guard b (stands m set)) (sym (and_true (holds_of (stands m set) is_flat))))

  -- another type, where a test of the type holds
  pub made_where : (x made : Scheme) (holds : Ty → Bool) (make : Ty → Ty) (ds : List Demand) → stands m made ≡ given (stands m x) (λ ty. Some (make ty)) → ((ty : Ty) → stands m x ≡ Some ty → holds ty ≡ Met ds)
      → given (stands m x) (λ ty. when (holds ty) (make ty)) ≡ guard (Met ds) (stands m made)
  made_where x made holds make ds is each = go (stands m x) refl ∙ ap (guard (Met ds)) (sym is)
    where
      go : (o : Option Ty) → stands m x ≡ o → given o (λ ty. when (holds ty) (make ty)) ≡ guard (Met ds) (given o (λ ty. Some (make ty)))
      go None none = sym (guard_none (Met ds))
      go (Some ty) some = ap (λ b. guard b (Some (make ty))) (each ty some)

  -- types one by one
  abbrev pub AreFound : List (Option Ty) → List Sym → Type 0
  AreFound [] [] = Unit {0}
  AreFound [] (x ∷ xs) = ⊥
  AreFound (o ∷ os) [] = ⊥
  AreFound (o ∷ os) (x ∷ xs) = (o ≡ found m headed x) × AreFound os xs

  types_found : (os : List (Option Ty)) (xs : List Sym) → AreFound os xs → all_types os ≡ guard (Met (demands_in xs)) (all_types (map (stands m) (schemes_in xs)))
  types_found [] [] each = refl
  types_found [] (x ∷ xs) each = absurd each
  types_found (o ∷ os) [] each = absurd each
  types_found (o ∷ os) (x ∷ xs) each =
      let rest = all_types (map (stands m) (schemes_in xs)) in
      ap₂ (λ o p. given o (λ first. given p (λ others. Some (first ∷ others)))) each.0 (types_found os xs each.1)
      ∙ two_guards (Met x.demands) (Met (demands_in xs)) (stands m x.scheme) rest
      ∙ ap (λ b. guard b (given (stands m x.scheme) (λ first. given rest (λ others. Some (first ∷ others))))) (sym (met_both x.demands (demands_in xs)))

  -- a tuple of them
  pub tuple_found : (os : List (Option Ty)) (xs : List Sym) → AreFound os xs → given (all_types os) (λ types. flat (t.Tuple types)) ≡ found m headed (flat_sym (tuple_sym xs))
  tuple_found os xs each =
      let rest = all_types (map (stands m) (schemes_in xs)) in
      sym (given_given (all_types os) (λ types. Some (t.Tuple types)) flat)
      ∙ ap (λ o. given o flat) (ap (λ o. given o (λ types. Some (t.Tuple types))) (types_found os xs each)
      ∙ given_guard (Met (demands_in xs)) rest (λ types. Some (t.Tuple types))
      ∙ ap (guard (Met (demands_in xs))) (sym (stands_tuple m (schemes_in xs))))
      ∙ flat_found (tuple_sym xs)

  int_where : (b : Bool) → when b t.Int ≡ found m headed (if b then plain s.Int else never)
  int_where true = sym (stands_int m)
  int_where false = refl

  pub literal_found : (v : Value) → literal_type v ≡ found m headed (literal_sym v)
  literal_found (kept.Int number) = int_where (is_i64 number)
  literal_found (kept.Bool truth) = sym (stands_bool m)
  literal_found (kept.Text bytes) = sym (stands_text m)
  literal_found (kept.Proc process) = sym (stands_proc m)
  literal_found (kept.Tuple parts) = refl
  literal_found (kept.Set elements) = refl

  -- an expression that has its type by itself
  pub alone_agrees : (o : Option Ty) (x : Sym) → o ≡ found m headed x → Agrees m headed (by_itself o) (alone x)
  alone_agrees o x is =
      let whole : given o flat ≡ found m headed (flat_sym x) = ap (λ z. given z flat) is ∙ flat_found x in
      record { types = whole; fits = λ asked. ap (λ z. holds_of (stands m asked) (is_typed z)) whole ∙ same_found (flat_sym x) asked }

  pub where_agrees : (b : Bool) (ty : Ty) (ds : List Demand) (scheme : Scheme) → b ≡ Met ds → stands m scheme ≡ Some ty → Agrees m headed (gives b ty) (where_met ds scheme)
  where_agrees b ty ds scheme is stand =
      alone_agrees (when b ty) (record { demands = ds; scheme = scheme }) (ap (λ c. guard c (Some ty)) is ∙ ap (guard (Met ds)) (sym stand))
