-- The constants of what an expression becomes are values that are written in it and processes that the names in scope stand
-- for, and each query that it numbers has constants that are there and few signs.
use Rattle.std.specs.Prelude.{◌≡◌, refl, ℕ, suc, List, [], ◌∷◌, ◌++◌, map, length, Option, Some, None}
use Rattle.std.specs.List.{AllByRecursion}
use Rattle.std.proofs.Common.{◌∙◌, ap, sym, subst, inl, inr, ⊎_elim}
use Rattle.std.proofs.lemmas.List.{append-nil, append_assoc}
use Rattle.da_values.specs.declared.value.Value.{Value}
use Rattle.da_values.specs.declared.value.Value.TheVariants as kept
use Rattle.da_values.specs.Sets.{Has}
use Rattle.da_values.proofs.Members.{of_append}
use Rattle.da_lang.specs.declared.program.ChainPart.{ChainPart}
use Rattle.da_lang.specs.declared.program.Program.{Program}
use Rattle.da_lang.specs.declared.program.RExpr.{RExpr}
use Rattle.da_lang.specs.declared.program.RExpr.TheVariants as re
use Rattle.da_lang.specs.declared.query.Query.{Query}
use Rattle.da_lang.specs.ExprMeaning.{Meaning, InSlot, InRow, OneProcess, Processes, Tables, Meant, Signed, ask, name_outside, name_meant, all_outside, signed_outside, one_outside, two_outside, list_outside, chain_outside}
use Rattle.da_lang.specs.Scopes.{Scope, look}
use Rattle.da_types.specs.Constants.{all, expr_constants, part_constants}
use Rattle.da_types.specs.QueryNotes.{AreThere, cond_notes, query_notes}
use Rattle.da_types.specs.Totality.{IsConstant}
use Rattle.da_types.proofs.resolved.ConstantsAt.{expr_constants-Const, expr_constants-Procs, expr_constants-Me, expr_constants-Slot, expr_constants-Clock, expr_constants-Ask, part_constants-of, expr_constants-Chain}

-- queries stay, and others come after them
pub record Grows (before after : List Query) : Type 0 where
  pub more : List Query
  pub is : after ≡ before ++ more

pub grown_not : (qs : List Query) → Grows qs qs
grown_not qs = record { more = []; is = sym (append-nil qs) }

pub grown_on : (xs ys zs : List Query) → Grows xs ys → Grows ys zs → Grows xs zs
grown_on xs ys zs first second = record { more = first.more ++ second.more; is = second.is ∙ ap (λ q. q ++ second.more) first.is ∙ append_assoc xs first.more second.more }

module _ (p : Program) where
  abbrev pub AreGood : List Value → Type 0
  AreGood vs = (v : Value) → Has vs v → IsConstant p v

  abbrev pub GoodExpr : RExpr → Type 0
  GoodExpr x = AreGood (expr_constants x)

  abbrev pub GoodQuery : Query → Type 0
  GoodQuery q = AreThere p (query_notes q)

  abbrev pub GoodTables : Tables → Type 0
  GoodTables tables = (q : Query) → Has tables.queries q → GoodQuery q

  -- what the tables become
  pub record Onward (tables after : Tables) : Type 0 where
    pub good : GoodTables after
    pub grows : Grows tables.queries after.queries

  pub stays : (tables : Tables) → GoodTables tables → Onward tables tables
  stays tables d = record { good = d; grows = grown_not tables.queries }

  pub onward : (tables mid after : Tables) → Onward tables mid → Onward mid after → Onward tables after
  onward tables mid after first second = record { good = second.good; grows = grown_on tables.queries mid.queries after.queries first.grows second.grows }

  -- the processes that names stand for are there
  abbrev pub MeansGood : Option Meaning → Type 0
  MeansGood None = Unit {0}
  MeansGood (Some (InSlot slot)) = Unit {0}
  MeansGood (Some (InRow part)) = Unit {0}
  MeansGood (Some (OneProcess process)) = IsConstant p (kept.Proc process)
  MeansGood (Some (Processes processes)) = AreGood (map kept.Proc processes)

  abbrev pub GoodScope : Scope Meaning → Type 0
  GoodScope scope = (name : List ℕ) → MeansGood (look scope name)

  none_good : (vs : List Value) → vs ≡ [] → AreGood vs
  none_good vs is v h = absurd (subst (λ xs. Has xs v) is h)

  one_good : (v : Value) → IsConstant p v → AreGood (v ∷ [])
  one_good v good w (inl is) = subst (IsConstant p) (sym is) good
  one_good v good w (inr h) = absurd h

  both_good : (xs ys : List Value) → AreGood xs → AreGood ys → AreGood (xs ++ ys)
  both_good xs ys first second v h = ⊎_elim (first v) (second v) (of_append xs ys v h)

  pub all_good : {A : Type 0} (f : A → List Value) (xs : List A) → AllByRecursion (λ x. AreGood (f x)) xs → AreGood (all (map f xs))
  all_good f [] each v h = absurd h
  all_good f (x ∷ xs) each v h = both_good (f x) (all (map f xs)) each.0 (all_good f xs each.1) v h

  -- what comes of an expression
  abbrev pub Outside : Type 0
  Outside = Scope Meaning → Tables → RExpr × Tables

  abbrev pub OutsideGood : Outside → Type 0
  OutsideGood outside = (scope : Scope Meaning) (tables : Tables) → GoodScope scope → GoodTables tables → GoodExpr (outside scope tables).0 × Onward tables (outside scope tables).1

  abbrev pub OutsideIs : Meant → Type 0
  OutsideIs m = OutsideGood m.outside

  pub record GoodMeant (m : Meant) : Type 0 where
    pub of_outside : OutsideGood m.outside
    pub of_condition : (scope : Scope Meaning) → AreThere p (cond_notes (m.condition scope))

  pub constant_good : (v : Value) → IsConstant p v → OutsideGood (λ scope tables. (re.Const v, tables))
  constant_good v good scope tables names d = (subst AreGood (sym (expr_constants-Const v)) (one_good v good), stays tables d)

  pub me_good : OutsideGood (λ scope tables. (re.Me, tables))
  me_good scope tables names d = (none_good (expr_constants re.Me) expr_constants-Me, stays tables d)

  pub clock_good : OutsideGood (λ scope tables. (re.Clock, tables))
  clock_good scope tables names d = (none_good (expr_constants re.Clock) expr_constants-Clock, stays tables d)

  named_expr : (means : Option Meaning) → MeansGood means → GoodExpr (name_outside means)
  named_expr None good = none_good (expr_constants re.Me) expr_constants-Me
  named_expr (Some (InSlot slot)) good = none_good (expr_constants (re.Slot slot)) (expr_constants-Slot slot)
  named_expr (Some (InRow part)) good = none_good (expr_constants re.Me) expr_constants-Me
  named_expr (Some (OneProcess process)) good = subst AreGood (sym (expr_constants-Const (kept.Proc process))) (one_good (kept.Proc process) good)
  named_expr (Some (Processes processes)) good = subst AreGood (sym (expr_constants-Procs processes)) good

  pub name_good : (name : List ℕ) → OutsideIs (name_meant name)
  name_good name scope tables names d = (named_expr (look scope name) (names name), stays tables d)

  -- queries
  pub ask_good : (query : Scope Meaning → Query) → ((scope : Scope Meaning) → GoodQuery (query scope)) → OutsideGood (ask query)
  ask_good query good scope tables names d =
      let number = suc (length tables.queries) in (
        none_good (expr_constants (re.Ask number)) (expr_constants-Ask number),
        record {
          good = λ q h. ⊎_elim (d q) (last q) (of_append tables.queries (query scope ∷ []) q h);
          grows = record { more = query scope ∷ []; is = refl };
        },
      )
    where
      last : (q : Query) → Has (query scope ∷ []) q → GoodQuery q
      last q (inl is) = subst GoodQuery (sym is) (good scope)
      last q (inr h) = absurd h

  -- several expressions
  pub all_outside_good : (xs : List Meant) → AllByRecursion OutsideIs xs → (scope : Scope Meaning) (tables : Tables) → GoodScope scope → GoodTables tables
      → AllByRecursion GoodExpr (all_outside xs scope tables).0 × Onward tables (all_outside xs scope tables).1
  all_outside_good [] each scope tables names d = (tt, stays tables d)
  all_outside_good (x ∷ xs) each scope tables names d =
      let first = each.0 scope tables names d in
      let mid = (x.outside scope tables).1 in
      let others = all_outside_good xs each.1 scope mid names first.1.good in
      ((first.0, others.0), onward tables mid (all_outside xs scope mid).1 first.1 others.1)

  pub list_good : (make : List RExpr → RExpr) → ((xs : List RExpr) → expr_constants (make xs) ≡ all (map expr_constants xs)) → (xs : List Meant) → AllByRecursion OutsideIs xs → OutsideGood (list_outside make xs)
  list_good make is xs each scope tables names d =
      let made = all_outside xs scope tables in
      let found = all_outside_good xs each scope tables names d in
      (subst AreGood (sym (is made.0)) (all_good expr_constants made.0 found.0), found.1)

  pub one_outside_good : (make : RExpr → RExpr) → ((x : RExpr) → expr_constants (make x) ≡ expr_constants x) → (m : Meant) → OutsideIs m → OutsideGood (one_outside make m)
  one_outside_good make is m good scope tables names d =
      let found = good scope tables names d in
      (subst AreGood (sym (is (m.outside scope tables).0)) found.0, found.1)

  pub two_outside_good : (make : RExpr → RExpr → RExpr) → ((x y : RExpr) → expr_constants (make x y) ≡ expr_constants x ++ expr_constants y) → (m n : Meant) → OutsideIs m → OutsideIs n → OutsideGood (two_outside make m n)
  two_outside_good make is m n good also scope tables names d =
      let x = m.outside scope tables in
      let y = n.outside scope x.1 in
      let first = good scope tables names d in
      let second = also scope x.1 names first.1.good in
      (subst AreGood (sym (is x.0 y.0)) (both_good (expr_constants x.0) (expr_constants y.0) first.0 second.0), onward tables x.1 y.1 first.1 second.1)

  -- chains
  abbrev pub GoodSigned : Signed → Type 0
  GoodSigned s = OutsideIs s.meant

  abbrev GoodPart : ChainPart → Type 0
  GoodPart x = AreGood (part_constants x)

  signed_good : (more : List Signed) → AllByRecursion GoodSigned more → (scope : Scope Meaning) (tables : Tables) → GoodScope scope → GoodTables tables
      → AllByRecursion GoodPart (signed_outside more scope tables).0 × Onward tables (signed_outside more scope tables).1
  signed_good [] each scope tables names d = (tt, stays tables d)
  signed_good (s ∷ more) each scope tables names d =
      let x = s.meant.outside scope tables in
      let first = each.0 scope tables names d in
      let others = signed_good more each.1 scope x.1 names first.1.good in
      ((subst AreGood (sym (part_constants-of s.op x.0)) first.0, others.0), onward tables x.1 (signed_outside more scope x.1).1 first.1 others.1)

  pub chain_good : (x : Meant) (more : List Signed) → OutsideIs x → AllByRecursion GoodSigned more → OutsideGood (chain_outside x more)
  chain_good x more good each scope tables names d =
      let first = x.outside scope tables in
      let others = signed_outside more scope first.1 in
      let one = good scope tables names d in
      let rest = signed_good more each scope first.1 names one.1.good in
      (subst AreGood (sym (expr_constants-Chain first.0 others.0)) (both_good (expr_constants first.0) _ one.0 (all_good part_constants others.0 rest.0)), onward tables first.1 others.1 one.1 rest.1)
