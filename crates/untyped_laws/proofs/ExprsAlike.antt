-- Expressions become the same over such tables.
use Rattle.std.specs.Prelude.{◌≡◌, refl, suc, List, [], ◌∷◌, ◌++◌, map, length, Option}
use Rattle.std.specs.List.{AllByRecursion}
use Rattle.std.proofs.Common.{ap, sym, subst}
use Rattle.da_lang.specs.declared.program.ChainPart.{roll-ChainPart}
use Rattle.da_lang.specs.declared.program.RExpr.{RExpr}
use Rattle.da_lang.specs.declared.program.RExpr.TheVariants as re
use Rattle.da_lang.specs.declared.query.Query.{Query}
use Rattle.da_lang.specs.declared.tree.ChainTree.{ChainTree}
use Rattle.da_lang.specs.declared.tree.Expr.{Expr}
use Rattle.da_lang.specs.declared.ty.Ty.{Ty}
use Rattle.da_lang.specs.ExprMeaning.{Meaning, Meant, Signed, meant, signed_of, all_outside, signed_outside, one_outside, two_outside, list_outside, chain_outside, ask}
use Rattle.da_lang.specs.Scopes.{Scope}
use Rattle.da_lang.proofs.TreeInduction.{Cases, expr_induction}
use Rattle.da_lang.proofs.MeantAt.{meant-Quant, meant-Or, meant-And, meant-Not, meant-Cmp, meant-Member, meant-Chain, meant-Int, meant-Text, meant-Truth, meant-Me, meant-Name, meant-Clock, meant-Range, meant-Tuple, meant-SetOf, meant-Comp, meant-Count, meant-Sum, meant-Min, meant-Max, signed_of-of}
use Rattle.untyped_laws.proofs.ListLaws.{all_mapped, all_of}
use Rattle.untyped_laws.proofs.TablesAlike.{GoesAlike, made, made_two}

module _ (R : Option Ty → Option Ty → Type 0) where
  abbrev Alone : Meant → Type 0
  Alone x = GoesAlike R x.outside x.outside

  asked : (query : Scope Meaning → Query) → GoesAlike R (ask query) (ask query)
  asked query scope a b l = record {
    thing = ap (λ qs. re.Ask (suc (length qs))) l.queries;
    tables = record { slots = l.slots; queries = ap (λ qs. qs ++ query scope ∷ []) l.queries };
  }

  stays : (x : Scope Meaning → RExpr) → GoesAlike R (λ scope tables. (x scope, tables)) (λ scope tables. (x scope, tables))
  stays x scope a b l = record { thing = refl; tables = l }

  one : (make : RExpr → RExpr) (x : Meant) → Alone x → GoesAlike R (one_outside make x) (one_outside make x)
  one make x p scope a b l = made R make (x.outside scope a) (x.outside scope b) (p scope a b l)

  two : (make : RExpr → RExpr → RExpr) (x y : Meant) → Alone x → Alone y → GoesAlike R (two_outside make x y) (two_outside make x y)
  two make x y p q scope a b l =
      let u = x.outside scope a in
      let v = x.outside scope b in
      let first = p scope a b l in
      made_two R make u.0 v.0 (y.outside scope u.1) (y.outside scope v.1) first.thing (q scope u.1 v.1 first.tables)

  row : (xs : List Meant) → AllByRecursion Alone xs → GoesAlike R (all_outside xs) (all_outside xs)
  row [] each scope a b l = record { thing = refl; tables = l }
  row (x ∷ xs) each scope a b l =
      let u = x.outside scope a in
      let v = x.outside scope b in
      let first = each.0 scope a b l in
      made_two R (λ z zs. z ∷ zs) u.0 v.0 (all_outside xs scope u.1) (all_outside xs scope v.1) first.thing (row xs each.1 scope u.1 v.1 first.tables)

  many : (make : List RExpr → RExpr) (xs : List Meant) → AllByRecursion Alone xs → GoesAlike R (list_outside make xs) (list_outside make xs)
  many make xs each scope a b l = made R make (all_outside xs scope a) (all_outside xs scope b) (row xs each scope a b l)

  abbrev AloneSigned : Signed → Type 0
  AloneSigned x = Alone x.meant

  links : (xs : List Signed) → AllByRecursion AloneSigned xs → GoesAlike R (signed_outside xs) (signed_outside xs)
  links [] each scope a b l = record { thing = refl; tables = l }
  links (x ∷ xs) each scope a b l =
      let u = x.meant.outside scope a in
      let v = x.meant.outside scope b in
      let first = each.0 scope a b l in
      made_two R (λ z zs. roll-ChainPart (record { op = x.op; operand = z }) ∷ zs) u.0 v.0 (signed_outside xs scope u.1) (signed_outside xs scope v.1) first.thing (links xs each.1 scope u.1 v.1 first.tables)

  chained : (x : Meant) (more : List Signed) → Alone x → AllByRecursion AloneSigned more → GoesAlike R (chain_outside x more) (chain_outside x more)
  chained x more p each scope a b l =
      let u = x.outside scope a in
      let v = x.outside scope b in
      let first = p scope a b l in
      made_two R re.Chain u.0 v.0 (signed_outside more scope u.1) (signed_outside more scope v.1) first.thing (links more each scope u.1 v.1 first.tables)

  abbrev OfExpr : Expr → Type 0
  OfExpr x = Alone (meant x)

  abbrev OfLink : ChainTree → Type 0
  OfLink x = AloneSigned (signed_of x)

  by : {x y : Meant} → x ≡ y → Alone y → Alone x
  by e p = subst Alone (sym e) p

  abbrev cases : Cases
  cases = record {
    Of_expr = OfExpr;
    Of_pattern = λ p. Unit {0};
    Of_peer = λ p. Unit {0};
    Of_link = OfLink;
    Of_gen = λ g. Unit {0};
    quant = λ each gens cond gs c. by (meant-Quant each gens cond) (asked _);
    either = λ xs each. by (meant-Or xs) (many re.Or (map meant xs) (all_mapped Alone meant xs each));
    both = λ xs each. by (meant-And xs) (many re.And (map meant xs) (all_mapped Alone meant xs each));
    negation = λ x p. by (meant-Not x) (one re.Not (meant x) p);
    comparison = λ o x y p q. by (meant-Cmp o x y) (two (re.Cmp o) (meant x) (meant y) p q);
    member = λ x y p q. by (meant-Member x y) (two re.Member (meant x) (meant y) p q);
    chain = λ x more p each. by (meant-Chain x more) (chained (meant x) (map signed_of more) p (all_mapped AloneSigned signed_of more each));
    number = λ n. by (meant-Int n) (stays _);
    text = λ bytes. by (meant-Text bytes) (stays _);
    truth = λ truth. by (meant-Truth truth) (stays _);
    me = by meant-Me (stays _);
    name = λ name. by (meant-Name name) (stays _);
    clock = by meant-Clock (stays _);
    range = λ x y p q. by (meant-Range x y) (two re.Range (meant x) (meant y) p q);
    tuple = λ xs each. by (meant-Tuple xs) (many re.Tuple (map meant xs) (all_mapped Alone meant xs each));
    set_of = λ xs each. by (meant-SetOf xs) (many re.SetOf (map meant xs) (all_mapped Alone meant xs each));
    comprehension = λ x gens cond p gs c. by (meant-Comp x gens cond) (asked _);
    count = λ x p. by (meant-Count x) (asked _);
    sum = λ x p. by (meant-Sum x) (asked _);
    least = λ x other p q. by (meant-Min x other) (asked _);
    greatest = λ x other p q. by (meant-Max x other) (asked _);
    any = tt;
    variable = λ name. tt;
    number_pattern = λ n. tt;
    text_pattern = λ bytes. tt;
    truth_pattern = λ truth. tt;
    me_pattern = tt;
    equal = λ x p. tt;
    tuple_pattern = λ ps each. tt;
    from = λ p q. tt;
    to = λ p q. tt;
    link = λ o x p. subst AloneSigned (sym (signed_of-of o x)) p;
    generator = λ message peer source p q. tt;
  }

  pub expr_alike : (x : Expr) → Alone (meant x)
  expr_alike = expr_induction cases

  pub exprs_alike : (xs : List Expr) → GoesAlike R (all_outside (map meant xs)) (all_outside (map meant xs))
  exprs_alike xs = row (map meant xs) (all_mapped Alone meant xs (all_of OfExpr expr_alike xs))
