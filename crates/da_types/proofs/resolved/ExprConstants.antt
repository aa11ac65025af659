-- Every expression of a tree in which what is written is fine becomes one with constants that are there, and with queries and
-- conditions whose constants are there and whose signs are few.
use Rattle.std.specs.Prelude.{◌≡◌, refl, Bool, ◌≤◌, length, List, [], ◌∷◌, ◌++◌, map, Option, Some, None, flat_map, option_map}
use Rattle.std.specs.List.{AllByRecursion}
use Rattle.std.proofs.Common.{ap, sym, subst, inl, inr, arith}
use Rattle.da_values.specs.declared.value.Value.{Value}
use Rattle.da_values.specs.declared.value.Value.TheVariants as kept
use Rattle.da_values.specs.Sets.{Has}
use Rattle.da_values.proofs.Members.{Has-append_left, Has-append_right, Has-flat_map}
use Rattle.da_lang.specs.declared.program.Program.{Program}
use Rattle.da_lang.specs.declared.program.RExpr.TheVariants as re
use Rattle.da_lang.specs.declared.query.AggOp.{AggOp}
use Rattle.da_lang.specs.declared.query.AggOp.TheVariants as agg
use Rattle.da_lang.specs.declared.query.Query.{Query}
use Rattle.da_lang.specs.declared.query.Query.TheVariants as qu
use Rattle.da_lang.specs.declared.tree.ChainTree.{ChainTree}
use Rattle.da_lang.specs.declared.tree.Expr.{Expr}
use Rattle.da_lang.specs.declared.tree.Expr.TheVariants as ex
use Rattle.da_lang.specs.declared.tree.GenTree.{GenTree}
use Rattle.da_lang.specs.ExprMeaning.{Meaning, Meant, agg_of, aggregated, scope_after_gens, cond_after, gens_in, generator, meant, signed_of}
use Rattle.da_lang.specs.Scopes.{Scope}
use Rattle.da_lang.proofs.MeantAt.{meant-Quant, meant-Or, meant-And, meant-Not, meant-Cmp, meant-Member, meant-Chain, meant-Int, meant-Text, meant-Truth, meant-Me, meant-Name, meant-Clock, meant-Range, meant-Tuple, meant-SetOf, meant-Comp, meant-Count, meant-Sum, meant-Min, meant-Max, signed_of-of}
use Rattle.da_lang.proofs.TreeInduction.{Cases, expr_induction}
use Rattle.da_types.specs.Constants.{Literal, Notes, AreFine, IsLiteral, all, notes, link_notes, signs}
use Rattle.da_types.specs.QueryNotes.{AreThere, cond_notes, operand_notes}
use Rattle.da_types.specs.Totality.{IsConstant}
use Rattle.da_types.proofs.resolved.ConstantsAt.{expr_constants-Range, expr_constants-Tuple, expr_constants-SetOf, expr_constants-Or, expr_constants-And, expr_constants-Not, expr_constants-Cmp, expr_constants-Member}
use Rattle.da_types.proofs.resolved.ConstantsFill.{GoodMeant, GoodSigned, OutsideIs, ask_good, chain_good, clock_good, constant_good, list_good, me_good, name_good, one_outside_good, two_outside_good}
use Rattle.da_types.proofs.resolved.NotesAt.{notes-Or, notes-And, notes-Not, notes-Cmp, notes-Member, notes-Chain, notes-Int, notes-Text, notes-Truth, notes-Range, notes-Tuple, notes-SetOf, link_notes-of}
use Rattle.da_types.proofs.resolved.NotesKept.{Within, argument_notes, equal_within, expr_keeps, signs-append}
use Rattle.da_types.proofs.resolved.QueryNotesAt.{cond_notes-Quant, operand_notes-Agg}

pub front_fine : (xs ys : Notes) → AreFine (xs ++ ys) → AreFine xs
front_fine xs ys fine = record { each = λ n h. fine.each n (Has-append_left xs ys n h); few = omega (arith, signs-append xs ys, fine.few) }

pub back_fine : (xs ys : Notes) → AreFine (xs ++ ys) → AreFine ys
back_fine xs ys fine = record { each = λ n h. fine.each n (Has-append_right xs ys n h); few = omega (arith, signs-append xs ys, fine.few) }

signs_part : {A : Type 0} (written : A → Notes) (xs : List A) (x : A) → Has xs x → signs (written x) ≤ signs (flat_map written xs)
signs_part written [] x h = absurd h
signs_part written (y ∷ xs) x (inl is) = omega (arith, signs-append (written y) (flat_map written xs), ap (λ z. signs (written z)) is)
signs_part written (y ∷ xs) x (inr h) = omega (arith, signs-append (written y) (flat_map written xs), signs_part written xs x h)

pub part_fine : {A : Type 0} (written : A → Notes) (xs : List A) (x : A) → Has xs x → AreFine (flat_map written xs) → AreFine (written x)
part_fine written xs x has fine = record { each = λ n h. fine.each n (Has-flat_map written xs x n has h); few = omega (arith, signs_part written xs x has, fine.few) }

module _ (p : Program) where
  literal_good : (v : Value) → IsLiteral v → IsConstant p v
  literal_good v fine = record { proper = fine.proper; processes = fine.free (length p.procs) }

  -- what is noted within fine notes
  pub fine_there : (ns ms : Notes) → Within ns ms → AreFine ms → AreThere p ns
  fine_there ns ms within fine = record { constants = λ v h. literal_good v (fine.each (Literal v) (within.values v h)); few = omega (arith, within.few, fine.few) }

  abbrev ExprGood : Expr → Type 0
  ExprGood x = AreFine (notes x) → OutsideIs p (meant x)

  abbrev LinkGood : ChainTree → Type 0
  LinkGood l = AreFine (link_notes l) → GoodSigned p (signed_of l)

  mapped : {A B : Type 0} (written : A → Notes) (P : B → Type 0) (f : A → B) (xs : List A) → AllByRecursion (λ x. AreFine (written x) → P (f x)) xs → AreFine (all (map written xs)) → AllByRecursion P (map f xs)
  mapped written P f [] each fine = tt
  mapped written P f (x ∷ xs) each fine = (each.0 (front_fine (written x) (all (map written xs)) fine), mapped written P f xs each.1 (back_fine (written x) (all (map written xs)) fine))

  as_meant : (x : Expr) (m : Meant) → meant x ≡ m → OutsideIs p m → OutsideIs p (meant x)
  as_meant x m is good = subst (OutsideIs p) (sym is) good

  list_meant : (x : Expr) (xs : List Expr) (m : Meant) → meant x ≡ m → notes x ≡ all (map notes xs) → AllByRecursion ExprGood xs → (AllByRecursion (OutsideIs p) (map meant xs) → OutsideIs p m) → ExprGood x
  list_meant x xs m is written each go fine = as_meant x m is (go (mapped notes (OutsideIs p) meant xs each (subst AreFine written fine)))

  two_meant : (x a b : Expr) (m : Meant) → meant x ≡ m → notes x ≡ notes a ++ notes b → ExprGood a → ExprGood b → (OutsideIs p (meant a) → OutsideIs p (meant b) → OutsideIs p m) → ExprGood x
  two_meant x a b m is written first second go fine =
      let both = subst AreFine written fine in
      as_meant x m is (go (first (front_fine (notes a) (notes b) both)) (second (back_fine (notes a) (notes b) both)))

  literal_meant : (x : Expr) (v : Value) (m : Meant) → meant x ≡ m → notes x ≡ Literal v ∷ [] → (IsConstant p v → OutsideIs p m) → ExprGood x
  literal_meant x v m is written go fine = as_meant x m is (go (literal_good v (fine.each (Literal v) (subst (λ z. Has z (Literal v)) (sym written) (inl refl)))))

  -- queries
  row_meant : (each : Bool) (gens : List GenTree) (cond : Option Expr) → ExprGood (ex.Quant each gens cond)
  row_meant each gens cond fine =
      let x = ex.Quant each gens cond in
      let query : Scope Meaning → Query = λ scope. qu.Quant each (gens_in (map generator gens) scope) (cond_after (map generator gens) (option_map meant cond) scope) in
      as_meant x _ (meant-Quant each gens cond) (ask_good p query (λ scope. fine_there _ (notes x) (
      equal_within _ _ _ (sym (cond_notes-Quant each (gens_in (map generator gens) scope) (cond_after (map generator gens) (option_map meant cond) scope)))
      (subst (λ (m : Meant). Within (cond_notes (m.condition scope)) (notes x)) (meant-Quant each gens cond) ((expr_keeps x).of_condition scope))) fine))

  set_meant : (y : Expr) (gens : List GenTree) (cond : Option Expr) → ExprGood (ex.Comp y gens cond)
  set_meant y gens cond fine =
      let x = ex.Comp y gens cond in
      let query : Scope Meaning → Query = λ scope. qu.Comp ((meant y).term (scope_after_gens (map generator gens) scope)) (gens_in (map generator gens) scope) (cond_after (map generator gens) (option_map meant cond) scope) in
      as_meant x _ (meant-Comp y gens cond) (ask_good p query (λ scope. fine_there _ (notes x) (
      subst (λ (m : Meant). Within (argument_notes (m.range scope)) (notes x)) (meant-Comp y gens cond) ((expr_keeps x).of_range scope)) fine))

  aggregate_meant : (x : Expr) (o : AggOp) (y : Meant) (other : Option Meant) → meant x ≡ aggregated o y other → ExprGood x
  aggregate_meant x o y other is fine =
      let query : Scope Meaning → Query = λ scope. qu.Agg (agg_of o (y.range scope) (option_map (λ (z : Meant). z.term scope) other)) in
      as_meant x _ is (ask_good p query (λ scope. fine_there _ (notes x) (
      equal_within _ _ _ (sym (operand_notes-Agg (agg_of o (y.range scope) (option_map (λ (z : Meant). z.term scope) other))))
      (subst (λ (m : Meant). Within (operand_notes (m.operand scope)) (notes x)) is ((expr_keeps x).of_operand scope))) fine))

  chain_meant : (x : Expr) (more : List ChainTree) → ExprGood x → AllByRecursion LinkGood more → ExprGood (ex.Chain x more)
  chain_meant x more good each fine =
      let links = all (map link_notes more) in
      let both = back_fine (_ ∷ []) (notes x ++ links) (subst AreFine (notes-Chain x more) fine) in
      as_meant _ _ (meant-Chain x more) (chain_good p (meant x) (map signed_of more) (good (front_fine (notes x) links both)) (mapped link_notes (GoodSigned p) signed_of more each (back_fine (notes x) links both)))

  good_cases : Cases
  good_cases = record {
    Of_expr = ExprGood;
    Of_pattern = λ q. Unit {0};
    Of_peer = λ q. Unit {0};
    Of_link = LinkGood;
    Of_gen = λ g. Unit {0};
    quant = λ each gens cond ofs of. row_meant each gens cond;
    either = λ xs each. list_meant _ xs _ (meant-Or xs) (notes-Or xs) each (list_good p re.Or expr_constants-Or (map meant xs));
    both = λ xs each. list_meant _ xs _ (meant-And xs) (notes-And xs) each (list_good p re.And expr_constants-And (map meant xs));
    negation = λ x good fine. as_meant _ _ (meant-Not x) (one_outside_good p re.Not expr_constants-Not (meant x) (good (subst AreFine (notes-Not x) fine)));
    comparison = λ o x y first second. two_meant _ x y _ (meant-Cmp o x y) (notes-Cmp o x y) first second (two_outside_good p (re.Cmp o) (expr_constants-Cmp o) (meant x) (meant y));
    member = λ x y first second. two_meant _ x y _ (meant-Member x y) (notes-Member x y) first second (two_outside_good p re.Member expr_constants-Member (meant x) (meant y));
    chain = chain_meant;
    number = λ number. literal_meant _ (kept.Int number) _ (meant-Int number) (notes-Int number) (constant_good p (kept.Int number));
    text = λ bytes. literal_meant _ (kept.Text bytes) _ (meant-Text bytes) (notes-Text bytes) (constant_good p (kept.Text bytes));
    truth = λ truth. literal_meant _ (kept.Bool truth) _ (meant-Truth truth) (notes-Truth truth) (constant_good p (kept.Bool truth));
    me = λ fine. as_meant _ _ meant-Me (me_good p);
    name = λ name fine. as_meant _ _ (meant-Name name) (name_good p name);
    clock = λ fine. as_meant _ _ meant-Clock (clock_good p);
    range = λ x y first second. two_meant _ x y _ (meant-Range x y) (notes-Range x y) first second (two_outside_good p re.Range expr_constants-Range (meant x) (meant y));
    tuple = λ xs each. list_meant _ xs _ (meant-Tuple xs) (notes-Tuple xs) each (list_good p re.Tuple expr_constants-Tuple (map meant xs));
    set_of = λ xs each. list_meant _ xs _ (meant-SetOf xs) (notes-SetOf xs) each (list_good p re.SetOf expr_constants-SetOf (map meant xs));
    comprehension = λ x gens cond good ofs of. set_meant x gens cond;
    count = λ x good. aggregate_meant _ agg.Count (meant x) None (meant-Count x);
    sum = λ x good. aggregate_meant _ agg.Sum (meant x) None (meant-Sum x);
    least = λ x other first second. aggregate_meant _ agg.Min (meant x) (Some (meant other)) (meant-Min x other);
    greatest = λ x other first second. aggregate_meant _ agg.Max (meant x) (Some (meant other)) (meant-Max x other);
    any = tt;
    variable = λ name. tt;
    number_pattern = λ number. tt;
    text_pattern = λ bytes. tt;
    truth_pattern = λ truth. tt;
    me_pattern = tt;
    equal = λ x of. tt;
    tuple_pattern = λ ps each. tt;
    from = λ q of. tt;
    to = λ q of. tt;
    link = λ op x good fine. subst (GoodSigned p) (sym (signed_of-of op x)) (good (subst AreFine (link_notes-of op x) fine));
    generator = λ message peer source of ofs. tt;
  }

  outside_good : (x : Expr) → ExprGood x
  unfolding good_cases
  outside_good = expr_induction good_cases

  pub expr_good : (x : Expr) → AreFine (notes x) → GoodMeant p (meant x)
  expr_good x fine = record { of_outside = outside_good x fine; of_condition = λ scope. fine_there _ (notes x) ((expr_keeps x).of_condition scope) fine }
