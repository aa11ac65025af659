-- Expressions bring no slots.
use Rattle.std.specs.Prelude.{◌≡◌, refl, List, [], ◌∷◌, map}
use Rattle.std.specs.List.{AllByRecursion}
use Rattle.std.proofs.Common.{◌∙◌, sym, subst}
use Rattle.da_lang.specs.declared.tree.Expr.{Expr}
use Rattle.da_lang.specs.ExprMeaning.{Meaning, Tables, Meant, Signed, meant, signed_of, all_outside, signed_outside}
use Rattle.da_lang.specs.Scopes.{Scope}
use Rattle.da_lang.proofs.TreeInduction.{Cases, expr_induction}
use Rattle.da_lang.proofs.MeantAt.{meant-Quant, meant-Or, meant-And, meant-Not, meant-Cmp, meant-Member, meant-Chain, meant-Int, meant-Text, meant-Truth, meant-Me, meant-Name, meant-Clock, meant-Range, meant-Tuple, meant-SetOf, meant-Comp, meant-Count, meant-Sum, meant-Min, meant-Max, signed_of-of}
use Rattle.untyped_laws.proofs.ListLaws.{all_mapped, all_of}

abbrev Rests : Meant → Type 0
Rests x = (scope : Scope Meaning) (a : Tables) → (x.outside scope a).1.slots ≡ a.slots

abbrev RestsSigned : Signed → Type 0
RestsSigned x = Rests x.meant

two : (x y : Meant) → Rests x → Rests y → (scope : Scope Meaning) (a : Tables) → (y.outside scope (x.outside scope a).1).1.slots ≡ a.slots
two x y p q scope a = q scope (x.outside scope a).1 ∙ p scope a

row : (xs : List Meant) → AllByRecursion Rests xs → (scope : Scope Meaning) (a : Tables) → (all_outside xs scope a).1.slots ≡ a.slots
row [] each scope a = refl
row (x ∷ xs) each scope a = row xs each.1 scope (x.outside scope a).1 ∙ each.0 scope a

links : (xs : List Signed) → AllByRecursion RestsSigned xs → (scope : Scope Meaning) (a : Tables) → (signed_outside xs scope a).1.slots ≡ a.slots
links [] each scope a = refl
links (x ∷ xs) each scope a = links xs each.1 scope (x.meant.outside scope a).1 ∙ each.0 scope a

by : {x y : Meant} → x ≡ y → Rests y → Rests x
by e p = subst Rests (sym e) p

abbrev OfExpr : Expr → Type 0
OfExpr x = Rests (meant x)

rows : (xs : List Expr) → AllByRecursion OfExpr xs → (scope : Scope Meaning) (a : Tables) → (all_outside (map meant xs) scope a).1.slots ≡ a.slots
rows xs each = row (map meant xs) (all_mapped Rests meant xs each)

abbrev cases : Cases
cases = record {
  Of_expr = OfExpr;
  Of_pattern = λ p. Unit {0};
  Of_peer = λ p. Unit {0};
  Of_link = λ x. RestsSigned (signed_of x);
  Of_gen = λ g. Unit {0};
  quant = λ each gens cond gs c. by (meant-Quant each gens cond) (λ scope a. refl);
  either = λ xs each. by (meant-Or xs) (rows xs each);
  both = λ xs each. by (meant-And xs) (rows xs each);
  negation = λ x p. by (meant-Not x) p;
  comparison = λ o x y p q. by (meant-Cmp o x y) (two (meant x) (meant y) p q);
  member = λ x y p q. by (meant-Member x y) (two (meant x) (meant y) p q);
  chain = λ x more p each. by (meant-Chain x more) (λ scope a. links (map signed_of more) (all_mapped RestsSigned signed_of more each) scope ((meant x).outside scope a).1 ∙ p scope a);
  number = λ n. by (meant-Int n) (λ scope a. refl);
  text = λ bytes. by (meant-Text bytes) (λ scope a. refl);
  truth = λ truth. by (meant-Truth truth) (λ scope a. refl);
  me = by meant-Me (λ scope a. refl);
  name = λ name. by (meant-Name name) (λ scope a. refl);
  clock = by meant-Clock (λ scope a. refl);
  range = λ x y p q. by (meant-Range x y) (two (meant x) (meant y) p q);
  tuple = λ xs each. by (meant-Tuple xs) (rows xs each);
  set_of = λ xs each. by (meant-SetOf xs) (rows xs each);
  comprehension = λ x gens cond p gs c. by (meant-Comp x gens cond) (λ scope a. refl);
  count = λ x p. by (meant-Count x) (λ scope a. refl);
  sum = λ x p. by (meant-Sum x) (λ scope a. refl);
  least = λ x other p q. by (meant-Min x other) (λ scope a. refl);
  greatest = λ x other p q. by (meant-Max x other) (λ scope a. refl);
  any = tt;
  variable = λ name. tt;
  number_pattern = λ n. tt;
  text_pattern = λ bytes. tt;
  truth_pattern = λ truth. tt;
  me_pattern = tt;
  equal = λ x p. tt;
  tuple_pattern = λ ps each. tt;
  from = λ p q. tt;
  to = λ p q. tt;
  link = λ o x p. subst RestsSigned (sym (signed_of-of o x)) p;
  generator = λ message peer source p q. tt;
}

pub expr_rests : (x : Expr) → Rests (meant x)
expr_rests = expr_induction cases

pub exprs_rest : (xs : List Expr) (scope : Scope Meaning) (a : Tables) → (all_outside (map meant xs) scope a).1.slots ≡ a.slots
exprs_rest xs = rows xs (all_of OfExpr expr_rests xs)
