-- An expression outside queries adds no slot.
use Rattle.std.specs.Prelude.{◌≡◌, refl, List, [], ◌∷◌, map}
use Rattle.std.specs.List.{AllByRecursion}
use Rattle.std.proofs.Common.{◌∙◌, ap}
use Rattle.da_lang.specs.declared.tree.ChainTree.{ChainTree}
use Rattle.da_lang.specs.declared.tree.Expr.{Expr}
use Rattle.da_lang.specs.ExprMeaning.{Meaning, Meant, Signed, Tables, meant, signed_of, all_outside, signed_outside}
use Rattle.da_lang.specs.Scopes.{Scope}
use Rattle.da_lang.proofs.MeantAt.{meant-Quant, meant-Or, meant-And, meant-Not, meant-Cmp, meant-Member, meant-Chain, meant-Int, meant-Text, meant-Truth, meant-Me, meant-Name, meant-Clock, meant-Range, meant-Tuple, meant-SetOf, meant-Comp, meant-Count, meant-Sum, meant-Min, meant-Max, signed_of-of}
use Rattle.da_lang.proofs.TreeInduction.{Cases, expr_induction}

abbrev Keeps : Meant → Type 0
Keeps m = (scope : Scope Meaning) (tables : Tables) → (m.outside scope tables).1.slots ≡ tables.slots

abbrev ExprKeeps : Expr → Type 0
ExprKeeps x = Keeps (meant x)

abbrev LinkKeeps : ChainTree → Type 0
LinkKeeps link = Keeps (signed_of link).meant

-- two expressions of one meaning
by : (x : Expr) (m : Meant) → meant x ≡ m → Keeps m → ExprKeeps x
by x m is keeps scope tables = ap (λ (n : Meant). (n.outside scope tables).1.slots) is ∙ keeps scope tables

all_keep : (xs : List Expr) → AllByRecursion ExprKeeps xs → (scope : Scope Meaning) (tables : Tables) → (all_outside (map meant xs) scope tables).1.slots ≡ tables.slots
all_keep [] each scope tables = refl
all_keep (x ∷ xs) each scope tables = all_keep xs each.1 scope ((meant x).outside scope tables).1 ∙ each.0 scope tables

links_keep : (links : List ChainTree) → AllByRecursion LinkKeeps links → (scope : Scope Meaning) (tables : Tables) → (signed_outside (map signed_of links) scope tables).1.slots ≡ tables.slots
links_keep [] each scope tables = refl
links_keep (link ∷ links) each scope tables = links_keep links each.1 scope ((signed_of link).meant.outside scope tables).1 ∙ each.0 scope tables

two_keep : (x y : Expr) → ExprKeeps x → ExprKeeps y → (scope : Scope Meaning) (tables : Tables) → ((meant y).outside scope ((meant x).outside scope tables).1).1.slots ≡ tables.slots
two_keep x y first second scope tables = second scope ((meant x).outside scope tables).1 ∙ first scope tables

abbrev keep_cases : Cases
keep_cases = record {
  Of_expr = ExprKeeps;
  Of_pattern = λ p. Unit {0};
  Of_peer = λ p. Unit {0};
  Of_link = LinkKeeps;
  Of_gen = λ g. Unit {0};
  quant = λ each gens cond of_gens of_cond. by _ _ (meant-Quant each gens cond) (λ scope tables. refl);
  either = λ xs each. by _ _ (meant-Or xs) (all_keep xs each);
  both = λ xs each. by _ _ (meant-And xs) (all_keep xs each);
  negation = λ x keeps. by _ _ (meant-Not x) keeps;
  comparison = λ o x y first second. by _ _ (meant-Cmp o x y) (two_keep x y first second);
  member = λ x y first second. by _ _ (meant-Member x y) (two_keep x y first second);
  chain = λ x more first each. by _ _ (meant-Chain x more) (λ scope tables. links_keep more each scope ((meant x).outside scope tables).1 ∙ first scope tables);
  number = λ number. by _ _ (meant-Int number) (λ scope tables. refl);
  text = λ bytes. by _ _ (meant-Text bytes) (λ scope tables. refl);
  truth = λ truth. by _ _ (meant-Truth truth) (λ scope tables. refl);
  me = by _ _ meant-Me (λ scope tables. refl);
  name = λ name. by _ _ (meant-Name name) (λ scope tables. refl);
  clock = by _ _ meant-Clock (λ scope tables. refl);
  range = λ x y first second. by _ _ (meant-Range x y) (two_keep x y first second);
  tuple = λ xs each. by _ _ (meant-Tuple xs) (all_keep xs each);
  set_of = λ xs each. by _ _ (meant-SetOf xs) (all_keep xs each);
  comprehension = λ x gens cond keeps of_gens of_cond. by _ _ (meant-Comp x gens cond) (λ scope tables. refl);
  count = λ x keeps. by _ _ (meant-Count x) (λ scope tables. refl);
  sum = λ x keeps. by _ _ (meant-Sum x) (λ scope tables. refl);
  least = λ x other keeps others. by _ _ (meant-Min x other) (λ scope tables. refl);
  greatest = λ x other keeps others. by _ _ (meant-Max x other) (λ scope tables. refl);
  any = tt;
  variable = λ name. tt;
  number_pattern = λ number. tt;
  text_pattern = λ bytes. tt;
  truth_pattern = λ truth. tt;
  me_pattern = tt;
  equal = λ x keeps. tt;
  tuple_pattern = λ ps each. tt;
  from = λ p keeps. tt;
  to = λ p keeps. tt;
  link = λ op operand keeps scope tables. ap (λ (s : Signed). (s.meant.outside scope tables).1.slots) (signed_of-of op operand) ∙ keeps scope tables;
  generator = λ message peer source of_message of_peer. tt;
}

pub slots_kept : (x : Expr) (scope : Scope Meaning) (tables : Tables) → ((meant x).outside scope tables).1.slots ≡ tables.slots
slots_kept = expr_induction keep_cases

pub all_slots_kept : (xs : List Expr) (scope : Scope Meaning) (tables : Tables) → (all_outside (map meant xs) scope tables).1.slots ≡ tables.slots
all_slots_kept [] scope tables = refl
all_slots_kept (x ∷ xs) scope tables = all_slots_kept xs scope ((meant x).outside scope tables).1 ∙ slots_kept x scope tables
