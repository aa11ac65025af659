-- Demands of a program speak of the first so many unknown types where all that it lists do.
use Rattle.std.specs.Prelude.{◌≡◌, refl, ℕ, zero, suc, max, nat_le, nat_lt, Bool, true, false, ◌&&◌, if◌then◌else◌, List, [], ◌∷◌, ◌++◌, map, flat_map, slice_get}
use Rattle.std.specs.Borrow.{Bor}
use Rattle.std.specs.List.{AllByRecursion, list_all, list_any}
use Rattle.std.proofs.Common.{◌∙◌, ap, sym, arith}
use Rattle.std.proofs.lemmas.Bool.{and_parts}
use Rattle.std.proofs.lemmas.Bool.Decides.{nat_tests}
use Rattle.type_table.specs.declared.scheme.Scheme.{Scheme, roll-Scheme}
use Rattle.type_table.specs.declared.scheme.Scheme.TheFolds.{map-Scheme, fold-roll-Scheme}
use Rattle.type_table.specs.declared.scheme.Scheme.TheOpen as layer
use Rattle.type_table.specs.declared.scheme.Scheme.TheVariants as s
use Rattle.type_table.specs.Schemes.{reach, reach_step, highest, IsKnown}
use Rattle.type_table.proofs.SchemeLaws.{reach_unknown, reach_tuple, reach_set, reach_element, reach_part}
use Rattle.type_demands.specs.declared.demand.Demand.{Demand}
use Rattle.type_demands.specs.declared.demand.Demand.TheVariants as d
use Rattle.type_demands.specs.declared.demand.LineDemand.{LineDemand}
use Rattle.type_fitting.specs.Fit.{Knows}
use Rattle.class_demands.specs.declared.demands.ClassDemands.{ClassDemands}
use Rattle.class_demands.specs.declared.demands.Head.{Head}
use Rattle.class_demands.specs.declared.demands.ProgramDemands.{ProgramDemands}
use Rattle.class_demands.specs.declared.demands.SetupDemands.{SetupDemands}
use Rattle.class_demands.specs.Prefix.{upto, is_use, needed, heads_of, class_upto, setup_upto, demands_upto}
use Rattle.da_infer.specs.Known.{is_known, knows, all_known, lines_known, heads_known, class_known, classes_known, setups_known, program_known}

-- ---- the forms of a type

within_both : (a b count : ℕ) → nat_le (max a b) count ≡ (nat_le a count && nat_le b count)
within_both a b count = grind (arith, nat_tests)

within_nothing : (count : ℕ) → nat_le 0 count ≡ true
within_nothing count = grind (arith, nat_tests)

within_next : (k count : ℕ) → nat_le (suc k) count ≡ nat_lt k count
within_next k count = grind (arith, nat_tests)

highest_within : (count : ℕ) (xs : List Scheme) → nat_le (highest (map reach xs)) count ≡ list_all (is_known count) xs
highest_within count [] = within_nothing count
highest_within count (x ∷ xs) = within_both (reach x) (highest (map reach xs)) count ∙ ap (λ rest. is_known count x && rest) (highest_within count xs)

reach_layer : (y : layer.Scheme-F Scheme) → reach (roll-Scheme y) ≡ reach_step (map-Scheme Scheme ℕ reach y)
unfolding reach
reach_layer y = fold-roll-Scheme ℕ reach_step y

pub known-Unknown : (count k : ℕ) → is_known count (s.Unknown k) ≡ nat_lt k count
known-Unknown count k = ap (λ n. nat_le n count) (reach_unknown k) ∙ within_next k count

pub known-Int : (count : ℕ) → is_known count s.Int ≡ true
known-Int count = ap (λ n. nat_le n count) (ap reach (sym s.rolls-Int) ∙ reach_layer layer.Int) ∙ within_nothing count

pub known-Bool : (count : ℕ) → is_known count s.Bool ≡ true
known-Bool count = ap (λ n. nat_le n count) (ap reach (sym s.rolls-Bool) ∙ reach_layer layer.Bool) ∙ within_nothing count

pub known-Text : (count : ℕ) → is_known count s.Text ≡ true
known-Text count = ap (λ n. nat_le n count) (ap reach (sym s.rolls-Text) ∙ reach_layer layer.Text) ∙ within_nothing count

pub known-Proc : (count : ℕ) → is_known count s.Proc ≡ true
known-Proc count = ap (λ n. nat_le n count) (ap reach (sym s.rolls-Proc) ∙ reach_layer layer.Proc) ∙ within_nothing count

pub known-Tuple : (count : ℕ) (parts : List Scheme) → is_known count (s.Tuple parts) ≡ list_all (is_known count) parts
known-Tuple count parts = ap (λ n. nat_le n count) (reach_tuple parts) ∙ highest_within count parts

pub known-Set : (count : ℕ) (x : Scheme) → is_known count (s.Set x) ≡ is_known count x
known-Set count x = ap (λ n. nat_le n count) (reach_set x)

pub known-Element : (count : ℕ) (x : Scheme) → is_known count (s.Element x) ≡ is_known count x
known-Element count x = ap (λ n. nat_le n count) (reach_element x)

pub known-Part : (count : ℕ) (x : Scheme) (at parts : ℕ) → is_known count (s.Part x at parts) ≡ is_known count x
known-Part count x at parts = ap (λ n. nat_le n count) (reach_part x at parts)

pub ruleset known_forms = (known-Unknown, known-Int, known-Bool, known-Text, known-Proc, known-Tuple, known-Set, known-Element, known-Part)

is_within : (count : ℕ) (x : Scheme) → is_known count x ≡ true → IsKnown count x
is_within count x e = grind (arith, nat_tests, e)

-- ---- from tests to facts

knows_is : (count : ℕ) (x : Demand) → knows count x ≡ true → Knows count x
knows_is count d.Never e = tt
knows_is count (d.Same x y) e = let (first, second) = and_parts (is_known count x) (is_known count y) e in (is_within count x first, is_within count y second)
knows_is count (d.Int x) e = is_within count x e
knows_is count (d.Truth x) e = is_within count x e
knows_is count (d.Width x parts) e = is_within count x e
knows_is count (d.Elements x) e = is_within count x e
knows_is count (d.Ordered x) e = is_within count x e
knows_is count (d.Adds x) e = is_within count x e
knows_is count (d.Single x) e = is_within count x e
knows_is count (d.Receives x) e = is_within count x e
knows_is count (d.Flat x) e = is_within count x e
knows_is count (d.Uses slot) e = tt

pub each_is : {A : Type 0} (test : A → Bool) (P : A → Type 0) → ((x : A) → test x ≡ true → P x) → (xs : List A) → list_all test xs ≡ true → AllByRecursion P xs
each_is test P is [] e = tt
each_is test P is (x ∷ xs) e = let (first, rest) = and_parts (test x) (list_all test xs) e in (is x first, each_is test P is xs rest)

-- ---- what a program demands up to a line

pub all_both : {A : Type 0} (P : A → Type 0) (xs ys : List A) → AllByRecursion P xs → AllByRecursion P ys → AllByRecursion P (xs ++ ys)
all_both P [] ys p q = q
all_both P (x ∷ xs) ys p q = (p.0, all_both P xs ys p.1 q)

pub all_flat : {A B : Type 0} (P : B → Type 0) (Q : A → Type 0) (f : A → List B) → ((x : A) → Q x → AllByRecursion P (f x)) → (xs : List A) → AllByRecursion Q xs → AllByRecursion P (flat_map f xs)
all_flat P Q f each [] all = tt
all_flat P Q f each (x ∷ xs) all = all_both P (f x) (flat_map f xs) (each x all.0) (all_flat P Q f each xs all.1)

module _ (count : ℕ) where
  chosen : (b : Bool) (x : Demand) (xs : List Demand) → Knows count x → AllByRecursion (Knows count) xs → AllByRecursion (Knows count) (if b then x ∷ xs else xs)
  chosen true x xs p all = (p, all)
  chosen false x xs p all = all

  upto_known : (n : ℕ) (xs : List LineDemand) → lines_known count xs ≡ true → AllByRecursion (Knows count) (upto n xs)
  upto_known n [] all = tt
  upto_known n (x ∷ xs) all =
      let (first, rest) = and_parts (knows count x.demand) (lines_known count xs) all in
      chosen (nat_le x.line n) x.demand (upto n xs) (knows_is count x.demand first) (upto_known n xs rest)

  head_by : (b : Bool) (xs ys : List Demand) → AllByRecursion (Knows count) xs → AllByRecursion (Knows count) ys → AllByRecursion (Knows count) (if b then xs ++ ys else xs)
  head_by true xs ys p q = all_both (Knows count) xs ys p q
  head_by false xs ys p q = p

  needed_known : (hs : List Head) (xs : List Demand) → heads_known count hs ≡ true → AllByRecursion (Knows count) xs → AllByRecursion (Knows count) (needed hs xs)
  needed_known [] xs p q = q
  needed_known (h ∷ hs) xs p q =
      let (first, rest) = and_parts (all_known count h.demands) (heads_known count hs) p in
      head_by (list_any (is_use h.binds) (needed hs xs)) (needed hs xs) h.demands (needed_known hs xs rest q) (each_is (knows count) (Knows count) (knows_is count) h.demands first)

  class_knows : (n : ℕ) (c : ClassDemands) → class_known count c ≡ true → AllByRecursion (Knows count) (class_upto n c)
  class_knows n c p = let (heads, lines) = and_parts (heads_known count c.heads) (lines_known count c.demands) p in needed_known c.heads (upto n c.demands) heads (upto_known n c.demands lines)

  class_at : (k : ℕ) (cs : List ClassDemands) → classes_known count cs ≡ true → heads_known count (heads_of (slice_get cs k)) ≡ true
  class_at k [] all = refl
  class_at zero (c ∷ cs) all = (and_parts (heads_known count c.heads) (lines_known count c.demands) (and_parts (class_known count c) (classes_known count cs) all).0).0
  class_at (suc k) (c ∷ cs) all = class_at k cs (and_parts (class_known count c) (classes_known count cs) all).1

  setup_knows : (n : ℕ) (cs : List ClassDemands) → classes_known count cs ≡ true → (x : SetupDemands) → lines_known count x.demands ≡ true → AllByRecursion (Knows count) (setup_upto n cs x)
  setup_knows n cs all x p = needed_known (heads_of (slice_get cs x.class)) (upto n x.demands) (class_at x.class cs all) (upto_known n x.demands p)

  pub program_knows : (n : ℕ) (p : ProgramDemands) → program_known count p ≡ true → AllByRecursion (Knows count) (demands_upto n p)
  unfolding demands_upto
  program_knows n p known =
      let (classes, setups) = and_parts (classes_known count p.classes) (setups_known count p.setups) known in
      all_both (Knows count) (flat_map (class_upto n) p.classes) (flat_map (setup_upto n p.classes) p.setups)
      (all_flat (Knows count) (λ (c : ClassDemands). class_known count c ≡ true) (class_upto n) (class_knows n) p.classes (each_is (class_known count) (λ (c : ClassDemands). class_known count c ≡ true) (λ c e. e) p.classes classes))
      (all_flat (Knows count) (λ (x : SetupDemands). lines_known count x.demands ≡ true) (setup_upto n p.classes) (setup_knows n p.classes classes) p.setups
      (each_is (λ (x : SetupDemands). lines_known count x.demands) (λ (x : SetupDemands). lines_known count x.demands ≡ true) (λ x e. e) p.setups setups))

-- demands that are lent
pub lent_known : (count : ℕ) (lent : List (Bor Demand)) (known : Bool) → known ≡ list_all (λ (x : Bor Demand). knows count x.now) lent → known ≡ true → AllByRecursion (Knows count) (map (λ (x : Bor Demand). x.now) lent)
lent_known count lent known is holds = go lent (sym is ∙ holds)
  where
    go : (xs : List (Bor Demand)) → list_all (λ (x : Bor Demand). knows count x.now) xs ≡ true → AllByRecursion (Knows count) (map (λ (x : Bor Demand). x.now) xs)
    go [] e = tt
    go (x ∷ xs) e = let (first, rest) = and_parts (knows count x.now) (list_all (λ (y : Bor Demand). knows count y.now) xs) e in (knows_is count x.now first, go xs rest)
