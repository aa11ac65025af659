-- Types that meet what is demanded up to a line do so up to each line before it, and up to each line after the last one.
use Rattle.std.specs.Prelude.{◌≡◌, refl, ℕ, suc, ◌+◌, ◌<◌, ◌≤◌, max, nat_le, Bool, true, false, ◌&&◌, if◌then◌else◌, List, [], ◌∷◌, ◌++◌, map, flat_map, slice_get, Option, Some, None, is_some, Result, IfOk, MatchBool, MatchOption}
use Rattle.std.specs.Borrow.{Bor}
use Rattle.std.specs.List.{AllByRecursion}
use Rattle.std.proofs.Common.{◌∙◌, ap, ap₂, sym, subst, arith, inl, inr}
use Rattle.std.proofs.lemmas.Bool.{and_from, and_parts, cases_lt}
use Rattle.std.proofs.lemmas.Bool.Decides.{nat_tests}
use Rattle.std.proofs.Math.Nat.{le-max_left, le-max_right}
use Rattle.da_values.specs.declared.list.NoMemory.{NoMemory}
use Rattle.da_lang.specs.declared.ty.Ty.{Ty}
use Rattle.type_table.specs.Fits.{Meaning}
use Rattle.type_demands.specs.declared.demand.Demand.{Demand}
use Rattle.type_demands.specs.declared.demand.LineDemand.{LineDemand}
use Rattle.type_demands.specs.Demands.{met, all_met}
use Rattle.type_demands.proofs.FoundLaws.{met_both}
use Rattle.type_fitting.specs.Fit.{Fits, FitsBest, Knows, meaning_of}
use Rattle.class_demands.specs.declared.demands.ClassDemands.{ClassDemands}
use Rattle.class_demands.specs.declared.demands.Head.{Head}
use Rattle.class_demands.specs.declared.demands.ProgramDemands.{ProgramDemands}
use Rattle.class_demands.specs.declared.demands.SetupDemands.{SetupDemands}
use Rattle.class_demands.specs.Prefix.{upto, needed, headed, always, heads_of, class_upto, setup_upto, demands_upto, seen}
use Rattle.class_demands.proofs.NeededLaws.{heads_needed}
use Rattle.da_infer.specs.Known.{program_known}
use Rattle.da_infer.specs.Search.{FitsUpto, FitsBestUpto, FitsLast, last_of, last_in_classes, last_in_setups, last_line, AreUpto, IsLast, IsClash}
use Rattle.da_infer.proofs.KnownLaws.{program_knows}

-- ---- lines before

module _ (m : Meaning) (k n : ℕ) (before : k ≤ n) where
  later : (line : ℕ) → nat_le line k ≡ true → nat_le line n ≡ true
  later line e = grind (arith, nat_tests, before, e)

  fewer : (h : ℕ → Bool) (a b : Bool) (x : Demand) (xs ys : List Demand) → (a ≡ true → b ≡ true) → (all_met m h ys ≡ true → all_met m h xs ≡ true) → all_met m h (if b then x ∷ ys else ys) ≡ true → all_met m h (if a then x ∷ xs else xs) ≡ true
  fewer h true true x xs ys lower others all = let (first, rest) = and_parts (met m h x) (all_met m h ys) all in and_from (met m h x) (all_met m h xs) first (others rest)
  fewer h true false x xs ys lower others all = absurd (let no = lower refl in cc)
  fewer h false true x xs ys lower others all = let (first, rest) = and_parts (met m h x) (all_met m h ys) all in others rest
  fewer h false false x xs ys lower others all = others all

  upto_before : (h : ℕ → Bool) (xs : List LineDemand) → all_met m h (upto n xs) ≡ true → all_met m h (upto k xs) ≡ true
  upto_before h [] all = all
  upto_before h (x ∷ xs) all = fewer h (nat_le x.line k) (nat_le x.line n) x.demand (upto k xs) (upto n xs) (later x.line) (upto_before h xs) all

  headed_before : (hs : List Head) (xs : List LineDemand) → all_met m always (needed hs (upto n xs)) ≡ true → all_met m always (needed hs (upto k xs)) ≡ true
  headed_before hs xs all = sym (heads_needed m hs always (upto k xs)) ∙ upto_before (headed m hs always) xs (heads_needed m hs always (upto n xs) ∙ all)

  flat_before : {A : Type 0} (f g : A → List Demand) → ((x : A) → all_met m always (f x) ≡ true → all_met m always (g x) ≡ true) → (xs : List A) → all_met m always (flat_map f xs) ≡ true → all_met m always (flat_map g xs) ≡ true
  flat_before f g each [] all = all
  flat_before f g each (x ∷ xs) all =
      let (first, rest) = and_parts (all_met m always (f x)) (all_met m always (flat_map f xs)) (sym (met_both m always (f x) (flat_map f xs)) ∙ all) in
      met_both m always (g x) (flat_map g xs) ∙ and_from (all_met m always (g x)) (all_met m always (flat_map g xs)) (each x first) (flat_before f g each xs rest)

  pub met_before : (p : ProgramDemands) → all_met m always (demands_upto n p) ≡ true → all_met m always (demands_upto k p) ≡ true
  unfolding demands_upto
  met_before p all =
      let (first, rest) = and_parts (all_met m always (flat_map (class_upto n) p.classes)) (all_met m always (flat_map (setup_upto n p.classes) p.setups))
      (sym (met_both m always (flat_map (class_upto n) p.classes) (flat_map (setup_upto n p.classes) p.setups)) ∙ all) in
      met_both m always (flat_map (class_upto k) p.classes) (flat_map (setup_upto k p.classes) p.setups)
      ∙ and_from (all_met m always (flat_map (class_upto k) p.classes)) (all_met m always (flat_map (setup_upto k p.classes) p.setups))
      (flat_before (class_upto n) (class_upto k) (λ c. headed_before c.heads c.demands) p.classes first)
      (flat_before (setup_upto n p.classes) (setup_upto k p.classes) (λ x. headed_before (heads_of (slice_get p.classes x.class)) x.demands) p.setups rest)

pub fits_before : (count : ℕ) (p : ProgramDemands) (k n : ℕ) (types : List Ty) → k ≤ n → FitsUpto count p n types → FitsUpto count p k types
fits_before count p k n types before fits = record { size = fits.size; each = fits.each; met = met_before (meaning_of types) k n before p fits.met }

-- ---- lines after the last one

module _ (last n : ℕ) (after : last ≤ n) where
  passed : (a b : Bool) (x : Demand) (xs ys : List Demand) → a ≡ true → b ≡ true → xs ≡ ys → (if a then x ∷ xs else xs) ≡ (if b then x ∷ ys else ys)
  passed true true x xs ys p q e = ap (λ z. x ∷ z) e
  passed true false x xs ys p q e = absurd (cc)
  passed false b x xs ys p q e = absurd (cc)

  within : (line most : ℕ) → line ≤ most → nat_le line most ≡ true
  within line most le = grind (arith, nat_tests, le)

  upto_same : (xs : List LineDemand) → AreUpto last xs → upto n xs ≡ upto last xs
  upto_same [] all = refl
  upto_same (x ∷ xs) all = passed (nat_le x.line n) (nat_le x.line last) x.demand (upto n xs) (upto last xs) (within x.line n (omega (arith, all.0, after))) (within x.line last all.0) (upto_same xs all.1)

  flat_same : {A : Type 0} (P : A → Type 0) (f g : A → List Demand) → ((x : A) → P x → f x ≡ g x) → (xs : List A) → AllByRecursion P xs → flat_map f xs ≡ flat_map g xs
  flat_same P f g each [] all = refl
  flat_same P f g each (x ∷ xs) all = ap₂ (λ z zs. z ++ zs) (each x all.0) (flat_same P f g each xs all.1)

  pub demands_same : (p : ProgramDemands) → IsLast p last → demands_upto n p ≡ demands_upto last p
  unfolding demands_upto
  demands_same p is =
      ap₂ (λ xs ys. xs ++ ys)
      (flat_same (λ (c : ClassDemands). AreUpto last c.demands) (class_upto n) (class_upto last) (λ c all. ap (needed c.heads) (upto_same c.demands all)) p.classes is.classes)
      (flat_same (λ (x : SetupDemands). AreUpto last x.demands) (setup_upto n p.classes) (setup_upto last p.classes) (λ x all. ap (needed (heads_of (slice_get p.classes x.class))) (upto_same x.demands all)) p.setups is.setups)

-- ---- the last line

line_after : (before : ℕ) (xs : List LineDemand) → before ≤ last_of before xs
line_after before [] = omega arith
line_after before (x ∷ xs) = let more = line_after (max before x.line) xs in let first = le-max_left before x.line in omega (arith, more, first)

line_all : (before : ℕ) (xs : List LineDemand) (most : ℕ) → last_of before xs ≤ most → AreUpto most xs
line_all before [] most le = tt
line_all before (x ∷ xs) most le =
    let more = line_after (max before x.line) xs in
    let first = le-max_right before x.line in
    (omega (arith, more, first, le), line_all (max before x.line) xs most le)

classes_after : (before : ℕ) (cs : List ClassDemands) → before ≤ last_in_classes before cs
classes_after before [] = omega arith
classes_after before (c ∷ cs) = omega (arith, line_after before c.demands, classes_after (last_of before c.demands) cs)

classes_all : (before : ℕ) (cs : List ClassDemands) (most : ℕ) → last_in_classes before cs ≤ most → AllByRecursion (λ (c : ClassDemands). AreUpto most c.demands) cs
classes_all before [] most le = tt
classes_all before (c ∷ cs) most le = (line_all before c.demands most (omega (arith, classes_after (last_of before c.demands) cs, le)), classes_all (last_of before c.demands) cs most le)

setups_after : (before : ℕ) (xs : List SetupDemands) → before ≤ last_in_setups before xs
setups_after before [] = omega arith
setups_after before (x ∷ xs) = omega (arith, line_after before x.demands, setups_after (last_of before x.demands) xs)

setups_all : (before : ℕ) (xs : List SetupDemands) (most : ℕ) → last_in_setups before xs ≤ most → AllByRecursion (λ (x : SetupDemands). AreUpto most x.demands) xs
setups_all before [] most le = tt
setups_all before (x ∷ xs) most le = (line_all before x.demands most (omega (arith, setups_after (last_of before x.demands) xs, le)), setups_all (last_of before x.demands) xs most le)

pub is_last : (p : ProgramDemands) (last : ℕ) → last ≡ last_line p → IsLast p last
is_last p last is = record {
  classes = classes_all 0 p.classes last (omega (arith, setups_after (last_in_classes 0 p.classes) p.setups, is));
  setups = setups_all (last_in_classes 0 p.classes) p.setups last (omega (arith, is));
}

pub fits_all : (count : ℕ) (p : ProgramDemands) (last : ℕ) (types : List Ty) → IsLast p last → FitsUpto count p last types → (n : ℕ) → FitsUpto count p n types
fits_all count p last types is fits n = elim (cases_lt n last) [
  | inl before ↦ fits_before count p n last types (omega (arith, before)) fits
  | inr after ↦ subst (λ demands. Fits count demands types) (sym (demands_same last n after p is)) fits
]

pub best_all : (count : ℕ) (p : ProgramDemands) (last : ℕ) (types : List Ty) → IsLast p last → FitsBestUpto count p last types → FitsLast count p types
best_all count p last types is best = record {
  fits = fits_all count p last types is best.fits;
  lean = λ others all. best.lean others (all last);
}

-- ---- how far the search is: none up to the one line, and some up to each line before the other one

pub record Halving (count : ℕ) (p : ProgramDemands) (low high : ℕ) : Type 0 where
  pub none : (types : List Ty) → FitsUpto count p high types → ⊥
  pub before : (n : ℕ) → n < low → (types : List Ty) × FitsUpto count p n types

pub halving_begins : (count : ℕ) (p : ProgramDemands) (high : ℕ) → ((types : List Ty) → FitsUpto count p high types → ⊥) → Halving count p 0 high
halving_begins count p high none = record { none = none; before = λ n below. absurd (omega (arith, below)) }

pub halving_up : (count : ℕ) (p : ProgramDemands) (low high middle : ℕ) → Halving count p low high → (types : List Ty) × FitsUpto count p middle types → Halving count p (middle + 1) high
halving_up count p low high middle so_far found = record {
  none = so_far.none;
  before = λ n below. (found.0, fits_before count p n middle found.0 (omega (arith, below)) found.1);
}

pub halving_down : (count : ℕ) (p : ProgramDemands) (low high middle : ℕ) → Halving count p low high → ((types : List Ty) → FitsUpto count p middle types → ⊥) → Halving count p low middle
halving_down count p low high middle so_far none = record { none = none; before = so_far.before }

pub halving_ends : (count : ℕ) (p : ProgramDemands) (low high : ℕ) → high ≤ low → Halving count p low high → IsClash count p high
halving_ends count p low high end so_far = record { none = so_far.none; before = λ n below. so_far.before n (omega (arith, below, end)) }

-- ---- what code asks for

abbrev pub Found : ℕ → List Demand → Option (List Ty) → Type 0
Found count demands found = MatchOption found ((types : List Ty) → Fits count demands types → ⊥) (FitsBest count demands)

pub asked_known : (count line : ℕ) (p : ProgramDemands) (asked lent : List (Bor Demand)) → lent ≡ asked → seen asked ≡ demands_upto line p → program_known count p ≡ true → AllByRecursion (Knows count) (map (λ (x : Bor Demand). x.now) lent)
asked_known count line p asked lent same is known = subst (AllByRecursion (Knows count)) (sym (ap seen same ∙ is)) (program_knows count line p known)

pub fitting_is : (count line : ℕ) (p : ProgramDemands) (asked lent : List (Bor Demand)) (r : Result (Option (List Ty)) NoMemory) → lent ≡ asked → seen asked ≡ demands_upto line p
    → IfOk r (Found count (map (λ (x : Bor Demand). x.now) lent)) → IfOk r (Found count (demands_upto line p))
fitting_is count line p asked lent r same is found = subst (λ (demands : List Demand). IfOk r (Found count demands)) (ap seen same ∙ is) found

pub fits_found : (count : ℕ) (demands : List Demand) (found : Option (List Ty)) (fits : Bool) → fits ≡ is_some found → Found count demands found
    → MatchBool fits ((types : List Ty) × Fits count demands types) ((types : List Ty) → Fits count demands types → ⊥)
fits_found count demands None true e p = absurd (cc)
fits_found count demands None false e p = p
fits_found count demands (Some types) true e p = (types, p.fits)
fits_found count demands (Some types) false e p = absurd (cc)
