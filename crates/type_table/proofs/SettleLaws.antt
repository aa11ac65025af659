-- Which numbers have types.
use Rattle.std.specs.Prelude.{◌≡◌, refl, ℕ, zero, suc, ◌+◌, ◌<◌, ◌≤◌, ◌⊎◌, ◌||◌, ◌-◌, Bool, true, false, List, [], ◌∷◌, ◌++◌, map, max, length, replicate, Option, Some, None, slice_get, slice_set, if◌then◌else◌}
use Rattle.std.specs.List.{list_all, AllByRecursion}
use Rattle.std.proofs.Common.{inl, inr, ◌∙◌, ap, sym, subst, arith, take}
use Rattle.std.proofs.lemmas.Bool.{false≢true, and_parts, and_from, and_cases, cases_eq}
use Rattle.std.proofs.lemmas.List.{length-set}
use Rattle.da_values.specs.Nesting.{deepest}
use Rattle.da_lang.specs.declared.ty.Ty.TheVariants as t
use Rattle.da_lang.specs.Types.{levels}
use Rattle.da_lang.proofs.typing.TypesAt.{levels-Tuple, levels-Set}
use Rattle.type_table.specs.declared.form.Form.{Form}
use Rattle.type_table.specs.declared.form.Form.TheVariants as f
use Rattle.type_table.specs.Fits.{Meaning, HasForm, Fits, IsTable}
use Rattle.type_table.specs.Settling.{rests, rests_at, settled, mark_in, is_marked, marked, IsSound, IsStuck, Passed}
use Rattle.type_table.specs.Values.{built, built_at, types_in, types_of}
use Rattle.type_table.proofs.TableLaws.{set_elsewhere, get_inside}

-- a form rests where more holds
all_more : (d e : ℕ → Bool) (ks : List ℕ) → ((k : ℕ) → d k ≡ true → e k ≡ true) → list_all d ks ≡ true → list_all e ks ≡ true
all_more d e [] more is = refl
all_more d e (k ∷ ks) more is =
    let both = and_parts (d k) (list_all d ks) is in
    and_from (e k) (list_all e ks) (more k both.0) (all_more d e ks more both.1)

rests_more : (d e : ℕ → Bool) (o : Option Form) → ((k : ℕ) → d k ≡ true → e k ≡ true) → rests_at d o ≡ true → rests_at e o ≡ true
rests_more d e None more is = is
rests_more d e (Some f.Open) more is = refl
rests_more d e (Some (f.Same k)) more is = more k is
rests_more d e (Some f.Int) more is = refl
rests_more d e (Some f.Bool) more is = refl
rests_more d e (Some f.Text) more is = refl
rests_more d e (Some f.Proc) more is = refl
rests_more d e (Some (f.Tuple ks)) more is = all_more d e ks more is
rests_more d e (Some (f.Set k)) more is = more k is

settled_next : (forms : List Form) (rounds k : ℕ) → settled forms rounds k ≡ true → settled forms (suc rounds) k ≡ true
settled_next forms zero k is = absurd (false≢true is)
settled_next forms (suc rounds) k is = rests_more (settled forms rounds) (settled forms (suc rounds)) (slice_get forms k) (settled_next forms rounds) is

-- a type that is settled stays
types_map : (g h : Meaning) (holds : ℕ → Bool) (ks : List ℕ) → ((k : ℕ) → holds k ≡ true → g k ≡ h k) → list_all holds ks ≡ true → map g ks ≡ map h ks
types_map g h holds [] same all = refl
types_map g h holds (k ∷ ks) same all =
    let both = and_parts (holds k) (list_all holds ks) all in
    ap (λ z. z ∷ map g ks) (same k both.0) ∙ ap (λ zs. h k ∷ zs) (types_map g h holds ks same both.1)

built_same : (g h : Meaning) (holds : ℕ → Bool) (o : Option Form) → ((k : ℕ) → holds k ≡ true → g k ≡ h k) → rests_at holds o ≡ true → built_at g o ≡ built_at h o
built_same g h holds None same is = refl
built_same g h holds (Some f.Open) same is = refl
built_same g h holds (Some (f.Same k)) same is = same k is
built_same g h holds (Some f.Int) same is = refl
built_same g h holds (Some f.Bool) same is = refl
built_same g h holds (Some f.Text) same is = refl
built_same g h holds (Some f.Proc) same is = refl
built_same g h holds (Some (f.Tuple ks)) same is = ap t.Tuple (types_map g h holds ks same is)
built_same g h holds (Some (f.Set k)) same is = ap t.Set (same k is)

stays : (forms : List Form) (rounds k : ℕ) → settled forms rounds k ≡ true → types_in forms (suc rounds) k ≡ types_in forms rounds k
stays forms zero k is = absurd (false≢true is)
stays forms (suc rounds) k is =
    built_same (types_in forms (suc rounds)) (types_in forms rounds) (settled forms rounds) (slice_get forms k) (stays forms rounds) is

built_has : (m : Meaning) (form : Form) → HasForm m form (built m form)
built_has m f.Open = tt
built_has m (f.Same k) = refl
built_has m f.Int = refl
built_has m f.Bool = refl
built_has m f.Text = refl
built_has m f.Proc = refl
built_has m (f.Tuple ks) = refl
built_has m (f.Set k) = refl

-- where each number is settled, the types that are built fit
all_fit : (forms : List Form) (rounds : ℕ) → ((k : ℕ) → k < length forms → settled forms rounds k ≡ true) → Fits (types_in forms rounds) forms
all_fit forms rounds all k form e =
    let m = types_in forms rounds in
    subst (HasForm m form) (ap (built_at m) (sym e) ∙ stays forms rounds k (all k (get_inside forms k form e))) (built_has m form)

-- a number that is not settled rests on one that is not: one of a smaller type, or a smaller number
part_below : (m : Meaning) (size : ℕ) (ks : List ℕ) (holds : ℕ → Bool) → AllByRecursion (λ k. k < size) ks → list_all holds ks ≡ false → (k : ℕ) × (k < size) × (holds k ≡ false) × (levels (m k) ≤ deepest (map levels (map m ks)))
part_below m size [] holds within none = absurd (false≢true (sym none))
part_below m size (k ∷ ks) holds within none = go (part_below m size ks holds within.1) (and_cases (holds k) (list_all holds ks) none)
  where
    go : (list_all holds ks ≡ false → (j : ℕ) × (j < size) × (holds j ≡ false) × (levels (m j) ≤ deepest (map levels (map m ks)))) → ((holds k ≡ false) ⊎ (list_all holds ks ≡ false)) → (j : ℕ) × (j < size) × (holds j ≡ false) × (levels (m j) ≤ max (levels (m k)) (deepest (map levels (map m ks))))
    go later (inl here) = (k, within.0, here, omega arith)
    go later (inr there) = let (j, inside, not, under) = later there in (j, inside, not, omega (arith, under))

module _ (forms : List Form) (table : IsTable forms) (m : Meaning) (fits : Fits m forms) (holds : ℕ → Bool) (stuck : (k : ℕ) → k < length forms → rests_at holds (slice_get forms k) ≡ true → holds k ≡ true) where
  abbrev Shallow : ℕ → Type 0
  Shallow level = (j : ℕ) → j < length forms → levels (m j) < level → holds j ≡ false → ⊥

  abbrev Falls : ℕ → ℕ → Type 0
  Falls level k = k < length forms → levels (m k) ≤ level → holds k ≡ false → ⊥

  at_form : (level k : ℕ) → Shallow level → ((j : ℕ) → j < k → Falls level j) → (form : Form) → slice_get forms k ≡ Some form → levels (m k) ≤ level → rests holds form ≡ false → ⊥
  at_form level k deeper before f.Open e low not = false≢true (sym not)
  at_form level k deeper before (f.Same j) e low not =
      let down : j < k = table k (f.Same j) e in
      before j down (omega (arith, down, get_inside forms k (f.Same j) e)) (subst (λ z. levels z ≤ level) (fits k (f.Same j) e) low) not
  at_form level k deeper before f.Int e low not = false≢true (sym not)
  at_form level k deeper before f.Bool e low not = false≢true (sym not)
  at_form level k deeper before f.Text e low not = false≢true (sym not)
  at_form level k deeper before f.Proc e low not = false≢true (sym not)
  at_form level k deeper before (f.Tuple ks) e low not =
      let (j, inside, part_not, under) = part_below m (length forms) ks holds (table k (f.Tuple ks) e) not in
      let size : levels (m k) ≡ suc (deepest (map levels (map m ks))) = ap levels (fits k (f.Tuple ks) e) ∙ levels-Tuple (map m ks) in
      deeper j inside (omega (arith, low, under, size)) part_not
  at_form level k deeper before (f.Set j) e low not =
      let size : levels (m k) ≡ suc (levels (m j)) = ap levels (fits k (f.Set j) e) ∙ levels-Set (m j) in
      deeper j (table k (f.Set j) e) (omega (arith, low, size)) not

  at_number : (level k : ℕ) → Shallow level → ((j : ℕ) → j < k → Falls level j) → Falls level k
  at_number level k deeper before inside low not = go (slice_get forms k) refl
    where
      go : (o : Option Form) → slice_get forms k ≡ o → ⊥
      go None e = none_past forms k e inside
        where
          none_past : (xs : List Form) (k : ℕ) → slice_get xs k ≡ None → k < length xs → ⊥
          none_past [] k e inside = omega (arith, inside)
          none_past (x ∷ xs) zero e inside = cc
          none_past (x ∷ xs) (suc k) e inside = none_past xs k e (omega (arith, inside))
      go (Some form) e = at_form level k deeper before form e low (not_yet (rests holds form) refl)
        where
          not_yet : (b : Bool) → rests holds form ≡ b → rests holds form ≡ false
          not_yet true is = absurd (false≢true (sym not ∙ stuck k inside (ap (rests_at holds) e ∙ is)))
          not_yet false is = is

  by_number : (level : ℕ) → Shallow level → (bound k : ℕ) → k ≤ bound → Falls level k
  by_number level deeper zero k small = at_number level k deeper (λ j before. absurd (omega (arith, before, small)))
  by_number level deeper (suc bound) k small = at_number level k deeper (λ j before. by_number level deeper bound j (omega (arith, before, small)))

  by_level : (level : ℕ) → Shallow level
  by_level zero k inside low not = absurd (omega (arith, low))
  by_level (suc level) k inside low not = by_number level (by_level level) k k (omega arith) inside (omega (arith, low)) not

  none_left : (k : ℕ) → k < length forms → holds k ≡ true
  none_left k inside = go (holds k) refl
    where
      go : (b : Bool) → holds k ≡ b → holds k ≡ true
      go true e = e
      go false e = absurd (by_level (suc (levels (m k))) k inside (omega arith) e)

-- one mark more
marked_set : (marks : List Bool) (k : ℕ) → slice_get marks k ≡ Some false → marked (slice_set marks k true) ≡ suc (marked marks)
marked_set [] k e = absurd (cc)
marked_set (b ∷ bs) zero e = go b (ap mark_in e)
  where
    go : (b : Bool) → b ≡ false → 1 + marked bs ≡ suc ((if b then 1 else 0) + marked bs)
    go true e = absurd (false≢true (sym e))
    go false e = omega arith
marked_set (b ∷ bs) (suc k) e = let more : marked (slice_set bs k true) ≡ suc (marked bs) = marked_set bs k e in omega (arith, more)

sound_set : (forms : List Form) (marks : List Bool) (k : ℕ) → slice_get marks k ≡ Some false → rests_at (is_marked marks) (slice_get forms k) ≡ true → IsSound forms marks → IsSound forms (slice_set marks k true)
sound_set forms marks k unset rest sound j is = subst (λ n. settled forms n j ≡ true) (sym (marked_set marks k unset)) (go (cases_eq j k))
  where
    go : ((j ≡ k) ⊎ (j ≡ k → ⊥)) → settled forms (suc (marked marks)) j ≡ true
    go (inl here) = subst (λ z. settled forms (suc (marked marks)) z ≡ true) (sym here) (rests_more (is_marked marks) (settled forms (marked marks)) (slice_get forms k) sound rest)
    go (inr off) = settled_next forms (marked marks) j (sound j (ap mark_in (sym (set_elsewhere marks j k true off)) ∙ is))

pub pass_begins : (forms : List Form) (marks : List Bool) → Passed forms marks marks 0 false
pass_begins forms marks = record { count = refl; sound = λ s. s; grows = omega arith; less = λ e. absurd (false≢true e); stuck = λ e j small. absurd (omega (arith, small)) }

module _ (forms : List Form) (old now : List Bool) (k : ℕ) (more : Bool) (p : Passed forms old now k more) where
  pub pass_goes : (new : List Bool) (did : Bool) → (did ≡ true → new ≡ slice_set now k true) → (did ≡ true → slice_get now k ≡ Some false) → (did ≡ true → rests_at (is_marked now) (slice_get forms k) ≡ true)
      → (did ≡ false → new ≡ now) → (did ≡ false → rests_at (is_marked now) (slice_get forms k) ≡ true → is_marked now k ≡ true) → Passed forms old new (k + 1) (more || did)
  pass_goes new true made unset rest same stuck = subst (λ z. Passed forms old z (k + 1) (more || true)) (sym (made refl)) (record {
    count = length-set now k true ∙ p.count;
    sound = λ s. sound_set forms now k (unset refl) (rest refl) (p.sound s);
    grows = omega (arith, p.grows, marked_set now k (unset refl));
    less = λ e. omega (arith, p.grows, marked_set now k (unset refl));
    stuck = λ e. absurd (false≢true (sym e ∙ or_true more));
  })
    where
      or_true : (b : Bool) → (b || true) ≡ true
      or_true true = refl
      or_true false = refl
  pass_goes new false made unset rest same stuck = subst (λ z. Passed forms old z (k + 1) (more || false)) (sym (same refl)) (record {
    count = p.count;
    sound = p.sound;
    grows = p.grows;
    less = λ e. p.less (sym (or_false more) ∙ e);
    stuck = λ e j small is. at (sym (or_false more) ∙ e) j small is (cases_eq j k);
  })
    where
      or_false : (b : Bool) → (b || false) ≡ b
      or_false true = refl
      or_false false = refl

      at : more ≡ false → (j : ℕ) → j < k + 1 → rests_at (is_marked now) (slice_get forms j) ≡ true → ((j ≡ k) ⊎ (j ≡ k → ⊥)) → is_marked now j ≡ true
      at e j small is (inl here) = ap (is_marked now) here ∙ stuck refl (ap (λ z. rests_at (is_marked now) (slice_get forms z)) (sym here) ∙ is)
      at e j small is (inr off) = p.stuck e j (omega (arith, small, off)) is

  pub pass_ends : length forms ≤ k → k ≤ length forms → Passed forms old now (length forms) more
  pass_ends past within = let e : k ≡ length forms = omega (arith, past, within) in subst (λ z. Passed forms old now z more) e p

-- all passes
all_marked : (marks : List Bool) → list_all (λ b. b) marks ≡ true → (k : ℕ) → k < length marks → is_marked marks k ≡ true
all_marked [] all k inside = absurd (omega (arith, inside))
all_marked (b ∷ bs) all zero inside = (and_parts b (list_all (λ b. b) bs) all).0
all_marked (b ∷ bs) all (suc k) inside = all_marked bs (and_parts b (list_all (λ b. b) bs) all).1 k (omega (arith, inside))

marked_all : (marks : List Bool) → list_all (λ b. b) marks ≡ true → marked marks ≡ length marks
marked_all [] all = refl
marked_all (b ∷ bs) all =
    let both = and_parts b (list_all (λ b. b) bs) all in
    let one : ◌≡◌ {A = ℕ} (if b then 1 else 0) 1 = ap (λ (z : Bool). count z) both.0 in
    let others : marked bs ≡ length bs = marked_all bs both.1 in
    omega (arith, one, others)
  where
    count : Bool → ℕ
    count z = if z then 1 else 0

from_marked : (marks : List Bool) → ((k : ℕ) → k < length marks → is_marked marks k ≡ true) → list_all (λ b. b) marks ≡ true
from_marked [] all = refl
from_marked (b ∷ bs) all = and_from b (list_all (λ b. b) bs) (all 0 (omega arith)) (from_marked bs (λ k inside. all (suc k) (omega (arith, inside))))

-- how far all passes are
pub record Settling (forms : List Form) (marks : List Bool) (more : Bool) : Type 0 where
  pub count : length marks ≡ length forms
  pub sound : IsSound forms marks
  pub stuck : more ≡ false → IsStuck forms marks (length forms)

none_marked : (n k : ℕ) → is_marked (replicate n false) k ≡ true → ⊥
none_marked zero k e = false≢true e
none_marked (suc n) zero e = false≢true e
none_marked (suc n) (suc k) e = none_marked n k e

pub settling_begins : (forms : List Form) (marks : List Bool) → length marks ≡ length forms → marks ≡ replicate (length forms) false → Settling forms marks true
settling_begins forms marks count is =
    record {
      count = count;
      sound = λ k e. absurd (none_marked (length forms) k (ap (λ z. is_marked z k) (sym is) ∙ e));
      stuck = λ e. absurd (false≢true (sym e));
    }

pub settling_goes : (forms : List Form) (old new : List Bool) (before more : Bool) → Settling forms old before → Passed forms old new (length forms) more → Settling forms new more
settling_goes forms old new before more s p = record { count = p.count ∙ s.count; sound = p.sound s.sound; stuck = p.stuck }

marked_most : (marks : List Bool) → marked marks ≤ length marks
marked_most [] = omega arith
marked_most (true ∷ marks) = omega (arith, marked_most marks)
marked_most (false ∷ marks) = omega (arith, marked_most marks)

pub settling_less : (forms : List Form) (old new : List Bool) (before more : Bool) → before ≡ true → Settling forms old before → Passed forms old new (length forms) more
    → (length forms - marked new) + (if more then 1 else 0) < (length forms - marked old) + (if before then 1 else 0)
settling_less forms old new before more was s p = subst (λ b. (length forms - marked new) + (if more then 1 else 0) < (length forms - marked old) + (if b then 1 else 0)) (sym was) (go more p.less)
  where
    most : marked new ≤ length new
    most = marked_most new

    size : length new ≡ length forms
    size = p.count ∙ s.count

    go : (b : Bool) → (b ≡ true → marked old < marked new) → (length forms - marked new) + (if b then 1 else 0) < (length forms - marked old) + 1
    go true less = omega (arith, less refl, most, size)
    go false less = omega (arith, p.grows, most, size)

-- what was written to all of a vector is what it holds
pub taken_whole : (ws zs : List Bool) (n : ℕ) → length ws ≡ n → take n (ws ++ zs) ≡ ws
taken_whole [] zs zero e = refl
taken_whole [] zs (suc n) e = absurd (omega (arith, e))
taken_whole (w ∷ ws) zs zero e = absurd (omega (arith, e))
taken_whole (w ∷ ws) zs (suc n) e = ap (λ xs. w ∷ xs) (taken_whole ws zs n (omega (arith, e)))

pub held_less : (forms : List Form) (old new held : List Bool) (before more : Bool) → held ≡ new → before ≡ true → Settling forms old before → Passed forms old new (length forms) more
    → (length forms - marked held) + (if more then 1 else 0) < (length forms - marked old) + (if before then 1 else 0)
held_less forms old new held before more is was s p =
    subst (λ z. (length forms - marked z) + (if more then 1 else 0) < (length forms - marked old) + (if before then 1 else 0)) (sym is) (settling_less forms old new before more was s p)

pub settled_all : (forms : List Form) (marks : List Bool) (answer : Bool) → Settling forms marks false → answer ≡ list_all (λ b. b) marks → answer ≡ true → Fits (types_of forms) forms
settled_all forms marks answer s is holds =
    all_fit forms (length forms) (λ k inside. subst (λ n. settled forms n k ≡ true) (marked_all marks (sym is ∙ holds) ∙ s.count) (s.sound k (all_marked marks (sym is ∙ holds) k (omega (arith, inside, s.count)))))

pub settled_none : (forms : List Form) (marks : List Bool) (answer : Bool) → IsTable forms → Settling forms marks false → answer ≡ list_all (λ b. b) marks → answer ≡ false → (m : Meaning) → Fits m forms → ⊥
settled_none forms marks answer table s is fails m fits =
    false≢true (sym fails ∙ is ∙ from_marked marks (λ k inside. none_left forms table m fits (is_marked marks) (s.stuck refl) k (omega (arith, inside, s.count))))
