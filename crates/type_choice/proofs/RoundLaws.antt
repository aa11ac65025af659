-- A table that some types fit has its types after some rounds.
use Rattle.std.specs.Prelude.{◌≡◌, refl, ℕ, zero, suc, ◌+◌, ◌<◌, ◌⊎◌, Bool, true, List, [], ◌∷◌, map, max, length, Option, Some, None, slice_get}
use Rattle.std.specs.List.{list_all, AllByRecursion}
use Rattle.std.proofs.Common.{inl, inr, ◌∙◌, ap, sym, subst, arith}
use Rattle.std.proofs.lemmas.Bool.{false≢true, and_parts, and_from, cases_eq}
use Rattle.da_values.specs.Nesting.{deepest}
use Rattle.da_lang.specs.declared.ty.Ty.TheVariants as t
use Rattle.da_lang.specs.Types.{levels}
use Rattle.da_lang.proofs.typing.TypesAt.{levels-Tuple, levels-Set}
use Rattle.type_table.specs.declared.form.Form.{Form}
use Rattle.type_table.specs.declared.form.Form.TheVariants as f
use Rattle.type_table.specs.Fits.{Meaning, HasForm, Fits, IsTable}
use Rattle.type_table.specs.Settling.{rests, rests_at, settled}
use Rattle.type_table.specs.Values.{built, built_at, types_in}
use Rattle.type_table.proofs.TableLaws.{get_inside}
use Rattle.type_choice.specs.Marks.{FilledAt}
use Rattle.type_choice.proofs.ListLaws.{there}

-- where more holds, a form still rests on it
list_more : (d e : ℕ → Bool) (ks : List ℕ) → ((k : ℕ) → d k ≡ true → e k ≡ true) → list_all d ks ≡ true → list_all e ks ≡ true
list_more d e [] more is = refl
list_more d e (k ∷ ks) more is =
    let both = and_parts (d k) (list_all d ks) is in
    and_from (e k) (list_all e ks) (more k both.0) (list_more d e ks more both.1)

form_more : (d e : ℕ → Bool) (o : Option Form) → ((k : ℕ) → d k ≡ true → e k ≡ true) → rests_at d o ≡ true → rests_at e o ≡ true
form_more d e None more is = is
form_more d e (Some f.Open) more is = refl
form_more d e (Some (f.Same k)) more is = more k is
form_more d e (Some f.Int) more is = refl
form_more d e (Some f.Bool) more is = refl
form_more d e (Some f.Text) more is = refl
form_more d e (Some f.Proc) more is = refl
form_more d e (Some (f.Tuple ks)) more is = list_more d e ks more is
form_more d e (Some (f.Set k)) more is = more k is

round_more : (forms : List Form) (rounds k : ℕ) → settled forms rounds k ≡ true → settled forms (suc rounds) k ≡ true
round_more forms zero k is = absurd (false≢true is)
round_more forms (suc rounds) k is = form_more (settled forms rounds) (settled forms (suc rounds)) (slice_get forms k) (round_more forms rounds) is

rounds_more : (forms : List Form) (more rounds k : ℕ) → settled forms rounds k ≡ true → settled forms (more + rounds) k ≡ true
rounds_more forms zero rounds k is = let e : rounds ≡ 0 + rounds = omega arith in subst (λ n. settled forms n k ≡ true) e is
rounds_more forms (suc more) rounds k is =
    let e : suc (more + rounds) ≡ suc more + rounds = omega arith in
    subst (λ n. settled forms n k ≡ true) e (round_more forms (more + rounds) k (rounds_more forms more rounds k is))

-- what has its type keeps it
map_same : (g h : Meaning) (d : ℕ → Bool) (ks : List ℕ) → ((k : ℕ) → d k ≡ true → g k ≡ h k) → list_all d ks ≡ true → map g ks ≡ map h ks
map_same g h d [] same all = refl
map_same g h d (k ∷ ks) same all =
    let both = and_parts (d k) (list_all d ks) all in
    ap (λ z. z ∷ map g ks) (same k both.0) ∙ ap (λ zs. h k ∷ zs) (map_same g h d ks same both.1)

form_same : (g h : Meaning) (d : ℕ → Bool) (o : Option Form) → ((k : ℕ) → d k ≡ true → g k ≡ h k) → rests_at d o ≡ true → built_at g o ≡ built_at h o
form_same g h d None same is = refl
form_same g h d (Some f.Open) same is = refl
form_same g h d (Some (f.Same k)) same is = same k is
form_same g h d (Some f.Int) same is = refl
form_same g h d (Some f.Bool) same is = refl
form_same g h d (Some f.Text) same is = refl
form_same g h d (Some f.Proc) same is = refl
form_same g h d (Some (f.Tuple ks)) same is = ap t.Tuple (map_same g h d ks same is)
form_same g h d (Some (f.Set k)) same is = ap t.Set (same k is)

type_stays : (forms : List Form) (rounds k : ℕ) → settled forms rounds k ≡ true → types_in forms (suc rounds) k ≡ types_in forms rounds k
type_stays forms zero k is = absurd (false≢true is)
type_stays forms (suc rounds) k is = form_same (types_in forms (suc rounds)) (types_in forms rounds) (settled forms rounds) (slice_get forms k) (type_stays forms rounds) is

has_built : (m : Meaning) (x : Form) → HasForm m x (built m x)
has_built m f.Open = tt
has_built m (f.Same k) = refl
has_built m f.Int = refl
has_built m f.Bool = refl
has_built m f.Text = refl
has_built m f.Proc = refl
has_built m (f.Tuple ks) = refl
has_built m (f.Set k) = refl

pub rounds_fit : (forms : List Form) (rounds : ℕ) → ((k : ℕ) → k < length forms → settled forms rounds k ≡ true) → Fits (types_in forms rounds) forms
rounds_fit forms rounds all k x e =
    let m = types_in forms rounds in
    subst (HasForm m x) (ap (built_at m) (sym e) ∙ type_stays forms rounds k (all k (get_inside forms k x e))) (has_built m x)

module _ (forms : List Form) (table : IsTable forms) (m : Meaning) (fits : Fits m forms) where
  -- what has fewer levels has its type after so many rounds
  abbrev Below : ℕ → ℕ → Type 0
  Below level rounds = (k : ℕ) → k < length forms → levels (m k) < level → settled forms rounds k ≡ true

  parts_below : (level rounds : ℕ) (ks : List ℕ) → Below level rounds → AllByRecursion (λ k. k < length forms) ks → deepest (map levels (map m ks)) < level → list_all (settled forms rounds) ks ≡ true
  parts_below level rounds [] below within few = refl
  parts_below level rounds (k ∷ ks) below within few =
      and_from (settled forms rounds k) (list_all (settled forms rounds) ks) (below k within.0 (omega (arith, few)))
      (parts_below level rounds ks below within.1 (omega (arith, few)))

  -- of one level, number by number
  number_below : (level rounds : ℕ) → Below level rounds → (count k : ℕ) → k < count → k < length forms → levels (m k) < suc level → settled forms (count + rounds) k ≡ true
  number_below level rounds below zero k few inside low = absurd (omega (arith, few))
  number_below level rounds below (suc count) k few inside low =
      let (x, at) = there forms k inside in
      let e : suc (count + rounds) ≡ suc count + rounds = omega arith in
      subst (λ n. settled forms n k ≡ true) e (ap (rests_at (settled forms (count + rounds))) at ∙ go (number_below level rounds below count) x at)
    where
      deeper : Below level (count + rounds)
      deeper j within less = rounds_more forms count rounds j (below j within less)

      go : ((j : ℕ) → j < count → j < length forms → levels (m j) < suc level → settled forms (count + rounds) j ≡ true) → (x : Form) → slice_get forms k ≡ Some x → rests (settled forms (count + rounds)) x ≡ true
      go earlier f.Open e = refl
      go earlier (f.Same j) e =
          let down : j < k = table k (f.Same j) e in
          earlier j (omega (arith, down, few)) (omega (arith, down, inside)) (subst (λ z. levels z < suc level) (fits k (f.Same j) e) low)
      go earlier f.Int e = refl
      go earlier f.Bool e = refl
      go earlier f.Text e = refl
      go earlier f.Proc e = refl
      go earlier (f.Tuple ks) e =
          let size : levels (m k) ≡ suc (deepest (map levels (map m ks))) = ap levels (fits k (f.Tuple ks) e) ∙ levels-Tuple (map m ks) in
          parts_below level (count + rounds) ks deeper (table k (f.Tuple ks) e) (omega (arith, low, size))
      go earlier (f.Set j) e =
          let size : levels (m k) ≡ suc (levels (m j)) = ap levels (fits k (f.Set j) e) ∙ levels-Set (m j) in
          deeper j (table k (f.Set j) e) (omega (arith, low, size))

  all_below : (level : ℕ) → (rounds : ℕ) × Below level rounds
  all_below zero = (0, λ k inside few. absurd (omega (arith, few)))
  all_below (suc level) =
      let (rounds, below) = all_below level in
      (length forms + rounds, λ k inside low. number_below level rounds below (length forms) k inside inside low)

  highest : (count : ℕ) → (level : ℕ) × ((k : ℕ) → k < count → levels (m k) < level)
  highest zero = (0, λ k few. absurd (omega (arith, few)))
  highest (suc count) = let (level, low) = highest count in (max (suc (levels (m count))) level, λ k few. more level low k few (cases_eq k count))
    where
      more : (level : ℕ) → ((k : ℕ) → k < count → levels (m k) < level) → (k : ℕ) → k < suc count → ((k ≡ count) ⊎ (k ≡ count → ⊥)) → levels (m k) < max (suc (levels (m count))) level
      more level low k few (inl e) = let same : levels (m k) ≡ levels (m count) = ap (λ z. levels (m z)) e in omega (arith, same)
      more level low k few (inr off) = omega (arith, low k (omega (arith, few, off)))

  pub some_rounds : (rounds : ℕ) × ((k : ℕ) → k < length forms → settled forms rounds k ≡ true)
  some_rounds =
      let (level, low) = highest (length forms) in
      let (rounds, below) = all_below level in
      (rounds, λ k inside. below k inside (low k inside))

-- a table in which open numbers became processes has its types after the same rounds
module _ (old : List Form) (numbers : List ℕ) (new : List Form) (each : (k : ℕ) → (slice_get new k ≡ slice_get old k) ⊎ FilledAt old numbers new k) where
  filled_settled : (rounds k : ℕ) → settled old rounds k ≡ true → settled new rounds k ≡ true
  filled_settled zero k is = is
  filled_settled (suc rounds) k is = go (filled_settled rounds) (each k)
    where
      go : ((j : ℕ) → settled old rounds j ≡ true → settled new rounds j ≡ true) → ((slice_get new k ≡ slice_get old k) ⊎ FilledAt old numbers new k) → rests_at (settled new rounds) (slice_get new k) ≡ true
      go more (inl same) = ap (rests_at (settled new rounds)) same ∙ form_more (settled old rounds) (settled new rounds) (slice_get old k) more is
      go more (inr filled) = ap (rests_at (settled new rounds)) filled.after

  -- so some types fit it where some fit the table before
  pub filled_fits_some : length new ≡ length old → IsTable old → (m : Meaning) → Fits m old → (n : Meaning) × Fits n new
  filled_fits_some size table m fits =
      let (rounds, all) = some_rounds old table m fits in
      (types_in new rounds, rounds_fit new rounds (λ k inside. filled_settled rounds k (all k (omega (arith, inside, size)))))
