-- What is seen of the types of a table, from what is seen of those that they are made of.
use Rattle.std.specs.Prelude.{◌≡◌, refl, ℕ, zero, suc, ◌+◌, ◌<◌, ◌≤◌, ◌⊎◌, List, [], ◌∷◌, map, length, replicate, Some, slice_get, slice_set}
use Rattle.std.proofs.Common.{inl, inr, ◌∙◌, ap, sym, subst, arith, get_or}
use Rattle.std.proofs.lemmas.Bool.{cases_eq}
use Rattle.std.proofs.lemmas.List.{length-set}
use Rattle.da_lang.specs.declared.ty.Ty.{Ty}
use Rattle.da_lang.specs.declared.ty.Ty.TheVariants as t
use Rattle.da_lang.specs.declared.ty.Ty.TheOpen as ty
use Rattle.type_table.specs.declared.form.Form.{Form}
use Rattle.type_table.specs.declared.form.Form.TheVariants as f
use Rattle.type_table.specs.Fits.{Meaning, Fits}
use Rattle.type_table.specs.Values.{built, built_at, types_in, types_of}
use Rattle.type_table.proofs.TableLaws.{set_there, set_elsewhere, get_inside, read_at}
use Rattle.type_choice.specs.Looks.{by_form, IsLook}
use Rattle.type_choice.specs.Order.{needs, needs_in, IsOrder}
use Rattle.type_choice.proofs.ListLaws.{all_at, some_same}
use Rattle.type_choice.proofs.MarkLaws.{length_of}

-- what is seen of a type follows from what is seen of its parts
pub record Follows {A : Type 0} (test : Ty → A) (step : ty.Ty-F A → A) : Type 0 where
  pub int : test t.Int ≡ step ty.Int
  pub truth : test t.Bool ≡ step ty.Bool
  pub text : test t.Text ≡ step ty.Text
  pub proc : test t.Proc ≡ step ty.Proc
  pub tuple : (parts : List Ty) → test (t.Tuple parts) ≡ step (ty.Tuple (map test parts))
  pub set : (element : Ty) → test (t.Set element) ≡ step (ty.Set (test element))

map_twice : {A : Type 0} (test : Ty → A) (m : Meaning) (ks : List ℕ) → map test (map m ks) ≡ map (λ k. test (m k)) ks
map_twice test m [] = refl
map_twice test m (k ∷ ks) = ap (λ zs. test (m k) ∷ zs) (map_twice test m ks)

map_same : {A : Type 0} (g h : ℕ → A) (ks : List ℕ) → ((j k : ℕ) → slice_get ks j ≡ Some k → g k ≡ h k) → map g ks ≡ map h ks
map_same g h [] same = refl
map_same g h (k ∷ ks) same = ap (λ z. z ∷ map g ks) (same 0 k refl) ∙ ap (λ zs. h k ∷ zs) (map_same g h ks (λ j. same (suc j)))

module _ {A : Type 0} (test : Ty → A) (step : ty.Ty-F A → A) where
  by_parts : (g h : ℕ → A) (form : Form) → ((j k : ℕ) → slice_get (needs form) j ≡ Some k → g k ≡ h k) → by_form step g form ≡ by_form step h form
  by_parts g h f.Open same = refl
  by_parts g h (f.Same k) same = same 0 k refl
  by_parts g h f.Int same = refl
  by_parts g h f.Bool same = refl
  by_parts g h f.Text same = refl
  by_parts g h f.Proc same = refl
  by_parts g h (f.Tuple ks) same = ap (λ zs. step (ty.Tuple zs)) (map_same g h ks same)
  by_parts g h (f.Set k) same = ap (λ z. step (ty.Set z)) (same 0 k refl)

  by_types : Follows test step → (m : Meaning) (form : Form) → by_form step (λ k. test (m k)) form ≡ test (built m form)
  by_types follows m f.Open = sym follows.int
  by_types follows m (f.Same k) = refl
  by_types follows m f.Int = sym follows.int
  by_types follows m f.Bool = sym follows.truth
  by_types follows m f.Text = sym follows.text
  by_types follows m f.Proc = sym follows.proc
  by_types follows m (f.Tuple ks) = sym (follows.tuple (map m ks) ∙ ap (λ zs. step (ty.Tuple zs)) (map_twice test m ks))
  by_types follows m (f.Set k) = sym (follows.set (m k))

-- the types of a table that goes in no circle
open_is_int : (forms : List Form) (rounds k : ℕ) → slice_get forms k ≡ Some f.Open → types_in forms rounds k ≡ t.Int
open_is_int forms zero k e = refl
open_is_int forms (suc rounds) k e = ap (built_at (types_in forms rounds)) e

built_there : (forms : List Form) → Fits (types_of forms) forms → (k : ℕ) (form : Form) → slice_get forms k ≡ Some form → types_of forms k ≡ built (types_of forms) form
built_there forms fits k f.Open e = open_is_int forms (length forms) k e
built_there forms fits k (f.Same j) e = fits k (f.Same j) e
built_there forms fits k f.Int e = fits k f.Int e
built_there forms fits k f.Bool e = fits k f.Bool e
built_there forms fits k f.Text e = fits k f.Text e
built_there forms fits k f.Proc e = fits k f.Proc e
built_there forms fits k (f.Tuple ks) e = fits k (f.Tuple ks) e
built_there forms fits k (f.Set j) e = fits k (f.Set j) e

-- what was seen of the numbers before a place of the order
pub record SeenTo {A : Type 0} (test : Ty → A) (forms : List Form) (order : List ℕ) (count : ℕ) (seen : List A) : Type 0 where
  pub size : length seen ≡ length forms
  pub each : (i k : ℕ) → i < count → slice_get order i ≡ Some k → slice_get seen k ≡ Some (test (types_of forms k))

pub order_inside : (forms : List Form) (order : List ℕ) → IsOrder forms order → (i k : ℕ) → slice_get order i ≡ Some k → k < length forms
order_inside forms order in_order i k at = all_at (λ j. j < length forms) order i k in_order.inside at

pub item_inside : (forms : List Form) (order : List ℕ) → IsOrder forms order → (i : ℕ) → i < length order → get_or order i 0 < length forms
item_inside forms order in_order i inside = order_inside forms order in_order i (get_or order i 0) (read_at order i (get_or order i 0) 0 inside refl)

module _ {A : Type 0} (test : Ty → A) (step : ty.Ty-F A → A) (forms : List Form) (order : List ℕ) where
  pub seen_none : (n : ℕ) (x : A) (seen : List A) → n ≡ length forms → seen ≡ replicate n x → SeenTo test forms order 0 seen
  seen_none n x seen size is = record { size = ap length is ∙ length_of n x ∙ size; each = λ i k few at. absurd (omega (arith, few)) }

  pub seen_all : (count : ℕ) (seen : List A) → length order ≤ count → IsOrder forms order → SeenTo test forms order count seen → IsLook test forms seen
  seen_all count seen past in_order so_far k inside =
      let (i, at) = in_order.whole k inside in
      let within : i < length order = get_inside order i k at in
      so_far.each i k (omega (arith, within, past)) at

  module _ (follows : Follows test step) (fits : Fits (types_of forms) forms) (in_order : IsOrder forms order) (read : List A → ℕ → A) (reads : (xs : List A) (k : ℕ) (x : A) → slice_get xs k ≡ Some x → read xs k ≡ x) where
    pub seen_more : (i k : ℕ) (form : Form) (seen : List A) (value : A) → slice_get order i ≡ Some k → slice_get forms k ≡ Some form → value ≡ by_form step (read seen) form → SeenTo test forms order i seen → SeenTo test forms order (i + 1) (slice_set seen k value)
    seen_more i k form seen value at there is so_far =
        record {
          size = length-set seen k value ∙ so_far.size;
          each = λ h j few found. go h j few found (cases_eq j k) (cases_eq h i);
        }
      where
        inside : k < length seen
        inside = let e : k < length forms = order_inside forms order in_order i k at in omega (arith, e, so_far.size)

        part_seen : (j part : ℕ) → slice_get (needs form) j ≡ Some part → read seen part ≡ test (types_of forms part)
        part_seen j part needed =
            let (h, before, found) = in_order.after i k j part at (ap (λ z. slice_get (needs_in z) j) there ∙ needed) in
            reads seen part (test (types_of forms part)) (so_far.each h part before found)

        right : value ≡ test (types_of forms k)
        right = is ∙ by_parts test step (read seen) (λ z. test (types_of forms z)) form part_seen ∙ by_types test step follows (types_of forms) form ∙ ap test (sym (built_there forms fits k form there))

        go : (h j : ℕ) → h < i + 1 → slice_get order h ≡ Some j → ((j ≡ k) ⊎ (j ≡ k → ⊥)) → ((h ≡ i) ⊎ (h ≡ i → ⊥)) → slice_get (slice_set seen k value) j ≡ Some (test (types_of forms j))
        go h j few found (inl e) which = ap (slice_get (slice_set seen k value)) e ∙ set_there seen k value inside ∙ ap (λ z. Some z) (right ∙ ap (λ z. test (types_of forms z)) (sym e))
        go h j few found (inr off) (inl e) = absurd (off (some_same j (sym found ∙ ap (slice_get order) e ∙ at)))
        go h j few found (inr off) (inr other) = set_elsewhere seen j k value off ∙ so_far.each h j (omega (arith, few, other)) found

    -- as code finds it
    pub seen_goes : (i : ℕ) (form : Form) (seen passed new : List A) (value : A) → i < length order → slice_get forms (get_or order i 0) ≡ Some form → passed ≡ seen → value ≡ by_form step (read passed) form → new ≡ slice_set seen (get_or order i 0) value → SeenTo test forms order i seen → SeenTo test forms order (i + 1) new
    seen_goes i form seen passed new value inside there same is put so_far =
        subst (SeenTo test forms order (i + 1)) (sym put)
        (seen_more i (get_or order i 0) form seen value (read_at order i (get_or order i 0) 0 inside refl) there (is ∙ ap (λ z. by_form step (read z) form) same) so_far)
