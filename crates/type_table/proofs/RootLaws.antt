-- Smaller numbers that stand for the same type.
use Rattle.std.specs.Prelude.{◌≡◌, refl, ℕ, zero, suc, ◌+◌, ◌<◌, ◌⊎◌, true, false, List, [], ◌∷◌, length, Option, Some, None, slice_get, slice_set}
use Rattle.std.proofs.Common.{inl, inr, ◌∙◌, ap, sym, subst, arith}
use Rattle.std.proofs.lemmas.Bool.{cases_eq}
use Rattle.std.proofs.lemmas.List.{length-set}
use Rattle.type_table.specs.declared.form.Form.{Form}
use Rattle.type_table.specs.declared.form.Form.TheVariants as f
use Rattle.type_table.specs.Fits.{Meaning, Fits, HasForm, IsTable}
use Rattle.type_table.specs.Joins.{IsRoot, link, is_open, kept}
use Rattle.type_table.specs.Links.{Found, Linked}
use Rattle.type_table.specs.Weight.{form_weight, weight}
use Rattle.type_table.proofs.FormLaws.{no_link, kept_first, kept_second}
use Rattle.type_table.proofs.TableLaws.{set_there, set_elsewhere, some_form, get_inside, set_cases, set_table, weight_set}

-- a form that links
pub linked_form : (x : Form) (k : ℕ) → link x ≡ Some k → x ≡ f.Same k
linked_form (f.Same j) k e = ap f.Same (ap (λ (o : Option ℕ). number_or 0 o) e)
  where
    number_or : ℕ → Option ℕ → ℕ
    number_or d None = d
    number_or d (Some z) = z
linked_form f.Open k e = absurd (no_link (sym e))
linked_form f.Int k e = absurd (no_link (sym e))
linked_form f.Bool k e = absurd (no_link (sym e))
linked_form f.Text k e = absurd (no_link (sym e))
linked_form f.Proc k e = absurd (no_link (sym e))
linked_form (f.Tuple ks) k e = absurd (no_link (sym e))
linked_form (f.Set j) k e = absurd (no_link (sym e))

pub nothing_done : (forms : List Form) (number : ℕ) → IsTable forms → Found forms number forms number
nothing_done forms number table =
    record {
      table = table;
      size = refl;
      weighs = refl;
      alike = record { keeps = λ m fits same. (fits, same); gives = λ m fits same. (fits, same) };
      same = λ m fits. refl;
      roots = λ k form at is. at;
    }

-- one step after the other
pub found_then : (old mid new : List Form) (number next root : ℕ) → Found old number mid next → Found mid next new root → Found old number new root
found_then old mid new number next root a b =
    record {
      table = b.table;
      size = b.size ∙ a.size;
      weighs = b.weighs ∙ a.weighs;
      alike = record {
        keeps = λ m fits same. b.alike.keeps m (a.alike.keeps m fits tt).0 tt;
        gives = λ m fits same. a.alike.gives m (b.alike.gives m fits tt).0 tt;
      };
      same = λ m fits. a.same m (b.alike.gives m fits tt).0 ∙ b.same m fits;
      roots = λ k form at is. b.roots k form (a.roots k form at is) is;
    }

-- the next number is the last one
pub found_next : (forms : List Form) (at next : ℕ) → IsTable forms → slice_get forms at ≡ Some (f.Same next) → Found forms at forms next
found_next forms at next table is =
    record {
      table = table;
      size = refl;
      weighs = refl;
      alike = record { keeps = λ m fits same. (fits, same); gives = λ m fits same. (fits, same) };
      same = λ m fits. fits at (f.Same next) is;
      roots = λ k form at is. at;
    }

-- a step over one number
pub found_after : (forms : List Form) (at next after : ℕ) → IsTable forms → slice_get forms at ≡ Some (f.Same next) → slice_get forms next ≡ Some (f.Same after) → Found forms at (slice_set forms at (f.Same after)) after
found_after forms at next after table at_is next_is =
    record {
      table = set_table forms at (f.Same after) table inside (omega (arith, at_down, next_down));
      size = length-set forms at (f.Same after);
      weighs = omega (arith, weight_set forms at (f.Same next) (f.Same after) at_is);
      alike = record { keeps = λ m fits same. (λ k form e. kept_at m fits k form (set_cases forms at (f.Same after) k form inside e), tt); gives = λ m fits same. (λ k form e. given_at m fits k form e (cases_eq k at), tt) };
      same = λ m fits. fits at (f.Same after) (set_there forms at (f.Same after) inside);
      roots = λ k form is root. set_elsewhere forms k at (f.Same after) (off k form is root) ∙ is;
    }
  where
    inside : at < length forms
    inside = get_inside forms at (f.Same next) at_is

    at_down : next < at
    at_down = table at (f.Same next) at_is

    next_down : after < next
    next_down = table next (f.Same after) next_is

    kept_at : (m : Meaning) → Fits m forms → (k : ℕ) (form : Form) → ((k ≡ at) × (f.Same after ≡ form)) ⊎ ((k ≡ at → ⊥) × (slice_get forms k ≡ Some form)) → HasForm m form (m k)
    kept_at m fits k form (inl (here, is)) = subst (λ z. HasForm m z (m k)) is (ap m here ∙ fits at (f.Same next) at_is ∙ fits next (f.Same after) next_is)
    kept_at m fits k form (inr (off, old)) = fits k form old

    next_still : slice_get (slice_set forms at (f.Same after)) next ≡ Some (f.Same after)
    next_still = set_elsewhere forms next at (f.Same after) (λ e. omega (arith, e, at_down)) ∙ next_is

    given_at : (m : Meaning) → Fits m (slice_set forms at (f.Same after)) → (k : ℕ) (form : Form) → slice_get forms k ≡ Some form → ((k ≡ at) ⊎ (k ≡ at → ⊥)) → HasForm m form (m k)
    given_at m fits k form e (inl here) =
        let is : f.Same next ≡ form = some_form (sym at_is ∙ ap (slice_get forms) (sym here) ∙ e) in
        subst (λ z. HasForm m z (m k)) is (ap m here ∙ fits at (f.Same after) (set_there forms at (f.Same after) inside) ∙ sym (fits next (f.Same after) next_still))
    given_at m fits k form e (inr off) = fits k form (set_elsewhere forms k at (f.Same after) off ∙ e)

    off : (k : ℕ) (form : Form) → slice_get forms k ≡ Some form → link form ≡ None → k ≡ at → ⊥
    off k form is root here =
        let same : form ≡ f.Same next = some_form (sym is ∙ ap (slice_get forms) here ∙ at_is) in
        no_link (sym (ap link same) ∙ root)

module _ (forms : List Form) (low high : ℕ) (x y : Form) (order : low < high) (at_low : slice_get forms low ≡ Some x) (at_high : slice_get forms high ≡ Some y) where
  inside : high < length forms
  inside = get_inside forms high y at_high

  apart : low ≡ high → ⊥
  apart e = omega (arith, order, e)

  high_set : List Form
  high_set = slice_set forms high (f.Same low)

  is_first : (a : Form) → slice_get forms low ≡ Some a → x ≡ a
  is_first a e = some_form (sym at_low ∙ e)

  is_second : (b : Form) → slice_get forms high ≡ Some b → y ≡ b
  is_second b e = some_form (sym at_high ∙ e)

  -- the smaller number tells something already
  pub linked_left : is_open x ≡ false → Linked forms low high (slice_set forms high (f.Same low))
  linked_left tells =
      record {
        size = length-set forms high (f.Same low);
        at_high = set_there forms high (f.Same low) inside;
        at_low = λ a b a_is b_is. set_elsewhere forms low high (f.Same low) apart ∙ at_low ∙ ap (λ z. Some z) (sym (kept_first x b tells) ∙ ap (λ z. kept z b) (is_first a a_is));
        others = λ k off_low off_high. set_elsewhere forms k high (f.Same low) off_high;
        weighs = λ a b a_is b_is.
            let left : form_weight (kept a b) ≡ form_weight a = ap (λ z. form_weight (kept z b)) (sym (is_first a a_is)) ∙ ap form_weight (kept_first x b tells ∙ is_first a a_is) in
            let set : weight (slice_set forms high (f.Same low)) + form_weight b ≡ weight forms + 0 = weight_set forms high b (f.Same low) b_is in
            omega (arith, left, set);
      }

  -- it tells nothing, so the form of the other goes there
  pub linked_moved : is_open x ≡ true → Linked forms low high (slice_set (slice_set forms high (f.Same low)) low y)
  linked_moved none =
      let size : length (slice_set forms high (f.Same low)) ≡ length forms = length-set forms high (f.Same low) in
      let low_in : low < length (slice_set forms high (f.Same low)) = omega (arith, order, inside, size) in
      let low_still : slice_get (slice_set forms high (f.Same low)) low ≡ Some x = set_elsewhere forms low high (f.Same low) apart ∙ at_low in
      record {
        size = length-set (slice_set forms high (f.Same low)) low y ∙ size;
        at_high = set_elsewhere (slice_set forms high (f.Same low)) high low y (λ e. apart (sym e)) ∙ set_there forms high (f.Same low) inside;
        at_low = λ a b a_is b_is. set_there (slice_set forms high (f.Same low)) low y low_in ∙ ap (λ z. Some z) (is_second b b_is ∙ sym (kept_second x b none) ∙ ap (λ z. kept z b) (is_first a a_is));
        others = λ k off_low off_high. set_elsewhere (slice_set forms high (f.Same low)) k low y off_low ∙ set_elsewhere forms k high (f.Same low) off_high;
        weighs = λ a b a_is b_is.
            let left : form_weight (kept a b) ≡ form_weight b = ap (λ z. form_weight (kept z b)) (sym (is_first a a_is)) ∙ ap form_weight (kept_second x b none) in
            let set_high : weight (slice_set forms high (f.Same low)) + form_weight b ≡ weight forms + 0 = weight_set forms high b (f.Same low) b_is in
            let set_low : weight (slice_set (slice_set forms high (f.Same low)) low y) + form_weight x ≡ weight (slice_set forms high (f.Same low)) + form_weight y = weight_set (slice_set forms high (f.Same low)) low x y low_still in
            let first : form_weight x ≡ form_weight a = ap form_weight (is_first a a_is) in
            let second : form_weight y ≡ form_weight b = ap form_weight (is_second b b_is) in
            omega (arith, left, set_high, set_low, first, second);
      }

  -- as code does it, with forms that it read
  pub linked_as : (same taken : Form) (mid new : List Form) → is_open x ≡ true → same ≡ f.Same low → taken ≡ y → mid ≡ slice_set forms high same → new ≡ slice_set mid low taken → Linked forms low high new
  linked_as same taken mid new none same_is taken_is mid_is new_is =
      subst (Linked forms low high) (sym new_is)
      (subst (λ z. Linked forms low high (slice_set z low taken)) (sym mid_is)
      (subst (λ z. Linked forms low high (slice_set (slice_set forms high z) low taken)) (sym same_is)
      (subst (λ z. Linked forms low high (slice_set (slice_set forms high (f.Same low)) low z)) (sym taken_is) (linked_moved none))))

some_there : (xs : List Form) (k : ℕ) → k < length xs → (x : Form) × (slice_get xs k ≡ Some x)
some_there [] k inside = absurd (omega (arith, inside))
some_there (x ∷ xs) zero inside = (x, refl)
some_there (x ∷ xs) (suc k) inside = some_there xs k (omega (arith, inside))

pub linked_left_as : (forms : List Form) (low high : ℕ) (x : Form) → low < high → high < length forms → slice_get forms low ≡ Some x → (new : List Form) → is_open x ≡ false → new ≡ slice_set forms high (f.Same low) → Linked forms low high new
linked_left_as forms low high x order inside at_low new tells new_is =
    let (y, at_high) = some_there forms high inside in
    subst (Linked forms low high) (sym new_is) (linked_left forms low high x y order at_low at_high tells)

-- what was read at a number, and where it leads
pub after_is : (forms : List Form) (k : ℕ) (x : Form) (after : ℕ) → slice_get forms k ≡ Some x → link x ≡ Some after → slice_get forms k ≡ Some (f.Same after)
after_is forms k x after read is = read ∙ ap (λ z. Some z) (linked_form x after is)

-- a number where the way ends
pub root_here : (forms : List Form) (k : ℕ) (x : Form) → slice_get forms k ≡ Some x → link x ≡ None → IsRoot forms k
root_here forms k x read is form e = subst (λ z. link z ≡ None) (some_form (sym read ∙ e)) is
