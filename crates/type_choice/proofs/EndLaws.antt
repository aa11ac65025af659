-- Where the way of equal numbers ends.
use Rattle.std.specs.Prelude.{◌≡◌, refl, ℕ, zero, suc, ◌+◌, ◌-◌, ◌<◌, ◌≤◌, Bool, true, false, List, length, Option, Some, None, slice_get}
use Rattle.std.proofs.Common.{◌∙◌, ap, sym, arith}
use Rattle.std.proofs.lemmas.Bool.{false≢true}
use Rattle.type_table.specs.declared.form.Form.{Form}
use Rattle.type_table.specs.declared.form.Form.TheVariants as f
use Rattle.type_table.specs.Fits.{Meaning, Fits, IsTable}
use Rattle.type_table.specs.Joins.{link}
use Rattle.type_table.proofs.TableLaws.{get_inside}
use Rattle.type_choice.specs.Roots.{next_of, root_in}

abbrev has_link : Option ℕ → Bool
has_link None = false
has_link (Some k) = true

pub linked : (x : Form) (k : ℕ) → link x ≡ Some k → x ≡ f.Same k
linked (f.Same j) k e = ap f.Same (number e)
  where
    or_zero : Option ℕ → ℕ
    or_zero None = 0
    or_zero (Some n) = n

    number : Some j ≡ Some k → j ≡ k
    number e = ap or_zero e
linked f.Open k e = absurd (false≢true (ap has_link e))
linked f.Int k e = absurd (false≢true (ap has_link e))
linked f.Bool k e = absurd (false≢true (ap has_link e))
linked f.Text k e = absurd (false≢true (ap has_link e))
linked f.Proc k e = absurd (false≢true (ap has_link e))
linked (f.Tuple ks) k e = absurd (false≢true (ap has_link e))
linked (f.Set j) k e = absurd (false≢true (ap has_link e))

no_next : (go : ℕ → ℕ) (k : ℕ) (x : Form) → link x ≡ None → next_of go k (Some x) ≡ k
no_next go k (f.Same j) e = absurd (false≢true (sym (ap has_link e)))
no_next go k f.Open e = refl
no_next go k f.Int e = refl
no_next go k f.Bool e = refl
no_next go k f.Text e = refl
no_next go k f.Proc e = refl
no_next go k (f.Tuple ks) e = refl
no_next go k (f.Set j) e = refl

pub end_stays : (forms : List Form) (steps k : ℕ) (x : Form) → slice_get forms k ≡ Some x → link x ≡ None → root_in steps forms k ≡ k
end_stays forms zero k x read none = refl
end_stays forms (suc steps) k x read none = ap (next_of (root_in steps forms) k) read ∙ no_next (root_in steps forms) k x none

pub end_step : (forms : List Form) (steps i k next : ℕ) (x : Form) → i < steps → slice_get forms k ≡ Some x → link x ≡ Some next → root_in (steps - i) forms k ≡ root_in (steps - (i + 1)) forms next
end_step forms steps i k next x before read is =
    let less : steps - i ≡ suc (steps - (i + 1)) = omega (arith, before) in
    ap (λ n. root_in n forms k) less ∙ ap (next_of (root_in (steps - (i + 1)) forms) k) (read ∙ ap (λ z. Some z) (linked x next is))

pub next_inside : (forms : List Form) (k next : ℕ) (x : Form) → IsTable forms → slice_get forms k ≡ Some x → link x ≡ Some next → next < length forms
next_inside forms k next x table read is =
    let e : slice_get forms k ≡ Some (f.Same next) = read ∙ ap (λ z. Some z) (linked x next is) in
    omega (arith, table k (f.Same next) e, get_inside forms k (f.Same next) e)

-- the types at both ends of the way are the same
pub end_same : (forms : List Form) (m : Meaning) → Fits m forms → (steps k : ℕ) → m k ≡ m (root_in steps forms k)
end_same forms m fits zero k = refl
end_same forms m fits (suc steps) k = go (end_same forms m fits steps) (slice_get forms k) refl
  where
    go : ((j : ℕ) → m j ≡ m (root_in steps forms j)) → (o : Option Form) → slice_get forms k ≡ o → m k ≡ m (next_of (root_in steps forms) k o)
    go later None e = refl
    go later (Some (f.Same j)) e = fits k (f.Same j) e ∙ later j
    go later (Some f.Open) e = refl
    go later (Some f.Int) e = refl
    go later (Some f.Bool) e = refl
    go later (Some f.Text) e = refl
    go later (Some f.Proc) e = refl
    go later (Some (f.Tuple ks)) e = refl
    go later (Some (f.Set j)) e = refl

module _ (forms : List Form) (table : IsTable forms) where
  pub end_inside : (steps k : ℕ) → k < length forms → root_in steps forms k < length forms
  end_inside zero k inside = inside
  end_inside (suc steps) k inside = go (end_inside steps) (slice_get forms k) refl
    where
      go : ((j : ℕ) → j < length forms → root_in steps forms j < length forms) → (o : Option Form) → slice_get forms k ≡ o → next_of (root_in steps forms) k o < length forms
      go later None e = inside
      go later (Some (f.Same j)) e = later j (let down : j < k = table k (f.Same j) e in omega (arith, inside, down))
      go later (Some f.Open) e = inside
      go later (Some f.Int) e = inside
      go later (Some f.Bool) e = inside
      go later (Some f.Text) e = inside
      go later (Some f.Proc) e = inside
      go later (Some (f.Tuple ks)) e = inside
      go later (Some (f.Set j)) e = inside

  abbrev links_at : Option Form → Bool
  links_at None = false
  links_at (Some x) = has_link (link x)

  no_same : (k j : ℕ) (o : Option Form) → slice_get forms k ≡ o → links_at o ≡ false → slice_get forms k ≡ Some (f.Same j) → ⊥
  no_same k j o e none is = false≢true (sym none ∙ ap links_at (sym e ∙ is))

  -- it goes on nowhere
  pub end_last : (steps k : ℕ) → k ≤ steps → (j : ℕ) → slice_get forms (root_in steps forms k) ≡ Some (f.Same j) → ⊥
  end_last zero k few j is = let down : j < k = table k (f.Same j) is in omega (arith, few, down)
  end_last (suc steps) k few j is = go (end_last steps) (slice_get forms k) refl is
    where
      go : ((i : ℕ) → i ≤ steps → (j : ℕ) → slice_get forms (root_in steps forms i) ≡ Some (f.Same j) → ⊥) → (o : Option Form) → slice_get forms k ≡ o → slice_get forms (next_of (root_in steps forms) k o) ≡ Some (f.Same j) → ⊥
      go later None e is = no_same k j None e refl is
      go later (Some (f.Same i)) e is = later i (let down : i < k = table k (f.Same i) e in omega (arith, few, down)) j is
      go later (Some f.Open) e is = no_same k j (Some f.Open) e refl is
      go later (Some f.Int) e is = no_same k j (Some f.Int) e refl is
      go later (Some f.Bool) e is = no_same k j (Some f.Bool) e refl is
      go later (Some f.Text) e is = no_same k j (Some f.Text) e refl is
      go later (Some f.Proc) e is = no_same k j (Some f.Proc) e refl is
      go later (Some (f.Tuple ks)) e is = no_same k j (Some (f.Tuple ks)) e refl is
      go later (Some (f.Set i)) e is = no_same k j (Some (f.Set i)) e refl is
