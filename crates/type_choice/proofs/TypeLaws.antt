-- What is sent to, and what is added.
use Rattle.std.specs.Prelude.{◌≡◌, ◌⊎◌, Bool, true, false, ◌||◌, Option, Some, None}
use Rattle.std.proofs.Common.{inl, inr, ◌∙◌, ap, sym}
use Rattle.std.proofs.lemmas.Bool.{false≢true}
use Rattle.da_lang.specs.declared.ty.Ty.{Ty, out-Ty, roll-Ty, roll-out-Ty}
use Rattle.da_lang.specs.declared.ty.Ty.TheVariants as t
use Rattle.da_lang.specs.declared.ty.Ty.TheOpen as layer
use Rattle.da_lang.specs.QueryTypes.{holds_of}
use Rattle.da_lang.specs.Types.{is_proc, is_set, int_in, proc_in, element_in}
use Rattle.type_choice.specs.Choice.{is_added, is_recipient}
use Rattle.type_choice.specs.Roots.{set_of_proc}

abbrev pub proc_layer : layer.Ty-F Ty → Bool
proc_layer l = proc_in l || holds_of (element_in l) is_proc

abbrev pub some_in : Option Ty → Bool
some_in o = elim o [ Some element ↦ true | None ↦ false ]

abbrev pub added_layer : layer.Ty-F Ty → Bool
added_layer l = int_in l || some_in (element_in l)

proc_is : (l : layer.Ty-F Ty) → proc_in l ≡ true → roll-Ty l ≡ t.Proc
proc_is layer.Proc e = t.rolls-Proc
proc_is layer.Int e = absurd (false≢true e)
proc_is layer.Bool e = absurd (false≢true e)
proc_is layer.Text e = absurd (false≢true e)
proc_is (layer.Tuple parts) e = absurd (false≢true e)
proc_is (layer.Set element) e = absurd (false≢true e)

pub is_proc_type : (ty : Ty) → is_proc ty ≡ true → ty ≡ t.Proc
is_proc_type ty e = sym (roll-out-Ty ty) ∙ proc_is (out-Ty ty) e

recipient_is : (l : layer.Ty-F Ty) → proc_layer l ≡ true → (roll-Ty l ≡ t.Proc) ⊎ (roll-Ty l ≡ set_of_proc)
recipient_is layer.Proc e = inl t.rolls-Proc
recipient_is layer.Int e = absurd (false≢true e)
recipient_is layer.Bool e = absurd (false≢true e)
recipient_is layer.Text e = absurd (false≢true e)
recipient_is (layer.Tuple parts) e = absurd (false≢true e)
recipient_is (layer.Set element) e = inr (t.rolls-Set element ∙ ap t.Set (is_proc_type element e))

pub recipient_cases : (ty : Ty) → is_recipient ty ≡ true → (ty ≡ t.Proc) ⊎ (ty ≡ set_of_proc)
recipient_cases ty e =
    elim (recipient_is (out-Ty ty) e) [
      | inl is ↦ inl (sym (roll-out-Ty ty) ∙ is)
      | inr is ↦ inr (sym (roll-out-Ty ty) ∙ is)
    ]

added_is : (l : layer.Ty-F Ty) → added_layer l ≡ true → (roll-Ty l ≡ t.Int) ⊎ ((element : Ty) × (roll-Ty l ≡ t.Set element))
added_is layer.Int e = inl t.rolls-Int
added_is layer.Proc e = absurd (false≢true e)
added_is layer.Bool e = absurd (false≢true e)
added_is layer.Text e = absurd (false≢true e)
added_is (layer.Tuple parts) e = absurd (false≢true e)
added_is (layer.Set element) e = inr (element, t.rolls-Set element)

pub added_cases : (ty : Ty) → is_added ty ≡ true → (ty ≡ t.Int) ⊎ ((element : Ty) × (ty ≡ t.Set element))
added_cases ty e =
    elim (added_is (out-Ty ty) e) [
      | inl is ↦ inl (sym (roll-out-Ty ty) ∙ is)
      | inr is ↦ inr (is.0, sym (roll-out-Ty ty) ∙ is.1)
    ]

-- forms of types
pub added_at : (ty z : Ty) (l : layer.Ty-F Ty) → ty ≡ z → out-Ty z ≡ l → is_added ty ≡ added_layer l
added_at ty z l e out = ap (λ y. added_layer (out-Ty y)) e ∙ ap added_layer out

pub received_at : (ty z : Ty) (l : layer.Ty-F Ty) → ty ≡ z → out-Ty z ≡ l → is_recipient ty ≡ proc_layer l
received_at ty z l e out = ap (λ y. proc_layer (out-Ty y)) e ∙ ap proc_layer out

pub proc_received : (ty : Ty) → ty ≡ t.Proc → is_recipient ty ≡ true
proc_received ty e = ap (λ z. proc_layer (out-Ty z)) e ∙ ap proc_layer t.outs-Proc

pub set_received : (ty : Ty) → ty ≡ set_of_proc → is_recipient ty ≡ true
set_received ty e = ap (λ z. proc_layer (out-Ty z)) e ∙ ap proc_layer (t.outs-Set t.Proc) ∙ ap proc_in t.outs-Proc

pub int_added : (ty : Ty) → ty ≡ t.Int → is_added ty ≡ true
int_added ty e = ap (λ z. added_layer (out-Ty z)) e ∙ ap added_layer t.outs-Int

pub set_added : (ty element : Ty) → ty ≡ t.Set element → is_added ty ≡ true
set_added ty element e = ap (λ z. added_layer (out-Ty z)) e ∙ ap added_layer (t.outs-Set element)

-- types that are not the same
pub set_no_proc : (element : Ty) → t.Set element ≡ t.Proc → ⊥
set_no_proc element e = false≢true (sym (ap proc_in (t.outs-Set element)) ∙ ap is_proc e ∙ ap proc_in t.outs-Proc)

pub int_no_proc : t.Int ≡ t.Proc → ⊥
int_no_proc e = false≢true (sym (ap proc_in t.outs-Int) ∙ ap is_proc e ∙ ap proc_in t.outs-Proc)

pub int_no_set : (element : Ty) → t.Int ≡ t.Set element → ⊥
int_no_set element e = false≢true (sym (ap some_in (ap element_in t.outs-Int)) ∙ ap is_set e ∙ ap some_in (ap element_in (t.outs-Set element)))

abbrev element_or : Ty → Option Ty → Ty
element_or other None = other
element_or other (Some element) = element

pub set_same : (x y : Ty) → t.Set x ≡ t.Set y → x ≡ y
set_same x y e = sym (ap (λ l. element_or t.Int (element_in l)) (t.outs-Set x)) ∙ ap (λ z. element_or t.Int (element_in (out-Ty z))) e ∙ ap (λ l. element_or t.Int (element_in l)) (t.outs-Set y)
