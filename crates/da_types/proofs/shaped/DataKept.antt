-- What a process knows stays shaped where slots get values of their types, and where declared messages go to processes that
-- are there or come from them.
use Rattle.std.specs.Prelude.{◌≡◌, refl, ℕ, zero, suc, ◌^◌, ◌<◌, ◌≤◌, ◌==◌, max, Bool, true, false, List, [], ◌∷◌, length, Option, Some, slice_get}
use Rattle.std.proofs.Common.{◌∙◌, ap, sym, subst, inl, inr, arith}
use Rattle.std.proofs.lemmas.Bool.{false≢true, and_parts, eqb-true, eqb-false}
use Rattle.std.proofs.lemmas.List.Elements.{All-push}
use Rattle.da_values.specs.declared.val.Val.{Val}
use Rattle.da_values.specs.declared.val.Val.TheVariants as val
use Rattle.da_values.specs.Order.{val_cmp}
use Rattle.da_values.specs.Sets.{set_insert, set_remove}
use Rattle.da_values.specs.Views.{elements_of}
use Rattle.da_values.proofs.OrderLaws.{val_order, same_from_val_cmp}
use Rattle.da_values.proofs.SetLaws.{Ascends-insert, Ascends-remove, of_insert, of_remove}
use Rattle.da_values.proofs.ViewLaws.{elements_of-Set}
use Rattle.da_lang.specs.declared.program.Class.{Class}
use Rattle.da_lang.specs.declared.program.Program.{Program}
use Rattle.da_lang.specs.declared.ty.Ty.{Ty}
use Rattle.da_lang.specs.declared.ty.Ty.TheVariants as t
use Rattle.da_lang.specs.Changes.{none, puts}
use Rattle.da_lang.specs.Matching.{Row}
use Rattle.da_lang.specs.QueryTypes.{slot_type}
use Rattle.da_lang.specs.Shaped.{ShapedData, HasType, IsOf, IsEntry}
use Rattle.da_lang.specs.Steps.{received_at}
use Rattle.da_lang.specs.Turns.{bind_all, last_time, later, sent_at, sent_to}
use Rattle.da_lang.specs.Typing.{has_type, have_types, known}
use Rattle.da_lang.specs.World.{Data, Entry, at_number, put_slot, slot_of, value_in}
use Rattle.da_lang.proofs.ChangeLaws.{changes-slots}
use Rattle.da_lang.proofs.WorldLaws.{slot-put_there, slot-put_other}
use Rattle.da_types.specs.KeepsShaped.{FitsElement, FitsSlot, FitSlots, MaySend}
use Rattle.da_types.proofs.shaped.Wholes.{WholeOf, WholeRow, as_is_of, from_is_of, set_parts, set_whole_of}
use Rattle.da_types.proofs.totality.KindLaws.{given_parts, is_typed_parts}

-- a slot that has a type is one of the slots
place_within : {A : Type 0} (xs : List A) (k : ℕ) (x : A) → slice_get xs k ≡ Some x → k < length xs
place_within [] k x e = absurd (cc)
place_within (y ∷ ys) zero x e = omega arith
place_within (y ∷ ys) (suc k) x e = let inside = place_within ys k x e in omega (arith, inside)

number_within : {A : Type 0} (xs : List A) (n : ℕ) (x : A) → at_number xs n ≡ Some x → (0 < n) × (n ≤ length xs)
number_within xs zero x e = absurd (cc)
number_within xs (suc k) x e = let inside = place_within xs k x e in (omega arith, omega (arith, inside))

pub slot_within : (c : Class) (slot : ℕ) (ty : Ty) → HasType c slot ty → (0 < slot) × (slot ≤ length c.slots)
slot_within c slot ty e = let (found, is, more) = given_parts (at_number c.slots slot) _ ty e in number_within c.slots slot found is

-- the clock stays below 2^63
pub later_below : (time : ℕ) → later time < 2 ^ 63
unfolding last_time
later_below time = omega arith

module _ (p : Program) (c : Class) where
  -- a value that a slot may have
  abbrev pub Suits : ℕ → Val → Type 0
  Suits slot v = (ty : Ty) → HasType c slot ty → IsOf p ty v

  put_value : (d : Data) (s slot : ℕ) (v : Val) (ty : Ty) → ShapedData p c d → Suits s v → HasType c slot ty → (b : Bool) → (slot == s) ≡ b → IsOf p ty (value_in (put_slot d s v).slots slot)
  put_value d s slot v ty shaped suits e true is =
      let same : slot ≡ s = eqb-true slot s is in
      let (some, inside) = slot_within c s ty (subst (λ z. HasType c z ty) same e) in
      let stands = subst (IsOf p ty) (sym (slot-put_there d.slots s v some (omega (arith, inside, shaped.size)))) (suits ty (subst (λ z. HasType c z ty) same e)) in
      subst (λ z. IsOf p ty (value_in (put_slot d s v).slots z)) (sym same) stands
  put_value d s slot v ty shaped suits e false is = subst (IsOf p ty) (sym (slot-put_other d.slots s slot v (eqb-false slot s is))) (shaped.slots slot ty e)

  pub put_shaped : (d : Data) (s : ℕ) (v : Val) → ShapedData p c d → Suits s v → ShapedData p c (put_slot d s v)
  put_shaped d s v shaped suits = record {
    me = shaped.me;
    is_class = shaped.is_class;
    size = changes-slots (puts d s v none) ∙ shaped.size;
    slots = λ slot ty e. put_value d s slot v ty shaped suits e (slot == s) refl;
    sent = shaped.sent;
    received = shaped.received;
    clock = shaped.clock;
  }

  -- the type of a slot is the only one that it has
  pub fitting_suits : (s : ℕ) (v : Val) → FitsSlot p c s v → Suits s v
  fitting_suits s v fits ty at =
      let both : ◌≡◌ {A = Option Ty} (Some fits.type') (Some ty) = sym fits.has ∙ at in
      let same : fits.type' ≡ ty = cc in
      subst (λ z. IsOf p z v) same fits.is

  pub bound_shaped : (ss : List ℕ) (vs : List Val) (d : Data) → ShapedData p c d → FitSlots p c ss vs → ShapedData p c (bind_all ss vs d)
  bound_shaped [] vs d shaped fit = shaped
  bound_shaped (s ∷ ss) [] d shaped fit = shaped
  bound_shaped (s ∷ ss) (v ∷ vs) d shaped fit = bound_shaped ss vs (put_slot d s v) (put_shaped d s v shaped (fitting_suits s v fit.0)) fit.1

  -- a set with an element of its type more, or one less
  pub inserted_fits : (d : Data) (s : ℕ) (v : Val) → ShapedData p c d → FitsElement p c s v → FitsSlot p c s (val.Set (set_insert val_cmp (elements_of (slot_of d s)) v))
  inserted_fits d s v shaped fits =
      let (vs, is, each, up) = set_parts p fits.element (slot_of d s) (from_is_of p (t.Set fits.element) (slot_of d s) (shaped.slots s (t.Set fits.element) fits.has)) in
      let one = from_is_of p fits.element v fits.is in
      let set = set_whole_of p fits.element (set_insert val_cmp vs v) (λ u h. elim (of_insert val_cmp val_order same_from_val_cmp vs v u h) [ inl same ↦ subst (WholeOf p fits.element) (sym same) one | inr there ↦ each u there ]) (Ascends-insert val_cmp val_order same_from_val_cmp vs v up) in
      let same : elements_of (slot_of d s) ≡ vs = ap elements_of is ∙ elements_of-Set vs in
      record { type' = t.Set fits.element; has = fits.has; is = subst (λ z. IsOf p (t.Set fits.element) (val.Set (set_insert val_cmp z v))) (sym same) (as_is_of p (t.Set fits.element) (val.Set (set_insert val_cmp vs v)) set) }

  pub removed_fits : (d : Data) (s : ℕ) (v : Val) → ShapedData p c d → FitsElement p c s v → FitsSlot p c s (val.Set (set_remove val_cmp (elements_of (slot_of d s)) v))
  removed_fits d s v shaped fits =
      let (vs, is, each, up) = set_parts p fits.element (slot_of d s) (from_is_of p (t.Set fits.element) (slot_of d s) (shaped.slots s (t.Set fits.element) fits.has)) in
      let set = set_whole_of p fits.element (set_remove val_cmp vs v) (λ u h. each u (of_remove val_cmp val_order same_from_val_cmp vs v u up h).0) (Ascends-remove val_cmp val_order same_from_val_cmp vs v up) in
      let same : elements_of (slot_of d s) ≡ vs = ap elements_of is ∙ elements_of-Set vs in
      record { type' = t.Set fits.element; has = fits.has; is = subst (λ z. IsOf p (t.Set fits.element) (val.Set (set_remove val_cmp z v))) (sym same) (as_is_of p (t.Set fits.element) (val.Set (set_remove val_cmp vs v)) set) }

  pub bound-me : (ss : List ℕ) (vs : List Val) (d : Data) → (bind_all ss vs d).me ≡ d.me
  bound-me [] vs d = refl
  bound-me (s ∷ ss) [] d = refl
  bound-me (s ∷ ss) (v ∷ vs) d = bound-me ss vs (put_slot d s v)

  -- a whole row fits the slots that have its types
  pub row_fits_slots : (binds : List ℕ) (types : List Ty) (row : Row) → have_types p.messages c.queries c.slots binds types ≡ true → WholeRow p types row → FitSlots p c binds row
  row_fits_slots [] types row e fits = tt
  row_fits_slots (s ∷ ss) [] row e fits = absurd (false≢true e)
  row_fits_slots (s ∷ ss) (ty ∷ types) [] e fits = tt
  row_fits_slots (s ∷ ss) (ty ∷ types) (v ∷ vs) e fits =
      let (first, others) = and_parts (has_type p.messages c.queries c.slots s ty) (have_types p.messages c.queries c.slots ss types) e in
      let is : HasType c s ty = is_typed_parts (slot_type (known p.messages c.queries c.slots) s) ty first in
      (record { type' = ty; has = is; is = as_is_of p ty v fits.0 }, row_fits_slots ss types vs others fits.1)

  abbrev entry_of : Val → ℕ → ℕ → Entry
  entry_of m q time = record { message = m; peer = q; time = time }

  pub sent_one_shaped : (m : Val) (q time : ℕ) (d : Data) → ShapedData p c d → IsEntry p (entry_of m q time) → time < 2 ^ 63 → ShapedData p c (sent_at m q time d)
  sent_one_shaped m q time d shaped is small = record {
    me = shaped.me;
    is_class = shaped.is_class;
    size = shaped.size;
    slots = shaped.slots;
    sent = All-push (IsEntry p) d.sent (entry_of m q time) shaped.sent is;
    received = shaped.received;
    clock = small;
  }

  pub sent_shaped : (m : Val) (to : List ℕ) (d : Data) → ShapedData p c d → MaySend p m to → ShapedData p c (sent_to m to d)
  sent_shaped m [] d shaped may = shaped
  sent_shaped m (q ∷ qs) d shaped may =
      let entry : IsEntry p (entry_of m q (later d.clock)) = record { proper = may.proper; typed = may.typed; peer = may.receivers q (inl refl) } in
      sent_shaped m qs (sent_at m q (later d.clock) d) (sent_one_shaped m q (later d.clock) d shaped entry (later_below d.clock))
      (record { proper = may.proper; typed = may.typed; nested = may.nested; receivers = λ r h. may.receivers r (inr h) })

  pub sent-me : (m : Val) (to : List ℕ) (d : Data) → (sent_to m to d).me ≡ d.me
  sent-me m [] d = refl
  sent-me m (q ∷ qs) d = sent-me m qs (sent_at m q (later d.clock) d)

  -- a message that arrives
  pub received_shaped : (m : Val) (q time : ℕ) (d : Data) → ShapedData p c d → IsEntry p (entry_of m q time) → ShapedData p c (received_at m q time d)
  received_shaped m q time d shaped is = record {
    me = shaped.me;
    is_class = shaped.is_class;
    size = shaped.size;
    slots = shaped.slots;
    sent = shaped.sent;
    received = All-push (IsEntry p) d.received (entry_of m q time) shaped.received is;
    clock = later_below (max d.clock time);
  }
