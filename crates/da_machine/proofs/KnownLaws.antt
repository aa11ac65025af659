-- What a process knows stays as types say where a slot gets a value that it takes.
use Rattle.std.proofs.Common.{◌≡◌, ℕ, zero, suc, ◌<◌, ◌≤◌, List, length, Option, Some, None, refl, sym, ◌∙◌, subst, arith}
use Rattle.std.specs.Prelude.{◌==◌, Bool, true, false, slice_get}
use Rattle.std.proofs.lemmas.Bool.{eqb-true, eqb-false}
use Rattle.std.proofs.lemmas.Option.{slice_get_within}
use Rattle.std.proofs.Math.ListN.{length-set}
use Rattle.da_values.specs.declared.val.Val.{Val}
use Rattle.da_lang.specs.declared.program.Class.{Class}
use Rattle.da_lang.specs.declared.program.Program.{Program}
use Rattle.da_lang.specs.declared.ty.Ty.{Ty}
use Rattle.da_lang.specs.QueryTypes.{type_at, given}
use Rattle.da_lang.specs.Shaped.{HasType, IsOf, ShapedData}
use Rattle.da_lang.specs.World.{Data, put_slot, slot_of, with_slot}
use Rattle.da_lang.proofs.WorldLaws.{slot-put_there, slot-put_other}
use Rattle.da_machine.specs.Conditions.{IsKnown, Takes}

-- a number that some type stands at is that of a slot
numbered : (types : List (Option Ty)) (s : ℕ) (ty : Ty) → type_at types s ≡ Some ty → (0 < s) × (s ≤ length types)
numbered types zero ty e = absurd (let none : None ≡ Some ty = e in cc)
numbered types (suc k) ty e = there (slice_get types k) refl e
  where
    there : (found : Option (Option Ty)) → slice_get types k ≡ found → given found (λ t. t) ≡ Some ty → (0 < suc k) × (suc k ≤ length types)
    there None is e = absurd (cc)
    there (Some t) is e = let inside = slice_get_within types k t is in (omega arith, omega (arith, inside))

length-with_slot : (slots : List Val) (s : ℕ) (v : Val) → length (with_slot slots s v) ≡ length slots
length-with_slot slots zero v = refl
length-with_slot slots (suc k) v = length-set slots k v

module _ (p : Program) (class : Class) (d : Data) (s : ℕ) (v : Val) (shaped : ShapedData p class d) (takes : Takes p class s v) where
  same_slot : (ty : Ty) → HasType class s ty → IsOf p ty (slot_of (put_slot d s v) s)
  same_slot ty has =
      let inside = numbered class.slots s ty has in
      let both : ◌≡◌ {A = Option Ty} (Some takes.ty) (Some ty) = sym takes.slot ∙ has in
      let same : takes.ty ≡ ty = cc in
      subst (IsOf p ty) (sym (slot-put_there d.slots s v inside.0 (omega (arith, inside.1, shaped.size)))) (subst (λ t. IsOf p t v) same takes.fits)

  each_slot : (slot : ℕ) (ty : Ty) → HasType class slot ty → (b : Bool) → (slot == s) ≡ b → IsOf p ty (slot_of (put_slot d s v) slot)
  each_slot slot ty has true is =
      let same : slot ≡ s = eqb-true slot s is in
      subst (λ k. IsOf p ty (slot_of (put_slot d s v) k)) (sym same) (same_slot ty (subst (λ k. HasType class k ty) same has))
  each_slot slot ty has false is = subst (IsOf p ty) (sym (slot-put_other d.slots s slot v (eqb-false slot s is))) (shaped.slots slot ty has)

  pub put_shaped : ShapedData p class (put_slot d s v)
  put_shaped = record {
    me = shaped.me;
    is_class = shaped.is_class;
    size = length-with_slot d.slots s v ∙ shaped.size;
    slots = λ slot ty has. each_slot slot ty has (slot == s) refl;
    sent = shaped.sent;
    received = shaped.received;
    clock = shaped.clock;
  }

pub put_known : (p : Program) (class : Class) (d : Data) (s : ℕ) (v : Val) → IsKnown p class d → Takes p class s v → IsKnown p class (put_slot d s v)
put_known p class d s v known takes = record { accepted = known.accepted; shaped = put_shaped p class d s v known.shaped takes }
