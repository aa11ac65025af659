-- What fits the slots of a class may be put there, and what may be sent is sendable.
use Rattle.std.specs.Prelude.{◌≡◌, refl, ℕ, ◌≤◌, List, [], ◌∷◌, Option, Some, None}
use Rattle.std.specs.List.{All, AllByRecursion}
use Rattle.std.proofs.Common.{inl, inr}
use Rattle.std.proofs.lemmas.List.Elements.{All-nil, All-cons}
use Rattle.da_values.specs.declared.val.Val.{Val}
use Rattle.da_values.specs.Sets.{Has}
use Rattle.da_lang.specs.declared.program.Class.{Class}
use Rattle.da_lang.specs.declared.program.Program.{Program}
use Rattle.da_lang.specs.Matching.{Row}
use Rattle.da_lang.specs.Shaped.{IsProcess}
use Rattle.da_lang.specs.Turns.{max_packet, packet_len}
use Rattle.da_types.specs.KeepsShaped.{FitSlots, FitsElement, FitsSlot, MaySend}
use Rattle.da_machine.specs.Allowed.{TakesRow}
use Rattle.da_machine.specs.Conditions.{IsSendable, Takes, TakesAll, TakesElement}

-- what holds of each element
pub all_of : {A : Type 0} (P : A → Type 0) (xs : List A) → ((x : A) → Has xs x → P x) → AllByRecursion P xs
all_of P [] each = tt
all_of P (x ∷ xs) each = (each x (inl refl), all_of P xs (λ y h. each y (inr h)))

module _ (p : Program) (class : Class) where
  pub slot_takes : (s : ℕ) (v : Val) → FitsSlot p class s v → Takes p class s v
  slot_takes s v one = record { ty = one.type'; slot = one.has; fits = one.is }

  pub slot_takes_element : (s : ℕ) (v : Val) → FitsElement p class s v → TakesElement p class s v
  slot_takes_element s v one = record { ty = one.element; slot = one.has; fits = one.is }

  pub slots_take : (ss : List ℕ) (vs : List Val) → FitSlots p class ss vs → TakesAll p class ss vs
  slots_take [] vs each = tt
  slots_take (s ∷ ss) [] each = tt
  slots_take (s ∷ ss) (v ∷ vs) each = (slot_takes s v each.0, slots_take ss vs each.1)

  -- the row that was found, if there is one
  pub slots_take_row : (slots : List ℕ) (found : Option Row) → ((row : Row) → found ≡ Some row → FitSlots p class slots row) → TakesRow p class slots found
  slots_take_row slots None fits = tt
  slots_take_row slots (Some row) fits = slots_take slots row (fits row refl)

all_processes : (p : Program) (ps : List ℕ) → ((q : ℕ) → Has ps q → IsProcess p q) → All (IsProcess p) ps
all_processes p [] each = All-nil (IsProcess p)
all_processes p (q ∷ qs) each = All-cons (IsProcess p) q qs (each q (inl refl)) (all_processes p qs (λ r h. each r (inr h)))

pub sendable : (p : Program) (m : Val) (ps : List ℕ) → MaySend p m ps → packet_len m ≤ max_packet → IsSendable p m ps
sendable p m ps may small = record { proper = may.proper; typed = may.typed; small = small; recipients = all_processes p ps may.receivers }
