-- The code that puts the values of arguments into the slots of parameters, the last one first.
use Rattle.std.proofs.Common.{◌≡◌, ℕ, zero, suc, ◌+◌, List, [], ◌∷◌, ◌++◌, length, refl, sym, ap, ◌∙◌, subst, arith, inl, inr, append_assoc}
use Rattle.std.specs.Prelude.{slice_set}
use mathlib.Core.List.{append-nil}
use Rattle.da_values.specs.declared.val.Val.{Val}
use Rattle.da_values.specs.Sets.{Has, Distinct}
use Rattle.da_lang.specs.declared.program.Class.{Class}
use Rattle.da_lang.specs.declared.program.Program.{Program}
use Rattle.da_lang.specs.Turns.{bind_all}
use Rattle.da_lang.specs.World.{Data, put_slot, with_slot}
use Rattle.da_machine.specs.declared.code.Code.{Code}
use Rattle.da_machine.specs.declared.machine.Machine.{Machine}
use Rattle.da_machine.specs.Acts.{moved}
use Rattle.da_machine.specs.CodeFor.{StoresAt}
use Rattle.da_machine.specs.Conditions.{IsKnown, TakesAll}
use Rattle.da_machine.proofs.KnownLaws.{put_known}
use Rattle.da_machine.proofs.Leading.{Leads, rests, joined, one}
use Rattle.da_machine.proofs.Stacks.{top_last, below_last}

-- values go into slots, the last one first
abbrev pub bind_back : List ℕ → List Val → Data → Data
bind_back [] vs d = d
bind_back (s ∷ ss) [] d = d
bind_back (s ∷ ss) (v ∷ vs) d = put_slot (bind_back ss vs d) s v

-- two different slots can be written in either order
set_either : (xs : List Val) (j k : ℕ) (x y : Val) → (j ≡ k → ⊥) → slice_set (slice_set xs j x) k y ≡ slice_set (slice_set xs k y) j x
set_either [] j k x y other = refl
set_either (z ∷ zs) zero zero x y other = absurd (other refl)
set_either (z ∷ zs) zero (suc k) x y other = refl
set_either (z ∷ zs) (suc j) zero x y other = refl
set_either (z ∷ zs) (suc j) (suc k) x y other = ap (λ l. z ∷ l) (set_either zs j k x y (λ e. other (ap suc e)))

with_either : (slots : List Val) (s t : ℕ) (v w : Val) → (s ≡ t → ⊥) → with_slot (with_slot slots s v) t w ≡ with_slot (with_slot slots t w) s v
with_either slots zero t v w other = refl
with_either slots (suc j) zero v w other = refl
with_either slots (suc j) (suc k) v w other = set_either slots j k v w (λ e. other (ap suc e))

put_either : (d : Data) (s t : ℕ) (v w : Val) → (s ≡ t → ⊥) → put_slot (put_slot d s v) t w ≡ put_slot (put_slot d t w) s v
put_either d s t v w other = ap (λ slots. record d { slots = slots }) (with_either d.slots s t v w other)

put_bound : (s : ℕ) (v : Val) (ss : List ℕ) (vs : List Val) (d : Data) → (Has ss s → ⊥) → bind_all ss vs (put_slot d s v) ≡ put_slot (bind_all ss vs d) s v
put_bound s v [] vs d new = refl
put_bound s v (t ∷ ts) [] d new = refl
put_bound s v (t ∷ ts) (w ∷ ws) d new =
    ap (bind_all ts ws) (put_either d s t v w (λ e. new (inl e))) ∙ put_bound s v ts ws (put_slot d t w) (λ h. new (inr h))

pub back_is : (ss : List ℕ) (vs : List Val) (d : Data) → Distinct ss → bind_back ss vs d ≡ bind_all ss vs d
back_is [] vs d once = refl
back_is (s ∷ ss) [] d once = refl
back_is (s ∷ ss) (v ∷ vs) d once = ap (λ e. put_slot e s v) (back_is ss vs d once.1) ∙ sym (put_bound s v ss vs d once.0)

module _ (p : Program) (class : Class) (code : Code) where
  pub back_known : (ss : List ℕ) (vs : List Val) (d : Data) → IsKnown p class d → TakesAll p class ss vs → IsKnown p class (bind_back ss vs d)
  back_known [] vs d known takes = known
  back_known (s ∷ ss) [] d known takes = known
  back_known (s ∷ ss) (v ∷ vs) d known takes = put_known p class (bind_back ss vs d) s v (back_known ss vs d known takes.1) takes.0

  pub stores_lead : (m : Machine) (d : Data) → IsKnown p class d → (at : ℕ) (ss : List ℕ) (end : ℕ) → StoresAt code at ss end → (vs st : List Val) → length vs ≡ length ss → TakesAll p class ss vs
      → Leads p class code (moved m at (st ++ vs)) d (moved m end st) (bind_back ss vs d) []
  stores_lead m d known _ _ _ (StoresAt.stored {at}) [] st long takes = subst (λ l. Leads p class code (moved m at (st ++ [])) d (moved m at l) d []) (append-nil st) (rests p class code (moved m at (st ++ [])) d)
  stores_lead m d known _ _ _ (StoresAt.stored {at}) (v ∷ vs) st long takes = absurd (omega (arith, long))
  stores_lead m d known _ _ _ (StoresAt.store {at} {end} {s} {ss} x has) [] st long takes = absurd (omega (arith, long))
  stores_lead m d known _ _ _ (StoresAt.store {at} {end} {s} {ss} x has) (v ∷ vs) st long takes =
      let others = stores_lead m d known at ss end x vs (st ++ v ∷ []) (omega (arith, long)) takes.1 in
      let first : Leads p class code (moved m at (st ++ v ∷ vs)) d (moved m end (st ++ v ∷ [])) (bind_back ss vs d) [] = subst (λ l. Leads p class code (moved m at l) d (moved m end (st ++ v ∷ [])) (bind_back ss vs d) []) (append_assoc st (v ∷ []) vs) others in
      joined p class code _ (moved m end (st ++ v ∷ [])) (moved m (end + 1) st) d (bind_back ss vs d) (put_slot (bind_back ss vs d) s v) [] first
      (one p class code (bind_back ss vs d) (back_known ss vs d known takes.1) _ _ _ [] _ has (rw (top_last st v) takes.0) (rw (top_last st v, below_last st v) refl))
