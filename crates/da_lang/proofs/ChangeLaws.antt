-- What all changes by statements leave as it was, and that histories only grow.
use Rattle.std.specs.Prelude.{◌≡◌, refl, ℕ, zero, suc, ◌≤◌, List, [], ◌∷◌, ◌++◌, length, slice_set}
use Rattle.std.proofs.Common.{◌∙◌, ap, sym, arith, append_assoc, append-nil}
use Rattle.da_values.specs.declared.val.Val.{Val}
use Rattle.da_lang.specs.Changes.{Changes, none, puts, sends}
use Rattle.da_lang.specs.Turns.{last_time, later}
use Rattle.da_lang.specs.World.{Entry, Data, with_slot}

-- one after the other
pub changes_then : {d d2 d3 : Data} → Changes d d2 → Changes d2 d3 → Changes d d3
changes_then first none = first
changes_then first (puts d4 s v next) = puts d4 s v (changes_then first next)
changes_then first (sends d4 m p next) = sends d4 m p (changes_then first next)

pub changes-me : {d d2 : Data} → Changes d d2 → d2.me ≡ d.me
changes-me none = refl
changes-me (puts d2 s v before) = changes-me before
changes-me (sends d2 m p before) = changes-me before

pub changes-received : {d d2 : Data} → Changes d d2 → d2.received ≡ d.received
changes-received none = refl
changes-received (puts d2 s v before) = changes-received before
changes-received (sends d2 m p before) = changes-received before

length-set : (slots : List Val) (k : ℕ) (v : Val) → length (slice_set slots k v) ≡ length slots
length-set [] zero v = refl
length-set [] (suc k) v = refl
length-set (x ∷ xs) zero v = refl
length-set (x ∷ xs) (suc k) v = ap suc (length-set xs k v)

length-with_slot : (slots : List Val) (s : ℕ) (v : Val) → length (with_slot slots s v) ≡ length slots
length-with_slot slots zero v = refl
length-with_slot slots (suc k) v = length-set slots k v

-- there are as many slots as before
pub changes-slots : {d d2 : Data} → Changes d d2 → length d2.slots ≡ length d.slots
changes-slots none = refl
changes-slots (puts d2 s v before) = length-with_slot d2.slots s v ∙ changes-slots before
changes-slots (sends d2 m p before) = changes-slots before

-- what was sent stays
pub changes-sent : {d d2 : Data} → Changes d d2 → (more : List Entry) × (d2.sent ≡ d.sent ++ more)
changes-sent {d} none = ([], sym (append-nil d.sent))
changes-sent (puts d2 s v before) = changes-sent before
changes-sent {d} (sends d2 m p before) =
    let (more, grown) = changes-sent before in
    let entry : List Entry = record { message = m; peer = p; time = later d2.clock } ∷ [] in
    (more ++ entry, ap (λ sent. sent ++ entry) grown ∙ append_assoc d.sent more entry)

later_rises : (time : ℕ) → time ≤ last_time → (time ≤ later time) × (later time ≤ last_time)
later_rises time within = (omega (arith, within), omega (arith, within))

-- the clock does not fall, and stays within its bound
pub changes-clock : {d d2 : Data} → Changes d d2 → d.clock ≤ last_time → (d.clock ≤ d2.clock) × (d2.clock ≤ last_time)
changes-clock none within = (omega arith, within)
changes-clock (puts d2 s v before) within = changes-clock before within
changes-clock (sends d2 m p before) within =
    let (risen, still) = changes-clock before within in
    let (more, bound) = later_rises d2.clock still in
    (omega (arith, risen, more), bound)
