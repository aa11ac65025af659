-- A message to each of some processes, one after the other.
use Rattle.std.proofs.Common.{◌≡◌, ℕ, ◌+◌, ◌<◌, ◌≤◌, List, [], ◌∷◌, ◌++◌, drop, get_or, length, map, refl, sym, ap, ◌∙◌, subst, append-nil}
use Rattle.std.proofs.lemmas.List.{at_drop_all, at_drop_more}
use Rattle.da_values.specs.declared.val.Val.{Val}
use Rattle.da_values.specs.declared.value.Value.{Value}
use Rattle.da_values.specs.Layer.{value_of-val_of}
use Rattle.da_values.specs.Value.{val_of, value_of, vals}
use Rattle.da_values.specs.Views.{proc_of}
use Rattle.da_lang.specs.declared.event.Action.{Action}
use Rattle.da_lang.specs.declared.event.Action.TheVariants.{Sent}
use Rattle.da_lang.specs.declared.program.Class.{Class}
use Rattle.da_lang.specs.declared.program.Program.{Program}
use Rattle.da_lang.specs.Turns.{later, sending, sent_at, sent_to}
use Rattle.da_lang.specs.World.{Data}
use Rattle.da_machine.specs.RunsTo.{AddsPrefix}
use Rattle.da_machine.proofs.Prefixes.{IsPart, prefix_as, prefix_before, none_told, part_prefix_of, part_then, part_whole}
use Rattle.da_core.specs.declared.known.Known.{Known}
use Rattle.da_core.specs.Known.{Becomes, Each, Knows, KnowsSome}
use Rattle.da_core.proofs.KnownLaws.{clock_is, me_is}

-- these processes are left of those to which the message goes: it stands for a process that sent it to the others
pub record SendsOf (m : Val) (ps left : List ℕ) (p : Program) (class : Class) (d : Data) (first now : Known) : Type 0 where
  pub so_far : Data
  pub knows : Knows now p class so_far
  pub same : sent_to m left so_far ≡ sent_to m ps d
  pub told : IsPart first.actions now.actions (sending d.me m ps d.clock) (sending so_far.me m left so_far.clock)

abbrev pub Sends : Val → List ℕ → List ℕ → Known → Known → Type 0
Sends m ps left first now = Each first (λ p class d. SendsOf m ps left p class d first now)

-- the message goes to the next one
abbrev pub SendsTo : Val → ℕ → Known → Known → Type 0
SendsTo m to now next = Becomes now next (λ d. sent_at m to (later d.clock) d)

-- it still stands for some process
pub sends_some : (m : Val) (ps left : List ℕ) (first now : Known) → KnowsSome first → Sends m ps left first now → KnowsSome now
sends_some m ps left first now (p, class, d, knows) so_far = let by = so_far p class d knows in (p, class, by.so_far, by.knows)

-- it is told as the process for which it stands tells it
told_as : (now : Known) (p : Program) (class : Class) (d : Data) → Knows now p class d → (to : ℕ) (m : Value) → Sent now.answers.me to (later now.clock) m ≡ Sent d.me to (later d.clock) m
told_as now p class d knows to m =
    ap (λ me. Sent me to (later now.clock) m) (sym (me_is now p class d knows))
    ∙ ap (λ clock. Sent d.me to (later clock) m) (sym (clock_is now p class d knows))

pub sends_first : (m : Val) (ps left : List ℕ) (first : Known) → left ≡ ps → Sends m ps left first first
sends_first m ps left first all p class d knows = record {
  so_far = d;
  knows = knows;
  same = ap (λ l. sent_to m l d) all;
  told =
      subst (λ l. IsPart first.actions first.actions (sending d.me m ps d.clock) (sending d.me m l d.clock)) (sym all)
      (none_told first.actions (sending d.me m ps d.clock));
}

pub sends_on : (m : Val) (ps : List ℕ) (to : ℕ) (left : List ℕ) (first now next : Known) → Sends m ps (to ∷ left) first now → SendsTo m to now next
    → next.actions ≡ now.actions ++ Sent now.answers.me to (later now.clock) (value_of m) ∷ [] → Sends m ps left first next
sends_on m ps to left first now next so_far sends told p class d knows =
    let by = so_far p class d knows in
    let due = sending by.so_far.me m left (later by.so_far.clock) in
    record {
      so_far = sent_at m to (later by.so_far.clock) by.so_far;
      knows = sends p class by.so_far by.knows;
      same = by.same;
      told =
          part_then first.actions now.actions next.actions (sending d.me m ps d.clock) (sending by.so_far.me m (to ∷ left) by.so_far.clock) due by.told
          (Sent now.answers.me to (later now.clock) (value_of m) ∷ [], told, ap (λ (a : Action). a ∷ due) (sym (told_as now p class by.so_far by.knows to (value_of m))));
    }

-- memory was refused while the message went to the next one
pub sends_prefix : (m : Val) (ps : List ℕ) (to : ℕ) (left : List ℕ) (first now next : Known) → Sends m ps (to ∷ left) first now
    → AddsPrefix now.actions next.actions (Sent now.answers.me to (later now.clock) (value_of m) ∷ [])
    → Each first (λ p class d. AddsPrefix first.actions next.actions (sending d.me m ps d.clock))
sends_prefix m ps to left first now next so_far front p class d knows =
    let by = so_far p class d knows in
    let due = sending by.so_far.me m left (later by.so_far.clock) in
    let told = Sent now.answers.me to (later now.clock) (value_of m) in
    let rest = sending by.so_far.me m (to ∷ left) by.so_far.clock in
    part_prefix_of first.actions now.actions next.actions (sending d.me m ps d.clock) rest by.told
    (prefix_as now.actions next.actions (told ∷ due) rest (ap (λ (a : Action). a ∷ due) (told_as now p class by.so_far by.knows to (value_of m)))
    (prefix_before now.actions next.actions (told ∷ []) due front))

-- OVER A LIST OF PROCESSES, where the one at a place is the next

module _ (m : Value) (processes : List Value) (k : ℕ) (v : Value) (to : ℕ) (ps : List ℕ) (first now next : Known)
    (within : k < length processes) (here : v ≡ get_or processes k v) (number : to ≡ proc_of (val_of v)) (so_far : Sends (val_of m) ps (map proc_of (vals (drop k processes))) first now) where
  to_this : Sends (val_of m) ps (to ∷ map proc_of (vals (drop (k + 1) processes))) first now
  to_this =
      subst (λ left. Sends (val_of m) ps left first now)
      (at_drop_more (λ vs. map proc_of (vals vs)) processes k v within ∙ ap (λ x. proc_of (val_of x) ∷ map proc_of (vals (drop (k + 1) processes))) (sym here) ∙ ap (λ x. x ∷ map proc_of (vals (drop (k + 1) processes))) (sym number)) so_far

  kept : (time : ℕ) → ◌≡◌ {A = List Action} (Sent now.answers.me to time m ∷ []) (Sent now.answers.me to time (value_of (val_of m)) ∷ [])
  kept time = ap (λ x. Sent now.answers.me to time x ∷ []) (sym (value_of-val_of m))

  pub sends_next : SendsTo (val_of m) to now next → next.actions ≡ now.actions ++ Sent now.answers.me to (later now.clock) m ∷ []
      → Sends (val_of m) ps (map proc_of (vals (drop (k + 1) processes))) first next
  sends_next sends told = sends_on (val_of m) ps to (map proc_of (vals (drop (k + 1) processes))) first now next to_this sends (told ∙ ap (λ xs. now.actions ++ xs) (kept (later now.clock)))

  pub sends_stop : AddsPrefix now.actions next.actions (Sent now.answers.me to (later now.clock) m ∷ []) → Each first (λ p class d. AddsPrefix first.actions next.actions (sending d.me (val_of m) ps d.clock))
  sends_stop front =
      sends_prefix (val_of m) ps to (map proc_of (vals (drop (k + 1) processes))) first now next to_this (subst (λ due. AddsPrefix now.actions next.actions due) (kept (later now.clock)) front)

-- AFTER THE LAST ONE

module _ (m : Val) (processes : List Value) (k : ℕ) (ps : List ℕ) (first now : Known) (past : length processes ≤ k) (so_far : Sends m ps (map proc_of (vals (drop k processes))) first now) where
  none_left : Sends m ps [] first now
  none_left = subst (λ left. Sends m ps left first now) (at_drop_all (λ vs. map proc_of (vals vs)) processes k past) so_far

  pub sends_end : Becomes first now (sent_to m ps)
  sends_end p class d knows = let by = none_left p class d knows in subst (Knows now p class) by.same by.knows

  pub sends_told : Each first (λ p class d. now.actions ≡ first.actions ++ sending d.me m ps d.clock)
  sends_told p class d knows =
      part_whole first.actions now.actions now.actions (sending d.me m ps d.clock) [] (none_left p class d knows).told (sym (append-nil now.actions))

-- TO ONE PROCESS ALONE

module _ (m : Value) (to : ℕ) (first next : Known) where
  to_one : Sends (val_of m) (to ∷ []) (to ∷ []) first first
  to_one = sends_first (val_of m) (to ∷ []) (to ∷ []) first refl

  as_kept : (time : ℕ) → ◌≡◌ {A = List Action} (Sent first.answers.me to time m ∷ []) (Sent first.answers.me to time (value_of (val_of m)) ∷ [])
  as_kept time = ap (λ x. Sent first.answers.me to time x ∷ []) (sym (value_of-val_of m))

  pub one_sent : SendsTo (val_of m) to first next → Becomes first next (sent_to (val_of m) (to ∷ []))
  one_sent sends p class d knows = sends p class d knows

  pub one_told : next.actions ≡ first.actions ++ Sent first.answers.me to (later first.clock) m ∷ []
      → Each first (λ p class d. next.actions ≡ first.actions ++ sending d.me (val_of m) (to ∷ []) d.clock)
  one_told told p class d knows =
      told ∙ ap (λ xs. first.actions ++ xs) (as_kept (later first.clock) ∙ ap (λ (a : Action). a ∷ []) (told_as first p class d knows to (value_of (val_of m))))

  pub one_stopped : AddsPrefix first.actions next.actions (Sent first.answers.me to (later first.clock) m ∷ []) → Each first (λ p class d. AddsPrefix first.actions next.actions (sending d.me (val_of m) (to ∷ []) d.clock))
  one_stopped front =
      sends_prefix (val_of m) (to ∷ []) to [] first first next to_one (subst (λ due. AddsPrefix first.actions next.actions due) (as_kept (later first.clock)) front)
