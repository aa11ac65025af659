-- The search among numbers.
use Rattle.std.proofs.Common.{◌≡◌, refl, sym, subst, ℕ, ◌+◌, ◌<◌, ◌≤◌, Bool, true, false, List, arith, inl, inr}
use Rattle.std.specs.Prelude.{◌⊎◌, Option, Some}
use Rattle.std.proofs.lemmas.Bool.{cases_lt}
use Rattle.da_lang.specs.declared.event.Event.{Event}
use Rattle.da_lang.specs.declared.program.Program.{Program}
use Rattle.da_outside.specs.Outside.{AppendsPrefix}
use Rattle.schedule_hunt.specs.declared.what.Goal.{Goal}
use Rattle.schedule_hunt.specs.declared.what.Trials.{Trials}
use Rattle.schedule_hunt.specs.Hunt.{HasBegun, IsFoundUnspelled, IsReply, IsShownBy, IsTextOf, IsUnspelled, ShowsNoneOf, generated}
use Rattle.schedule_hunt.specs.Seeking.{IsReplyOf, IsSought}

module _ (program : Program) (what : Goal) (trials : Trials) where
  pub none_first : ShowsNoneOf program what trials 0
  none_first number from to = absurd (omega (arith, from, to))

  -- the next number was tried in vain
  pub none_on : (place : ℕ) → ShowsNoneOf program what trials place → (IsShownBy program what (generated program trials (trials.start + place)) → ⊥) → ShowsNoneOf program what trials (place + 1)
  none_on place none next number from to shown = of (cases_lt number (trials.start + place))
    where
      of : (number < trials.start + place) ⊎ (trials.start + place ≤ number) → ⊥
      of (inl early) = none number from early shown
      of (inr late) = let same : number ≡ trials.start + place = omega (arith, late, to) in next (subst (λ n. IsShownBy program what (generated program trials n)) same shown)

  -- it shows it
  pub sought_here : (place : ℕ) (events : List Event) → place < trials.count → ShowsNoneOf program what trials place → events ≡ generated program trials (trials.start + place) → IsShownBy program what events
      → IsSought program what trials (Some events)
  sought_here place events inside none is shown = (
    trials.start + place,
    record {
      from = omega arith;
      to = omega (arith, inside);
      shown = subst (IsShownBy program what) is shown;
      least = none;
    },
    is,
  )

  pub sought_shown : (events : List Event) → IsSought program what trials (Some events) → IsShownBy program what events
  sought_shown events (number, least, is) = subst (IsShownBy program what) (sym is) least.shown

  pub found_reply : (events : List Event) (text : List ℕ) → IsSought program what trials (Some events) → IsTextOf program what events text → IsReplyOf program what trials true text
  found_reply events text (number, least, is) told = record { number = number; least = least; told = subst (λ whole. IsTextOf program what whole text) is told }

  pub unspelled_reply : (events : List Event) → IsSought program what trials (Some events) → IsUnspelled program what events → IsFoundUnspelled program what trials
  unspelled_reply events (number, least, is) unspelled = record { number = number; least = least; unspelled = subst (IsUnspelled program what) is unspelled }

  -- WHAT IS WRITTEN OF A TEXT THAT ANSWERS

  is_reply : (found : Bool) (text : List ℕ) → IsReplyOf program what trials found text → IsReply program what trials text
  is_reply true text found = inl found
  is_reply false text none = inr none

  pub begun : (found : Bool) (text bytes : List ℕ) (before after : Option (List ℕ)) → bytes ≡ text → IsReplyOf program what trials found text → AppendsPrefix before after bytes
      → HasBegun program what trials before after
  begun found text bytes before after same reply front = inr (text, is_reply found text reply, subst (AppendsPrefix before after) same front)

  pub unbegun : (taken : Option (List ℕ)) → HasBegun program what trials taken taken
  unbegun taken = inl refl
