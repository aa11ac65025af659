-- A process goes on along its trace by what was told, or it stops.
use Rattle.std.specs.Prelude.{◌≡◌, ℕ, ◌+◌, ◌<◌, Bool, List, [], ◌∷◌, ◌++◌, length, Option, Some, None, is_some, slice_get, refl}
use Rattle.std.proofs.Common.{sym, ap, ◌∙◌, subst, inl, inr, arith}
use Rattle.std.proofs.lemmas.List.{length-append}
use Rattle.std.proofs.lemmas.Option.{none-some, same_Some}
use Rattle.da_lang.specs.declared.event.Action.{Action}
use Rattle.da_lang.specs.declared.event.Action.TheVariants.{Took, Got}
use Rattle.da_lang.specs.declared.program.Class.{Class}
use Rattle.da_lang.specs.declared.program.Program.{Program}
use Rattle.da_lang.specs.Allowed.{IsAllowed, arrives, at_await, at_label, begins, times_out}
use Rattle.da_lang.specs.Steps.{Step, Stepped, proc_step}
use Rattle.da_lang.specs.World.{World, class_of}
use Rattle.da_lang.proofs.MoveLaws.{step_at_await, step_at_label, step_begins, step_delivers, step_times_out}
use Rattle.da_lang.proofs.StepLaws.{is_allowed}
use Rattle.trace_join.specs.declared.piece.Piece.{Piece}
use Rattle.trace_join.specs.Cuts.{AsksInVain, is_timeout, step_asked}
use Rattle.trace_join.specs.Cutting.{AskedOrNot, GoesOn, Stops}

-- EACH STEP TELLS SOMETHING

abbrev TellsSome : Option Stepped → Type 0
TellsSome None = ⊥
TellsSome (Some r) = 0 < length r.actions

some_told : (step other : Option Stepped) → step ≡ other → TellsSome other → (r : Stepped) → step ≡ Some r → 0 < length r.actions
some_told step other is tells r makes = subst TellsSome (sym is ∙ makes) tells

pub tells_some : (program : Program) (w : World) (step : Step) (r : Stepped) → proc_step program w step ≡ Some r → 0 < length r.actions
tells_some program w step r makes = let (class, known, allowed) = is_allowed program w step (ap is_some makes) in of class known step allowed makes
  where
    of : (class : Class) → class_of program w.data'.me ≡ Some class → (step : Step) → IsAllowed class w step
        → proc_step program w step ≡ Some r → 0 < length r.actions
    of class known _ (begins new) makes =
        some_told _ _ (step_begins program class w known new) (omega arith) r makes
    of class known _ (at_label i rest l waits stands is) makes =
        some_told _ _ (step_at_label program class w known i rest l waits stands is) (omega arith) r makes
    of class known _ (at_await i rest alts timeout label alt k waits stands is there true') makes =
        some_told _ _ (step_at_await program class w known i rest alts timeout label alt k waits stands is there true') (omega arith) r makes
    of class known _ (times_out i rest alts body label waits stands is none') makes =
        some_told _ _ (step_times_out program class w known i rest alts body label waits stands is none') (omega arith) r makes
    of class known _ (arrives m p time waits taken) makes =
        some_told _ _ (step_delivers program class w known m p time waits taken) (omega arith) r makes

same_piece : (n m : ℕ) (x y : Bool) → n ≡ m → x ≡ y → ◌≡◌ {A = Piece} (record { size = n; times_out = x }) (record { size = m; times_out = y })
same_piece n m x y sizes timeouts = cc

-- THE FIRST ACTION OF A TRACE ALONE ASKS

asked_first : (w : World) (a : Action) (others : List Action) → step_asked w (a ∷ others) ≡ step_asked w (a ∷ [])
asked_first w (Took p k) others = refl
asked_first w (Got q from time m) others = refl
asked_first w _ others = refl

in_vain_first : (program : Program) (a : Action) (others : List Action) → AsksInVain program (a ∷ []) → AsksInVain program (a ∷ others)
in_vain_first program (Got q from time m) others never = never
in_vain_first program _ others never = absurd never

first_of : (trace : List Action) (a : Action) → Some a ≡ slice_get trace 0 → (others : List Action) × (trace ≡ a ∷ others)
first_of [] a is = absurd (none-some a (sym is))
first_of (x ∷ others) a is = (others, ap (λ (y : Action). y ∷ others) (same_Some x a (sym is)))

-- where there is none it stops
pub stops_at_end : (program : Program) (w : World) (trace : List Action) → None ≡ slice_get trace 0 → Stops program w trace
stops_at_end program w [] is = inl (λ step r left follows. none-some step follows.asks)
stops_at_end program w (a ∷ others) is = absurd (none-some a is)

module _ (program : Program) (w : World) (trace : List Action) (a : Action) (first : Some a ≡ slice_get trace 0) where
  -- the step of a trace is that of its first action
  asks_as_first : (step : Step) → step_asked w trace ≡ Some step → step_asked w (a ∷ []) ≡ Some step
  asks_as_first step asks = let (others, is) = first_of trace a first in sym (asked_first w a others) ∙ ap (step_asked w) (sym is) ∙ asks

  asks_as_whole : (step : Step) → step_asked w (a ∷ []) ≡ Some step → step_asked w trace ≡ Some step
  asks_as_whole step asks = let (others, is) = first_of trace a first in ap (step_asked w) is ∙ asked_first w a others ∙ asks

  module _ (stands : World → Type 0) (old out : List Action) where
    -- where the step may not be made, it stops
    pub stops_before : AskedOrNot program w a stands old out None → Stops program w trace
    stops_before (inl not_allowed) =
        inl (λ step r left follows. none-some r (sym (not_allowed step (asks_as_first step follows.asks)) ∙ follows.makes))
    stops_before (inr never) = let (others, is) = first_of trace a first in inr (subst (AsksInVain program) (sym is) (in_vain_first program a others never))

    -- it was made, and what it told is this
    module _ (told : List Action) (b : Bool) (none : old ≡ []) (same : told ≡ out) (made : AskedOrNot program w a stands old out (Some b)) where
      told_is : told ≡ made.2.after.actions
      told_is = same ∙ made.2.added ∙ ap (λ (l : List Action). l ++ made.2.after.actions) none

      -- where the trace does not begin with that, it stops
      pub stops_after : ((rest : List Action) → trace ≡ told ++ rest → ⊥) → Stops program w trace
      stops_after apart = inl (λ step r left follows. (
          let steps : step ≡ made.0 = same_Some step made.0 (sym (asks_as_first step follows.asks) ∙ made.1) in
          let results : r ≡ made.2.after = same_Some r made.2.after (sym follows.makes ∙ ap (proc_step program w) steps ∙ made.2.makes) in
          apart left (follows.tells ∙ ap (λ (x : Stepped). x.actions ++ left) results ∙ ap (λ (l : List Action). l ++ left) (sym told_is))))

      -- where it does, the process goes on
      pub goes_on : (size : ℕ) (rest : List Action) → size ≡ length told → trace ≡ told ++ rest
          → GoesOn program w trace rest stands (record { size = size; times_out = b })
      goes_on size rest counted is = record {
        step = made.0;
        after = made.2.after;
        follows = record { asks = asks_as_whole made.0 made.1; makes = made.2.makes; tells = is ∙ ap (λ (l : List Action). l ++ rest) told_is };
        is = same_piece size (length made.2.after.actions) b (is_timeout made.0) (counted ∙ ap length told_is) made.2.timeout;
        now_stands = made.2.now_stands;
      }

      pub goes_shorter : (rest : List Action) → trace ≡ told ++ rest → length rest < length trace
      goes_shorter rest is =
          let some : 0 < length told = subst (λ (l : List Action). 0 < length l) (sym told_is) (tells_some program w made.0 made.2.after made.2.makes) in
          let whole : length trace ≡ length told + length rest = ap length is ∙ length-append told rest in
          omega (arith, whole, some)
