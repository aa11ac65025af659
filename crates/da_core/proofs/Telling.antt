-- The message that arrived, told in the place that was kept for it.
use Rattle.std.proofs.Common.{◌≡◌, ℕ, zero, suc, ◌≤◌, List, [], ◌∷◌, ◌++◌, take, length, Option, Some, false, refl, sym, ap, ◌∙◌, subst, arith}
use Rattle.std.specs.Prelude.{IsSome, slice_set}
use Rattle.da_values.specs.declared.value.Value.{Value}
use Rattle.da_lang.specs.declared.event.Action.{Action}
use Rattle.da_lang.specs.declared.event.Action.TheVariants as action
use Rattle.da_lang.specs.declared.program.Program.{Program}
use Rattle.da_lang.specs.Steps.{closing, proc_step}
use Rattle.da_lang.specs.World.{Data, Task, World, class_of}
use Rattle.da_machine.specs.RunsTo.{AddsPrefix}
use Rattle.da_core.specs.declared.compiled.ClassCode.{ClassCode}
use Rattle.da_core.specs.declared.deliveries.Delivery.{Delivery}
use Rattle.da_core.specs.declared.known.Known.{Known}
use Rattle.da_core.specs.declared.place.Place.{Place}
use Rattle.da_core.specs.declared.place.Stopped.{Stopped}
use Rattle.da_core.specs.declared.process.Core.{Core}
use Rattle.da_core.specs.Arrivals.{HasTakenIn, MayArrive, MayTakeIn, all_handled, arrival, delivery_actions, received, untold}
use Rattle.da_core.specs.Begins.{label_of, wait_at}
use Rattle.da_core.specs.Compiled.{code_of}
use Rattle.da_core.specs.Made.{HasBegun, HasMade, stopped_at}
use Rattle.da_core.specs.StandsFor.{StandsFor, Whichever, program_of}
use Rattle.da_core.proofs.Delivering.{has_begun, has_made, may_take_in}
use Rattle.da_core.proofs.KnownLaws.{with_actions}

-- after the end there is nothing to take the place of
pub put_past : {A : Type 0} (xs : List A) (at : ℕ) (x : A) → length xs ≤ at → slice_set xs at x ≡ xs
put_past [] at x past = refl
put_past (y ∷ xs) zero x past = absurd (omega (arith, past))
put_past (y ∷ xs) (suc at) x past = ap (λ l. y ∷ l) (put_past xs at x (omega (arith, past)))

put_first : {A : Type 0} (xs ys : List A) (old new : A) → slice_set (xs ++ old ∷ ys) (length xs) new ≡ xs ++ new ∷ ys
put_first [] ys old new = refl
put_first (x ∷ xs) ys old new = ap (λ l. x ∷ l) (put_first xs ys old new)

put_nowhere : {A : Type 0} (xs : List A) (new : A) → slice_set (xs ++ []) (length xs) new ≡ xs ++ []
put_nowhere [] new = refl
put_nowhere (x ∷ xs) new = ap (λ l. x ∷ l) (put_nowhere xs new)

-- a prefix of the actions that are due, with the first one told
put_front : {A : Type 0} (xs ys : List A) (old new : A) (n : ℕ) → slice_set (xs ++ take n (old ∷ ys)) (length xs) new ≡ xs ++ take n (new ∷ ys)
put_front xs ys old new zero = put_nowhere xs new
put_front xs ys old new (suc n) = put_first xs (take n ys) old new

-- it was taken in, and told with the message
told_again : (p : Program) (x : Delivery) (time : ℕ) (d : Data) (todo : List Task) (old known : Known) (spot : Place) (m : Value) → HasTakenIn untold p x time d todo old known spot
    → HasTakenIn m p x time d todo old (record known { actions = slice_set known.actions (length old.actions) (action.Got old.answers.me x.from time m) }) spot
told_again p x time d todo old known spot m taken =
    let got = action.Got old.answers.me x.from time m in
    record {
      known = with_actions known p x.class.now (all_handled x (received x time d)).data' taken.known (slice_set known.actions (length old.actions) got);
      actions = ap (λ l. slice_set l (length old.actions) got) taken.actions ∙ put_first old.actions _ (action.Got old.answers.me x.from time untold) got;
      stands = taken.stands;
    }

-- the label that was found is that of the delivery
pub labelled_so : (x : Delivery) (code : ClassCode) (at : ℕ) (label : Option ℕ) → x.code.now ≡ code → x.label ≡ label → label ≡ label_of (wait_at code at) → x.label ≡ label_of (wait_at x.code.now at)
labelled_so x code at label is that found = that ∙ found ∙ ap (λ (c : ClassCode). label_of (wait_at c at)) (sym is)

-- a prefix of the actions that are due was added, whatever the world is
abbrev pub ArrivedPart : Core → Value → ℕ → ℕ → List Action → List Action → Type 0
ArrivedPart core m from time out given = Whichever core (λ w. HasBegun core w (arrival m from time) out given)

-- THE MESSAGE OF A DELIVERY, with the class of the process, its code and its label, as they were found

module _ (core : Core) (w : World) (s : StandsFor core w) (x : Delivery) (time : ℕ) (m : Value) (from : ℕ)
    (classed : Some x.class.now ≡ class_of (program_of core) core.known.answers.me) (coded : Some x.code.now ≡ code_of core.compiled.now core.known.answers.me)
    (labelled : x.label ≡ label_of (wait_at x.code.now core.machine.place)) (is_message : x.message.now ≡ m) (is_from : x.from ≡ from) (arrives : MayArrive (program_of core) m from time)
    (some : IsSome (proc_step (program_of core) w (arrival m from time))) where
  arrives_so : MayArrive (program_of core) x.message.now x.from time
  arrives_so = subst (λ v. MayArrive (program_of core) v x.from time) (sym is_message) (subst (λ f. MayArrive (program_of core) m f time) (sym is_from) arrives)

  some_so : IsSome (proc_step (program_of core) w (arrival x.message.now x.from time))
  some_so =
      subst (λ v. IsSome (proc_step (program_of core) w (arrival v x.from time))) (sym is_message)
      (subst (λ f. IsSome (proc_step (program_of core) w (arrival m f time))) (sym is_from) some)

  abbrev me : ℕ
  me = core.known.answers.me

  same_got : action.Got me from time m ≡ action.Got me x.from time x.message.now
  same_got = sym (ap (λ f. action.Got me f time x.message.now) is_from ∙ ap (λ v. action.Got me from time v) is_message)

  put_so : (told : List Action) (at : ℕ) → slice_set told at (action.Got me from time m) ≡ slice_set told at (action.Got me x.from time x.message.now)
  put_so told at = ap (λ got. slice_set told at got) same_got

  module _ (own : List Action) where
    pub may_take : MayTakeIn (program_of core) x time core.machine.place (record core.known { actions = own }) w.data' w.todo
    may_take = may_take_in core w s x classed coded labelled time arrives_so some_so own

    pub took : (known : Known) (spot : Place) → HasTakenIn untold (program_of core) x time w.data' w.todo (record core.known { actions = own }) known spot
        → (empty : List Action) → empty ≡ [] → (new : Core) → new ≡ record core { known = record known { actions = empty }; place = spot; spent = false }
        → (out given : List Action) → own ≡ out → given ≡ slice_set known.actions (length own) (action.Got me from time m) → (answer : Stopped) → answer ≡ stopped_at spot
        → HasMade core w (arrival m from time) new answer out given
    took known spot taken empty none new is_new out given same back answer is =
        subst (λ v. HasMade core w (arrival v from time) new answer out given) is_message
        (subst (λ f. HasMade core w (arrival x.message.now f time) new answer out given) is_from
        (has_made core w s x classed coded labelled time arrives_so some_so own
        (record known { actions = slice_set known.actions (length own) (action.Got me x.from time x.message.now) }) spot
        (told_again (program_of core) x time w.data' w.todo (record core.known { actions = own }) known spot x.message.now taken)
        empty none new is_new out given same (back ∙ put_so known.actions (length own)) answer is))

    pub took_part : (told out given : List Action) → own ≡ out → given ≡ slice_set told (length own) (action.Got me from time m)
        → AddsPrefix own told (delivery_actions untold x time me (all_handled x (received x time w.data'))) → HasBegun core w (arrival m from time) out given
    took_part told out given same back (n, is) =
        let ran = all_handled x (received x time w.data') in
        let front = put_front own (ran.actions ++ closing me ran.halt) (action.Got me x.from time untold) (action.Got me x.from time x.message.now) n in
        subst (λ v. HasBegun core w (arrival v from time) out given) is_message
        (subst (λ f. HasBegun core w (arrival x.message.now f time) out given) is_from
        (has_begun core w s x classed coded labelled time arrives_so some_so own out given (slice_set told (length own) (action.Got me x.from time x.message.now)) same (back ∙ put_so told (length own))
        (n, ap (λ l. slice_set l (length own) (action.Got me x.from time x.message.now)) is ∙ front)))
