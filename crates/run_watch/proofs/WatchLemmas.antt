-- What a watch does, one step after the other.
use Rattle.std.proofs.Common.{◌≡◌, refl, sym, ◌∙◌, ap, subst, ℕ, ◌+◌, ◌<◌, ◌≤◌, Bool, true, false, cond, List, [], ◌∷◌, ◌++◌, length, get_or, drop, append-nil, append_assoc, codes}
use Rattle.std.specs.Prelude.{◌||◌, Option, Some, None}
use Rattle.std.specs.List.{list_any}
use Rattle.std.proofs.lemmas.Bool.{false≢true}
use Rattle.std.proofs.lemmas.List.{drop_all, drop_more}
use Rattle.da_values.specs.declared.val.Val.{Val}
use Rattle.da_values.specs.declared.val.Val.TheVariants as val
use Rattle.da_values.specs.declared.value.Value.{Value}
use Rattle.da_values.specs.Value.{val_of}
use Rattle.da_lang.specs.declared.event.Action.{Action}
use Rattle.da_lang.specs.declared.event.Action.TheVariants.{Out}
use Rattle.da_lang.specs.declared.program.Class.{Class}
use Rattle.da_lang.specs.declared.program.Program.{Program}
use Rattle.da_lang.specs.Runs.{max_turns}
use Rattle.da_lang.specs.Shaped.{well_typed}
use Rattle.da_lang.specs.Steps.{Step, Go, Take, TimeOut, Deliver, Stepped, class_step, proc_step, step_in}
use Rattle.da_lang.specs.World.{Faulted, World, class_of}
use Rattle.da_core.specs.Arrivals.{MayArrive}
use Rattle.da_core.specs.Compiled.{program_of}
use Rattle.da_core.specs.Made as made
use Rattle.da_core.specs.StandsFor.{StandsFor, Whichever}
use Rattle.da_core.specs.StandsFor as core
use Rattle.da_core.specs.declared.place.Stopped.{Stopped}
use Rattle.da_core.specs.declared.process.Core.{Core}
use Rattle.run_watch.specs.declared.watcher.Watcher.{Watcher}
use Rattle.run_watch.specs.Beside.{HasCome, HasDone, IsThere, StandsIn, works, worn}
use Rattle.run_watch.specs.Watching.{at_step, handed, handed_for, hears, hears_all, is_said, message_from, quiet, quiet_val, settled, then_on, watcher}

pub then_then : (xs ys : List Action) (rest : Stepped) → then_on xs (then_on ys rest) ≡ then_on (xs ++ ys) rest
then_then xs ys rest = ap (λ (actions : List Action). let after : Stepped = record rest { actions = actions } in after) (sym (append_assoc xs ys rest.actions))

-- it stays where it is
abbrev pub still : World → Stepped
still w = record { world = w; actions = [] }

pub then_still : (actions : List Action) (w : World) → then_on actions (still w) ≡ record { world = w; actions = actions }
then_still actions w = ap (λ (xs : List Action). let after : Stepped = record { world = w; actions = xs } in after) (append-nil actions)

-- MESSAGES IN A ROW

pub hears-append : (program : Program) (w : World) (xs ys : List Step) → hears_all program w (xs ++ ys) ≡ then_on (hears_all program w xs).actions (hears_all program (hears_all program w xs).world ys)
hears-append program w [] ys = refl
hears-append program w (x ∷ xs) ys =
    let first = hears program w x in
    ap (then_on first.actions) (hears-append program first.world xs ys) ∙ then_then first.actions (hears_all program first.world xs).actions (hears_all program (hears_all program first.world xs).world ys)

pub one_heard : (program : Program) (w : World) (m : Step) → hears_all program w (m ∷ []) ≡ hears program w m
one_heard program w m =
    ap (λ (actions : List Action). let after : Stepped = record { world = (hears program w m).world; actions = actions } in after) (append-nil (hears program w m).actions)

-- a message that may not arrive
none_heard : (program : Program) (w : World) (m : Step) → proc_step program w m ≡ None → hears program w m ≡ still w
none_heard program w m none = ap (λ (o : Option Stepped). at_step w o (λ after. settled program max_turns after)) none

at_fault : (program : Program) (class : Class) (w : World) (step : Step) → class_step program class w step Faulted ≡ None
at_fault program class w Go = refl
at_fault program class w (Take k) = refl
at_fault program class w TimeOut = refl
at_fault program class w (Deliver m p t) = refl

after_fault : (program : Program) (w : World) (step : Step) (class : Option Class) → w.phase ≡ Faulted → step_in program w step class ≡ None
after_fault program w step None is = refl
after_fault program w step (Some class) is = ap (class_step program class w step) is ∙ at_fault program class w step

unheard : (program : Program) (w : World) → w.phase ≡ Faulted → (steps : List Step) → hears_all program w steps ≡ still w
unheard program w is [] = refl
unheard program w is (m ∷ ms) =
    ap (λ (first : Stepped). then_on first.actions (hears_all program first.world ms)) (none_heard program w m (after_fault program w m (class_of program w.data'.me) is)) ∙ unheard program w is ms

-- THE WATCH IN CODE

pub works_on : (watch : Watcher) (w : World) → StandsIn watch w → watch.worn ≡ false → StandsFor watch.core w
works_on watch w (works fresh it) is = it
works_on watch w (worn spent faulted) is = absurd (false≢true (sym is ∙ spent))

is_faulted : (watch : Watcher) (w : World) → StandsIn watch w → watch.worn ≡ true → w.phase ≡ Faulted
is_faulted watch w (works fresh it) is = absurd (false≢true (sym fresh ∙ is))
is_faulted watch w (worn spent faulted) is = faulted

-- a watch that is not worn has a core that may be asked
pub core_there : (watch : Watcher) → IsThere watch → watch.worn ≡ false → (w : World) × StandsFor watch.core w
core_there watch (program, w, come) is = (w, works_on watch w come.stands is)

pub may_come : (watch : Watcher) → IsThere watch → (m : Value) (from time : ℕ) → MayArrive (program_of watch.compiled.now) m from time → MayArrive (core.program_of watch.core) m from time
may_come watch (program, w, come) m from time may = subst (λ p. MayArrive p m from time) (come.program_is ∙ sym come.core_is) may

-- before any event
pub come_first : (program : Program) (watch : Watcher) → program_of watch.compiled.now ≡ program → core.program_of watch.core ≡ program → (w : World) → watch.me ≡ watcher program → w.data'.me ≡ watcher program → watch.worn ≡ false
    → StandsFor watch.core w → HasCome program w watch
come_first program watch same also w me number fresh it = record { program_is = same; core_is = also; me = me; number = number; stands = works fresh it }

-- nothing has changed
pub done_still : (program : Program) (step : Stepped) (w : World) (watch : Watcher) (out : List Action) → step ≡ still w → HasCome program w watch → HasDone program step watch out out
done_still program step w watch out is come =
    let here : HasDone program (still w) watch out out = record { come = come; added = sym (append-nil out) } in
    subst (λ (s : Stepped). HasDone program s watch out out) (sym is) here

pub same_out : (program : Program) (step : Stepped) (watch : Watcher) (old new : List Action) → new ≡ old → HasDone program step watch old old → HasDone program step watch old new
same_out program step watch old new is done = subst (λ out. HasDone program step watch old out) (sym is) done

-- another core that is the same
pub same_core : (program : Program) (w : World) (watch : Watcher) (other : Core) → HasCome program w watch → other ≡ watch.core → HasCome program w (record watch { core = other })
same_core program w watch other come same = subst (λ (x : Core). HasCome program w (record watch { core = x })) (sym same) come

-- its core has made a step
module _ (program : Program) (w : World) (watch : Watcher) (step : Step) (next : Core) (answer : Stopped) (old new : List Action) (come : HasCome program w watch) (fresh : watch.worn ≡ false)
    (done : Whichever watch.core (λ x. made.HasMade watch.core x step next answer old new)) (kept : core.program_of next ≡ core.program_of watch.core) where
  pub its : made.HasMade watch.core w step next answer old new
  its = done w (works_on watch w come.stands fresh)

  abbrev pub after_it : Stepped
  after_it = its.after

  pub made_leads : proc_step program w step ≡ Some after_it
  made_leads = ap (λ p. proc_step p w step) (sym come.core_is) ∙ its.leads

  pub made_done : HasDone program after_it (record watch { core = next }) old new
  made_done = record {
    come = record { program_is = come.program_is; core_is = kept ∙ come.core_is; me = come.me; number = its.same ∙ come.number; stands = works fresh its.stands };
    added = its.added;
  }

-- a step that its core may not make
pub core_forbids : (program : Program) (w : World) (watch : Watcher) (step : Step) → HasCome program w watch → watch.worn ≡ false → Whichever watch.core (λ x. proc_step (core.program_of watch.core) x step ≡ None) → proc_step program w step ≡ None
core_forbids program w watch step come fresh none = subst (λ p. proc_step p w step ≡ None) come.core_is (none w (works_on watch w come.stands fresh))

-- WHAT IT TAKES

pub worn_hears : (program : Program) (w : World) (watch : Watcher) (steps : List Step) (out : List Action) → HasCome program w watch → watch.worn ≡ true → HasDone program (hears_all program w steps) watch out out
worn_hears program w watch steps out come is = done_still program (hears_all program w steps) w watch out (unheard program w (is_faulted watch w come.stands is) steps) come

module _ (program : Program) (w : World) (from : ℕ) (v : Val) where
  no_message : (typed : Bool) → typed ≡ false → hears_all program w (cond typed (Deliver v from 0 ∷ []) []) ≡ still w
  no_message true is = absurd (false≢true (sym is))
  no_message false is = refl

  a_message : (typed : Bool) → typed ≡ true → hears_all program w (cond typed (Deliver v from 0 ∷ []) []) ≡ hears program w (Deliver v from 0)
  a_message true is = one_heard program w (Deliver v from 0)
  a_message false is = absurd (false≢true is)

-- a value that is no message of its program
pub untyped_hears : (program p : Program) (w : World) (watch : Watcher) (from : ℕ) (v : Val) (typed : Bool) (out : List Action) → p ≡ program → typed ≡ well_typed p v → typed ≡ false → HasCome program w watch
    → HasDone program (hears_all program w (message_from program from v)) watch out out
untyped_hears program p w watch from v typed out same is never come =
    let none : well_typed program v ≡ false = ap (λ x. well_typed x v) (sym same) ∙ sym is ∙ never in
    done_still program (hears_all program w (message_from program from v)) w watch out (no_message program w from v (well_typed program v) none) come

-- a message that may not arrive
pub forbidden_hears : (program p : Program) (w : World) (watch : Watcher) (from : ℕ) (v : Val) (typed : Bool) (out : List Action) → p ≡ program → typed ≡ well_typed p v → typed ≡ true → proc_step program w (Deliver v from 0) ≡ None
    → HasCome program w watch → HasDone program (hears_all program w (message_from program from v)) watch out out
forbidden_hears program p w watch from v typed out same is it none come =
    let some : well_typed program v ≡ true = ap (λ x. well_typed x v) (sym same) ∙ sym is ∙ it in
    done_still program (hears_all program w (message_from program from v)) w watch out (a_message program w from v (well_typed program v) some ∙ none_heard program w (Deliver v from 0) none) come

-- a message that arrives, after which it settles
pub message_hears : (program p : Program) (w : World) (mid watch : Watcher) (from : ℕ) (v : Val) (typed : Bool) (after : Stepped) (old middle new : List Action) → p ≡ program → typed ≡ well_typed p v → typed ≡ true
    → proc_step program w (Deliver v from 0) ≡ Some after → HasDone program after mid old middle → HasDone program (settled program max_turns after.world) watch middle new
    → HasDone program (hears_all program w (message_from program from v)) watch old new
message_hears program p w mid watch from v typed after old middle new same is it leads first second =
    let some : well_typed program v ≡ true = ap (λ x. well_typed x v) (sym same) ∙ sym is ∙ it in
    let rest = settled program max_turns after.world in
    let whole : hears_all program w (message_from program from v) ≡ then_on after.actions rest =
    a_message program w from v (well_typed program v) some ∙ ap (λ (o : Option Stepped). at_step w o (λ x. settled program max_turns x)) leads in
    let here : HasDone program (then_on after.actions rest) watch old new = record {
      come = second.come;
      added = second.added ∙ ap (λ xs. xs ++ rest.actions) first.added ∙ append_assoc old after.actions rest.actions;
    } in
    subst (λ (s : Stepped). HasDone program s watch old new) (sym whole) here

pub quiet_hears : (program : Program) (w : World) (watch : Watcher) (me : ℕ) (v : Val) (old new : List Action) → me ≡ watcher program → v ≡ quiet_val → HasDone program (hears_all program w (message_from program me v)) watch old new
    → HasDone program (hears_all program w (quiet program)) watch old new
quiet_hears program w watch me v old new same is done =
    subst (λ n. HasDone program (hears_all program w (message_from program n quiet_val)) watch old new) same (subst (λ x. HasDone program (hears_all program w (message_from program me x)) watch old new) is done)

pub quiet_is : (parts none : List Val) (word : List ℕ) → word ≡ codes "quiet" → none ≡ [] → parts ≡ none ++ val.Text word ∷ [] → val.Tuple parts ≡ quiet_val
quiet_is parts none word is empty added = ap val.Tuple (added ∙ ap (λ xs. xs ++ val.Text word ∷ []) empty ∙ ap (λ text. val.Text text ∷ []) is)

-- WHAT ACTIONS PUT OUT

unhanded : (program : Program) (a : Action) → ((p : ℕ) (v : Value) → a ≡ Out p v → ⊥) → handed_for program a ≡ []
unhanded program (Out p v) never = absurd (never p v refl)
unhanded program _ never = refl

pub unhanded_hears : (program : Program) (w : World) (watch : Watcher) (a : Action) (out : List Action) → ((p : ℕ) (v : Value) → a ≡ Out p v → ⊥) → HasCome program w watch → HasDone program (hears_all program w (handed_for program a)) watch out out
unhanded_hears program w watch a out never come = done_still program (hears_all program w (handed_for program a)) w watch out (ap (hears_all program w) (unhanded program a never)) come

pub out_hears : (program : Program) (w : World) (watch : Watcher) (a : Action) (p : ℕ) (v : Value) (old new : List Action) → a ≡ Out p v → HasDone program (hears_all program w (message_from program p (val_of v))) watch old new
    → HasDone program (hears_all program w (handed_for program a)) watch old new
out_hears program w watch a p v old new is done = subst (λ x. HasDone program (hears_all program w (handed_for program x)) watch old new) (sym is) done

-- it has heard the first so many actions
pub record Hears (program : Program) (w : World) (actions : List Action) (place : ℕ) (watch : Watcher) (old new : List Action) : Type 0 where
  pub now : World
  pub told : List Action
  pub come : HasCome program now watch
  pub added : new ≡ old ++ told
  pub whole : hears_all program w (handed program actions) ≡ then_on told (hears_all program now (handed program (drop place actions)))

pub hears_first : (program : Program) (w : World) (actions : List Action) (watch : Watcher) (out : List Action) → HasCome program w watch → Hears program w actions 0 watch out out
hears_first program w actions watch out come = record { now = w; told = []; come = come; added = sym (append-nil out); whole = refl }

module _ (program : Program) (w : World) (actions : List Action) (place : ℕ) (mid : Watcher) (old middle : List Action) (so : Hears program w actions place mid old middle) where
  pub hears_on : (a : Action) (watch : Watcher) (new : List Action) → place < length actions → a ≡ get_or actions place a → HasDone program (hears_all program so.now (handed_for program a)) watch middle new
      → Hears program w actions (place + 1) watch old new
  hears_on a watch new inside is done =
      let first = hears_all program so.now (handed_for program a) in
      let rest = drop (place + 1) actions in
      let next : drop place actions ≡ a ∷ rest = drop_more actions place a inside ∙ ap (λ x. x ∷ rest) (sym is) in
      record {
        now = first.world;
        told = so.told ++ first.actions;
        come = done.come;
        added = done.added ∙ ap (λ xs. xs ++ first.actions) so.added ∙ append_assoc old so.told first.actions;
        whole =
            so.whole ∙ ap (λ es. then_on so.told (hears_all program so.now (handed program es))) next
            ∙ ap (then_on so.told) (hears-append program so.now (handed_for program a) (handed program rest))
            ∙ then_then so.told first.actions (hears_all program first.world (handed program rest));
      }

  pub hears_end : length actions ≤ place → HasDone program (hears_all program w (handed program actions)) mid old middle
  hears_end end =
      let whole : hears_all program w (handed program actions) ≡ record { world = so.now; actions = so.told } =
      so.whole ∙ ap (λ es. then_on so.told (hears_all program so.now (handed program es))) (drop_all place actions end) ∙ then_still so.told so.now in
      let here : HasDone program (record { world = so.now; actions = so.told }) mid old middle = record { come = so.come; added = so.added } in
      subst (λ (s : Stepped). HasDone program s mid old middle) (sym whole) here

-- WHAT SAYS SOMETHING, one action after the other

at_action : (xs : List Action) (i : ℕ) (x : Action) → i < length xs → x ≡ get_or xs i x → drop i xs ≡ x ∷ drop (i + 1) xs
at_action xs i x inside here = drop_more xs i x inside ∙ ap (λ y. y ∷ drop (i + 1) xs) (sym here)

said_or_not : (xs : List Action) (i : ℕ) (x : Action) (b is_so : Bool) → i < length xs → x ≡ get_or xs i x → b ≡ is_said x → b ≡ is_so → list_any is_said (drop i xs) ≡ list_any is_said xs
    → (is_so || list_any is_said (drop (i + 1) xs)) ≡ list_any is_said xs
said_or_not xs i x b is_so inside here told is before = sym (ap (list_any is_said) (at_action xs i x inside here) ∙ ap (λ t. t || list_any is_said (drop (i + 1) xs)) (sym told ∙ is)) ∙ before

pub unsaid_so_far : (xs : List Action) (i : ℕ) (x : Action) (b : Bool) → i < length xs → x ≡ get_or xs i x → b ≡ is_said x → b ≡ false → list_any is_said (drop i xs) ≡ list_any is_said xs → list_any is_said (drop (i + 1) xs) ≡ list_any is_said xs
unsaid_so_far xs i x b inside here told is before = said_or_not xs i x b false inside here told is before

pub said_there : (xs : List Action) (i : ℕ) (x : Action) (b : Bool) → i < length xs → x ≡ get_or xs i x → b ≡ is_said x → b ≡ true → list_any is_said (drop i xs) ≡ list_any is_said xs → true ≡ list_any is_said xs
said_there xs i x b inside here told is before = said_or_not xs i x b true inside here told is before

pub said_nowhere : (xs : List Action) (i : ℕ) → length xs ≤ i → list_any is_said (drop i xs) ≡ list_any is_said xs → false ≡ list_any is_said xs
said_nowhere xs i end before = sym (ap (list_any is_said) (drop_all i xs end)) ∙ before
