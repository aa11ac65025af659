-- The run of a schedule without its text, and what is answered to it.
use Rattle.std.proofs.Common.{◌≡◌, refl, sym, ◌∙◌, ap, subst, ℕ, ◌+◌, ◌<◌, ◌≤◌, Bool, true, false, cond, List, [], ◌∷◌, ◌++◌, length, map, arith, append-nil, append_assoc, codes, get_or, nat_lt, take}
use Rattle.std.specs.Prelude.{Option, Some, None, Result, Ok, Err, IfOk}
use Rattle.std.specs.List.{AllByRecursion, flat_map}
use Rattle.std.proofs.lemmas.Grind.{flat_map-append}
use Rattle.std.proofs.lemmas.List.{take_more}
use Rattle.da_lang.specs.declared.event.Action.TheVariants.{Stop}
use Rattle.da_lang.specs.declared.event.Event.{Event}
use Rattle.da_lang.specs.declared.program.Program.{Program}
use Rattle.da_outside.specs.Outside.{Appends, AppendsPrefix}
use Rattle.da_system.specs.declared.system.System.{System}
use Rattle.da_system.specs.SourceRun.{src_run}
use Rattle.da_system.specs.SystemStep.{SystemState, start}
use Rattle.da_system.specs.State.{Stands, Whichever, is_spent}
use Rattle.replay_run.specs.declared.outcome.Outcome.{Outcome}
use Rattle.replay_run.specs.declared.outcome.Outcome.TheVariants as run
use Rattle.replay_run.specs.Replay.{HasRun, outcome_of, run_on}
use Rattle.sched_text.specs.ActionText.{action_line}
use Rattle.sched_text.specs.EventText.{event_line}
use Rattle.schedule_walk.specs.declared.following.Answer.{Answer}
use Rattle.schedule_walk.specs.declared.outcome.NextOutcome.{NextOutcome}
use Rattle.schedule_walk.specs.declared.outcome.NextOutcome.TheVariants.{Done, Forbidden, Unspelled, WriteFault, Memory}
use Rattle.schedule_walk.specs.Allowed.{ListsAllowed}
use Rattle.schedule_walk.specs.Next.{AreRemarked, HasAnswered, HasCome, HasEnded, HasSaid, IsListing, IsPlain, NextReply, Row, begun, listed, nothing, row_lines, shown_byte, stopped, whole}

pub come_of : (program : Program) (s : SystemState) (events : List Event) (how : Outcome) (system : System) (before after : Option (List ℕ)) → HasRun program s events how system before after → HasCome program s events how system
come_of program s events how system before after ran = record { outcome_is = ran.outcome_is; stands = ran.stands }

-- EVENTS WITH REMARKS

pub remarked_none : AreRemarked [] []
remarked_none = record { rows = []; events_are = refl; plain = tt; text_is = refl }

map_then : (f : Row → Event) (xs : List Row) (x : Row) → map f (xs ++ x ∷ []) ≡ map f xs ++ f x ∷ []
map_then f [] x = refl
map_then f (y ∷ ys) x = ap (λ es. f y ∷ es) (map_then f ys x)

all_then : (P : Row → Type 0) (xs : List Row) (x : Row) → AllByRecursion P xs → P x → AllByRecursion P (xs ++ x ∷ [])
all_then P [] x all one = (one, tt)
all_then P (y ∷ ys) x all one = (all.0, all_then P ys x all.1 one)

-- the lines of one more row
pub remarked_on : (events : List Event) (e : Event) (text new remark : List ℕ) → AreRemarked events text → IsPlain remark
    → new ≡ text ++ event_line e ++ codes "# " ++ remark ++ codes "\n" → AreRemarked (events ++ e ∷ []) new
remarked_on events e text new remark are plain added =
    let row : Row = record { event = e; remark = remark } in
    record {
      rows = are.rows ++ row ∷ [];
      events_are = map_then (λ (r : Row). r.event) are.rows row ∙ ap (λ es. es ++ e ∷ []) are.events_are;
      plain = all_then (λ (r : Row). IsPlain r.remark) are.rows row are.plain plain;
      text_is = added ∙ joined ∙ ap (λ t. t ++ row_lines row) are.text_is ∙ ap (λ t. flat_map row_lines are.rows ++ t) (sym (append-nil (row_lines row))) ∙ sym (flat_map-append row_lines are.rows (row ∷ []));
    }
  where
    joined : text ++ event_line e ++ codes "# " ++ remark ++ codes "\n" ≡ text ++ (event_line e ++ codes "# " ++ remark ++ codes "\n")
    joined =
        ap (λ t. t ++ codes "\n") (ap (λ t. t ++ remark) (append_assoc text (event_line e) (codes "# ")) ∙ append_assoc text (event_line e ++ codes "# ") remark)
        ∙ append_assoc text (event_line e ++ codes "# " ++ remark) (codes "\n")

-- the lines of the next of some events
pub remarked_more : (events : List Event) (i : ℕ) (d : Event) (text new remark : List ℕ) → i < length events → AreRemarked (take i events) text → IsPlain remark
    → new ≡ text ++ event_line (get_or events i d) ++ codes "# " ++ remark ++ codes "\n" → AreRemarked (take (i + 1) events) new
remarked_more events i d text new remark inside are plain added =
    subst (λ es. AreRemarked es new) (sym (take_more events i d inside)) (remarked_on (take i events) (get_or events i d) text new remark are plain added)

pub shown_plain : (bytes : List ℕ) → IsPlain (map shown_byte bytes)
shown_plain [] = tt
shown_plain (b ∷ bytes) = (of (nat_lt b 32) refl, shown_plain bytes)
  where
    of : (low : Bool) → nat_lt b 32 ≡ low → 32 ≤ cond low 63 b
    of true is = omega arith
    of false is = grind (arith, is)

-- WHAT IS ANSWERED

ended_listing : (list : List Event) (how : NextOutcome) (text : List ℕ) → IsListing list how text → HasEnded how
ended_listing list Done text listing = tt
ended_listing list (Forbidden i) text listing = tt
ended_listing list Unspelled text listing = tt
ended_listing list WriteFault text listing = listing
ended_listing list Memory text listing = listing

pub ended_reply : (program : Program) (events : List Event) (how : NextOutcome) (bytes : List ℕ) → NextReply program events how bytes → HasEnded how
ended_reply program events _ _ (stopped i is) = tt
ended_reply program events how bytes (listed list _ _ goes all listing) = ended_listing list how bytes listing

-- what lists the allowed events, of another name
pub listed_as : {E : Type 0} (system : System) (p : Program) (list shown : List Event) (r : Result Answer E) → Whichever system (λ s. ListsAllowed p s list) → shown ≡ list
    → IfOk r (λ answer. IsListing shown answer.outcome answer.lines)
    → IfOk r (λ answer. (list : List Event) × Whichever system (λ s. ListsAllowed p s list) × IsListing list answer.outcome answer.lines)
listed_as system p list shown (Ok answer) all same listing = (list, all, subst (λ es. IsListing es answer.outcome answer.lines) same listing)
listed_as system p list shown (Err fault) all same listing = listing

module _ (program : Program) (events : List Event) (opened : System) (stands : Stands opened (start program)) (p : Program) (same : p ≡ program) where
  none_at : (stop : Option ℕ) → run.Done ≡ outcome_of stop → stop ≡ None
  none_at None is = refl
  none_at (Some i) is = absurd (let clash : run.Done ≡ run.Forbidden i = is in cc)

  some_at : (i : ℕ) (stop : Option ℕ) → run.Forbidden i ≡ outcome_of stop → stop ≡ Some i
  some_at i None is = absurd (let clash : run.Forbidden i ≡ run.Done = is in cc)
  some_at i (Some k) is = let clash : run.Forbidden i ≡ run.Forbidden k = is in cc

  come_at : (how : Outcome) (left : System) → Whichever opened (λ s. HasCome p s events how left) → HasCome program (start program) events how left
  come_at how left come = subst (λ q. HasCome q (start program) events how left) same (come (start program) stands)

  -- after a run that ended the system is not spent
  pub unspent_after : (how : Outcome) (left : System) → Whichever opened (λ s. HasCome p s events how left) → is_spent left ≡ false
  unspent_after how left come = (come_at how left come).stands.runs.unspent

  pub lists : {E : Type 0} (how : Outcome) (left : System) (q : Program) (r : Result Answer E) → how ≡ run.Done → q ≡ program → Whichever opened (λ s. HasCome p s events how left)
      → IfOk r (λ answer. (list : List Event) × Whichever left (λ s. ListsAllowed q s list) × IsListing list answer.outcome answer.lines) → IfOk r (λ answer. NextReply program events answer.outcome answer.lines)
  lists how left q (Ok answer) is also come (list, all, listing) =
      let at = come_at how left come in
      listed list answer.outcome answer.lines (none_at (src_run program events).stop (sym is ∙ at.outcome_is))
      (subst (λ x. ListsAllowed x (src_run program events).state list) also (all (src_run program events).state at.stands)) listing
  lists how left q (Err fault) is also come listing = listing

  pub stops : (how : Outcome) (left : System) (i : ℕ) (line : List ℕ) → how ≡ run.Forbidden i → Whichever opened (λ s. HasCome p s events how left) → line ≡ action_line (Stop i) → NextReply program events (Forbidden i) line
  stops how left i line is come line_is =
      let at = come_at how left come in
      subst (NextReply program events (Forbidden i)) (sym line_is) (stopped i (some_at i (src_run program events).stop (sym is ∙ at.outcome_is)))

-- what was said is the answer
pub answered_as : (Reply : NextOutcome → List ℕ → Type 0) (how : NextOutcome) (bytes : List ℕ) (result : NextOutcome) (before after : Option (List ℕ)) → Reply how bytes → HasSaid how bytes result before after → HasAnswered Reply result before after
answered_as Reply how bytes result before after reply (whole ended written same gained) = whole ended bytes (subst (λ o. Reply o bytes) (sym same.0) reply) (subst (Appends before after) same.1 gained)
answered_as Reply how bytes result before after reply (begun cut said written same front) = begun cut how bytes reply (subst (AppendsPrefix before after) same.1 front)
answered_as Reply how bytes result before after reply (nothing cut none) = nothing cut none
