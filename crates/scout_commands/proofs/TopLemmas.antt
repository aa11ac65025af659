-- Which words are answered so.
use Rattle.std.proofs.Common.{◌≡◌, sym, ◌∙◌, subst, ℕ, ◌^◌, ◌<◌, ◌≤◌, List, [], arith}
use Rattle.std.specs.Prelude.{Option, Some, None}
use Rattle.da_commands.specs.Told.{OfTold}
use Rattle.da_lang.specs.declared.program.Program.{Program}
use Rattle.da_system.specs.SourceRun.{src_run}
use Rattle.da_system.specs.SystemStep.{start}
use Rattle.replay_run.specs.Replay.{outcome_of, run_on}
use Rattle.schedule_hunt.specs.declared.what.Goal.{Goal}
use Rattle.schedule_hunt.specs.declared.what.Trials.{Trials}
use Rattle.schedule_walk.specs.declared.outcome.NextOutcome.{NextOutcome}
use Rattle.schedule_walk.specs.declared.outcome.NextOutcome.TheVariants as next
use Rattle.scout_commands.specs.declared.status.Status.{Status}
use Rattle.scout_commands.specs.declared.status.Status.TheVariants.{BadLine, Done, Forbidden, Found, Memory, ReadFault, Refused, Unspelled, WatchRefused, Words, WriteFault}
use Rattle.scout_commands.specs.declared.words.Question.{Question}
use Rattle.scout_commands.specs.declared.words.Search.{Search}
use Rattle.scout_commands.specs.declared.words.Search.TheVariants.{Walk, Hunt}
use Rattle.scout_commands.specs.Endings.{status_of_next, status_of_run}
use Rattle.scout_commands.specs.Replies.{DrawReply, HasAnswered, HuntReply, OfWatchTold, RunReply, SearchReply, WatchReply, watch_of}
use Rattle.scout_commands.specs.Replies as reply
use Rattle.scout_commands.specs.Told.{Answers, HasReplied, IsCut, begun, nothing, unread, whole}
use Rattle.scout_commands.specs.Words.{HasNumbers, IsOther, IsSearch}

pub has_numbers : (words : List (List ℕ)) (search : Search) (p : List ℕ) → IsSearch words search p → HasNumbers search
has_numbers words (Walk start most) p asked = tt
has_numbers words (Hunt trials aim options) p asked =
    let small : trials.start < 2 ^ 48 = asked.2.0 in
    let few : trials.count ≤ 1000000 = asked.3.1 in
    omega (arith, small, few)

-- no reply but that to other words has this status
hunt_words : (program : Program) (trials : Trials) (goal : Goal) (status : Status) (bytes : List ℕ) → HuntReply program trials goal status bytes → status ≡ Words → ⊥
hunt_words program trials goal _ _ (HuntReply.found bytes found) is = let clash : Found ≡ Words = is in cc
hunt_words program trials goal _ _ (HuntReply.unspelled is_unspelled) is = let clash : Unspelled ≡ Words = is in cc
hunt_words program trials goal _ _ (HuntReply.none shows) is = let clash : Done ≡ Words = is in cc

search_words : (t w : List ℕ) (search : Search) (status : Status) (bytes : List ℕ) → SearchReply t w search status bytes → status ≡ Words → ⊥
search_words t w _ _ _ (SearchReply.declined search kind line refuses) is = let clash : Refused kind line ≡ Words = is in cc
search_words t w _ _ _ (SearchReply.unwatched search program kind line accepts asks refuses) is = let clash : WatchRefused kind line ≡ Words = is in cc
search_words t w _ _ _ (SearchReply.walked first most program accepts) is = let clash : Done ≡ Words = is in cc
search_words t w _ _ _ (SearchReply.hunted trials aim options goal program status bytes accepts is_goal said) is = hunt_words program trials goal status bytes said is

answer_words : (how : NextOutcome) → status_of_next how ≡ Words → ⊥
answer_words next.Done is = let clash : Done ≡ Words = is in cc
answer_words (next.Forbidden i) is = let clash : Forbidden i ≡ Words = is in cc
answer_words next.Unspelled is = let clash : Unspelled ≡ Words = is in cc
answer_words next.WriteFault is = let clash : WriteFault ≡ Words = is in cc
answer_words next.Memory is = let clash : Memory ≡ Words = is in cc

run_words : (stop : Option ℕ) → status_of_run (outcome_of stop) ≡ Words → ⊥
run_words None is = let clash : Done ≡ Words = is in cc
run_words (Some i) is = let clash : Forbidden i ≡ Words = is in cc

follow_words : (t s : List ℕ) (question : Question) (status : Status) (bytes : List ℕ) → RunReply t s question status bytes → status ≡ Words → ⊥
follow_words t s _ _ _ (RunReply.declined question kind line refuses) is = let clash : Refused kind line ≡ Words = is in cc
follow_words t s _ _ _ (RunReply.bad_schedule question program line accepts bad) is = let clash : BadLine line ≡ Words = is in cc
follow_words t s _ _ _ (RunReply.answered program events how bytes accepts spells said) is = answer_words how is
follow_words t s _ _ _ (RunReply.shown program tree events page accepts has spells paged) is = run_words (run_on program (start program) events).stop is

watch_words : (t v s : List ℕ) (status : Status) (bytes : List ℕ) → WatchReply t v s status bytes → status ≡ Words → ⊥
watch_words t v s _ _ (WatchReply.declined kind line refuses) is = let clash : Refused kind line ≡ Words = is in cc
watch_words t v s _ _ (WatchReply.unwatched program kind line accepts refuses) is = let clash : WatchRefused kind line ≡ Words = is in cc
watch_words t v s _ _ (WatchReply.bad_schedule program watch line accepts beside bad) is = let clash : BadLine line ≡ Words = is in cc
watch_words t v s _ _ (WatchReply.ran program watch events accepts beside spells) is = run_words (src_run program events).stop is

draw_words : (t : List ℕ) (status : Status) (bytes : List ℕ) → DrawReply t status bytes → status ≡ Words → ⊥
draw_words t _ _ (DrawReply.bad_trace line bad) is = let clash : BadLine line ≡ Words = is in cc
draw_words t _ _ (DrawReply.drawn actions spells) is = let clash : Done ≡ Words = is in cc

module _ (Reply : Status → List ℕ → Type 0) (Due : List ℕ → Type 0) (before after : Option (List ℕ)) where
  pub replied_words : ((status : Status) (bytes : List ℕ) → Reply status bytes → status ≡ Words → ⊥) → (result : Status) → HasReplied Reply Due result before after → result ≡ Words → ⊥
  replied_words never result (whole answer bytes reply gained) is = never result bytes reply is
  replied_words never result (begun cut bytes due front) is = let none : IsCut Words = subst IsCut is cut in none
  replied_words never result (nothing cut same) is = let none : IsCut Words = subst IsCut is cut in none
  replied_words never result (unread failed same) is = let clash : ReadFault ≡ Words = sym failed ∙ is in cc

of_none : (told : Option (List ℕ)) (P : List ℕ → Type 0) → ((t : List ℕ) → P t → ⊥) → OfTold told P → ⊥
of_none None P never (t, holds) = never t holds
of_none (Some t) P never holds = never t holds

module _ (words : List (List ℕ)) (told : List ℕ → Option (List ℕ)) (status : Status) (before after : Option (List ℕ)) where
  of_no_watch : (watch : Option (List ℕ)) (P : List ℕ → Type 0) → ((w : List ℕ) → P w → ⊥) → OfWatchTold told watch P → ⊥
  of_no_watch None P never holds = never [] holds
  of_no_watch (Some w) P never holds = of_none (told w) P never holds

  pub only_others : HasAnswered words told status before after → status ≡ Words → IsOther words
  only_others (reply.searched search p asked replies) is =
      absurd (of_none (told p) (λ t. OfWatchTold told (watch_of search) (λ w. Answers (SearchReply t w search) status before after))
      (λ t each. of_no_watch (watch_of search) (λ w. Answers (SearchReply t w search) status before after) (λ w held. replied_words (SearchReply t w search) _ before after (search_words t w search) status held is) each) replies)
  only_others (reply.watched v p q asked replies) is =
      absurd (of_none (told p) (λ t. OfTold (told v) (λ x. OfTold (told q) (λ s. Answers (WatchReply t x s) status before after)))
      (λ t each. of_none (told v) (λ x. OfTold (told q) (λ s. Answers (WatchReply t x s) status before after))
      (λ x each. of_none (told q) (λ s. Answers (WatchReply t x s) status before after) (λ s held. replied_words (WatchReply t x s) _ before after (watch_words t x s) status held is) each) each) replies)
  only_others (reply.followed question p q asked replies) is =
      absurd (of_none (told p) (λ t. OfTold (told q) (λ s. Answers (RunReply t s question) status before after))
      (λ t each. of_none (told q) (λ s. Answers (RunReply t s question) status before after) (λ s held. replied_words (RunReply t s question) _ before after (follow_words t s question) status held is) each) replies)
  only_others (reply.drew p asked replies) is =
      absurd (of_none (told p) _ (λ t held. replied_words (DrawReply t) _ before after (draw_words t) status held is) replies)
  only_others (reply.other asked said) is = asked
  only_others (reply.stopped memory same) is = absurd (let clash : Memory ≡ Words = sym memory ∙ is in cc)
