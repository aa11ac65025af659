-- What the command `launch` leaves, from what its parts leave, and what the top call says of it.
use Rattle.std.proofs.Common.{◌≡◌, refl, sym, ◌∙◌, ap, subst, ℕ, ◌≤◌, ◌<◌, ◌^◌, inl, inr, ◌⊎◌, List, [], ◌∷◌, length, codes, decimal, arith}
use Rattle.std.specs.Prelude.{Option, Some}
use Rattle.da_values.proofs.Numerals.{decimal_injective_wide}
use Rattle.da_lang.specs.declared.program.Program.{Program}
use Rattle.da_outside.specs.declared.spawner.SpawnEntry.{SpawnEntry}
use Rattle.da_outside.proofs.OutsideLemmas.{appends_none}
use Rattle.da_front.specs.declared.refusal.RefusedKind.{RefusedKind}
use Rattle.da_commands.specs.declared.status.Status.{Status}
use Rattle.da_commands.specs.declared.status.Status.TheVariants.{ChildFault, ChildStatus, Done, LinkFault, Memory, ReadFault, Refused, Words, WriteFault}
use Rattle.da_commands.specs.declared.words.LaunchSetting.{LaunchSetting}
use Rattle.da_commands.specs.declared.words.NodeSetting.{NodeSetting}
use Rattle.da_commands.specs.declared.words.Task.{Task}
use Rattle.da_commands.specs.declared.words.Task.TheVariants.{Check, Plan, Stress}
use Rattle.da_commands.specs.Launching.{child_words}
use Rattle.da_commands.specs.LaunchReplies.{HasLaunchEnd, HasLaunched, IsLaunch, IsLaunchAnswer, IsLaunchSetting, IsLaunched, LaunchStopped}
use Rattle.da_commands.specs.LaunchReplies as reply
use Rattle.da_commands.specs.LaunchSteps.{HasRun, IsFinishEnd}
use Rattle.da_commands.specs.Lines.{refused_text}
use Rattle.da_commands.specs.NodeReplies.{IsNode}
use Rattle.da_commands.specs.Replies.{IsAnswer, IsAsking, IsEnd, IsReplay}
use Rattle.da_commands.specs.Told.{HasSaid, IsUnwritten, OfTold, said, unsaid}
use Rattle.da_front.specs.Verdict.{Accepts, Refuses}
use Rattle.da_commands.proofs.LaunchLemmas.{tells_none}
use Rattle.da_commands.proofs.ToldLemmas.{of_any, of_known, of_map}

-- NOTHING WAS DONE

pub none_launched : (file : Option (List ℕ)) (name : List ℕ) (setting : LaunchSetting) (status : Status) (told : Option (List SpawnEntry)) (taken : Option (List ℕ)) → (status ≡ WriteFault → ⊥)
    → OfTold file (λ text. LaunchStopped text name setting status told told taken taken)
none_launched file name setting status told taken never = of_any file _ (λ text. reply.early never (tells_none told) (appends_none taken))

-- A REFUSAL

-- its line was written, or a prefix of it
pub launch_refused : (kind : RefusedKind) (line : ℕ) (text name : List ℕ) (setting : LaunchSetting) (told : Option (List SpawnEntry)) (before after : Option (List ℕ)) (status : Status) → Refuses text kind line
    → HasSaid (Refused kind line) (refused_text kind line) status before after → HasLaunchEnd text name setting status told told before after
launch_refused kind line text name setting told before after status refuses (said is written) =
    subst (λ s. HasLaunchEnd text name setting s told told before after) (sym is) (reply.refused kind line refuses refl (tells_none told) written)
launch_refused kind line text name setting told before after status refuses (unsaid cut front) = by_status status cut
  where
    by_status : (status : Status) → IsUnwritten status → HasLaunchEnd text name setting status told told before after
    by_status WriteFault cut = reply.refusing kind line refuses (tells_none told) front
    by_status Memory cut = reply.refusing kind line refuses (tells_none told) front
    by_status _ cut = absurd cut

-- A LAUNCH THAT RAN

pub launch_ran : (program : Program) (text name : List ℕ) (setting : LaunchSetting) (count : ℕ) (status : Status) (told_before told_after : Option (List SpawnEntry)) (before after : Option (List ℕ))
    → Accepts text program → count ≡ length program.procs → HasRun (child_words name setting) count status told_before told_after before after → IsFinishEnd status
    → HasLaunchEnd text name setting status told_before told_after before after
launch_ran program text name setting count status told_before told_after before after may same runs ends =
    by_status status (subst (λ n. HasRun (child_words name setting) n status told_before told_after before after) same runs) ends
  where
    by_status : (status : Status) → HasRun (child_words name setting) (length program.procs) status told_before told_after before after → IsFinishEnd status
        → HasLaunchEnd text name setting status told_before told_after before after
    by_status WriteFault began ends = reply.writing program may refl began
    by_status Memory began ends = reply.running program may refl began
    by_status ReadFault runs ends = absurd ends
    by_status _ (calls, bytes, replies, told, written) ends = reply.ran program calls bytes may replies told written

-- STATUSES

pub finish_no_words : (status : Status) → IsFinishEnd status → status ≡ Words → ⊥
finish_no_words status ends is = subst IsFinishEnd is ends

pub finish_no_link : (status : Status) → IsFinishEnd status → status ≡ LinkFault → ⊥
finish_no_link status ends is = subst IsFinishEnd is ends

pub finish_unread : (status : Status) → IsFinishEnd status → status ≡ ReadFault → ⊥
finish_unread status ends is = subst IsFinishEnd is ends

pub end_no_child : (status : Status) → IsEnd status → status ≡ ChildFault → ⊥
end_no_child status ends is = subst IsEnd is ends

pub said_childless : (status : Status) (bytes : List ℕ) (result : Status) (before after : Option (List ℕ)) → IsAnswer status → HasSaid status bytes result before after → result ≡ ChildFault → ⊥
said_childless status bytes result before after answer (said is written) child = let never : IsAnswer ChildFault = subst IsAnswer (sym is ∙ child) answer in never
said_childless status bytes result before after answer (unsaid cut front) child = subst IsUnwritten child cut

-- WORDS

module _ (words : List (List ℕ)) (a : List ℕ) (setting : LaunchSetting) (launch : IsLaunch words a setting) where
  five : length words ≡ 5
  five = ap length launch.3

  pub launch_no_replay : (p q : List ℕ) → IsReplay words p q → ⊥
  launch_no_replay p q other = let sizes : length words ≡ 3 = ap length other in omega (arith, sizes, five)

  pub launch_no_task : (task : Task) (p : List ℕ) → IsAsking words task p → ⊥
  launch_no_task Check p other = let sizes : length words ≡ 2 = ap length other.0 in omega (arith, sizes, five)
  launch_no_task Plan p other = let sizes : length words ≡ 2 = ap length other.0 in omega (arith, sizes, five)
  launch_no_task (Stress x n) p other = let sizes : length words ≡ 4 = ap length other.0 in omega (arith, sizes, five)

  pub launch_no_node : (p : List ℕ) (setting : NodeSetting) → IsNode words p setting → ⊥
  launch_no_node p setting (port, me, idle, turns, is, spelled) = let sizes : length words ≡ 6 = ap length is in omega (arith, sizes, five)

-- a number of at most 2^127 has one spelling
one_number : (m n : ℕ) (word : List ℕ) → m ≤ 2 ^ 127 → n ≤ 2 ^ 127 → word ≡ decimal m → word ≡ decimal n → m ≡ n
one_number m n word small few is other = decimal_injective_wide m n small few (sym is ∙ other)

settings_same : {a b c e f g : ℕ} → a ≡ e → b ≡ f → c ≡ g
    → (let one : LaunchSetting = record { port = a; idle = b; turns = c } in one) ≡ (let other : LaunchSetting = record { port = e; idle = f; turns = g } in other)
settings_same {a} {b} {c} {e} {f} {g} port idle turns =
    ap (λ x. let one : LaunchSetting = record { port = x; idle = b; turns = c } in one) port
    ∙ ap (λ x. let one : LaunchSetting = record { port = e; idle = x; turns = c } in one) idle
    ∙ ap (λ x. let one : LaunchSetting = record { port = e; idle = f; turns = x } in one) turns

one_setting : (one other : LaunchSetting) (port idle turns : List ℕ) → IsLaunchSetting one port idle turns → IsLaunchSetting other port idle turns → other ≡ one
one_setting one other port idle turns a b =
    settings_same
    (one_number other.port one.port port (omega (arith, b.within.port.1)) (omega (arith, a.within.port.1)) b.port_is a.port_is)
    (one_number other.idle one.idle idle (omega (arith, b.within.idle.1)) (omega (arith, a.within.idle.1)) b.idle_is a.idle_is)
    (one_number other.turns one.turns turns (omega (arith, b.within.turns.1)) (omega (arith, a.within.turns.1)) b.turns_is a.turns_is)

-- the name and the setting are those of the words
pub same_launch : (words : List (List ℕ)) (a p : List ℕ) (one other : LaunchSetting) → IsLaunch words a one → IsLaunch words p other → (p ≡ a) × (other ≡ one)
same_launch words a p one other (port, idle, turns, is, spelled) (port', idle', turns', is', spelled') =
    let both : codes "launch" ∷ a ∷ port ∷ idle ∷ turns ∷ [] ≡ codes "launch" ∷ p ∷ port' ∷ idle' ∷ turns' ∷ [] = sym is ∙ is' in
    let port_same : port ≡ port' = cc in
    let idle_same : idle ≡ idle' = cc in
    let turns_same : turns ≡ turns' = cc in (
      cc,
      one_setting one other port' idle' turns' (subst (λ x. IsLaunchSetting one x idle' turns') port_same (subst (λ x. IsLaunchSetting one port x turns') idle_same
          (subst (λ x. IsLaunchSetting one port idle x) turns_same spelled))) spelled',
    )

-- what holds of the name and the setting in the words
pub at_launch : (P : List ℕ → LaunchSetting → Type 0) (p a : List ℕ) (other one : LaunchSetting) → (p ≡ a) × (other ≡ one) → P a one → P p other
at_launch P p a other one same holds = subst (P p) (sym same.1) (subst (λ x. P x one) (sym same.0) holds)

-- WHAT A LAUNCH LEAVES, by its status

module _ (name : List ℕ) (setting : LaunchSetting) (told_before told_after : Option (List SpawnEntry)) (before after : Option (List ℕ)) where
  abbrev Ends : Status → List ℕ → Type 0
  Ends status text = HasLaunchEnd text name setting status told_before told_after before after

  answered : (text : List ℕ) (status : Status) → IsLaunchAnswer status → Ends status text → HasLaunched text name setting status told_before told_after before after
  answered text ReadFault answer has = absurd answer
  answered text WriteFault answer has = absurd answer
  answered text Memory answer has = absurd answer
  answered text status answer has = has

  stopped : (text : List ℕ) (status : Status) → (IsLaunchAnswer status → ⊥) → Ends status text → LaunchStopped text name setting status told_before told_after before after
  stopped text ReadFault never has = has
  stopped text WriteFault never has = has
  stopped text Memory never has = has
  stopped text _ never has = absurd (never tt)

  quiet : (text : List ℕ) (status : Status) → (status ≡ ReadFault → ⊥) → (status ≡ WriteFault → ⊥) → Ends status text → IsLaunched text name setting status told_before told_after before after
  quiet text ReadFault read write has = absurd (read refl)
  quiet text WriteFault read write has = absurd (write refl)
  quiet text Memory read write has = inl refl
  quiet text status read write has = inr has

  module _ (told : Option (List ℕ)) (status : Status) (ends : OfTold told (Ends status)) where
    pub launch_answered : IsLaunchAnswer status → OfTold told (λ t. HasLaunched t name setting status told_before told_after before after)
    launch_answered answer = of_map told (Ends status) (λ t. HasLaunched t name setting status told_before told_after before after) (λ t has. answered t status answer has) ends

    pub launch_has_stopped : (IsLaunchAnswer status → ⊥) → OfTold told (λ t. LaunchStopped t name setting status told_before told_after before after)
    launch_has_stopped never = of_map told (Ends status) (λ t. LaunchStopped t name setting status told_before told_after before after) (λ t has. stopped t status never has) ends

    -- nothing failed
    pub launch_quiet : (t : List ℕ) → told ≡ Some t → (status ≡ ReadFault → ⊥) → (status ≡ WriteFault → ⊥) → IsLaunched t name setting status told_before told_after before after
    launch_quiet t told_t read write = quiet t status read write (of_known told (Ends status) t told_t ends)
