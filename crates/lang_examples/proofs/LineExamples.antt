-- The lines of events and of actions, and where the events of a schedule stand.
use Rattle.std.specs.Prelude.{◌≡◌, refl, pos, negsuc, [], ◌∷◌, ◌++◌, codes}
use Rattle.std.specs.Fmt.{digits}
use Rattle.da_values.specs.declared.val.Val.TheVariants as val
use Rattle.da_values.specs.declared.value.Value.TheVariants as kept
use Rattle.da_lang.specs.declared.event.Action.TheVariants.{Took, Sent, Got, Lost, Again, Out, End, Fault, Answer, Kept, Stop}
use Rattle.da_lang.specs.declared.event.Event.TheVariants.{Move, Take, Timeout, Deliver, Lose, Repeat, Show, Stat}
use Rattle.da_lang.specs.declared.event.FaultKind.TheVariants.{Overflow, Divide, Range, Message, TooLong}
use Rattle.sched_text.specs.ActionText.{action_line}
use Rattle.sched_text.specs.EventText.{event_line}
use Rattle.sched_text.specs.Places.{event_lines}
use Rattle.lang_examples.proofs.ValueForms.{texts}

-- the line of each event
line_1 : event_line (Move 1) ≡ codes "move 1\n"
unfolding digits
line_1 = refl

line_2 : event_line (Take 1 2) ≡ codes "move 1 2\n"
unfolding digits
line_2 = refl

line_3 : event_line (Timeout 7) ≡ codes "timeout 7\n"
unfolding digits
line_3 = refl

line_4 : event_line (Deliver 1 2 1) ≡ codes "deliver 1 2 1\n"
unfolding digits
line_4 = refl

line_5 : event_line (Lose 2 1 4) ≡ codes "lose 2 1 4\n"
unfolding digits
line_5 = refl

line_6 : event_line (Repeat 3 3 9) ≡ codes "repeat 3 3 9\n"
unfolding digits
line_6 = refl

line_7 : event_line (Show 12) ≡ codes "show 12\n"
unfolding digits
line_7 = refl

line_8 : event_line (Stat 65535) ≡ codes "stat 65535\n"
unfolding digits
line_8 = refl

-- the line of each action
line_9 : action_line (Took 3 2) ≡ codes "took 3 2\n"
unfolding digits
line_9 = refl

line_10 : action_line (Sent 1 2 9 (kept.Tuple (val.Text (codes "m") ∷ val.Proc 3 ∷ val.Int (negsuc 6) ∷ []))) ≡ codes "sent 1 2 9 ('m', p3, -7)\n"
unfolding digits
line_10 = simp texts

line_11 : action_line (Got 2 1 9 (kept.Tuple (val.Text (codes "m") ∷ val.Proc 3 ∷ val.Int (negsuc 6) ∷ []))) ≡ codes "got 2 1 9 ('m', p3, -7)\n"
unfolding digits
line_11 = simp texts

line_12 : action_line (Lost 1 2 9) ≡ codes "lost 1 2 9\n"
unfolding digits
line_12 = refl

line_13 : action_line (Again 1 2 9) ≡ codes "again 1 2 9\n"
unfolding digits
line_13 = refl

line_14 : action_line (Out 4 (kept.Set (val.Int (pos 1) ∷ val.Int (pos 2) ∷ []))) ≡ codes "out 4 {1, 2}\n"
unfolding digits
line_14 = simp texts

line_15 : action_line (End 65535) ≡ codes "end 65535\n"
unfolding digits
line_15 = refl

line_16 : action_line (Fault 5 Overflow 12) ≡ codes "fault 5 overflow 12\n"
unfolding digits
line_16 = refl

line_17 : action_line (Fault 5 Divide 12) ≡ codes "fault 5 divide 12\n"
unfolding digits
line_17 = refl

line_18 : action_line (Fault 5 Range 12) ≡ codes "fault 5 range 12\n"
unfolding digits
line_18 = refl

line_19 : action_line (Fault 5 Message 12) ≡ codes "fault 5 message 12\n"
unfolding digits
line_19 = refl

line_20 : action_line (Fault 5 TooLong 12) ≡ codes "fault 5 toolong 12\n"
unfolding digits
line_20 = refl

line_21 : action_line (Answer 6 2 (val.Int (pos 1) ∷ val.Int (pos 2) ∷ [])) ≡ codes "answer 6 2 {1, 2}\n"
unfolding digits
line_21 = simp texts

line_22 : action_line (Answer 6 1 []) ≡ codes "answer 6 1 {}\n"
unfolding digits
line_22 = simp texts

-- sets
line_23 : action_line (Out 4 (kept.Set (val.Int (pos 0) ∷ val.Int (pos 1) ∷ val.Int (pos 2) ∷ []))) ≡ codes "out 4 {0, 1, 2}\n"
unfolding digits
line_23 = simp texts

line_24 : action_line (Sent 1 2 9 (kept.Tuple (val.Text (codes "m") ∷ val.Set (val.Int (pos 0) ∷ val.Int (pos 1) ∷ val.Int (pos 2) ∷ []) ∷ []))) ≡ codes "sent 1 2 9 ('m', {0, 1, 2})\n"
unfolding digits
line_24 = simp texts

line_25 : action_line (Answer 6 1 (val.Tuple (val.Int (pos 0) ∷ []) ∷ val.Tuple (val.Int (pos 1) ∷ []) ∷ val.Tuple (val.Int (pos 2) ∷ []) ∷ [])) ≡ codes "answer 6 1 {(0,), (1,), (2,)}\n"
unfolding digits
line_25 = simp texts

line_26 : action_line (Kept 7 340282366920938463463374607431768211455) ≡ codes "kept 7 340282366920938463463374607431768211455\n"
unfolding digits
line_26 = refl

line_27 : action_line (Stop 18446744073709551615) ≡ codes "stop 18446744073709551615\n"
unfolding digits
line_27 = refl

line_28 : action_line (Took 1 0) ≡ codes "took 1 0\n"
unfolding digits
line_28 = refl

-- the events of a schedule, each after the number of its line
line_29 : event_lines (codes "# two\n\nmove 1" ++ (13 ∷ []) ++ codes "\n#\nmove 2 3") ≡ (3, codes "move 1") ∷ (5, codes "move 2 3") ∷ []
unfolding digits
line_29 = refl
