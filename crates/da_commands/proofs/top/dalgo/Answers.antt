use Rattle.std.proofs.Common.{◌≡◌, subst, List, ℕ, inl, inr, map, sym}
use Rattle.std.specs.String.{string_bytes}
use Rattle.std.specs.Prelude.{Some}
use Rattle.arq_link.specs.ArqLink.{inner_of}
use Rattle.da_lang.specs.declared.ty.ChannelKind.{ChannelKind}
use Rattle.da_outside.specs.Outside.{Rose}
use Rattle.da_outside.proofs.OutsideLemmas.{no_cause}
use Rattle.node_run.specs.NodeCall.{GivesPackets}
use Rattle.da_commands.specs.declared.words.LaunchSetting.{LaunchSetting}
use Rattle.da_commands.specs.declared.words.NodeSetting.{NodeSetting}
use Rattle.da_commands.specs.declared.words.Task.{Task}
use Rattle.da_values.specs.Sets.{Has}
use Rattle.da_commands.specs.InferReplies.{InferReply, IsCompletedWhole}
use Rattle.da_commands.specs.JoinReplies.{IsJoined, JoinReply}
use Rattle.da_commands.specs.LaunchReplies.{HasLaunched, IsLaunched, LaunchStopped}
use Rattle.da_commands.specs.Links.{told_over}
use Rattle.da_commands.specs.NodeReplies.{BindsOnce, HasAnswered, HasKind, HasStopped, IsServed, LinkFailed}
use Rattle.da_commands.specs.Replies.{IsExecuted, ReplayReply, TaskReply}
use Rattle.da_commands.specs.Told.{Begins, Gains, OfAllTold, OfTold}
use Rattle.da_commands.proofs.InferLemmas.{is_completed_whole}
use Rattle.da_commands.proofs.JoinLemmas.{at_join, is_joined, join_begun, join_whole, not_read_join, told_names}
use Rattle.da_commands.proofs.LaunchCallLemmas.{at_launch, end_no_child, launch_answered, launch_has_stopped, launch_no_node, launch_quiet, said_childless, same_launch}
use Rattle.da_commands.proofs.LaunchLemmas.{no_child_cause}
use Rattle.da_commands.proofs.ReplyLemmas.{at_names, is_executed, not_read, runs_whole, same_names, same_task}
use Rattle.da_commands.proofs.TopLemmas.{at_node, both_begun, both_whole, node_answered, node_has_stopped, node_link_failed, node_served, said_front, said_whole, same_node, told_begun, told_whole}
use Rattle.da_commands.proofs.WordLemmas.{infer_no_join, infer_no_launch, infer_no_node, infer_no_replay, infer_no_task, join_no_infer, join_no_launch, join_no_node, join_no_replay, join_no_task, same_infer, same_join}
use Rattle.da_commands.proofs.ToldLemmas.{end_no_link, end_no_words, ends_unlinked, said_unlinked, said_unread}
use Rattle.da_commands.proofs.top.dalgo.Goals as goal

-- A REPLAY

pub returns-in-Replay-clause-replies : goal.returns-in-Replay-clause-replies
returns-in-Replay-clause-replies g c = λ p q words answer.
    let R : List ℕ → List ℕ → Type 0 = λ x y. OfTold (g.F.Files.told c.args.files.now x) (λ t. OfTold (g.F.Files.told c.args.files.now y) (λ s. Gains (ReplayReply t s) c.replay.result (g.K.Sink.taken c.args.out.now) (g.K.Sink.taken c.replay.new.out))) in
    at_names R p q _ _ (same_names _ _ _ _ _ c.in-Replay.ensures words) (both_whole ReplayReply _ _ c.replay.result _ _ c.replay.ensures.replies answer)

pub returns-in-Replay-clause-begun : goal.returns-in-Replay-clause-begun
returns-in-Replay-clause-begun g c = λ p q words never.
    let B : List ℕ → List ℕ → Type 0 = λ x y. OfTold (g.F.Files.told c.args.files.now x) (λ t. OfTold (g.F.Files.told c.args.files.now y) (λ s. Begins (ReplayReply t s) (g.K.Sink.taken c.args.out.now) (g.K.Sink.taken c.replay.new.out))) in
    at_names B p q _ _ (same_names _ _ _ _ _ c.in-Replay.ensures words) (both_begun ReplayReply _ _ c.replay.result _ _ c.replay.ensures.replies never)

pub returns-in-Replay-clause-complete : goal.returns-in-Replay-clause-complete
returns-in-Replay-clause-complete g c = λ p q t s program events words told_p told_q accepts good not_p not_q not_out.
    let same = same_names _ _ _ _ _ c.in-Replay.ensures words in
    let here : g.F.Files.told c.args.files.now c.in-Replay.names.program.now ≡ Some t = subst (λ n. g.F.Files.told c.args.files.now n ≡ Some t) same.0 told_p in
    let there : g.F.Files.told c.args.files.now c.in-Replay.names.schedule.now ≡ Some s = subst (λ n. g.F.Files.told c.args.files.now n ≡ Some s) same.1 told_q in
    let quiet_p : Rose (g.F.Files.faults c.args.files.now c.in-Replay.names.program.now) (g.F.Files.faults c.replay.new.files c.in-Replay.names.program.now) → ⊥ =
    subst (λ n. Rose (g.F.Files.faults c.args.files.now n) (g.F.Files.faults c.replay.new.files n) → ⊥) same.0 not_p in
    let quiet_q : Rose (g.F.Files.faults c.args.files.now c.in-Replay.names.schedule.now) (g.F.Files.faults c.replay.new.files c.in-Replay.names.schedule.now) → ⊥ =
    subst (λ n. Rose (g.F.Files.faults c.args.files.now n) (g.F.Files.faults c.replay.new.files n) → ⊥) same.1 not_q in
    runs_whole _ _ t s program events c.replay.result _ _ here there accepts good c.replay.ensures.ends (λ failed. not_read (g.F.Files.told c.args.files.now c.in-Replay.names.program.now) (g.F.Files.faults c.args.files.now) (g.F.Files.faults c.replay.new.files) c.in-Replay.names.program.now c.in-Replay.names.schedule.now (c.replay.ensures.read failed) quiet_p quiet_q)
    (λ failed. not_out (c.replay.ensures.write.failed failed)) c.replay.ensures.replies

pub returns-in-Replay-clause-link : goal.returns-in-Replay-clause-link
returns-in-Replay-clause-link g c = ends_unlinked c.replay.result _ c.replay.ensures.ends

pub returns-in-Replay-clause-only_words : goal.returns-in-Replay-clause-only_words
returns-in-Replay-clause-only_words g c = λ is. absurd (end_no_words c.replay.result c.replay.ensures.ends is)

pub returns-in-Replay-clause-only_node : goal.returns-in-Replay-clause-only_node
returns-in-Replay-clause-only_node g c = λ is. absurd (end_no_link c.replay.result c.replay.ensures.ends is)

pub returns-in-Replay-clause-children : goal.returns-in-Replay-clause-children
returns-in-Replay-clause-children g c = no_child_cause _ c.replay.result (end_no_child c.replay.result c.replay.ensures.ends)

pub returns-in-Replay-clause-only_launch : goal.returns-in-Replay-clause-only_launch
returns-in-Replay-clause-only_launch g c = λ is. absurd (end_no_child c.replay.result c.replay.ensures.ends is)

pub returns-in-Replay-clause-joins : goal.returns-in-Replay-clause-joins
returns-in-Replay-clause-joins g c = λ p traces words. absurd (join_no_replay _ _ _ words _ _ c.in-Replay.ensures)

pub returns-in-Replay-clause-begun_join : goal.returns-in-Replay-clause-begun_join
returns-in-Replay-clause-begun_join g c = λ p traces words. absurd (join_no_replay _ _ _ words _ _ c.in-Replay.ensures)

pub returns-in-Replay-clause-joined : goal.returns-in-Replay-clause-joined
returns-in-Replay-clause-joined g c = λ p traces words. absurd (join_no_replay _ _ _ words _ _ c.in-Replay.ensures)

pub returns-in-Replay-clause-infers : goal.returns-in-Replay-clause-infers
returns-in-Replay-clause-infers g c = λ p words. absurd (infer_no_replay _ _ words _ _ c.in-Replay.ensures)

pub returns-in-Replay-clause-begun_infer : goal.returns-in-Replay-clause-begun_infer
returns-in-Replay-clause-begun_infer g c = λ p words. absurd (infer_no_replay _ _ words _ _ c.in-Replay.ensures)

pub returns-in-Replay-clause-inferred : goal.returns-in-Replay-clause-inferred
returns-in-Replay-clause-inferred g c = λ p words. absurd (infer_no_replay _ _ words _ _ c.in-Replay.ensures)

-- A TASK

pub returns-in-Carry-clause-answers : goal.returns-in-Carry-clause-answers
returns-in-Carry-clause-answers g c = λ task p words answer.
    let same = same_task _ _ _ _ _ c.in-Carry.ensures words in
    let R : Task → List ℕ → Type 0 = λ k x. OfTold (g.F.Files.told c.args.files.now x) (λ t. Gains (TaskReply k t) c.execute.result (g.K.Sink.taken c.args.out.now) (g.K.Sink.taken c.execute.new.out)) in
    let here : R c.in-Carry.task c.in-Carry.program.now = told_whole (TaskReply c.in-Carry.task) _ c.execute.result _ _ c.execute.ensures.replies answer in
    subst (λ k. R k p) (sym same.0) (subst (R c.in-Carry.task) (sym same.1) here)

pub returns-in-Carry-clause-begun_task : goal.returns-in-Carry-clause-begun_task
returns-in-Carry-clause-begun_task g c = λ task p words never.
    let same = same_task _ _ _ _ _ c.in-Carry.ensures words in
    let B : Task → List ℕ → Type 0 = λ k x. OfTold (g.F.Files.told c.args.files.now x) (λ t. Begins (TaskReply k t) (g.K.Sink.taken c.args.out.now) (g.K.Sink.taken c.execute.new.out)) in
    let here : B c.in-Carry.task c.in-Carry.program.now = told_begun (TaskReply c.in-Carry.task) _ c.execute.result _ _ c.execute.ensures.replies never in
    subst (λ k. B k p) (sym same.0) (subst (B c.in-Carry.task) (sym same.1) here)

pub returns-in-Carry-clause-executed : goal.returns-in-Carry-clause-executed
returns-in-Carry-clause-executed g c = λ task p t program words told accepts quiet quiet_out.
    let same = same_task _ _ _ _ _ c.in-Carry.ensures words in
    let here : g.F.Files.told c.args.files.now c.in-Carry.program.now ≡ Some t = subst (λ n. g.F.Files.told c.args.files.now n ≡ Some t) same.1 told in
    let quiet_here : Rose (g.F.Files.faults c.args.files.now c.in-Carry.program.now) (g.F.Files.faults c.execute.new.files c.in-Carry.program.now) → ⊥ =
    subst (λ n. Rose (g.F.Files.faults c.args.files.now n) (g.F.Files.faults c.execute.new.files n) → ⊥) same.1 quiet in
    subst (λ k. IsExecuted k program c.execute.result (g.K.Sink.taken c.args.out.now) (g.K.Sink.taken c.execute.new.out)) (sym same.0)
    (is_executed c.in-Carry.task _ t program c.execute.result _ _ here accepts c.execute.ensures.ends (λ failed. quiet_here (c.execute.ensures.read failed)) (λ failed. quiet_out (c.execute.ensures.write.failed failed))
    c.execute.ensures.replies)

pub returns-in-Carry-clause-link : goal.returns-in-Carry-clause-link
returns-in-Carry-clause-link g c = ends_unlinked c.execute.result _ c.execute.ensures.ends

pub returns-in-Carry-clause-only_words : goal.returns-in-Carry-clause-only_words
returns-in-Carry-clause-only_words g c = λ is. absurd (end_no_words c.execute.result c.execute.ensures.ends is)

pub returns-in-Carry-clause-only_node : goal.returns-in-Carry-clause-only_node
returns-in-Carry-clause-only_node g c = λ is. absurd (end_no_link c.execute.result c.execute.ensures.ends is)

pub returns-in-Carry-clause-children : goal.returns-in-Carry-clause-children
returns-in-Carry-clause-children g c = no_child_cause _ c.execute.result (end_no_child c.execute.result c.execute.ensures.ends)

pub returns-in-Carry-clause-only_launch : goal.returns-in-Carry-clause-only_launch
returns-in-Carry-clause-only_launch g c = λ is. absurd (end_no_child c.execute.result c.execute.ensures.ends is)

pub returns-in-Carry-clause-joins : goal.returns-in-Carry-clause-joins
returns-in-Carry-clause-joins g c = λ p traces words. absurd (join_no_task _ _ _ words _ _ c.in-Carry.ensures)

pub returns-in-Carry-clause-begun_join : goal.returns-in-Carry-clause-begun_join
returns-in-Carry-clause-begun_join g c = λ p traces words. absurd (join_no_task _ _ _ words _ _ c.in-Carry.ensures)

pub returns-in-Carry-clause-joined : goal.returns-in-Carry-clause-joined
returns-in-Carry-clause-joined g c = λ p traces words. absurd (join_no_task _ _ _ words _ _ c.in-Carry.ensures)

pub returns-in-Carry-clause-infers : goal.returns-in-Carry-clause-infers
returns-in-Carry-clause-infers g c = λ p words. absurd (infer_no_task _ _ words _ _ c.in-Carry.ensures)

pub returns-in-Carry-clause-begun_infer : goal.returns-in-Carry-clause-begun_infer
returns-in-Carry-clause-begun_infer g c = λ p words. absurd (infer_no_task _ _ words _ _ c.in-Carry.ensures)

pub returns-in-Carry-clause-inferred : goal.returns-in-Carry-clause-inferred
returns-in-Carry-clause-inferred g c = λ p words. absurd (infer_no_task _ _ words _ _ c.in-Carry.ensures)

-- DECLARATIONS

pub returns-in-Infer-clause-infers : goal.returns-in-Infer-clause-infers
returns-in-Infer-clause-infers g c = λ p words answer.
    let R : List ℕ → Type 0 = λ x. OfTold (g.F.Files.told c.args.files.now x) (λ t. Gains (InferReply t) c.write_declared.result (g.K.Sink.taken c.args.out.now) (g.K.Sink.taken c.write_declared.new.out)) in
    let here : R c.in-Infer.program.now = told_whole InferReply _ c.write_declared.result _ _ c.write_declared.ensures.replies answer in
    subst R (sym (same_infer _ _ c.in-Infer.ensures p words)) here

pub returns-in-Infer-clause-begun_infer : goal.returns-in-Infer-clause-begun_infer
returns-in-Infer-clause-begun_infer g c = λ p words never.
    let B : List ℕ → Type 0 = λ x. OfTold (g.F.Files.told c.args.files.now x) (λ t. Begins (InferReply t) (g.K.Sink.taken c.args.out.now) (g.K.Sink.taken c.write_declared.new.out)) in
    let here : B c.in-Infer.program.now = told_begun InferReply _ c.write_declared.result _ _ c.write_declared.ensures.replies never in
    subst B (sym (same_infer _ _ c.in-Infer.ensures p words)) here

pub returns-in-Infer-clause-inferred : goal.returns-in-Infer-clause-inferred
returns-in-Infer-clause-inferred g c = λ p words quiet quiet_out.
    let same = same_infer _ _ c.in-Infer.ensures p words in
    let quiet_here : Rose (g.F.Files.faults c.args.files.now c.in-Infer.program.now) (g.F.Files.faults c.write_declared.new.files c.in-Infer.program.now) → ⊥ =
    subst (λ n. Rose (g.F.Files.faults c.args.files.now n) (g.F.Files.faults c.write_declared.new.files n) → ⊥) same quiet in
    let R : List ℕ → Type 0 = λ x. IsCompletedWhole (g.F.Files.told c.args.files.now x) c.write_declared.result (g.K.Sink.taken c.args.out.now) (g.K.Sink.taken c.write_declared.new.out) in
    let here : R c.in-Infer.program.now = is_completed_whole _ c.write_declared.result _ _ c.write_declared.ensures.ends (λ failed. quiet_here (c.write_declared.ensures.read failed)) (λ failed. quiet_out (c.write_declared.ensures.write.failed failed)) c.write_declared.ensures.replies in
    subst R (sym same) here

pub returns-in-Infer-clause-read : goal.returns-in-Infer-clause-read
returns-in-Infer-clause-read g c = λ is. inr (inr (inr (inr (inr (c.in-Infer.program.now, c.in-Infer.ensures, c.write_declared.ensures.read is)))))

pub returns-in-Infer-clause-link : goal.returns-in-Infer-clause-link
returns-in-Infer-clause-link g c = ends_unlinked c.write_declared.result _ c.write_declared.ensures.ends

pub returns-in-Infer-clause-only_words : goal.returns-in-Infer-clause-only_words
returns-in-Infer-clause-only_words g c = λ is. absurd (end_no_words c.write_declared.result c.write_declared.ensures.ends is)

pub returns-in-Infer-clause-only_node : goal.returns-in-Infer-clause-only_node
returns-in-Infer-clause-only_node g c = λ is. absurd (end_no_link c.write_declared.result c.write_declared.ensures.ends is)

pub returns-in-Infer-clause-children : goal.returns-in-Infer-clause-children
returns-in-Infer-clause-children g c = no_child_cause _ c.write_declared.result (end_no_child c.write_declared.result c.write_declared.ensures.ends)

pub returns-in-Infer-clause-only_launch : goal.returns-in-Infer-clause-only_launch
returns-in-Infer-clause-only_launch g c = λ is. absurd (end_no_child c.write_declared.result c.write_declared.ensures.ends is)

-- which ask for nothing else

pub returns-in-Infer-clause-replies : goal.returns-in-Infer-clause-replies
returns-in-Infer-clause-replies g c = λ p q words. absurd (infer_no_replay _ _ c.in-Infer.ensures p q words)

pub returns-in-Infer-clause-complete : goal.returns-in-Infer-clause-complete
returns-in-Infer-clause-complete g c = λ p q t s program events words. absurd (infer_no_replay _ _ c.in-Infer.ensures p q words)

pub returns-in-Infer-clause-begun : goal.returns-in-Infer-clause-begun
returns-in-Infer-clause-begun g c = λ p q words. absurd (infer_no_replay _ _ c.in-Infer.ensures p q words)

pub returns-in-Infer-clause-answers : goal.returns-in-Infer-clause-answers
returns-in-Infer-clause-answers g c = λ task p words. absurd (infer_no_task _ _ c.in-Infer.ensures task p words)

pub returns-in-Infer-clause-executed : goal.returns-in-Infer-clause-executed
returns-in-Infer-clause-executed g c = λ task p t program words. absurd (infer_no_task _ _ c.in-Infer.ensures task p words)

pub returns-in-Infer-clause-begun_task : goal.returns-in-Infer-clause-begun_task
returns-in-Infer-clause-begun_task g c = λ task p words. absurd (infer_no_task _ _ c.in-Infer.ensures task p words)

pub returns-in-Infer-clause-node : goal.returns-in-Infer-clause-node
returns-in-Infer-clause-node g c = λ p setting words. absurd (infer_no_node _ _ c.in-Infer.ensures p setting words)

pub returns-in-Infer-clause-node_link : goal.returns-in-Infer-clause-node_link
returns-in-Infer-clause-node_link g c = λ p setting words. absurd (infer_no_node _ _ c.in-Infer.ensures p setting words)

pub returns-in-Infer-clause-node_stopped : goal.returns-in-Infer-clause-node_stopped
returns-in-Infer-clause-node_stopped g c = λ p setting words. absurd (infer_no_node _ _ c.in-Infer.ensures p setting words)

pub returns-in-Infer-clause-node_packets : goal.returns-in-Infer-clause-node_packets
returns-in-Infer-clause-node_packets g c = λ p setting words. absurd (infer_no_node _ _ c.in-Infer.ensures p setting words)

pub returns-in-Infer-clause-binds : goal.returns-in-Infer-clause-binds
returns-in-Infer-clause-binds g c = λ p setting words. absurd (infer_no_node _ _ c.in-Infer.ensures p setting words)

pub returns-in-Infer-clause-served : goal.returns-in-Infer-clause-served
returns-in-Infer-clause-served g c = λ p t program setting words. absurd (infer_no_node _ _ c.in-Infer.ensures p setting words)

pub returns-in-Infer-clause-launch : goal.returns-in-Infer-clause-launch
returns-in-Infer-clause-launch g c = λ p setting words. absurd (infer_no_launch _ _ c.in-Infer.ensures p setting words)

pub returns-in-Infer-clause-launch_stopped : goal.returns-in-Infer-clause-launch_stopped
returns-in-Infer-clause-launch_stopped g c = λ p setting words. absurd (infer_no_launch _ _ c.in-Infer.ensures p setting words)

pub returns-in-Infer-clause-launched : goal.returns-in-Infer-clause-launched
returns-in-Infer-clause-launched g c = λ p t program setting words. absurd (infer_no_launch _ _ c.in-Infer.ensures p setting words)

pub returns-in-Infer-clause-joins : goal.returns-in-Infer-clause-joins
returns-in-Infer-clause-joins g c = λ p traces words. absurd (infer_no_join _ _ c.in-Infer.ensures p traces words)

pub returns-in-Infer-clause-begun_join : goal.returns-in-Infer-clause-begun_join
returns-in-Infer-clause-begun_join g c = λ p traces words. absurd (infer_no_join _ _ c.in-Infer.ensures p traces words)

pub returns-in-Infer-clause-joined : goal.returns-in-Infer-clause-joined
returns-in-Infer-clause-joined g c = λ p traces words. absurd (infer_no_join _ _ c.in-Infer.ensures p traces words)

pub returns-in-Infer-clause-words : goal.returns-in-Infer-clause-words
returns-in-Infer-clause-words g c = λ other. absurd (other.5 _ c.in-Infer.ensures)

pub returns-in-Infer-clause-begun_words : goal.returns-in-Infer-clause-begun_words
returns-in-Infer-clause-begun_words g c = λ other. absurd (other.5 _ c.in-Infer.ensures)

-- A NODE

pub returns-in-Node-clause-node : goal.returns-in-Node-clause-node
returns-in-Node-clause-node g c = λ p setting words answer.
    let P : List ℕ → NodeSetting → Type 0 = λ x s. OfTold (g.F.Files.told c.args.files.now x) (λ t. (kind : ChannelKind) → HasKind t kind → HasAnswered t s c.run_node.result (told_over g.L.Link.told kind c.args.link.now) (told_over g.L.Link.told kind c.run_node.new.link) (g.K.Sink.taken c.args.out.now) (g.K.Sink.taken c.run_node.new.out)) in
    at_node P p _ setting _ (same_node _ _ _ _ _ c.in-Node.ensures words) (node_answered c.in-Node.setting (λ kind. told_over g.L.Link.told kind c.args.link.now) (λ kind. told_over g.L.Link.told kind c.run_node.new.link) _ _ _ c.run_node.result c.run_node.ensures.served answer)

pub returns-in-Node-clause-node_link : goal.returns-in-Node-clause-node_link
returns-in-Node-clause-node_link g c = λ p setting words is.
    let P : List ℕ → NodeSetting → Type 0 = λ x s. OfTold (g.F.Files.told c.args.files.now x) (λ t. (kind : ChannelKind) → HasKind t kind → LinkFailed t s (told_over g.L.Link.told kind c.args.link.now) (told_over g.L.Link.told kind c.run_node.new.link) (g.K.Sink.taken c.args.out.now) (g.K.Sink.taken c.run_node.new.out)) in
    at_node P p _ setting _ (same_node _ _ _ _ _ c.in-Node.ensures words) (node_link_failed c.in-Node.setting (λ kind. told_over g.L.Link.told kind c.args.link.now) (λ kind. told_over g.L.Link.told kind c.run_node.new.link) _ _ _ c.run_node.result c.run_node.ensures.served is)

pub returns-in-Node-clause-node_stopped : goal.returns-in-Node-clause-node_stopped
returns-in-Node-clause-node_stopped g c = λ p setting words never unlinked.
    let P : List ℕ → NodeSetting → Type 0 = λ x s. OfTold (g.F.Files.told c.args.files.now x) (λ t. (kind : ChannelKind) → HasKind t kind → HasStopped t s c.run_node.result (told_over g.L.Link.told kind c.args.link.now) (told_over g.L.Link.told kind c.run_node.new.link) (g.K.Sink.taken c.args.out.now) (g.K.Sink.taken c.run_node.new.out)) in
    at_node P p _ setting _ (same_node _ _ _ _ _ c.in-Node.ensures words) (node_has_stopped c.in-Node.setting (λ kind. told_over g.L.Link.told kind c.args.link.now) (λ kind. told_over g.L.Link.told kind c.run_node.new.link) _ _ _ c.run_node.result c.run_node.ensures.served never unlinked)

pub returns-in-Node-clause-node_packets : goal.returns-in-Node-clause-node_packets
returns-in-Node-clause-node_packets g c = λ p setting words.
    let P : List ℕ → NodeSetting → Type 0 = λ x s. OfTold (g.F.Files.told c.args.files.now x) (λ t. (kind : ChannelKind) → HasKind t kind → GivesPackets s.me (told_over g.L.Link.told kind c.args.link.now) (told_over g.L.Link.told kind c.run_node.new.link)) in
    at_node P p _ setting _ (same_node _ _ _ _ _ c.in-Node.ensures words) c.run_node.ensures.packets

pub returns-in-Node-clause-binds : goal.returns-in-Node-clause-binds
returns-in-Node-clause-binds g c = λ p setting words.
    let P : List ℕ → NodeSetting → Type 0 = λ x s. OfTold (g.F.Files.told c.args.files.now x) (λ t. BindsOnce t s (g.L.Link.told (inner_of c.args.link.now)) (g.L.Link.told (inner_of c.run_node.new.link))) in
    at_node P p _ setting _ (same_node _ _ _ _ _ c.in-Node.ensures words) c.run_node.ensures.binds

pub returns-in-Node-clause-served : goal.returns-in-Node-clause-served
returns-in-Node-clause-served g c = λ p t program setting words told accepts quiet quiet_out quiet_link.
    let same = same_node _ _ _ _ _ c.in-Node.ensures words in
    let here : g.F.Files.told c.args.files.now c.in-Node.program.now ≡ Some t = subst (λ n. g.F.Files.told c.args.files.now n ≡ Some t) same.0 told in
    let quiet_here : Rose (g.F.Files.faults c.args.files.now c.in-Node.program.now) (g.F.Files.faults c.run_node.new.files c.in-Node.program.now) → ⊥ =
    subst (λ n. Rose (g.F.Files.faults c.args.files.now n) (g.F.Files.faults c.run_node.new.files n) → ⊥) same.0 quiet in
    subst (λ s. IsServed t s c.run_node.result (told_over g.L.Link.told program.kind c.args.link.now) (told_over g.L.Link.told program.kind c.run_node.new.link) (g.K.Sink.taken c.args.out.now) (g.K.Sink.taken c.run_node.new.out)) (sym same.1)
    (node_served c.in-Node.setting (λ kind. told_over g.L.Link.told kind c.args.link.now) (λ kind. told_over g.L.Link.told kind c.run_node.new.link) _ _ _ c.run_node.result c.run_node.ensures.served t program here accepts (λ failed. quiet_here (c.run_node.ensures.read failed))
    (λ failed. quiet_out (c.run_node.ensures.write.failed failed)) (λ failed. quiet_link (c.run_node.ensures.link.failed failed)))

pub returns-in-Node-clause-unlinked : goal.returns-in-Node-clause-unlinked
returns-in-Node-clause-unlinked g c = λ never. absurd (never _ _ c.in-Node.ensures)

pub returns-in-Node-clause-words : goal.returns-in-Node-clause-words
returns-in-Node-clause-words g c = λ other. absurd (other.2 _ _ c.in-Node.ensures)

pub returns-in-Node-clause-begun_words : goal.returns-in-Node-clause-begun_words
returns-in-Node-clause-begun_words g c = λ other. absurd (other.2 _ _ c.in-Node.ensures)

pub returns-in-Node-clause-only_words : goal.returns-in-Node-clause-only_words
returns-in-Node-clause-only_words g c = λ is. absurd (c.run_node.ensures.words is)

pub returns-in-Node-clause-children : goal.returns-in-Node-clause-children
returns-in-Node-clause-children g c = no_child_cause _ c.run_node.result c.run_node.ensures.childless

pub returns-in-Node-clause-only_launch : goal.returns-in-Node-clause-only_launch
returns-in-Node-clause-only_launch g c = λ is. absurd (c.run_node.ensures.childless is)

pub returns-in-Node-clause-joins : goal.returns-in-Node-clause-joins
returns-in-Node-clause-joins g c = λ p traces words. absurd (join_no_node _ _ _ words _ _ c.in-Node.ensures)

pub returns-in-Node-clause-begun_join : goal.returns-in-Node-clause-begun_join
returns-in-Node-clause-begun_join g c = λ p traces words. absurd (join_no_node _ _ _ words _ _ c.in-Node.ensures)

pub returns-in-Node-clause-joined : goal.returns-in-Node-clause-joined
returns-in-Node-clause-joined g c = λ p traces words. absurd (join_no_node _ _ _ words _ _ c.in-Node.ensures)

pub returns-in-Node-clause-infers : goal.returns-in-Node-clause-infers
returns-in-Node-clause-infers g c = λ p words. absurd (infer_no_node _ _ words _ _ c.in-Node.ensures)

pub returns-in-Node-clause-begun_infer : goal.returns-in-Node-clause-begun_infer
returns-in-Node-clause-begun_infer g c = λ p words. absurd (infer_no_node _ _ words _ _ c.in-Node.ensures)

pub returns-in-Node-clause-inferred : goal.returns-in-Node-clause-inferred
returns-in-Node-clause-inferred g c = λ p words. absurd (infer_no_node _ _ words _ _ c.in-Node.ensures)

-- A LAUNCH

pub returns-in-Launch-clause-launch : goal.returns-in-Launch-clause-launch
returns-in-Launch-clause-launch g c = λ p setting words answer.
    let P : List ℕ → LaunchSetting → Type 0 = λ x s. OfTold (g.F.Files.told c.args.files.now x) (λ t. HasLaunched t x s c.launch.result (g.S.Spawner.told c.args.children.now) (g.S.Spawner.told c.launch.new.children) (g.K.Sink.taken c.args.out.now) (g.K.Sink.taken c.launch.new.out)) in
    at_launch P p _ setting _ (same_launch _ _ _ _ _ c.in-Launch.ensures words) (launch_answered _ _ _ _ _ _ _ c.launch.result c.launch.ensures.launched answer)

pub returns-in-Launch-clause-launch_stopped : goal.returns-in-Launch-clause-launch_stopped
returns-in-Launch-clause-launch_stopped g c = λ p setting words never.
    let P : List ℕ → LaunchSetting → Type 0 = λ x s. OfTold (g.F.Files.told c.args.files.now x) (λ t. LaunchStopped t x s c.launch.result (g.S.Spawner.told c.args.children.now) (g.S.Spawner.told c.launch.new.children) (g.K.Sink.taken c.args.out.now) (g.K.Sink.taken c.launch.new.out)) in
    at_launch P p _ setting _ (same_launch _ _ _ _ _ c.in-Launch.ensures words) (launch_has_stopped _ _ _ _ _ _ _ c.launch.result c.launch.ensures.launched never)

pub returns-in-Launch-clause-launched : goal.returns-in-Launch-clause-launched
returns-in-Launch-clause-launched g c = λ p t program setting words told accepts quiet quiet_out quiet_children.
    let same = same_launch _ _ _ _ _ c.in-Launch.ensures words in
    let here : g.F.Files.told c.args.files.now c.in-Launch.program.now ≡ Some t = subst (λ n. g.F.Files.told c.args.files.now n ≡ Some t) same.0 told in
    let quiet_here : Rose (g.F.Files.faults c.args.files.now c.in-Launch.program.now) (g.F.Files.faults c.launch.new.files c.in-Launch.program.now) → ⊥ =
    subst (λ n. Rose (g.F.Files.faults c.args.files.now n) (g.F.Files.faults c.launch.new.files n) → ⊥) same.0 quiet in
    let P : List ℕ → LaunchSetting → Type 0 = λ x s. IsLaunched t x s c.launch.result (g.S.Spawner.told c.args.children.now) (g.S.Spawner.told c.launch.new.children) (g.K.Sink.taken c.args.out.now) (g.K.Sink.taken c.launch.new.out) in
    at_launch P p _ setting _ same (launch_quiet _ _ _ _ _ _ _ c.launch.result c.launch.ensures.launched t here (λ failed. quiet_here (c.launch.ensures.read failed)) (λ failed. quiet_out (c.launch.ensures.write.failed failed)))

pub returns-in-Launch-clause-unlaunched : goal.returns-in-Launch-clause-unlaunched
returns-in-Launch-clause-unlaunched g c = λ never. absurd (never _ _ c.in-Launch.ensures)

pub returns-in-Launch-clause-words : goal.returns-in-Launch-clause-words
returns-in-Launch-clause-words g c = λ other. absurd (other.3 _ _ c.in-Launch.ensures)

pub returns-in-Launch-clause-begun_words : goal.returns-in-Launch-clause-begun_words
returns-in-Launch-clause-begun_words g c = λ other. absurd (other.3 _ _ c.in-Launch.ensures)

pub returns-in-Launch-clause-only_words : goal.returns-in-Launch-clause-only_words
returns-in-Launch-clause-only_words g c = λ is. absurd (c.launch.ensures.words is)

pub returns-in-Launch-clause-link : goal.returns-in-Launch-clause-link
returns-in-Launch-clause-link g c = no_cause _ c.launch.ensures.link

pub returns-in-Launch-clause-only_node : goal.returns-in-Launch-clause-only_node
returns-in-Launch-clause-only_node g c = λ is. absurd (c.launch.ensures.link is)

pub returns-in-Launch-clause-joins : goal.returns-in-Launch-clause-joins
returns-in-Launch-clause-joins g c = λ p traces words. absurd (join_no_launch _ _ _ words _ _ c.in-Launch.ensures)

pub returns-in-Launch-clause-begun_join : goal.returns-in-Launch-clause-begun_join
returns-in-Launch-clause-begun_join g c = λ p traces words. absurd (join_no_launch _ _ _ words _ _ c.in-Launch.ensures)

pub returns-in-Launch-clause-joined : goal.returns-in-Launch-clause-joined
returns-in-Launch-clause-joined g c = λ p traces words. absurd (join_no_launch _ _ _ words _ _ c.in-Launch.ensures)

pub returns-in-Launch-clause-infers : goal.returns-in-Launch-clause-infers
returns-in-Launch-clause-infers g c = λ p words. absurd (infer_no_launch _ _ words _ _ c.in-Launch.ensures)

pub returns-in-Launch-clause-begun_infer : goal.returns-in-Launch-clause-begun_infer
returns-in-Launch-clause-begun_infer g c = λ p words. absurd (infer_no_launch _ _ words _ _ c.in-Launch.ensures)

pub returns-in-Launch-clause-inferred : goal.returns-in-Launch-clause-inferred
returns-in-Launch-clause-inferred g c = λ p words. absurd (infer_no_launch _ _ words _ _ c.in-Launch.ensures)

-- A JOIN

pub returns-in-Join-clause-joins : goal.returns-in-Join-clause-joins
returns-in-Join-clause-joins g c = λ p traces words answer.
    let R : List ℕ → List (List ℕ) → Type 0 = λ x xs. OfTold (g.F.Files.told c.args.files.now x) (λ t. OfAllTold (map (g.F.Files.told c.args.files.now) xs)
    (λ texts. Gains (JoinReply t texts) c.join.result (g.K.Sink.taken c.args.out.now) (g.K.Sink.taken c.join.new.out))) in
    at_join R p c.in-Join.program.now traces (map string_bytes c.in-Join.traces.now) (same_join _ _ _ c.in-Join.ensures p traces words)
    (subst (λ os. OfTold (g.F.Files.told c.args.files.now c.in-Join.program.now) (λ t. OfAllTold os (λ texts. Gains (JoinReply t texts) c.join.result (g.K.Sink.taken c.args.out.now) (g.K.Sink.taken c.join.new.out))))
    (told_names (g.F.Files.told c.args.files.now) c.in-Join.traces.now) (join_whole (g.F.Files.told c.args.files.now c.in-Join.program.now) (map (λ name. g.F.Files.told c.args.files.now (string_bytes name)) c.in-Join.traces.now) c.join.result (g.K.Sink.taken c.args.out.now) (g.K.Sink.taken c.join.new.out) c.join.ensures.replies answer))

pub returns-in-Join-clause-begun_join : goal.returns-in-Join-clause-begun_join
returns-in-Join-clause-begun_join g c = λ p traces words never.
    let R : List ℕ → List (List ℕ) → Type 0 = λ x xs. OfTold (g.F.Files.told c.args.files.now x) (λ t. OfAllTold (map (g.F.Files.told c.args.files.now) xs)
    (λ texts. Begins (JoinReply t texts) (g.K.Sink.taken c.args.out.now) (g.K.Sink.taken c.join.new.out))) in
    at_join R p c.in-Join.program.now traces (map string_bytes c.in-Join.traces.now) (same_join _ _ _ c.in-Join.ensures p traces words)
    (subst (λ os. OfTold (g.F.Files.told c.args.files.now c.in-Join.program.now) (λ t. OfAllTold os (λ texts. Begins (JoinReply t texts) (g.K.Sink.taken c.args.out.now) (g.K.Sink.taken c.join.new.out))))
    (told_names (g.F.Files.told c.args.files.now) c.in-Join.traces.now) (join_begun (g.F.Files.told c.args.files.now c.in-Join.program.now) (map (λ name. g.F.Files.told c.args.files.now (string_bytes name)) c.in-Join.traces.now) c.join.result (g.K.Sink.taken c.args.out.now) (g.K.Sink.taken c.join.new.out) c.join.ensures.replies never))

pub returns-in-Join-clause-joined : goal.returns-in-Join-clause-joined
returns-in-Join-clause-joined g c = λ p traces words quiet quiet_traces quiet_out.
    let same = same_join _ _ _ c.in-Join.ensures p traces words in
    let R : List ℕ → List (List ℕ) → Type 0 = λ x xs. IsJoined (g.F.Files.told c.args.files.now x) (map (g.F.Files.told c.args.files.now) xs) c.join.result (g.K.Sink.taken c.args.out.now) (g.K.Sink.taken c.join.new.out) in
    let quiet_here : Rose (g.F.Files.faults c.args.files.now c.in-Join.program.now) (g.F.Files.faults c.join.new.files c.in-Join.program.now) → ⊥ =
    subst (λ n. Rose (g.F.Files.faults c.args.files.now n) (g.F.Files.faults c.join.new.files n) → ⊥) same.0 quiet in
    let quiet_there : (x : List ℕ) → Has (map string_bytes c.in-Join.traces.now) x → Rose (g.F.Files.faults c.args.files.now x) (g.F.Files.faults c.join.new.files x) → ⊥ =
    subst (λ xs. (x : List ℕ) → Has xs x → Rose (g.F.Files.faults c.args.files.now x) (g.F.Files.faults c.join.new.files x) → ⊥) same.1 quiet_traces in
    at_join R p c.in-Join.program.now traces (map string_bytes c.in-Join.traces.now) same
    (subst (λ os. IsJoined (g.F.Files.told c.args.files.now c.in-Join.program.now) os c.join.result (g.K.Sink.taken c.args.out.now) (g.K.Sink.taken c.join.new.out))
    (told_names (g.F.Files.told c.args.files.now) c.in-Join.traces.now)
    (is_joined (g.F.Files.told c.args.files.now c.in-Join.program.now) (map (λ name. g.F.Files.told c.args.files.now (string_bytes name)) c.in-Join.traces.now) c.join.result (g.K.Sink.taken c.args.out.now) (g.K.Sink.taken c.join.new.out) c.join.ensures.ends (λ failed. not_read_join (g.F.Files.told c.args.files.now c.in-Join.program.now) (g.F.Files.faults c.args.files.now) (g.F.Files.faults c.join.new.files) c.in-Join.program.now (map string_bytes c.in-Join.traces.now) (c.join.ensures.read failed) quiet_here quiet_there) (λ failed. quiet_out (c.join.ensures.write.failed failed)) c.join.ensures.replies))

pub returns-in-Join-clause-read : goal.returns-in-Join-clause-read
returns-in-Join-clause-read g c = λ is. inr (inr (inr (inr (inl (c.in-Join.program.now, map string_bytes c.in-Join.traces.now, c.in-Join.ensures, c.join.ensures.read is)))))

pub returns-in-Join-clause-link : goal.returns-in-Join-clause-link
returns-in-Join-clause-link g c = ends_unlinked c.join.result _ c.join.ensures.ends

pub returns-in-Join-clause-only_words : goal.returns-in-Join-clause-only_words
returns-in-Join-clause-only_words g c = λ is. absurd (end_no_words c.join.result c.join.ensures.ends is)

pub returns-in-Join-clause-only_node : goal.returns-in-Join-clause-only_node
returns-in-Join-clause-only_node g c = λ is. absurd (end_no_link c.join.result c.join.ensures.ends is)

pub returns-in-Join-clause-children : goal.returns-in-Join-clause-children
returns-in-Join-clause-children g c = no_child_cause _ c.join.result (end_no_child c.join.result c.join.ensures.ends)

pub returns-in-Join-clause-only_launch : goal.returns-in-Join-clause-only_launch
returns-in-Join-clause-only_launch g c = λ is. absurd (end_no_child c.join.result c.join.ensures.ends is)

-- which asks for nothing else

pub returns-in-Join-clause-replies : goal.returns-in-Join-clause-replies
returns-in-Join-clause-replies g c = λ p q words. absurd (join_no_replay _ _ _ c.in-Join.ensures p q words)

pub returns-in-Join-clause-complete : goal.returns-in-Join-clause-complete
returns-in-Join-clause-complete g c = λ p q t s program events words. absurd (join_no_replay _ _ _ c.in-Join.ensures p q words)

pub returns-in-Join-clause-begun : goal.returns-in-Join-clause-begun
returns-in-Join-clause-begun g c = λ p q words. absurd (join_no_replay _ _ _ c.in-Join.ensures p q words)

pub returns-in-Join-clause-answers : goal.returns-in-Join-clause-answers
returns-in-Join-clause-answers g c = λ task p words. absurd (join_no_task _ _ _ c.in-Join.ensures task p words)

pub returns-in-Join-clause-executed : goal.returns-in-Join-clause-executed
returns-in-Join-clause-executed g c = λ task p t program words. absurd (join_no_task _ _ _ c.in-Join.ensures task p words)

pub returns-in-Join-clause-begun_task : goal.returns-in-Join-clause-begun_task
returns-in-Join-clause-begun_task g c = λ task p words. absurd (join_no_task _ _ _ c.in-Join.ensures task p words)

pub returns-in-Join-clause-node : goal.returns-in-Join-clause-node
returns-in-Join-clause-node g c = λ p setting words. absurd (join_no_node _ _ _ c.in-Join.ensures p setting words)

pub returns-in-Join-clause-node_link : goal.returns-in-Join-clause-node_link
returns-in-Join-clause-node_link g c = λ p setting words. absurd (join_no_node _ _ _ c.in-Join.ensures p setting words)

pub returns-in-Join-clause-node_stopped : goal.returns-in-Join-clause-node_stopped
returns-in-Join-clause-node_stopped g c = λ p setting words. absurd (join_no_node _ _ _ c.in-Join.ensures p setting words)

pub returns-in-Join-clause-node_packets : goal.returns-in-Join-clause-node_packets
returns-in-Join-clause-node_packets g c = λ p setting words. absurd (join_no_node _ _ _ c.in-Join.ensures p setting words)

pub returns-in-Join-clause-binds : goal.returns-in-Join-clause-binds
returns-in-Join-clause-binds g c = λ p setting words. absurd (join_no_node _ _ _ c.in-Join.ensures p setting words)

pub returns-in-Join-clause-served : goal.returns-in-Join-clause-served
returns-in-Join-clause-served g c = λ p t program setting words. absurd (join_no_node _ _ _ c.in-Join.ensures p setting words)

pub returns-in-Join-clause-launch : goal.returns-in-Join-clause-launch
returns-in-Join-clause-launch g c = λ p setting words. absurd (join_no_launch _ _ _ c.in-Join.ensures p setting words)

pub returns-in-Join-clause-launch_stopped : goal.returns-in-Join-clause-launch_stopped
returns-in-Join-clause-launch_stopped g c = λ p setting words. absurd (join_no_launch _ _ _ c.in-Join.ensures p setting words)

pub returns-in-Join-clause-launched : goal.returns-in-Join-clause-launched
returns-in-Join-clause-launched g c = λ p t program setting words. absurd (join_no_launch _ _ _ c.in-Join.ensures p setting words)

pub returns-in-Join-clause-words : goal.returns-in-Join-clause-words
returns-in-Join-clause-words g c = λ other. absurd (other.4 _ _ c.in-Join.ensures)

pub returns-in-Join-clause-begun_words : goal.returns-in-Join-clause-begun_words
returns-in-Join-clause-begun_words g c = λ other. absurd (other.4 _ _ c.in-Join.ensures)

pub returns-in-Join-clause-infers : goal.returns-in-Join-clause-infers
returns-in-Join-clause-infers g c = λ p words. absurd (join_no_infer _ _ _ c.in-Join.ensures _ words)

pub returns-in-Join-clause-begun_infer : goal.returns-in-Join-clause-begun_infer
returns-in-Join-clause-begun_infer g c = λ p words. absurd (join_no_infer _ _ _ c.in-Join.ensures _ words)

pub returns-in-Join-clause-inferred : goal.returns-in-Join-clause-inferred
returns-in-Join-clause-inferred g c = λ p words. absurd (join_no_infer _ _ _ c.in-Join.ensures _ words)

-- OTHER WORDS

pub returns-in-Other-clause-words : goal.returns-in-Other-clause-words
returns-in-Other-clause-words g c = λ other answer. said_whole _ _ c.say.result _ _ c.say.ensures.said answer

pub returns-in-Other-clause-begun_words : goal.returns-in-Other-clause-begun_words
returns-in-Other-clause-begun_words g c = λ other never. said_front _ _ c.say.result _ _ c.say.ensures.said

pub returns-in-Other-clause-node : goal.returns-in-Other-clause-node
returns-in-Other-clause-node g c = λ p setting words. absurd (c.in-Other.ensures.2 p setting words)

pub returns-in-Other-clause-node_stopped : goal.returns-in-Other-clause-node_stopped
returns-in-Other-clause-node_stopped g c = λ p setting words. absurd (c.in-Other.ensures.2 p setting words)

pub returns-in-Other-clause-served : goal.returns-in-Other-clause-served
returns-in-Other-clause-served g c = λ p t program setting words. absurd (c.in-Other.ensures.2 p setting words)

pub returns-in-Other-clause-read : goal.returns-in-Other-clause-read
returns-in-Other-clause-read g c = λ is. absurd (said_unread _ _ c.say.result _ _ tt c.say.ensures.said is)

pub returns-in-Other-clause-unread : goal.returns-in-Other-clause-unread
returns-in-Other-clause-unread g c = λ is. absurd (said_unread _ _ c.say.result _ _ tt c.say.ensures.said is)

pub returns-in-Other-clause-link : goal.returns-in-Other-clause-link
returns-in-Other-clause-link g c = no_cause _ (said_unlinked _ _ c.say.result _ _ tt c.say.ensures.said)

pub returns-in-Other-clause-only_node : goal.returns-in-Other-clause-only_node
returns-in-Other-clause-only_node g c = λ is. absurd (said_unlinked _ _ c.say.result _ _ tt c.say.ensures.said is)

pub returns-in-Other-clause-launch : goal.returns-in-Other-clause-launch
returns-in-Other-clause-launch g c = λ p setting words. absurd (c.in-Other.ensures.3 p setting words)

pub returns-in-Other-clause-launch_stopped : goal.returns-in-Other-clause-launch_stopped
returns-in-Other-clause-launch_stopped g c = λ p setting words. absurd (c.in-Other.ensures.3 p setting words)

pub returns-in-Other-clause-launched : goal.returns-in-Other-clause-launched
returns-in-Other-clause-launched g c = λ p t program setting words. absurd (c.in-Other.ensures.3 p setting words)

pub returns-in-Other-clause-children : goal.returns-in-Other-clause-children
returns-in-Other-clause-children g c = no_child_cause _ c.say.result (said_childless _ _ c.say.result _ _ tt c.say.ensures.said)

pub returns-in-Other-clause-only_launch : goal.returns-in-Other-clause-only_launch
returns-in-Other-clause-only_launch g c = λ is. absurd (said_childless _ _ c.say.result _ _ tt c.say.ensures.said is)

pub returns-in-Other-clause-joins : goal.returns-in-Other-clause-joins
returns-in-Other-clause-joins g c = λ p traces words. absurd (c.in-Other.ensures.4 p traces words)

pub returns-in-Other-clause-begun_join : goal.returns-in-Other-clause-begun_join
returns-in-Other-clause-begun_join g c = λ p traces words. absurd (c.in-Other.ensures.4 p traces words)

pub returns-in-Other-clause-joined : goal.returns-in-Other-clause-joined
returns-in-Other-clause-joined g c = λ p traces words. absurd (c.in-Other.ensures.4 p traces words)

pub returns-in-Other-clause-infers : goal.returns-in-Other-clause-infers
returns-in-Other-clause-infers g c = λ p words. absurd (c.in-Other.ensures.5 p words)

pub returns-in-Other-clause-begun_infer : goal.returns-in-Other-clause-begun_infer
returns-in-Other-clause-begun_infer g c = λ p words. absurd (c.in-Other.ensures.5 p words)

pub returns-in-Other-clause-inferred : goal.returns-in-Other-clause-inferred
returns-in-Other-clause-inferred g c = λ p words. absurd (c.in-Other.ensures.5 p words)
