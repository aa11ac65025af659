-- What words ask for.
use Rattle.std.proofs.Common.{◌≡◌, sym, ◌∙◌, ap, ℕ, List, [], ◌∷◌, codes, decimal, get_or, arith}
use Rattle.da_commands.specs.declared.words.Command.{Command}
use Rattle.da_commands.specs.declared.words.Command.TheVariants.{Replay, Carry, Infer, Node, Launch, Join, Other}
use Rattle.da_commands.specs.declared.words.LaunchSetting.{LaunchSetting}
use Rattle.da_commands.specs.declared.words.NodeSetting.{NodeSetting}
use Rattle.da_commands.specs.declared.words.Task.{Task}
use Rattle.da_commands.specs.declared.words.Task.TheVariants.{Check, Plan, Stress}
use Rattle.da_commands.specs.InferReplies.{IsInfer}
use Rattle.da_commands.specs.JoinReplies.{IsJoin}
use Rattle.da_commands.specs.LaunchReplies.{IsLaunch}
use Rattle.da_commands.specs.NodeReplies.{IsNode}
use Rattle.da_commands.specs.Replies.{IsAsking, IsReplay}
use Rattle.da_commands.specs.Words.{IsAsked, IsAskedPlainly}

pub asked_plainly : (words : List (List ℕ)) (command : Command) → IsAskedPlainly words command → ((p : List ℕ) (traces : List (List ℕ)) → IsJoin words p traces → ⊥) → IsAsked words command
asked_plainly words (Replay names) asked none = asked
asked_plainly words (Carry task program) asked none = asked
asked_plainly words (Infer program) asked none = asked
asked_plainly words (Node setting program) asked none = asked
asked_plainly words (Launch setting program) asked none = asked
asked_plainly words (Join program traces) asked none = absurd asked
asked_plainly words Other asked none = (asked.0, asked.1, asked.2, asked.3, none, asked.4)

-- WORDS THAT ASK FOR A JOIN ask for nothing else

first_words : (a b : List ℕ) (xs ys : List (List ℕ)) → a ∷ xs ≡ b ∷ ys → a ≡ b
first_words a b xs ys same = cc

abbrev letter : List ℕ → ℕ
letter word = get_or word 0 0

module _ (words : List (List ℕ)) (a : List ℕ) (traces : List (List ℕ)) (join : IsJoin words a traces) where
  pub join_no_replay : (p q : List ℕ) → IsReplay words p q → ⊥
  join_no_replay p q other =
      let letters : 106 ≡ 114 = ap letter (first_words _ _ _ _ (sym join ∙ other)) in
      omega (arith, letters)

  pub join_no_task : (task : Task) (p : List ℕ) → IsAsking words task p → ⊥
  join_no_task Check p other = let letters : 106 ≡ 99 = ap letter (first_words _ _ _ _ (sym join ∙ other.0)) in omega (arith, letters)
  join_no_task Plan p other = let letters : 106 ≡ 112 = ap letter (first_words _ _ _ _ (sym join ∙ other.0)) in omega (arith, letters)
  join_no_task (Stress start most) p other = let letters : 106 ≡ 115 = ap letter (first_words _ _ _ _ (sym join ∙ other.0)) in omega (arith, letters)

  pub join_no_node : (p : List ℕ) (setting : NodeSetting) → IsNode words p setting → ⊥
  join_no_node p setting (port, me, idle, turns, is, spelled) = let letters : 106 ≡ 110 = ap letter (first_words _ _ _ _ (sym join ∙ is)) in omega (arith, letters)

  pub join_no_launch : (p : List ℕ) (setting : LaunchSetting) → IsLaunch words p setting → ⊥
  join_no_launch p setting (port, idle, turns, is, spelled) = let letters : 106 ≡ 108 = ap letter (first_words _ _ _ _ (sym join ∙ is)) in omega (arith, letters)

  pub join_no_infer : (p : List ℕ) → IsInfer words p → ⊥
  join_no_infer p other = let letters : 106 ≡ 105 = ap letter (first_words _ _ _ _ (sym join ∙ other)) in omega (arith, letters)

  -- the names are those of the words
  pub same_join : (p : List ℕ) (others : List (List ℕ)) → IsJoin words p others → (p ≡ a) × (others ≡ traces)
  same_join p others other =
      let both : codes "join" ∷ p ∷ others ≡ codes "join" ∷ a ∷ traces = sym other ∙ join in
      (cc, cc)

-- WORDS THAT ASK FOR DECLARATIONS ask for nothing else

module _ (words : List (List ℕ)) (a : List ℕ) (infer : IsInfer words a) where
  pub infer_no_replay : (p q : List ℕ) → IsReplay words p q → ⊥
  infer_no_replay p q other = let letters : 105 ≡ 114 = ap letter (first_words _ _ _ _ (sym infer ∙ other)) in omega (arith, letters)

  pub infer_no_task : (task : Task) (p : List ℕ) → IsAsking words task p → ⊥
  infer_no_task Check p other = let letters : 105 ≡ 99 = ap letter (first_words _ _ _ _ (sym infer ∙ other.0)) in omega (arith, letters)
  infer_no_task Plan p other = let letters : 105 ≡ 112 = ap letter (first_words _ _ _ _ (sym infer ∙ other.0)) in omega (arith, letters)
  infer_no_task (Stress start most) p other = let letters : 105 ≡ 115 = ap letter (first_words _ _ _ _ (sym infer ∙ other.0)) in omega (arith, letters)

  pub infer_no_node : (p : List ℕ) (setting : NodeSetting) → IsNode words p setting → ⊥
  infer_no_node p setting (port, me, idle, turns, is, spelled) = let letters : 105 ≡ 110 = ap letter (first_words _ _ _ _ (sym infer ∙ is)) in omega (arith, letters)

  pub infer_no_launch : (p : List ℕ) (setting : LaunchSetting) → IsLaunch words p setting → ⊥
  infer_no_launch p setting (port, idle, turns, is, spelled) = let letters : 105 ≡ 108 = ap letter (first_words _ _ _ _ (sym infer ∙ is)) in omega (arith, letters)

  pub infer_no_join : (p : List ℕ) (traces : List (List ℕ)) → IsJoin words p traces → ⊥
  infer_no_join p traces other = let letters : 105 ≡ 106 = ap letter (first_words _ _ _ _ (sym infer ∙ other)) in omega (arith, letters)

  -- the name is that of the words
  pub same_infer : (p : List ℕ) → IsInfer words p → p ≡ a
  same_infer p other = let both : codes "infer" ∷ p ∷ [] ≡ codes "infer" ∷ a ∷ [] = sym other ∙ infer in cc
