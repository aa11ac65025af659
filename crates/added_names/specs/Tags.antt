-- The tags in expressions and patterns, in the order of the text: a text that spells a name and is the first part of a
-- tuple, where the tuple is the pattern of messages.
use Rattle.std.specs.Prelude.{ℕ, List, [], ◌∷◌, ◌++◌, length, if◌then◌else◌, Option, Some, None, option_to_list, flat_map}
use Rattle.da_lang.specs.declared.tree.Expr.{Expr, out-Expr}
use Rattle.da_lang.specs.declared.tree.Expr.TheFolds.{fold-Expr, fold-PatternTree, fold-PeerTree, fold-ChainTree, fold-GenTree}
use Rattle.da_lang.specs.declared.tree.Expr.TheOpen.{Expr-F, PatternTree-F, PeerTree-F, ChainTree-F, GenTree-F}
use Rattle.da_lang.specs.declared.tree.ChainTree.{ChainTree}
use Rattle.da_lang.specs.declared.tree.GenTree.{GenTree}
use Rattle.da_lang.specs.declared.tree.PatternTree.{PatternTree}
use Rattle.da_lang.specs.declared.tree.PeerTree.{PeerTree}
use Rattle.da_lang.specs.declared.tree.SourceTree.{SourceTree}
use Rattle.da_lang.specs.declared.tree.SourceTree.TheVariants as source
use Rattle.added_names.specs.declared.added.AddedTag.{AddedTag}
use Rattle.added_names.specs.Names.{is_name}

abbrev pub Tags : Type 0
Tags = List AddedTag

abbrev pub all : List Tags → Tags
all parts = flat_map (λ tags. tags) parts

-- a text that so many parts follow
unfoldable pub tag_at : ℕ → List ℕ → ℕ → Tags
tag_at line text parts = if is_name text then record { tag = text; parts = parts; line = line } ∷ [] else []

unfoldable pub tag_if : ℕ → Option (List ℕ) → ℕ → Tags
tag_if line None parts = []
tag_if line (Some text) parts = tag_at line text parts

-- A pattern: its text, where it is one; its tag, where it is a tuple; and the tags within it.
pub record Pattern : Type 0 where
  pub text : Option (List ℕ)
  pub tag : Tags
  pub within : Tags

abbrev pub leading : ℕ → List Pattern → Tags
leading line [] = []
leading line (p ∷ ps) = tag_if line p.text (length ps)

abbrev pub plain : Pattern
plain = record { text = None; tag = []; within = [] }

abbrev pub pattern_step : ℕ → PatternTree-F Tags Pattern Tags Tags Tags → Pattern
pattern_step line PatternTree-F.Wild = plain
pattern_step line (PatternTree-F.«PatternTree::Name» name) = plain
pattern_step line (PatternTree-F.«PatternTree::Int» number) = plain
pattern_step line (PatternTree-F.«PatternTree::Text» bytes) = record plain { text = Some bytes }
pattern_step line (PatternTree-F.«PatternTree::Truth» truth) = plain
pattern_step line PatternTree-F.«PatternTree::Me» = plain
pattern_step line (PatternTree-F.Equal x) = record plain { within = x }
pattern_step line (PatternTree-F.«PatternTree::Tuple» ps) = record { text = None; tag = leading line ps; within = flat_map (λ p. p.within) ps }

abbrev pub peer_step : PeerTree-F Tags Pattern Tags Tags Tags → Tags
peer_step (PeerTree-F.From p) = p.within
peer_step (PeerTree-F.To p) = p.within

abbrev pub chain_step : ChainTree-F Tags Pattern Tags Tags Tags → Tags
chain_step link = link.operand

-- the tag of a pattern over a history
unfoldable pub in_history : SourceTree → Tags → Tags
in_history source.Received tags = tags
in_history source.Sent tags = tags
in_history (source.Name name) tags = []

abbrev pub gen_step : GenTree-F Tags Pattern Tags Tags Tags → Tags
gen_step g = in_history g.source g.message.tag ++ g.message.within ++ all (option_to_list g.peer)

abbrev pub expr_step : Expr-F Tags Pattern Tags Tags Tags → Tags
expr_step (Expr-F.Quant each gens cond) = all gens ++ all (option_to_list cond)
expr_step (Expr-F.Or xs) = all xs
expr_step (Expr-F.And xs) = all xs
expr_step (Expr-F.Not x) = x
expr_step (Expr-F.Cmp op x y) = x ++ y
expr_step (Expr-F.Member x y) = x ++ y
expr_step (Expr-F.Chain x more) = x ++ all more
expr_step (Expr-F.«Expr::Int» number) = []
expr_step (Expr-F.«Expr::Text» bytes) = []
expr_step (Expr-F.«Expr::Truth» truth) = []
expr_step Expr-F.«Expr::Me» = []
expr_step (Expr-F.«Expr::Name» name) = []
expr_step Expr-F.Clock = []
expr_step (Expr-F.Range x y) = x ++ y
expr_step (Expr-F.«Expr::Tuple» xs) = all xs
expr_step (Expr-F.SetOf xs) = all xs
expr_step (Expr-F.Comp term gens cond) = term ++ all gens ++ all (option_to_list cond)
expr_step (Expr-F.Count x) = x
expr_step (Expr-F.Sum x) = x
expr_step (Expr-F.Min x other) = x ++ other
expr_step (Expr-F.Max x other) = x ++ other

-- the tags within an expression on this line
unfoldable pub tags_in : ℕ → Expr → Tags
tags_in line = fold-Expr Tags Pattern Tags Tags Tags expr_step (pattern_step line) peer_step chain_step gen_step

unfoldable pub pattern_at : ℕ → PatternTree → Pattern
pattern_at line = fold-PatternTree Tags Pattern Tags Tags Tags expr_step (pattern_step line) peer_step chain_step gen_step

unfoldable pub peer_tags : ℕ → PeerTree → Tags
peer_tags line = fold-PeerTree Tags Pattern Tags Tags Tags expr_step (pattern_step line) peer_step chain_step gen_step

unfoldable pub chain_tags : ℕ → ChainTree → Tags
chain_tags line = fold-ChainTree Tags Pattern Tags Tags Tags expr_step (pattern_step line) peer_step chain_step gen_step

unfoldable pub gen_tags : ℕ → GenTree → Tags
gen_tags line = fold-GenTree Tags Pattern Tags Tags Tags expr_step (pattern_step line) peer_step chain_step gen_step

-- the tag of a pattern of messages, and the tags within a pattern
unfoldable pub pattern_tag : ℕ → PatternTree → Tags
pattern_tag line p = (pattern_at line p).tag

unfoldable pub pattern_tags : ℕ → PatternTree → Tags
pattern_tags line p = (pattern_at line p).within

-- those of a condition and of the pattern of the other process, where there is one
unfoldable pub guard_tags : ℕ → Option Expr → Tags
guard_tags line None = []
guard_tags line (Some x) = tags_in line x

unfoldable pub sender_tags : ℕ → Option PatternTree → Tags
sender_tags line None = []
sender_tags line (Some p) = pattern_tags line p

unfoldable pub peer_if : ℕ → Option PeerTree → Tags
peer_if line None = []
peer_if line (Some p) = peer_tags line p

-- the tag of a tuple of patterns, and of one that begins with this pattern and has so many more
unfoldable pub leads : ℕ → List PatternTree → Tags
leads line [] = []
leads line (p ∷ ps) = tag_if line (pattern_at line p).text (length ps)

unfoldable pub lead : ℕ → PatternTree → ℕ → Tags
lead line p parts = tag_if line (pattern_at line p).text parts

-- the text of an expression, where it is one
abbrev pub text_in : Expr-F Expr PatternTree PeerTree ChainTree GenTree → Option (List ℕ)
text_in (Expr-F.«Expr::Text» bytes) = Some bytes
text_in _ = None

-- the tag of a tuple of expressions, and of one that begins with this expression and has so many more
unfoldable pub sent_lead : ℕ → Expr → ℕ → Tags
sent_lead line x parts = tag_if line (text_in (out-Expr x)) parts

unfoldable pub sent_leads : ℕ → List Expr → Tags
sent_leads line [] = []
sent_leads line (x ∷ xs) = sent_lead line x (length xs)

abbrev pub sent_in : ℕ → Expr-F Expr PatternTree PeerTree ChainTree GenTree → Tags
sent_in line (Expr-F.«Expr::Tuple» xs) = sent_leads line xs
sent_in line _ = []

-- the tag of a message that is sent
unfoldable pub sent_tag : ℕ → Expr → Tags
sent_tag line x = sent_in line (out-Expr x)
