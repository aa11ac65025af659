-- Programs without declarations, and what they get.
use Rattle.std.specs.Prelude.{◌≡◌, refl, ℕ, pos, true, false, List, [], ◌∷◌, codes, Some, None}
use Rattle.da_lang.specs.declared.tree.ArithOp.TheVariants.{Plus}
use Rattle.da_lang.specs.declared.tree.ChainTree.{roll-ChainTree}
use Rattle.da_lang.specs.declared.tree.ClassTree.{ClassTree}
use Rattle.da_lang.specs.declared.tree.CmpOp.TheVariants.{Gt}
use Rattle.da_lang.specs.declared.tree.Expr.{Expr}
use Rattle.da_lang.specs.declared.tree.Expr.TheVariants as ex
use Rattle.da_lang.specs.declared.tree.Expr.TheViews.{out-roll-GenTree, out-roll-ChainTree}
use Rattle.da_lang.specs.declared.tree.GenTree.{roll-GenTree}
use Rattle.da_lang.specs.declared.tree.MainLine.{MainLine}
use Rattle.da_lang.specs.declared.tree.MainLine.TheVariants as main_line
use Rattle.da_lang.specs.declared.tree.Member.{Member}
use Rattle.da_lang.specs.declared.tree.Member.TheVariants as member
use Rattle.da_lang.specs.declared.tree.MessageDecl.{MessageDecl}
use Rattle.da_lang.specs.declared.tree.PatternTree.{PatternTree}
use Rattle.da_lang.specs.declared.tree.PatternTree.TheVariants as pattern
use Rattle.da_lang.specs.declared.tree.SourceTree.TheVariants as source
use Rattle.da_lang.specs.declared.tree.Stmt.{Stmt}
use Rattle.da_lang.specs.declared.tree.Stmt.TheVariants as stmt
use Rattle.da_lang.specs.declared.tree.Tree.{Tree}
use Rattle.da_lang.specs.declared.ty.ChannelKind.TheVariants as kind
use Rattle.da_lang.specs.declared.ty.Ty.{Ty}
use Rattle.da_lang.specs.declared.ty.Ty.TheVariants as t
use Rattle.da_values.specs.Words.{words}
use Rattle.added_names.specs.Changes.{added_variables, change, declares, member_changes}
use Rattle.added_names.specs.Filled.{Loose, after_param, class_filled, class_left, filled, filled_from, is_next, left_from, member_filled, member_left, message_lines, next_type, param_filled, param_left, type_filled, types_after_tags, types_after_variables, variable_lines}
use Rattle.added_names.specs.Firsts.{firsts}
use Rattle.added_names.specs.Names.{is_name, is_reserved}
use Rattle.added_names.specs.StmtTags.{added_tags, class_tags, handler_tags, main_tags, member_tags, send_tags, tree_tags}
use Rattle.added_names.specs.Tags.{in_history, tag_at}
use Rattle.added_names.proofs.ChangesAt as changes_at
use Rattle.added_names.proofs.StmtTagsAt as tags_at
use Rattle.added_names.proofs.TagsAt.{chain_tags_of, expr_rules, sent_lead_rules, gen_tags_of, lead_rules, pattern_rules, sent_rules, tag_rules}

ruleset finding = (expr_rules, pattern_rules, tag_rules, lead_rules, sent_lead_rules, sent_rules, gen_tags_of, chain_tags_of, tags_at.stmt_rules, tags_at.branch_of, changes_at.stmt_rules, changes_at.branch_of, out-roll-GenTree, out-roll-ChainTree)

-- words, and what stands for anything, are no tags
a_word : is_name (codes "int") ≡ false
unfolding is_name is_reserved words
a_word = refl

alone : is_name (codes "_") ≡ false
unfolding is_name is_reserved words
alone = refl

a_digit_first : is_name (codes "2nd") ≡ false
unfolding is_name is_reserved words
a_digit_first = refl

underscored : is_name (codes "_2nd") ≡ true
unfolding is_name is_reserved words
underscored = refl

-- class P on line 1 with these members, and the lines of `main`
abbrev program : List MessageDecl → List Member → List MainLine → Tree
program messages members lines = record {
  kind = kind.UnorderedUnreliable;
  messages = messages;
  classes = record { name = codes "P"; members = members; line = 1 } ∷ [];
  main = lines;
}

abbrev name : List ℕ → Expr
name bytes = ex.Name bytes

abbrev tagged : List ℕ → Expr → Expr
tagged tag x = ex.Tuple (ex.Text tag ∷ x ∷ [])

abbrev tagged_pattern : List ℕ → List ℕ → PatternTree
tagged_pattern tag bound = pattern.Tuple (pattern.Text tag ∷ pattern.Name bound ∷ [])

-- two processes that send each other a ping, with a type for the parameter
abbrev set_up : Ty → Member
set_up ty = member.Setup (record { name = codes "other"; ty = ty } ∷ []) (stmt.Assign (codes "peer") (name (codes "other")) 3 ∷ []) 2

abbrev runs : Member
runs = member.Run (stmt.Send (tagged (codes "ping") (ex.Int (pos 5))) (name (codes "peer")) 5
    ∷ stmt.AwaitOne (ex.Quant false (roll-GenTree (record { message = tagged_pattern (codes "pong") (codes "n"); peer = None; source = source.Received }) ∷ []) (Some (ex.Cmp Gt (name (codes "n")) (ex.Int (pos 5))))) 6
    ∷ stmt.Output (name (codes "n")) 7 ∷ []) 4

abbrev receives : Member
receives = member.Receive (tagged_pattern (codes "ping") (codes "k")) (Some (pattern.Name (codes "who"))) []
    (stmt.Send (tagged (codes "pong") (ex.Chain (name (codes "k")) (roll-ChainTree (record { op = Plus; operand = ex.Int (pos 1) }) ∷ []))) (name (codes "who")) 9 ∷ []) 8

abbrev mains : List MainLine
mains = main_line.New (codes "a") (codes "P") None 11 ∷ main_line.Setup (codes "a") (name (codes "a") ∷ []) 12 ∷ []

abbrev ping : Loose
ping = record { tree = program [] (set_up t.Int ∷ runs ∷ receives ∷ []) mains; untyped = record { class = 0; member = 0; param = 0 } ∷ [] }

ping_tags : added_tags ping.tree ≡ record { tag = codes "ping"; parts = 1; line = 5 } ∷ record { tag = codes "pong"; parts = 1; line = 6 } ∷ []
unfolding added_tags tree_tags class_tags member_tags main_tags handler_tags send_tags in_history firsts tag_at is_name is_reserved words
ping_tags = simp finding

abbrev message : List ℕ → ℕ → MessageDecl
message tag line = record { tag = tag; parts = t.Int ∷ []; line = line }

abbrev ping_class : List Member → ClassTree
ping_class members = record { name = codes "P"; members = members; line = 1 }

ping_variables : added_variables (ping_class (set_up t.Int ∷ runs ∷ receives ∷ [])) ≡ record { name = codes "peer"; line = 3 } ∷ []
unfolding added_variables member_changes declares firsts change
ping_variables = simp finding

-- with `int` for the parts of both tags, and `proc` for the variable and the parameter
ping_declared : filled ping (t.Int ∷ t.Int ∷ t.Proc ∷ t.Proc ∷ [])
    ≡ program (message (codes "ping") 5 ∷ message (codes "pong") 6 ∷ []) (member.Var (codes "peer") t.Proc 3 ∷ set_up t.Proc ∷ runs ∷ receives ∷ []) mains
unfolding filled filled_from left_from class_filled class_left member_filled member_left param_filled param_left type_filled after_param is_next next_type variable_lines types_after_variables message_lines types_after_tags
ping_declared = simp (ping_tags, ping_variables)

-- `x = 1` on line 3 and `x = true` on line 4 give one line, and so does `x.add(x)`
abbrev assigns : List Stmt → ClassTree
assigns stmts = ping_class (member.Run stmts 2 ∷ [])

once : added_variables (assigns (stmt.Assign (codes "x") (ex.Int (pos 1)) 3 ∷ stmt.Assign (codes "x") (ex.Truth true) 4 ∷ [])) ≡ record { name = codes "x"; line = 3 } ∷ []
unfolding added_variables member_changes declares firsts change
once = simp finding

added_to : added_variables (assigns (stmt.Add (codes "x") (name (codes "x")) 3 ∷ [])) ≡ record { name = codes "x"; line = 3 } ∷ []
unfolding added_variables member_changes declares firsts change
added_to = simp finding

-- `x = {}` on line 3
abbrev empty : List Stmt
empty = stmt.Assign (codes "x") (ex.SetOf []) 3 ∷ []

empty_variables : added_variables (assigns empty) ≡ record { name = codes "x"; line = 3 } ∷ []
unfolding added_variables member_changes declares firsts change
empty_variables = simp finding

empty_tags : added_tags (program [] (member.Run empty 2 ∷ []) []) ≡ []
unfolding added_tags tree_tags class_tags member_tags firsts
empty_tags = simp finding

empty_declared : filled (record { tree = program [] (member.Run empty 2 ∷ []) []; untyped = [] }) (t.Set t.Int ∷ []) ≡ program [] (member.Var (codes "x") (t.Set t.Int) 3 ∷ member.Run empty 2 ∷ []) []
unfolding filled filled_from left_from class_filled class_left member_filled member_left next_type variable_lines types_after_variables message_lines types_after_tags
empty_declared = simp (empty_tags, empty_variables)

-- a query over a set names no tag
over_a_set : added_tags (program [] (member.Run (stmt.AwaitOne (ex.Quant false (roll-GenTree (record { message = tagged_pattern (codes "pong") (codes "n"); peer = None; source = source.Name (codes "q") }) ∷ []) None) 3 ∷ []) 2 ∷ []) []) ≡ []
unfolding added_tags tree_tags class_tags member_tags firsts in_history
over_a_set = simp finding
