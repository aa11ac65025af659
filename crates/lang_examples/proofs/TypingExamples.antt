-- The types of PING; statements and conditions that break a rule of types, and others that do not.
use Rattle.std.specs.Prelude.{◌≡◌, refl, ℕ, zero, suc, pos, true, false, List, [], ◌∷◌, codes, Some, None}
use Rattle.std.proofs.Common.{◌∙◌, ap}
use Rattle.da_values.specs.declared.value.Value.TheVariants as kept
use Rattle.da_lang.specs.declared.program.ItemKind.{ItemKind}
use Rattle.da_lang.specs.declared.program.ItemKind.TheVariants as it
use Rattle.da_lang.specs.declared.program.RExpr.TheVariants as re
use Rattle.da_lang.specs.declared.program.RExpr.TheVariants.{outs-Tuple as re_outs-Tuple, outs-Const as re_outs-Const, outs-Slot as re_outs-Slot}
use Rattle.da_lang.specs.declared.query.Pattern.TheVariants.{outs-Tuple as pa_outs-Tuple, outs-Const as pa_outs-Const, outs-Bind as pa_outs-Bind, outs-Any as pa_outs-Any}
use Rattle.da_lang.specs.declared.program.ChainPart.{roll-ChainPart}
use Rattle.da_lang.specs.declared.program.RExpr.{RExpr, out-RExpr}
use Rattle.da_lang.specs.declared.query.Agg.{roll-Agg}
use Rattle.da_lang.specs.declared.query.AggOp.TheVariants as agg
use Rattle.da_lang.specs.declared.query.Cond.TheVariants as co
use Rattle.da_lang.specs.declared.query.Operand.{Operand}
use Rattle.da_lang.specs.declared.query.Operand.TheVariants as od
use Rattle.da_lang.specs.declared.query.Pattern.TheVariants as pa
use Rattle.da_lang.specs.declared.query.SignedOperand.{roll-SignedOperand}
use Rattle.da_lang.specs.declared.query.Source.TheVariants as so
use Rattle.da_lang.specs.declared.query.Term.{Term}
use Rattle.da_lang.specs.declared.query.Term.TheVariants as te
use Rattle.da_lang.specs.declared.tree.ArithOp.{ArithOp}
use Rattle.da_lang.specs.declared.tree.ArithOp.TheVariants as op
use Rattle.da_lang.specs.declared.tree.CmpOp.TheVariants as cmp
use Rattle.da_lang.specs.declared.tree.MessageDecl.{MessageDecl}
use Rattle.da_lang.specs.declared.ty.Ty.{Ty}
use Rattle.da_lang.specs.declared.ty.Ty.TheVariants as ty
use Rattle.da_lang.specs.declared.ty.Ty.TheVariants.{outs-Int, outs-Bool, outs-Text, outs-Proc, outs-Tuple, outs-Set}
use Rattle.da_lang.specs.Types.{levels, most_levels, is_flat, is_int, is_bool, is_text, is_proc, is_set, parts_of, element_of}
use Rattle.da_lang.specs.QueryTypes.{Known, flat, cond_holds}
use Rattle.da_lang.specs.Typing.{Slots, message_tag, text_part, item_breaks, breaks_in, type_breaks, filled, filled_slots}
use Rattle.da_lang.proofs.typing.ExprTypesAt.{typing_exprs}
use Rattle.da_lang.proofs.typing.QueryTypesAt.{typing_terms, typing_patterns, typing_conds}
use Rattle.lang_examples.proofs.ResolutionExamples.{at, ping, ping_tree, ping_class}
use Rattle.da_lang.proofs.typing.TypesAt.{same_types, ordering, levelling, levels-Set}
use Rattle.da_lang.proofs.typing.TypingAt.{flowing, breaking}

-- the tag of a written message, and of an expression that is none
pub written_tag : (tag : List ℕ) (xs : List RExpr) → message_tag (out-RExpr (re.Tuple (re.Const (kept.Text tag) ∷ xs))) ≡ Some tag
written_tag tag xs = rw (re_outs-Tuple (re.Const (kept.Text tag) ∷ xs)) (ap text_part (re_outs-Const (kept.Text tag)))

pub unwritten_tag : (slot : ℕ) → message_tag (out-RExpr (re.Slot slot)) ≡ None
unwritten_tag slot = rw (re_outs-Slot slot) refl

-- types of at most 32 levels
pub flat_int : flat ty.Int ≡ Some ty.Int
unfolding most_levels
flat_int = simp (flat, is_flat, levelling) refl

pub flat_bool : flat ty.Bool ≡ Some ty.Bool
unfolding most_levels
flat_bool = simp (flat, is_flat, levelling) refl

pub flat_text : flat ty.Text ≡ Some ty.Text
unfolding most_levels
flat_text = simp (flat, is_flat, levelling) refl

pub flat_proc : flat ty.Proc ≡ Some ty.Proc
unfolding most_levels
flat_proc = simp (flat, is_flat, levelling) refl

pub flat_set : flat (ty.Set ty.Int) ≡ Some (ty.Set ty.Int)
unfolding most_levels
flat_set = simp (flat, is_flat, levelling) refl

pub flat_set_of_sets : flat (ty.Set (ty.Set ty.Int)) ≡ Some (ty.Set (ty.Set ty.Int))
unfolding most_levels
flat_set_of_sets = simp (flat, is_flat, levelling) refl

pub flat_message : flat (ty.Tuple (ty.Text ∷ ty.Int ∷ [])) ≡ Some (ty.Tuple (ty.Text ∷ ty.Int ∷ []))
unfolding most_levels
flat_message = simp (flat, is_flat, levelling) refl

pub flat_all : flat (ty.Tuple (ty.Text ∷ ty.Set ty.Int ∷ [])) ≡ Some (ty.Tuple (ty.Text ∷ ty.Set ty.Int ∷ []))
unfolding most_levels
flat_all = simp (flat, is_flat, levelling) refl

pub ruleset levels_at = (flat_all, flat_int, flat_bool, flat_text, flat_proc, flat_set, flat_set_of_sets, flat_message)

pub ruleset judging = (typing_exprs, typing_terms, typing_patterns, typing_conds, same_types, ordering, levels_at, flowing, breaking, outs-Int, outs-Bool, outs-Text, outs-Proc, outs-Tuple, outs-Set, pa_outs-Tuple, pa_outs-Const, pa_outs-Bind, pa_outs-Any, is_int, is_bool, is_text, is_proc, is_set, parts_of, element_of, is_flat, levelling, written_tag, unwritten_tag)

ping_slots : filled_slots ping_tree.messages (ping_class (None ∷ None ∷ None ∷ [])) ≡ Some ty.Proc ∷ Some ty.Proc ∷ Some ty.Int ∷ Some ty.Int ∷ Some ty.Proc ∷ []
unfolding filled_slots most_levels
ping_slots = simp judging refl

pub ping_filled : filled (ping (None ∷ None ∷ None ∷ [])) ≡ ping (Some ty.Int ∷ Some ty.Int ∷ Some ty.Proc ∷ [])
unfolding filled
ping_filled = simp ping_slots refl

pub filled_ping_keeps : breaks_in (ping (Some ty.Int ∷ Some ty.Int ∷ Some ty.Proc ∷ [])) ≡ []
unfolding breaks_in most_levels
filled_ping_keeps = simp judging refl

ping_typed : type_breaks (ping (None ∷ None ∷ None ∷ [])) ≡ []
unfolding type_breaks
ping_typed = simp ping_filled filled_ping_keeps

-- a type of so many levels
nested : ℕ → Ty
nested zero = ty.Int
nested (suc most) = ty.Set (nested most)

levels_nested : (most : ℕ) → levels (nested most) ≡ most
unfolding nested
levels_nested zero = simp levelling refl
levels_nested (suc most) = levels-Set (nested most) ∙ ap suc (levels_nested most)

abbrev pair : Ty
pair = ty.Tuple (ty.Int ∷ ty.Set ty.Int ∷ [])

-- Statements on line 6 where slot 1 is an `int`, slot 2 a `set[int]`, slot 3 a `str`, slot 4 a `set[set[int]]`, slot 5 an
-- `(int, set[int])` and slot 6 of a type of 32 levels, and `ping(int)` is declared; the lines that break a rule.
abbrev slots : Slots
slots = Some ty.Int ∷ Some (ty.Set ty.Int) ∷ Some ty.Text ∷ Some (ty.Set (ty.Set ty.Int)) ∷ Some pair ∷ Some (nested 32) ∷ []

abbrev breaking_lines : ItemKind → List ℕ
breaking_lines kind = item_breaks ping_tree.messages [] slots (at 6 kind)

abbrev one : RExpr
one = re.Const (kept.Int (pos 1))

abbrev yes : RExpr
yes = re.Const (kept.Bool true)

abbrev with_op : ArithOp → RExpr → RExpr → RExpr
with_op o x y = re.Chain x (roll-ChainPart (record { op = o; operand = y }) ∷ [])

-- `x = 1`
assigned : breaking_lines (it.Assign 1 one) ≡ []
unfolding most_levels
assigned = simp judging refl

-- `x = true`
assigned_otherwise : breaking_lines (it.Assign 1 yes) ≡ 6 ∷ []
unfolding most_levels
assigned_otherwise = simp judging refl

-- `s = {}`
assigned_empty : breaking_lines (it.Assign 2 (re.SetOf [])) ≡ []
unfolding most_levels
assigned_empty = simp judging refl

-- `z.add({})`
added_empty : breaking_lines (it.Add 4 (re.SetOf [])) ≡ []
unfolding most_levels
added_empty = simp judging refl

-- `z.del({})`
deleted_empty : breaking_lines (it.Del 4 (re.SetOf [])) ≡ 6 ∷ []
unfolding most_levels
deleted_empty = simp judging refl

-- `output({})`
printed_empty : breaking_lines (it.Output (re.SetOf [])) ≡ 6 ∷ []
unfolding most_levels
printed_empty = simp judging refl

-- `z = {{1}, {}}`
assigned_nested : breaking_lines (it.Assign 4 (re.SetOf (re.SetOf (one ∷ []) ∷ re.SetOf [] ∷ []))) ≡ []
unfolding most_levels
assigned_nested = simp judging refl

-- `output({{1}, {}})`
printed_nested : breaking_lines (it.Output (re.SetOf (re.SetOf (one ∷ []) ∷ re.SetOf [] ∷ []))) ≡ 6 ∷ []
unfolding most_levels
printed_nested = simp judging refl

-- `output(w == (1, {}))`
compared_pair : breaking_lines (it.Output (re.Cmp cmp.Eq (re.Slot 5) (re.Tuple (one ∷ re.SetOf [] ∷ [])))) ≡ []
unfolding most_levels
compared_pair = simp judging refl

-- `output({} == s)`
empty_on_the_left : breaking_lines (it.Output (re.Cmp cmp.Eq (re.SetOf []) (re.Slot 2))) ≡ 6 ∷ []
unfolding most_levels
empty_on_the_left = simp judging refl

-- `output(s + {})`
added_to_empty : breaking_lines (it.Output (with_op op.Plus (re.Slot 2) (re.SetOf []))) ≡ 6 ∷ []
unfolding most_levels
added_to_empty = simp judging refl

-- `output(d)`, of 32 levels, and `output({d})`, of 33
printed_deep : breaking_lines (it.Output (re.Slot 6)) ≡ []
unfolding most_levels
printed_deep = simp (judging, levels_nested) refl

printed_deeper : breaking_lines (it.Output (re.SetOf (re.Slot 6 ∷ []))) ≡ 6 ∷ []
unfolding most_levels
printed_deeper = simp (judging, levels_nested) refl

-- `output(s == {})`
compared_empty : breaking_lines (it.Output (re.Cmp cmp.Eq (re.Slot 2) (re.SetOf []))) ≡ []
unfolding most_levels
compared_empty = simp judging refl

-- `output(s < s)`
compared_sets : breaking_lines (it.Output (re.Cmp cmp.Lt (re.Slot 2) (re.Slot 2))) ≡ 6 ∷ []
unfolding most_levels
compared_sets = simp judging refl

-- `output(x + 1)`
added_numbers : breaking_lines (it.Output (with_op op.Plus (re.Slot 1) one)) ≡ []
unfolding most_levels
added_numbers = simp judging refl

-- `output(s + {1})`
added_sets : breaking_lines (it.Output (with_op op.Plus (re.Slot 2) (re.SetOf (one ∷ [])))) ≡ []
unfolding most_levels
added_sets = simp judging refl

-- `output(s // s)`
divided_sets : breaking_lines (it.Output (with_op op.Div (re.Slot 2) (re.Slot 2))) ≡ 6 ∷ []
unfolding most_levels
divided_sets = simp judging refl

-- `output(1 in s)`
member_of : breaking_lines (it.Output (re.Member one (re.Slot 2))) ≡ []
unfolding most_levels
member_of = simp judging refl

-- `output(1 in x)`
member_of_none : breaking_lines (it.Output (re.Member one (re.Slot 1))) ≡ 6 ∷ []
unfolding most_levels
member_of_none = simp judging refl

-- `output({1, true})`
mixed_set : breaking_lines (it.Output (re.SetOf (one ∷ yes ∷ []))) ≡ 6 ∷ []
unfolding most_levels
mixed_set = simp judging refl

-- `while 1: pass`
condition : breaking_lines (it.While one (at 7 it.Pass ∷ [])) ≡ 6 ∷ []
unfolding most_levels
condition = simp judging refl

-- `for x in 1: pass`
loop_over_number : breaking_lines (it.For 1 one (at 7 it.Pass ∷ [])) ≡ 6 ∷ []
unfolding most_levels
loop_over_number = simp judging refl

-- `send ('ping', 1) to self`
sent : breaking_lines (it.Send (re.Tuple (re.Const (kept.Text (codes "ping")) ∷ one ∷ [])) re.Me) ≡ []
unfolding most_levels
sent = simp judging refl

-- `send ('ping', true) to self`
sent_otherwise : breaking_lines (it.Send (re.Tuple (re.Const (kept.Text (codes "ping")) ∷ yes ∷ [])) re.Me) ≡ 6 ∷ []
unfolding most_levels
sent_otherwise = simp judging refl

-- `send ('ping',) to self`
sent_short : breaking_lines (it.Send (re.Tuple (re.Const (kept.Text (codes "ping")) ∷ [])) re.Me) ≡ 6 ∷ []
unfolding most_levels
sent_short = simp judging refl

-- `send ('ping', 1) to 1`
sent_to_number : breaking_lines (it.Send (re.Tuple (re.Const (kept.Text (codes "ping")) ∷ one ∷ [])) one) ≡ 6 ∷ []
unfolding most_levels
sent_to_number = simp judging refl

-- `send ('all', {}) to self`, where `all(set[int])` is declared
abbrev with_set : List MessageDecl
with_set = record { tag = codes "all"; parts = ty.Set ty.Int ∷ []; line = 1 } ∷ []

sent_empty : item_breaks with_set [] slots (at 6 (it.Send (re.Tuple (re.Const (kept.Text (codes "all")) ∷ re.SetOf [] ∷ [])) re.Me)) ≡ []
unfolding most_levels
sent_empty = simp judging refl

-- `output(9223372036854775808)`, which no text has
printed_wide : breaking_lines (it.Output (re.Const (kept.Int (pos 9223372036854775808)))) ≡ 6 ∷ []
unfolding most_levels
printed_wide = simp judging refl

-- `send x to self`
sent_unwritten : breaking_lines (it.Send (re.Slot 1) re.Me) ≡ 6 ∷ []
unfolding most_levels
sent_unwritten = simp judging refl

-- conditions over the same slots
abbrev slots_known : Known
slots_known = record { messages = ping_tree.messages; slots = slots }

-- `x == x`
terms_compared : cond_holds slots_known (co.Cmp cmp.Eq (od.Term (te.Slot 1)) (od.Term (te.Slot 1))) [] ≡ true
unfolding most_levels
terms_compared = simp judging refl

-- `s == s`, whose sides are no terms
set_as_term : cond_holds slots_known (co.Cmp cmp.Eq (od.Term (te.Slot 2)) (od.Term (te.Slot 2))) [] ≡ false
unfolding most_levels
set_as_term = simp judging refl

-- `w == w`, a tuple with a set inside
pair_as_term : cond_holds slots_known (co.Cmp cmp.Eq (od.Term (te.Slot 5)) (od.Term (te.Slot 5))) [] ≡ true
unfolding most_levels
pair_as_term = simp judging refl

-- an expression of no form of queries
foreign_condition : cond_holds slots_known (co.Truth te.Foreign) [] ≡ false
unfolding most_levels
foreign_condition = simp judging refl

-- `sum(s) == x`
sum_compared : cond_holds slots_known (co.Cmp cmp.Eq (od.Agg (roll-Agg (record { op = agg.Sum; gens = record { source = so.Slot 2; message = pa.Bind; peer = pa.Any } ∷ []; cond = None; term = te.Part 1; other = None }))) (od.Term (te.Slot 1))) [] ≡ true
unfolding most_levels
sum_compared = simp judging refl

-- `min(s, x) == x`, and `min(s, x + 1) == x`, whose other value is no term
abbrev least_or : Term → Operand
least_or other = od.Agg (roll-Agg (record { op = agg.Min; gens = record { source = so.Slot 2; message = pa.Bind; peer = pa.Any } ∷ []; cond = None; term = te.Part 1; other = Some other }))

least_compared : cond_holds slots_known (co.Cmp cmp.Eq (least_or (te.Slot 1)) (od.Term (te.Slot 1))) [] ≡ true
unfolding most_levels
least_compared = simp judging refl

least_or_no_term : cond_holds slots_known (co.Cmp cmp.Eq (least_or te.Foreign) (od.Term (te.Slot 1))) [] ≡ false
unfolding most_levels
least_or_no_term = simp judging refl

-- `count(s) + x == x`
count_in_chain : cond_holds slots_known (co.Cmp cmp.Eq (od.Chain (od.Agg (roll-Agg (record { op = agg.Count; gens = record { source = so.Slot 2; message = pa.Bind; peer = pa.Any } ∷ []; cond = None; term = te.Part 1; other = None }))) (roll-SignedOperand (record { minus = false; operand = od.Term (te.Slot 1) }) ∷ [])) (od.Term (te.Slot 1))) [] ≡ true
unfolding most_levels
count_in_chain = simp judging refl

-- `sum(s) + x == x`
sum_in_chain : cond_holds slots_known (co.Cmp cmp.Eq (od.Chain (od.Agg (roll-Agg (record { op = agg.Sum; gens = record { source = so.Slot 2; message = pa.Bind; peer = pa.Any } ∷ []; cond = None; term = te.Part 1; other = None }))) (roll-SignedOperand (record { minus = false; operand = od.Term (te.Slot 1) }) ∷ [])) (od.Term (te.Slot 1))) [] ≡ false
unfolding most_levels
sum_in_chain = simp judging refl

-- `some ('ping', k) in received | k > x`
message_matched : cond_holds slots_known (co.Quant false (record { source = so.Received; message = pa.Tuple (pa.Const (kept.Text (codes "ping")) ∷ pa.Bind ∷ []); peer = pa.Any } ∷ []) (Some (co.Cmp cmp.Gt (od.Term (te.Part 1)) (od.Term (te.Slot 1))))) [] ≡ true
unfolding most_levels
message_matched = simp judging refl

-- `some k in received`, whose pattern has no tag
any_message : cond_holds slots_known (co.Quant false (record { source = so.Received; message = pa.Bind; peer = pa.Any } ∷ []) None) [] ≡ false
unfolding most_levels
any_message = simp judging refl

-- `some ('ping', k) to q in received`
misplaced_peer : cond_holds slots_known (co.Quant false (record { source = so.Received; message = pa.Tuple (pa.Const (kept.Text (codes "ping")) ∷ pa.Bind ∷ []); peer = pa.Tuple (pa.Equal te.Foreign ∷ pa.Bind ∷ []) } ∷ []) None) [] ≡ false
unfolding most_levels
misplaced_peer = simp judging refl

-- `some ('ping', k) from q in sent`
misplaced_sender : cond_holds slots_known (co.Quant false (record { source = so.Sent; message = pa.Tuple (pa.Const (kept.Text (codes "ping")) ∷ pa.Bind ∷ []); peer = pa.Tuple (pa.Equal te.Foreign ∷ pa.Bind ∷ []) } ∷ []) None) [] ≡ false
unfolding most_levels
misplaced_sender = simp judging refl

-- `some k in s`, and `some k from q in s`
element_matched : cond_holds slots_known (co.Quant false (record { source = so.Slot 2; message = pa.Bind; peer = pa.Any } ∷ []) None) [] ≡ true
unfolding most_levels
element_matched = simp judging refl

element_with_sender : cond_holds slots_known (co.Quant false (record { source = so.Slot 2; message = pa.Bind; peer = pa.Tuple (pa.Equal te.Foreign ∷ pa.Bind ∷ []) } ∷ []) None) [] ≡ false
unfolding most_levels
element_with_sender = simp judging refl
