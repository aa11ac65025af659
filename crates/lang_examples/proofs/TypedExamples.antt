-- Programs that are typed and programs that are not, by all of their lines; messages that may be delivered.
use Rattle.std.specs.Prelude.{◌≡◌, ◌&&◌, refl, ℕ, pos, false, true, List, [], ◌∷◌, codes, Option, Some, None}
use Rattle.std.proofs.Common.{◌∙◌}
use Rattle.da_values.specs.declared.val.Val.{Val}
use Rattle.da_values.specs.declared.val.Val.TheVariants as val
use Rattle.da_values.specs.declared.val.Val.TheVariants.{outs-Int, outs-Bool as val_outs-Bool}
use Rattle.da_values.specs.declared.value.Value.TheVariants as kept
use Rattle.da_values.specs.Narrow.{is_i64, is_narrow}
use Rattle.da_values.proofs.FoldsAt.{is_narrow_of}
use Rattle.da_lang.specs.declared.program.ChainPart.{roll-ChainPart}
use Rattle.da_lang.specs.declared.program.Class.{Class}
use Rattle.da_lang.specs.declared.program.Handler.{Handler}
use Rattle.da_lang.specs.declared.program.Item.{Item}
use Rattle.da_lang.specs.declared.program.ItemKind.TheVariants as it
use Rattle.da_lang.specs.declared.program.Program.{Program}
use Rattle.da_lang.specs.declared.program.RBranch.{roll-RBranch}
use Rattle.da_lang.specs.declared.program.RExpr.{RExpr}
use Rattle.da_lang.specs.declared.program.RExpr.TheVariants as re
use Rattle.da_lang.specs.declared.query.Pattern.TheVariants as pa
use Rattle.da_lang.specs.declared.query.Query.{Query}
use Rattle.da_lang.specs.declared.query.Query.TheVariants as qu
use Rattle.da_lang.specs.declared.query.Source.TheVariants as so
use Rattle.da_lang.specs.declared.tree.ArithOp.TheVariants as op
use Rattle.da_lang.specs.declared.ty.ChannelKind.TheVariants as kind
use Rattle.da_lang.specs.declared.ty.Ty.{Ty}
use Rattle.da_lang.specs.declared.ty.Ty.TheVariants as ty
use Rattle.da_lang.specs.Shaped.{well_typed}
use Rattle.da_lang.specs.Types.{most_levels}
use Rattle.da_lang.specs.Typing.{item_breaks, breaks_in, type_breaks, type_fault, filled, filled_slots, IsTyped}
use Rattle.lang_examples.proofs.ResolutionExamples.{at, ping, ping_tree}
use Rattle.da_lang.proofs.typing.ShapedAt.{finding_processes, is_declared-of}
use Rattle.da_lang.proofs.typing.TypesAt.{belonging}
use Rattle.lang_examples.proofs.TypingExamples.{judging, filled_ping_keeps}

-- PING with the types of all its slots
abbrev typed_ping : Program
typed_ping = ping (Some ty.Int ∷ Some ty.Int ∷ Some ty.Proc ∷ [])

ping_is_typed : IsTyped typed_ping
unfolding most_levels
ping_is_typed = record { keeps = filled_ping_keeps; complete = refl; asked = simp judging refl }

-- a line of `setup` with a wrong argument: `a.setup(7)`
abbrev one_process : List (Option Ty) → RExpr → Program
one_process types x = record (ping types) { procs = record { class = 0; setup = Some (record { args = x ∷ []; line = 16 }) } ∷ [] }

set_up_rightly : breaks_in (one_process (Some ty.Int ∷ Some ty.Int ∷ Some ty.Proc ∷ []) re.Me) ≡ []
unfolding breaks_in most_levels
set_up_rightly = simp judging refl

set_up_wrongly : breaks_in (one_process (Some ty.Int ∷ Some ty.Int ∷ Some ty.Proc ∷ []) (re.Const (kept.Int (pos 7)))) ≡ 16 ∷ []
unfolding breaks_in most_levels
set_up_wrongly = simp judging refl

-- a program of one class, with these slots, queries, statements and handlers
abbrev with_class : List (Option Ty) → List Query → List Item → List Handler → Class
with_class types queries items handlers = record { name = codes "C"; slots = types; params = []; setup = []; run = items; handlers = handlers; queries = queries; line = 3 }

abbrev with_classes : List Class → Program
with_classes classes = record { kind = kind.FifoReliable; messages = ping_tree.messages; classes = classes; procs = [] }

abbrev added : RExpr → RExpr → RExpr
added x y = re.Chain x (roll-ChainPart (record { op = op.Plus; operand = y }) ∷ [])

abbrev number : RExpr
number = re.Const (kept.Int (pos 1))

-- `if some ('ping', k) in received:` and `output(k + 1)` in its block
abbrev found_ping : List (Option Ty) → Class
found_ping types =
    with_class types (qu.Quant false (record { source = so.Received; message = pa.Tuple (pa.Const (kept.Text (codes "ping")) ∷ pa.Bind ∷ []); peer = pa.Any } ∷ []) None ∷ [])
    (at 5 (it.If (roll-RBranch (record { cond = re.Ask 1; found = Some 1; binds = 1 ∷ []; body = at 6 (it.Output (added (re.Slot 1) number)) ∷ []; line = 5 }) ∷ []) []) ∷ []) []

found_takes_type : filled_slots ping_tree.messages (found_ping (None ∷ [])) ≡ Some ty.Int ∷ []
unfolding filled_slots most_levels
found_takes_type = simp judging refl

found_keeps : breaks_in (with_classes (found_ping (Some ty.Int ∷ []) ∷ [])) ≡ []
unfolding breaks_in most_levels
found_keeps = simp judging refl

-- with another type the slot of k is no place for it
found_otherwise : breaks_in (with_classes (found_ping (Some ty.Proc ∷ []) ∷ [])) ≡ 5 ∷ 6 ∷ []
unfolding breaks_in most_levels
found_otherwise = simp judging refl

-- the same of the slot of a loop: `for x in {1}: pass`
abbrev looping : List (Option Ty) → Class
looping types = with_class types [] (at 5 (it.For 1 (re.SetOf (number ∷ [])) (at 6 it.Pass ∷ [])) ∷ []) []

loop_takes_type : filled_slots ping_tree.messages (looping (None ∷ [])) ≡ Some ty.Int ∷ []
unfolding filled_slots most_levels
loop_takes_type = simp judging refl

loop_keeps_type : filled_slots ping_tree.messages (looping (Some ty.Text ∷ [])) ≡ Some ty.Text ∷ []
unfolding filled_slots most_levels
loop_keeps_type = simp judging refl

loop_otherwise : breaks_in (with_classes (looping (Some ty.Text ∷ []) ∷ [])) ≡ 5 ∷ []
unfolding breaks_in most_levels
loop_otherwise = simp judging refl

-- A loop whose header breaks a rule, with a use of its variable on the next line, and a handler above it, one line of which
-- breaks a rule too: `for x in 1:`, `output(x + 1)`; `output(k + true)`.
abbrev broken : List (Option Ty) → Class
broken types =
    with_class types [] (at 8 (it.For 1 number (at 9 (it.Output (added (re.Slot 1) number)) ∷ [])) ∷ [])
    (record {
      message = pa.Tuple (pa.Const (kept.Text (codes "ping")) ∷ pa.Bind ∷ []);
      from = pa.Any;
      at = [];
      binds = 2 ∷ [];
      body = at 5 (it.Output (added (re.Slot 2) (re.Const (kept.Bool true)))) ∷ at 6 (it.Output (re.Slot 2)) ∷ [];
      line = 4;
    } ∷ [])

broken_slots : filled_slots ping_tree.messages (broken (None ∷ None ∷ [])) ≡ None ∷ Some ty.Int ∷ []
unfolding filled_slots most_levels
broken_slots = simp judging refl

broken_filled : filled (with_classes (broken (None ∷ None ∷ []) ∷ [])) ≡ with_classes (broken (None ∷ Some ty.Int ∷ []) ∷ [])
unfolding filled
broken_filled = simp broken_slots refl

abbrev broken_types : List (Option Ty)
broken_types = None ∷ Some ty.Int ∷ []

loop_lines : item_breaks ping_tree.messages [] broken_types (at 8 (it.For 1 number (at 9 (it.Output (added (re.Slot 1) number)) ∷ []))) ≡ 8 ∷ 9 ∷ []
unfolding most_levels
loop_lines = simp judging refl

added_truth : item_breaks ping_tree.messages [] broken_types (at 5 (it.Output (added (re.Slot 2) (re.Const (kept.Bool true))))) ≡ 5 ∷ []
unfolding most_levels
added_truth = simp judging refl

printed_number : item_breaks ping_tree.messages [] broken_types (at 6 (it.Output (re.Slot 2))) ≡ []
unfolding most_levels
printed_number = simp judging refl

broken_lines : breaks_in (with_classes (broken (None ∷ Some ty.Int ∷ []) ∷ [])) ≡ 8 ∷ 9 ∷ 5 ∷ []
unfolding breaks_in most_levels
broken_lines = simp (loop_lines, added_truth, printed_number) (simp judging refl)

broken_breaks : type_breaks (with_classes (broken (None ∷ None ∷ []) ∷ [])) ≡ 8 ∷ 9 ∷ 5 ∷ []
unfolding type_breaks
broken_breaks = simp broken_filled broken_lines

least_line : type_fault (with_classes (broken (None ∷ None ∷ []) ∷ [])) ≡ Some 5
least_line = simp broken_breaks refl

-- messages of PING: `('ping', 5)`; one whose integer is too large, one of another type, one that is not declared
ping_of : Val → Val
ping_of x = val.Tuple (val.Text (codes "ping") ∷ x ∷ [])

narrow_ping : (n : ℕ) → is_narrow (ping_of (val.Int (pos n))) ≡ (is_i64 (pos n) && true)
unfolding ping_of
narrow_ping n = is_narrow_of (kept.Tuple (val.Text (codes "ping") ∷ val.Int (pos n) ∷ [])) ∙ simp (is_narrow_of (kept.Text (codes "ping")), is_narrow_of (kept.Int (pos n))) refl

delivered : well_typed typed_ping (ping_of (val.Int (pos 5))) ≡ true
unfolding ping_of
delivered = simp (is_declared-of, narrow_ping 5, finding_processes, belonging, outs-Int) refl

too_large : well_typed typed_ping (ping_of (val.Int (pos 9223372036854775808))) ≡ false
unfolding ping_of
too_large = simp (is_declared-of, narrow_ping 9223372036854775808, finding_processes, belonging, outs-Int) refl

of_another_type : well_typed typed_ping (ping_of (val.Bool true)) ≡ false
unfolding ping_of
of_another_type = simp (is_declared-of, finding_processes, belonging, val_outs-Bool) refl

undeclared : well_typed typed_ping (val.Tuple (val.Text (codes "pang") ∷ val.Int (pos 5) ∷ [])) ≡ false
undeclared = simp is_declared-of refl
