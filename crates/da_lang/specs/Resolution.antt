-- The resolved program of a tree.
use Rattle.std.specs.Prelude.{ℕ, suc, ◌+◌, if◌then◌else◌, List, [], ◌∷◌, ◌++◌, map, length, replicate, Option, Some, None, flat_map, position, unwrap_or, bytes_eq}
use Rattle.std.specs.List.{range_with_len}
use Rattle.da_lang.specs.declared.program.Class.{Class}
use Rattle.da_lang.specs.declared.program.Handler.{Handler}
use Rattle.da_lang.specs.declared.program.Item.{Item}
use Rattle.da_lang.specs.declared.program.ProcDecl.{ProcDecl}
use Rattle.da_lang.specs.declared.program.Program.{Program}
use Rattle.da_lang.specs.declared.program.RExpr.{RExpr}
use Rattle.da_lang.specs.declared.program.SetupCall.{SetupCall}
use Rattle.da_lang.specs.declared.query.Pattern.TheVariants as pa
use Rattle.da_lang.specs.declared.tree.ClassTree.{ClassTree}
use Rattle.da_lang.specs.declared.tree.Expr.{Expr}
use Rattle.da_lang.specs.declared.tree.MainLine.{MainLine}
use Rattle.da_lang.specs.declared.tree.MainLine.TheVariants as main_line
use Rattle.da_lang.specs.declared.tree.PatternTree.{PatternTree}
use Rattle.da_lang.specs.declared.tree.Tree.{Tree}
use Rattle.da_lang.specs.BodyMeaning.{fresh, named_slots, untyped, with_params, param_slots, class_slots, body_of}
use Rattle.da_lang.specs.ClassParts.{Place, InHandler, Body, bodies_where, variables, is_handler, labels_at, setup_of, params_if, stmts_if, run_of}
use Rattle.da_lang.specs.ExprMeaning.{Meaning, OneProcess, Processes, Tables, Matching, with_row, matching, meant}
use Rattle.da_lang.specs.LabelNames.{label_number}
use Rattle.da_lang.specs.Scopes.{Scope}

-- the patterns of a handler, the second with the variables of the first
abbrev pub from_matching : Option PatternTree → Matching
from_matching None = record { binds = []; pattern = λ scope. pa.Any }
from_matching (Some p) = matching p

abbrev pub message_matching : Place → Matching
message_matching (InHandler message from labels) = matching message
message_matching _ = from_matching None

abbrev pub sender_matching : Place → Matching
sender_matching (InHandler message from labels) = from_matching from
sender_matching _ = from_matching None

abbrev pub handler_binds : Place → List (List ℕ)
handler_binds place = (message_matching place).binds ++ (sender_matching place).binds

abbrev pub handler : ClassTree → Body → Tables → Handler × Tables
handler c b tables =
    let binds = handler_binds b.place in
    let items = body_of c b.stmts (named_slots binds tables (class_slots c)) (untyped binds tables) in (
      record {
        message = (message_matching b.place).pattern (class_slots c);
        from = (sender_matching b.place).pattern (with_row (message_matching b.place).binds (class_slots c));
        at = map (label_number c) (labels_at b.place);
        binds = fresh tables (length binds);
        body = items.0;
        line = b.line;
      },
      items.1,
    )

abbrev pub handlers : ClassTree → List Body → Tables → List Handler × Tables
handlers c [] tables = ([], tables)
handlers c (b ∷ bs) tables = let first = handler c b tables in let others = handlers c bs first.1 in (first.0 ∷ others.0, others.1)

-- the variables come first; then `setup`, `run` and the handlers
abbrev pub class_tables : ClassTree → Tables
class_tables c = record { slots = map (λ v. Some v.ty) (variables c); queries = [] }

abbrev pub setup_items : ClassTree → List Item × Tables
setup_items c =
    body_of c (stmts_if (setup_of c)) (param_slots (params_if (setup_of c)) (class_tables c) (class_slots c)) (with_params (params_if (setup_of c)) (class_tables c))

abbrev pub run_items : ClassTree → Tables → List Item × Tables
run_items c = body_of c (stmts_if (run_of c)) (class_slots c)

unfoldable pub resolved_class : ClassTree → Class
resolved_class c =
    let setup = setup_items c in
    let run = run_items c setup.1 in
    let handled = handlers c (bodies_where is_handler c) run.1 in
    record {
      name = c.name;
      slots = handled.1.slots;
      params = fresh (class_tables c) (length (params_if (setup_of c)));
      setup = setup.0;
      run = run.0;
      handlers = handled.0;
      queries = handled.1.queries;
      line = c.line;
    }

-- how many processes a line makes, and what its name stands for where so many were made before
abbrev pub many : Option ℕ → ℕ
many None = 1
many (Some count) = count

abbrev pub made_as : Option ℕ → ℕ → Meaning
made_as None before = OneProcess (suc before)
made_as (Some count) before = Processes (range_with_len (suc before) count)

abbrev pub made_count : MainLine → ℕ
made_count (main_line.New name class count line) = many count
made_count (main_line.Setup name args line) = 0

abbrev pub made_entry : ℕ → MainLine → Scope Meaning
made_entry before (main_line.New name class count line) = (name, made_as count before) ∷ []
made_entry before (main_line.Setup name args line) = []

abbrev pub made : ℕ → List MainLine → Scope Meaning
made before [] = []
made before (l ∷ ls) = made_entry before l ++ made (before + made_count l) ls

-- the arguments of the line of `setup` for a name
abbrev pub resolved_args : Scope Meaning → List Expr → List RExpr
resolved_args scope xs = map (λ x. ((meant x).outside scope (record { slots = []; queries = [] })).0) xs

abbrev pub setup_call : Scope Meaning → List ℕ → MainLine → List SetupCall
setup_call scope name (main_line.New other class count line) = []
setup_call scope name (main_line.Setup other args line) = if bytes_eq other name then record { args = resolved_args scope args; line = line } ∷ [] else []

abbrev pub first_call : List SetupCall → Option SetupCall
first_call [] = None
first_call (call ∷ calls) = Some call

abbrev pub place_of_class : Tree → List ℕ → ℕ
place_of_class t name = unwrap_or (position (λ c. bytes_eq c.name name) t.classes) 0

abbrev pub procs_of : Tree → MainLine → List ProcDecl
procs_of t (main_line.New name class count line) =
    replicate (many count) (record { class = place_of_class t class; setup = first_call (flat_map (setup_call (made 0 t.main) name) t.main) })
procs_of t (main_line.Setup name args line) = []

unfoldable pub resolved : Tree → Program
resolved t = record { kind = t.kind; messages = t.messages; classes = map resolved_class t.classes; procs = flat_map (procs_of t) t.main }
