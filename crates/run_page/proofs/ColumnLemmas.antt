-- The columns of processes, one after the other.
use Rattle.std.proofs.Common.{◌≡◌, sym, ◌∙◌, ap, subst, ℕ, suc, ◌+◌, ◌<◌, List, [], ◌∷◌, ◌++◌, get_or, length, map, arith}
use Rattle.std.proofs.lemmas.List.{map-append}
use Rattle.std.proofs.lemmas.Option.{slice_get-get_or}
use Rattle.std.specs.List.{slice_get}
use Rattle.da_lang.specs.declared.program.ProcDecl.{ProcDecl}
use Rattle.da_lang.specs.declared.program.Program.{Program}
use Rattle.da_lang.specs.World.{at_number, class_of, class_of_decl}
use Rattle.da_core.specs.Told.{numbers_to}
use Rattle.trace_page.specs.declared.page.Column.{Column}
use Rattle.run_page.specs.RunRows.{class_name, run_column}
use Rattle.run_page.proofs.FlightLemmas.{numbers_last}

-- so many columns were made
abbrev pub ColumnsUpTo : Program → ℕ → List Column → Type 0
ColumnsUpTo program place columns = columns ≡ map (run_column program) (numbers_to place)

-- the class of the process at a place
class_here : (program : Program) (place : ℕ) (d : ProcDecl) → place < length program.procs → class_of program (place + 1) ≡ slice_get program.classes (get_or program.procs place d).class
class_here program place d inside =
    ap (λ n. class_of_decl program (at_number program.procs n)) (let here : place + 1 ≡ suc place = omega arith in here) ∙ ap (class_of_decl program) (slice_get-get_or program.procs place d inside)

abbrev made : ℕ → List ℕ → Column
made p name = record { process = p; name = name }

pub column_on : (program : Program) (place process : ℕ) (d : ProcDecl) (name : List ℕ) (old new : List Column) → place < length program.procs → process ≡ place + 1 → name ≡ class_name (slice_get program.classes (get_or program.procs place d).class)
    → ColumnsUpTo program place old → new ≡ old ++ record { process = process; name = name } ∷ [] → ColumnsUpTo program (place + 1) new
column_on program place process d name old new inside number is so_far adds =
    adds ∙ ap (λ p. old ++ made p name ∷ []) number ∙ ap (λ n. old ++ made (place + 1) n ∷ []) (is ∙ ap class_name (sym (class_here program place d inside)))
    ∙ ap (λ x. x ++ run_column program (place + 1) ∷ []) so_far
    ∙ sym (map-append (run_column program) (numbers_to place) ((place + 1) ∷ [])) ∙ ap (map (run_column program)) (sym (numbers_last place))

pub column_next : (program : Program) (items : List ProcDecl) (place process : ℕ) (d : ProcDecl) (name : List ℕ) (old new : List Column) → items ≡ program.procs → place < length items → d ≡ get_or items place d → process ≡ place + 1
    → name ≡ class_name (slice_get program.classes d.class) → ColumnsUpTo program place old → new ≡ old ++ record { process = process; name = name } ∷ [] → ColumnsUpTo program (place + 1) new
column_next program items place process d name old new same inside is number named so_far adds =
    column_on program place process d name old new (subst (λ ds. place < length ds) same inside) number
    (named ∙ ap (λ (x : ProcDecl). class_name (slice_get program.classes x.class)) (is ∙ ap (λ ds. get_or ds place d) same)) so_far adds

pub columns_all : (program : Program) (place : ℕ) (columns : List Column) → place ≡ length program.procs → ColumnsUpTo program place columns → columns ≡ map (run_column program) (numbers_to (length program.procs))
columns_all program place columns all so_far = so_far ∙ ap (λ n. map (run_column program) (numbers_to n)) all
