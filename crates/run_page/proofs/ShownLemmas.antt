-- The page of a run, from its parts.
use Rattle.std.proofs.Common.{◌≡◌, ◌∙◌, ap, subst, ℕ, List, [], ◌++◌, length, map}
use Rattle.std.specs.List.{flat_map}
use Rattle.da_lang.specs.declared.event.Event.{Event}
use Rattle.da_lang.specs.declared.program.Program.{Program}
use Rattle.da_lang.specs.declared.tree.Tree.{Tree}
use Rattle.da_core.specs.Told.{numbers_to}
use Rattle.trace_page.specs.declared.page.Column.{Column}
use Rattle.trace_page.specs.declared.page.Kind.TheVariants.{Run}
use Rattle.trace_page.specs.declared.page.Page.{Page}
use Rattle.trace_page.specs.declared.page.Row.{Row}
use Rattle.trace_page.specs.PageText.{page_text}
use Rattle.run_page.specs.Remarks.{events_named, remarks_in}
use Rattle.run_page.specs.RunRows.{AreRunRows, IsRunPage, marked_in, names_at, names_by_process, page_of_rows, run_column}

abbrev made : List (List ℕ) → List Column → List Row → Page
made remarks columns rows = record { kind = Run; remarks = remarks; columns = columns; rows = rows }

pub written_with : (program : Program) (remarks : List (List ℕ)) (columns : List Column) (rows : List Row) (text old new : List ℕ) → old ≡ [] → columns ≡ map (run_column program) (numbers_to (length program.procs))
    → new ≡ old ++ page_text (record { kind = Run; remarks = remarks; columns = columns; rows = rows }) text → new ≡ page_text (page_of_rows program remarks rows) text
written_with program remarks columns rows text old new empty columns-are wrote =
    wrote ∙ ap (λ before. before ++ page_text (made remarks columns rows) text) empty ∙ ap (λ (cs : List Column). page_text (made remarks cs rows) text) columns-are

pub page_is : (program typed : Program) (tree : Tree) (text schedule : List ℕ) (events : List Event) (names given : List (List (List ℕ))) (remarks listed : List (List ℕ)) (rows : List Row) (page : List ℕ) → typed ≡ program
    → names ≡ names_by_process typed tree → given ≡ names → remarks ≡ remarks_in schedule → listed ≡ remarks → AreRunRows program (names_at given) (flat_map events_named listed) events rows
    → page ≡ page_text (page_of_rows typed remarks rows) text → IsRunPage program tree text schedule events page
page_is program typed tree text schedule events names given remarks listed rows page same names-are given-are remarks-are listed-are ran wrote = record {
  rows = rows;
  are =
      subst (λ (ns : List (List (List ℕ))). AreRunRows program (names_at ns) (marked_in schedule) events rows) (given-are ∙ names-are ∙ ap (λ p. names_by_process p tree) same)
      (subst (λ (rs : List (List ℕ)). AreRunRows program (names_at given) (flat_map events_named rs) events rows) (listed-are ∙ remarks-are) ran);
  is = wrote ∙ ap (λ p. page_text (page_of_rows p remarks rows) text) same ∙ ap (λ (rs : List (List ℕ)). page_text (page_of_rows program rs rows) text) remarks-are;
}
