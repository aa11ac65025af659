-- The processes that actions name, action by action.
use Rattle.std.proofs.Common.{◌≡◌, refl, sym, ◌∙◌, ap, ℕ, List, [], ◌∷◌, ◌++◌, ◌+◌, ◌<◌, ◌≤◌, false, true, drop, get_or, length, arith, append_assoc, append-nil}
use Rattle.std.proofs.lemmas.Bool.{false≢true}
use Rattle.std.proofs.lemmas.List.{drop_all, drop_more}
use Rattle.std.specs.BTreeSet.{insert_key}
use Rattle.std.specs.List.{flat_map}
use Rattle.std.specs.Ordering.{nat_cmp}
use Rattle.std.specs.Prelude.{codes, map}
use Rattle.da_lang.specs.declared.event.Action.{Action}
use Rattle.trace_page.specs.declared.page.Column.{Column}
use Rattle.trace_page.specs.declared.page.Kind.TheVariants.{Trace}
use Rattle.trace_page.specs.declared.page.Page.{Page}
use Rattle.trace_page.specs.declared.page.Row.{Row}
use Rattle.trace_page.specs.Layout.{named_in, processes_of, with_numbers}
use Rattle.trace_page.specs.PageText.{trace_column, trace_page, trace_row}
use Rattle.trace_page.specs.Rows.{rows_of}

with_more : (keys xs ys : List ℕ) → with_numbers keys (xs ++ ys) ≡ with_numbers (with_numbers keys xs) ys
with_more keys [] ys = refl
with_more keys (x ∷ xs) ys = with_more (insert_key nat_cmp keys x) xs ys

-- one action more is behind
pub named_on : (all left : List Action) (a : Action) (old new : List ℕ) → with_numbers [] (flat_map named_in all) ≡ with_numbers old (flat_map named_in (a ∷ left)) → new ≡ with_numbers old (named_in a)
    → with_numbers [] (flat_map named_in all) ≡ with_numbers new (flat_map named_in left)
named_on all left a old new is adds =
    is ∙ with_more old (named_in a) (flat_map named_in left) ∙ ap (λ keys. with_numbers keys (flat_map named_in left)) (sym adds)

pub named_next : (all : List Action) (i : ℕ) (d : Action) (old new : List ℕ) → i < length all → with_numbers [] (flat_map named_in all) ≡ with_numbers old (flat_map named_in (drop i all)) → new ≡ with_numbers old (named_in (get_or all i d))
    → with_numbers [] (flat_map named_in all) ≡ with_numbers new (flat_map named_in (drop (i + 1) all))
named_next all i d old new inside is adds = named_on all (drop (i + 1) all) (get_or all i d) old new (is ∙ ap (λ left. with_numbers old (flat_map named_in left)) (drop_more all i d inside)) adds

pub named_all : (all : List Action) (i : ℕ) (keys : List ℕ) → length all ≤ i → with_numbers [] (flat_map named_in all) ≡ with_numbers keys (flat_map named_in (drop i all)) → keys ≡ with_numbers [] (flat_map named_in all)
named_all all i keys past is = ap (λ left. with_numbers keys (flat_map named_in left)) (sym (drop_all i all past)) ∙ sym is

-- the column of a process that a trace names
abbrev named : ℕ → List ℕ → Column
named p name = record { process = p; name = name }

pub column_made : (p : ℕ) (name : List ℕ) (old new : List Column) → name ≡ codes "process" → new ≡ old ++ record { process = p; name = name } ∷ [] → new ≡ old ++ trace_column p ∷ []
column_made p name old new is adds = adds ∙ ap (λ (word : List ℕ). old ++ named p word ∷ []) is

-- one column more is behind
pub column_on : (left rest : List ℕ) (p : ℕ) (columns more whole : List Column) → left ≡ p ∷ rest → more ≡ columns ++ trace_column p ∷ [] → columns ++ map trace_column left ≡ whole
    → more ++ map trace_column rest ≡ whole
column_on left rest p columns more whole first adds is =
    ap (λ cs. cs ++ map trace_column rest) adds ∙ append_assoc columns (trace_column p ∷ []) (map trace_column rest) ∙ ap (λ ps. columns ++ map trace_column ps) (sym first) ∙ is

pub columns_end : (left : List ℕ) (columns whole : List Column) → (0 < length left → false ≡ true) → columns ++ map trace_column left ≡ whole → columns ≡ whole
columns_end [] columns whole none is = sym (append-nil columns) ∙ is
columns_end (p ∷ left) columns whole none is = absurd (false≢true (none (omega arith)))

-- the page of a trace, from its parts
abbrev made : List (List ℕ) → List Column → List Row → Page
made remarks columns rows = record { kind = Trace; remarks = remarks; columns = columns; rows = rows }

pub page_made : (remarks : List (List ℕ)) (columns : List Column) (rows : List Row) (listed actions : List Action) → remarks ≡ [] → listed ≡ actions → columns ≡ map trace_column (processes_of listed) → rows ≡ map trace_row (rows_of actions)
    → made remarks columns rows ≡ trace_page actions
page_made remarks columns rows listed actions none same columns-are rows-are =
    ap (λ (rs : List (List ℕ)). made rs columns rows) none
    ∙ ap (λ (cs : List Column). made [] cs rows) (columns-are ∙ ap (λ (as' : List Action). map trace_column (processes_of as')) same)
    ∙ ap (λ (rs : List Row). made [] (map trace_column (processes_of actions)) rs) rows-are
