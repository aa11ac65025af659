-- How many columns stand before that of a process, column by column.
use Rattle.std.proofs.Common.{◌≡◌, sym, ◌∙◌, ap, subst, ℕ, ◌+◌, ◌<◌, ◌≤◌, List, get_or, length, take}
use Rattle.std.proofs.lemmas.List.{take_all}
use Rattle.std.proofs.lemmas.List.Sums.{count_by-le-length, sum_by_more}
use Rattle.std.specs.Prelude.{cond, if◌then◌else◌, nat_lt}
use Rattle.trace_page.specs.declared.page.Column.{Column}
use Rattle.trace_page.specs.Layout.{column_in}

pub one_counted : (columns : List Column) (i : ℕ) (column : Column) (p before more : ℕ) → i < length columns → column ≡ get_or columns i column → before ≡ column_in (take i columns) p
    → more ≡ (if nat_lt column.process p then 1 else 0) → before + more ≡ column_in (take (i + 1) columns) p
one_counted columns i column p before more inside is counted one =
    ap (λ n. n + more) counted
    ∙ ap (λ n. column_in (take i columns) p + n) (one ∙ ap (λ (x : Column). if nat_lt x.process p then 1 else 0) is)
    ∙ sym (sum_by_more (λ (x : Column). cond (nat_lt x.process p) 1 0) columns i column inside)

pub all_counted : (items columns : List Column) (i p before : ℕ) → length items ≤ i → items ≡ columns → before ≡ column_in (take i items) p → before ≡ column_in columns p
all_counted items columns i p before past same counted = counted ∙ ap (λ cs. column_in cs p) (take_all i items past ∙ same)

pub few_columns : (columns : List Column) (p before : ℕ) → before ≡ column_in columns p → before ≤ length columns
few_columns columns p before is = subst (λ n. n ≤ length columns) (sym is) (count_by-le-length (λ (x : Column). nat_lt x.process p) columns)
