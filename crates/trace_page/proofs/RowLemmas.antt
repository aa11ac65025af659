-- Rows of actions, one action after the other.
use Rattle.std.proofs.Common.{◌≡◌, refl, sym, ◌∙◌, ap, ℕ, zero, suc, ◌+◌, ◌-◌, ◌<◌, true, false, List, [], ◌∷◌, ◌++◌, append_assoc, arith, get_or, length}
use Rattle.std.proofs.lemmas.Bool.{lt-ltb}
use Rattle.std.proofs.lemmas.List.{reverse-append, reverse-reverse}
use Rattle.std.specs.Prelude.{◌&&◌, if◌then◌else◌, map, nat_lt, reverse}
use Rattle.da_lang.specs.declared.event.Action.{Action}
use Rattle.trace_page.specs.declared.page.Change.{Change}
use Rattle.trace_page.specs.declared.page.Row.{Row}
use Rattle.trace_page.specs.PageText.{trace_row}
use Rattle.trace_page.specs.Rows.{ended, goes_on, joins, query_of, rows_from, rows_of}

-- which of two queries is later
pub answers_later : (first next : ℕ) (a b : Action) → first ≡ query_of a → next ≡ query_of b → (first ≡ 0 → ⊥) → nat_lt first next ≡ (nat_lt 0 (query_of a) && nat_lt (query_of a) (query_of b))
answers_later first next a b one other some =
    ap (λ t. t && nat_lt first next) (sym (lt-ltb 0 first (omega (arith, some)))) ∙ ap (λ n. nat_lt 0 n && nat_lt n next) one ∙ ap (λ n. nat_lt 0 (query_of a) && nat_lt (query_of a) n) other

-- the last action of a row decides
joins_at : (row : List Action) (place : ℕ) (last b d : Action) → place + 1 ≡ length row → last ≡ get_or row place d → joins row b ≡ goes_on last b
joins_at [] place last b d counted is = absurd (omega (arith, counted))
joins_at (a ∷ []) zero last b d counted is = ap (λ x. goes_on x b) (sym is)
joins_at (a ∷ []) (suc place) last b d counted is = absurd (omega (arith, counted))
joins_at (a ∷ c ∷ row) zero last b d counted is = absurd (omega (arith, counted))
joins_at (a ∷ c ∷ row) (suc place) last b d counted is = joins_at (c ∷ row) place last b d (omega (arith, counted)) is

pub joins_last : (row : List Action) (last b : Action) → 0 < length row → last ≡ get_or row (length row - 1) last → joins row b ≡ goes_on last b
joins_last row last b some is = joins_at row (length row - 1) last b last (omega (arith, some)) is

-- an action joins the row that has begun
pub joined : (rows : List Row) (row left : List Action) (a : Action) → joins row a ≡ true → rows ++ map trace_row (rows_from left (row ++ a ∷ [])) ≡ rows ++ map trace_row (rows_from (a ∷ left) row)
joined rows row left a does = ap (λ b. rows ++ map trace_row (if b then rows_from left (row ++ a ∷ []) else row ∷ rows_from left (a ∷ []))) (sym does)

-- the row ends, and an action begins the next one
pub begun : (rows : List Row) (row left : List Action) (a : Action) → joins row a ≡ false → (rows ++ trace_row row ∷ []) ++ map trace_row (rows_from left (a ∷ [])) ≡ rows ++ map trace_row (rows_from (a ∷ left) row)
begun rows row left a does =
    append_assoc rows (trace_row row ∷ []) (map trace_row (rows_from left (a ∷ [])))
    ∙ ap (λ b. rows ++ map trace_row (if b then rows_from left (row ++ a ∷ []) else row ∷ rows_from left (a ∷ []))) (sym does)

-- a row that has begun is one row, and none is none
pub nothing_ends : (row : List Action) → length row ≡ 0 → [] ≡ map trace_row (ended row)
nothing_ends [] none = refl
nothing_ends (a ∷ row) none = absurd (omega (arith, none))

pub one_ends : (row : List Action) → (length row ≡ 0 → ⊥) → trace_row row ∷ [] ≡ map trace_row (ended row)
one_ends [] some = absurd (some refl)
one_ends (a ∷ row) some = refl

abbrev made : List ℕ → List Action → List Change → Row
made words actions changes = record { words = words; actions = actions; changes = changes; is_marked = false }

pub row_made : (words : List ℕ) (actions row : List Action) (changes : List Change) (old new : List Row) → words ≡ [] → actions ≡ row → changes ≡ [] → new ≡ old ++ record { words = words; actions = actions; changes = changes; is_marked = false } ∷ []
    → new ≡ old ++ trace_row row ∷ []
row_made words actions row changes old new none is nothing adds =
    adds ∙ ap (λ (ws : List ℕ). old ++ made ws actions changes ∷ []) none ∙ ap (λ (as' : List Action). old ++ made [] as' changes ∷ []) is ∙ ap (λ (cs : List Change). old ++ made [] row cs ∷ []) nothing

-- WHAT IS LEFT, in a list that is turned round
pub record Split (all left row : List Action) (rows : List Row) : Type 0 where
  pub is : rows ++ map trace_row (rows_from (reverse left) row) ≡ map trace_row (rows_of all)

pub split_first : (all left row : List Action) (rows : List Row) → left ≡ reverse all → row ≡ [] → rows ≡ [] → Split all left row rows
split_first all left row rows turned none nothing = record {
  is =
      ap (λ rs. rs ++ map trace_row (rows_from (reverse left) row)) nothing ∙ ap (λ r. map trace_row (rows_from (reverse left) r)) none
      ∙ ap (λ l. map trace_row (rows_from (reverse l) [])) turned ∙ ap (λ l. map trace_row (rows_from l [])) (reverse-reverse all);
}

pub split_on : (all left rest : List Action) (a : Action) (row taken : List Action) (rows more : List Row) → left ≡ rest ++ a ∷ []
    → ((behind : List Action) → more ++ map trace_row (rows_from behind taken) ≡ rows ++ map trace_row (rows_from (a ∷ behind) row))
    → Split all left row rows → Split all rest taken more
split_on all left rest a row taken rows more popped adds split = record {
  is =
      adds (reverse rest) ∙ ap (λ l. rows ++ map trace_row (rows_from l row)) (sym (reverse-append rest (a ∷ [])) ∙ ap reverse (sym popped)) ∙ split.is;
}

pub split_end : (all left row : List Action) (rows more : List Row) → left ≡ [] → more ≡ rows ++ map trace_row (ended row) → Split all left row rows → more ≡ map trace_row (rows_of all)
split_end all left row rows more nothing adds split = adds ∙ ap (λ l. rows ++ map trace_row (rows_from (reverse l) row)) (sym nothing) ∙ split.is
