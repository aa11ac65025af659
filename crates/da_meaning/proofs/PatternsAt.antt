-- Patterns, one layer at a time, and one pattern more.
use Rattle.std.proofs.Common.{◌≡◌, ◌∙◌, ap, sym, refl, ℕ, ℤ, Bool, List, [], ◌∷◌, ◌++◌, map, flat_map, append-nil, ◌+◌, ◌<◌, length, get_or, take}
use Rattle.std.proofs.lemmas.List.{map-append}
use Rattle.std.proofs.lemmas.Grind.{flat_map-append}
use Rattle.da_values.specs.declared.value.Value.TheVariants as kept
use Rattle.da_lang.specs.declared.query.Pattern.{Pattern}
use Rattle.da_lang.specs.declared.query.Pattern.TheVariants as pa
use Rattle.da_lang.specs.declared.tree.Expr.{Expr}
use Rattle.da_lang.specs.declared.tree.PatternTree.{PatternTree}
use Rattle.da_lang.specs.declared.tree.PatternTree.TheVariants as pattern
use Rattle.da_lang.specs.ExprMeaning.{Meaning, Meant, Matching, meant, matching, patterns_in, with_row}
use Rattle.da_lang.specs.Scopes.{Scope}
use Rattle.da_lang.proofs.MeantAt.{matching-Wild, matching-Name, matching-Int, matching-Text, matching-Truth, matching-Me, matching-Equal, matching-Tuple}
use Rattle.da_meaning.proofs.SlotScopeLaws.{with_row-append}
use Rattle.da_lang.proofs.Taken.{taken}

abbrev shape : Scope Meaning → Matching → Pattern
shape scope m = m.pattern scope

abbrev binds : Matching → List (List ℕ)
binds m = m.binds

pub pattern-Wild : (scope : Scope Meaning) → (matching pattern.Wild).pattern scope ≡ pa.Any
pattern-Wild scope = ap (shape scope) matching-Wild

pub pattern-Name : (name : List ℕ) (scope : Scope Meaning) → (matching (pattern.Name name)).pattern scope ≡ pa.Bind
pattern-Name name scope = ap (shape scope) (matching-Name name)

pub pattern-Int : (number : ℤ) (scope : Scope Meaning) → (matching (pattern.Int number)).pattern scope ≡ pa.Const (kept.Int number)
pattern-Int number scope = ap (shape scope) (matching-Int number)

pub pattern-Text : (bytes : List ℕ) (scope : Scope Meaning) → (matching (pattern.Text bytes)).pattern scope ≡ pa.Const (kept.Text bytes)
pattern-Text bytes scope = ap (shape scope) (matching-Text bytes)

pub pattern-Truth : (truth : Bool) (scope : Scope Meaning) → (matching (pattern.Truth truth)).pattern scope ≡ pa.Const (kept.Bool truth)
pattern-Truth truth scope = ap (shape scope) (matching-Truth truth)

pub pattern-Me : (scope : Scope Meaning) → (matching pattern.Me).pattern scope ≡ pa.Me
pattern-Me scope = ap (shape scope) matching-Me

pub pattern-Equal : (x : Expr) (scope : Scope Meaning) → (matching (pattern.Equal x)).pattern scope ≡ pa.Equal ((meant x).term scope)
pattern-Equal x scope = ap (shape scope) (matching-Equal x)

pub pattern-Tuple : (ps : List PatternTree) (scope : Scope Meaning) → (matching (pattern.Tuple ps)).pattern scope ≡ pa.Tuple (patterns_in (map matching ps) scope)
pattern-Tuple ps scope = ap (shape scope) (matching-Tuple ps)

pub binds-Wild : (matching pattern.Wild).binds ≡ []
binds-Wild = ap binds matching-Wild

pub binds-Name : (name : List ℕ) → (matching (pattern.Name name)).binds ≡ name ∷ []
binds-Name name = ap binds (matching-Name name)

pub binds-Int : (number : ℤ) → (matching (pattern.Int number)).binds ≡ []
binds-Int number = ap binds (matching-Int number)

pub binds-Text : (bytes : List ℕ) → (matching (pattern.Text bytes)).binds ≡ []
binds-Text bytes = ap binds (matching-Text bytes)

pub binds-Truth : (truth : Bool) → (matching (pattern.Truth truth)).binds ≡ []
binds-Truth truth = ap binds (matching-Truth truth)

pub binds-Me : (matching pattern.Me).binds ≡ []
binds-Me = ap binds matching-Me

pub binds-Equal : (x : Expr) → (matching (pattern.Equal x)).binds ≡ []
binds-Equal x = ap binds (matching-Equal x)

pub binds-Tuple : (ps : List PatternTree) → (matching (pattern.Tuple ps)).binds ≡ flat_map (λ p. p.binds) (map matching ps)
binds-Tuple ps = ap binds (matching-Tuple ps)

pub ruleset patterns_at = (pattern-Wild, pattern-Name, pattern-Int, pattern-Text, pattern-Truth, pattern-Me, pattern-Equal, pattern-Tuple, binds-Wild, binds-Name, binds-Int, binds-Text, binds-Truth, binds-Me, binds-Equal, binds-Tuple)

-- one pattern after others
pub patterns_in-more : (ps : List PatternTree) (p : PatternTree) (scope : Scope Meaning)
    → patterns_in (map matching (ps ++ p ∷ [])) scope ≡ patterns_in (map matching ps) scope ++ (matching p).pattern (with_row (flat_map (λ m. m.binds) (map matching ps)) scope) ∷ []
patterns_in-more [] p scope = refl
patterns_in-more (q ∷ ps) p scope =
    let first = (matching q).pattern scope in
    let inner = with_row (matching q).binds scope in
    ap (λ others. first ∷ others) (patterns_in-more ps p inner)
    ∙ ap (λ s. first ∷ patterns_in (map matching ps) inner ++ (matching p).pattern s ∷ []) (sym (with_row-append (matching q).binds (flat_map (λ m. m.binds) (map matching ps)) scope))

pub binds-more : (ps : List PatternTree) (p : PatternTree) → flat_map (λ (m : Matching). m.binds) (map matching (ps ++ p ∷ [])) ≡ flat_map (λ (m : Matching). m.binds) (map matching ps) ++ (matching p).binds
binds-more ps p = ap (flat_map (λ (m : Matching). m.binds)) (map-append matching ps (p ∷ [])) ∙ flat_map-append (λ (m : Matching). m.binds) (map matching ps) (matching p ∷ [])
    ∙ ap (λ (names : List (List ℕ)). flat_map (λ (m : Matching). m.binds) (map matching ps) ++ names) (append-nil (matching p).binds)

-- the scope after them
pub with_row-more : (ps : List PatternTree) (p : PatternTree) (scope : Scope Meaning)
    → with_row (flat_map (λ (m : Matching). m.binds) (map matching (ps ++ p ∷ []))) scope ≡ with_row (matching p).binds (with_row (flat_map (λ (m : Matching). m.binds) (map matching ps)) scope)
with_row-more ps p scope = ap (λ names. with_row names scope) (binds-more ps p) ∙ with_row-append (flat_map (λ (m : Matching). m.binds) (map matching ps)) (matching p).binds scope

-- a pattern more of a list: what was found, and the scope
pub patterns_step : (ps : List PatternTree) (i : ℕ) (p : PatternTree) (before middle : Scope Meaning) (found more : List Pattern) (q : Pattern)
    → i < length ps → p ≡ get_or ps i p → found ≡ patterns_in (map matching (take i ps)) before → middle ≡ with_row (flat_map (λ (m : Matching). m.binds) (map matching (take i ps))) before
    → q ≡ (matching p).pattern middle → more ≡ found ++ q ∷ [] → more ≡ patterns_in (map matching (take (i + 1) ps)) before
patterns_step ps i p before middle found more q inside here so_far inner one grown =
    let next = taken ps i p inside here in
    let all = patterns_in-more (take i ps) p before in
    cc

pub scope_step : (ps : List PatternTree) (i : ℕ) (p : PatternTree) (before middle behind : Scope Meaning)
    → i < length ps → p ≡ get_or ps i p → middle ≡ with_row (flat_map (λ (m : Matching). m.binds) (map matching (take i ps))) before → behind ≡ with_row (matching p).binds middle
    → behind ≡ with_row (flat_map (λ (m : Matching). m.binds) (map matching (take (i + 1) ps))) before
scope_step ps i p before middle behind inside here inner one =
    one ∙ ap (λ s. with_row (matching p).binds s) inner ∙ sym (with_row-more (take i ps) p before) ∙ ap (λ qs. with_row (flat_map (λ (m : Matching). m.binds) (map matching qs)) before) (sym (taken ps i p inside here))
