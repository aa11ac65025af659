-- The processes of `main`, line by line.
use Rattle.std.proofs.Common.{◌≡◌, ◌∙◌, ap, sym, refl, ℕ, ◌+◌, ◌-◌, ◌<◌, ◌≤◌, List, [], ◌∷◌, ◌++◌, length, get_or, take, drop, map, flat_map, append_assoc, append-nil, replicate, Option, false, true, take-append-drop, arith}
use Rattle.std.specs.Prelude.{is_some}
use Rattle.std.proofs.lemmas.Grind.{flat_map-append}
use Rattle.std.proofs.lemmas.List.Sums.{sum_by-cons}
use Rattle.da_lang.specs.declared.program.ProcDecl.{ProcDecl}
use Rattle.da_lang.specs.declared.program.SetupCall.{SetupCall}
use Rattle.da_lang.specs.declared.tree.MainLine.{MainLine}
use Rattle.da_lang.specs.declared.tree.MainLine.TheVariants as main_line
use Rattle.da_lang.specs.declared.tree.Tree.{Tree}
use Rattle.da_lang.specs.ExprMeaning.{Meaning}
use Rattle.da_lang.specs.Resolution.{first_call, made, made_count, made_entry, many, place_of_class, procs_of, setup_call}
use Rattle.da_lang.specs.Scopes.{Scope}
use Rattle.da_scope.specs.MakingView.{made_by}
use Rattle.da_lang.proofs.Taken.{taken}

made_by-cons : (l : MainLine) (lines : List MainLine) → made_by (l ∷ lines) ≡ made_count l + made_by lines
made_by-cons l lines = sum_by-cons (λ (n : ℕ). n) (made_count l) (map made_count lines)

made_by-last : (lines : List MainLine) (l : MainLine) → made_by (lines ++ l ∷ []) ≡ made_by lines + made_count l
made_by-last [] l = made_by-cons l [] ∙ omega arith
made_by-last (k ∷ lines) l = made_by-cons k (lines ++ l ∷ []) ∙ omega (arith, made_by-last lines l, made_by-cons k lines)

made-last : (before : ℕ) (lines : List MainLine) (l : MainLine) → made before (lines ++ l ∷ []) ≡ made before lines ++ made_entry (before + made_by lines) l
made-last before [] l = let none : before ≡ before + 0 = omega arith in append-nil (made_entry before l) ∙ ap (λ n. made_entry n l) none
made-last before (k ∷ lines) l =
    let there : before + made_count k + made_by lines ≡ before + made_by (k ∷ lines) = omega (arith, made_by-cons k lines) in
    ap (λ names. made_entry before k ++ names) (made-last (before + made_count k) lines l)
    ∙ sym (append_assoc (made_entry before k) (made (before + made_count k) lines) (made_entry (before + made_count k + made_by lines) l))
    ∙ ap (λ n. made_entry before k ++ made (before + made_count k) lines ++ made_entry n l) there

-- a line less
pub before_step : (rest earlier : List MainLine) (l : MainLine) (before less count : ℕ) → rest ≡ earlier ++ l ∷ [] → before ≡ made_by rest → count ≡ made_count l → less ≡ before - count → less ≡ made_by earlier
before_step rest earlier l before less count is all one fewer = omega (arith, all, one, fewer, ap made_by is, made_by-last earlier l)

pub before_within : (rest earlier : List MainLine) (l : MainLine) → rest ≡ earlier ++ l ∷ [] → made_by rest ≤ 64 → made_by earlier ≤ 64
before_within rest earlier l is few = omega (arith, few, ap made_by is, made_by-last earlier l)

pub made_step : (lines rest earlier : List MainLine) (l : MainLine) (less : ℕ) (scope grown : Scope Meaning) → rest ≡ earlier ++ l ∷ [] → made 0 lines ≡ made 0 rest ++ scope → less ≡ made_by earlier
    → grown ≡ made_entry less l ++ scope → made 0 lines ≡ made 0 earlier ++ grown
made_step lines rest earlier l less scope grown is all fewer one =
    let there : 0 + made_by earlier ≡ less = omega (arith, fewer) in
    all ∙ ap (λ ls. made 0 ls ++ scope) is ∙ ap (λ names. names ++ scope) (made-last 0 earlier l ∙ ap (λ n. made 0 earlier ++ made_entry n l) there)
    ∙ append_assoc (made 0 earlier) (made_entry less l) scope ∙ ap (λ s. made 0 earlier ++ s) (sym one)

-- the first line of `setup`
first_of : (calls more : List SetupCall) (call : Option SetupCall) → is_some call ≡ true → call ≡ first_call calls → call ≡ first_call (calls ++ more)
first_of [] more call some is = let no_call : false ≡ true = ap is_some (sym is) ∙ some in cc
first_of (c ∷ calls) more call some is = is

pub first_there : (scope : Scope Meaning) (name : List ℕ) (lines : List MainLine) (i : ℕ) (l : MainLine) (call : Option SetupCall) → i < length lines → l ≡ get_or lines i l
    → flat_map (setup_call scope name) (take i lines) ≡ [] → is_some call ≡ true → call ≡ first_call (setup_call scope name l) → call ≡ first_call (flat_map (setup_call scope name) lines)
first_there scope name lines i l call inside here none some is =
    let calls = setup_call scope name in
    let behind = flat_map calls (drop (i + 1) lines) in
    let front : flat_map calls (take (i + 1) lines) ≡ calls l =
    ap (flat_map calls) (taken lines i l inside here) ∙ flat_map-append calls (take i lines) (l ∷ []) ∙ ap (λ cs. cs ++ flat_map calls (l ∷ [])) none ∙ append-nil (calls l) in
    first_of (calls l) behind call some is
    ∙ sym (ap (λ ls. first_call (flat_map calls ls)) (sym (take-append-drop (i + 1) lines)) ∙ ap first_call (flat_map-append calls (take (i + 1) lines) (drop (i + 1) lines)) ∙ ap (λ cs. first_call (cs ++ behind)) front)

-- the processes of a line
pub procs_line : (t : Tree) (line : MainLine) (name class : List ℕ) (count : Option ℕ) (at : ℕ) (scope : Scope Meaning) (place many_ : ℕ)
    → line ≡ main_line.New name class count at → scope ≡ made 0 t.main → place ≡ place_of_class t class → many_ ≡ made_count line
    → replicate many_ (let decl : ProcDecl = record { class = place; setup = first_call (flat_map (setup_call scope name) t.main) } in decl) ≡ procs_of t line
procs_line t line name class count at scope place many_ is scoped placed counted =
    ap (λ n. replicate n (let decl : ProcDecl = record { class = place; setup = first_call (flat_map (setup_call scope name) t.main) } in decl)) (counted ∙ ap made_count is)
    ∙ ap (λ s. replicate (many count) (let decl : ProcDecl = record { class = place; setup = first_call (flat_map (setup_call s name) t.main) } in decl)) scoped
    ∙ ap (λ p. replicate (many count) (let decl : ProcDecl = record { class = p; setup = first_call (flat_map (setup_call (made 0 t.main) name) t.main) } in decl)) placed
    ∙ sym (ap (procs_of t) is)
