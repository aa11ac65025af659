-- What is reported of statements, one by one.
use Rattle.std.specs.Prelude.{◌≡◌, refl, ℕ, ◌+◌, ◌<◌, length, take, Bool, true, false, ◌||◌, List, [], ◌∷◌, ◌++◌, map, Option}
use Rattle.std.specs.List.{list_any}
use Rattle.std.proofs.Common.{◌∙◌, ◌⊎◌, sym, ap, get_or}
use Rattle.std.proofs.lemmas.List.{map-append, take_more}
use Rattle.da_lang.specs.declared.refusal.ScopeKind.{ScopeKind}
use Rattle.da_lang.specs.declared.tree.Expr.{Expr}
use Rattle.da_lang.specs.Deeds.{Deed}
use Rattle.da_lang.specs.NameRules.{lines_where}
use Rattle.da_lang.specs.Scopes.{at_lines}
use Rattle.da_lang.specs.Written.{asks}
use Rattle.da_names.specs.DeedView.{deed_of, deeds_in}
use Rattle.da_names.specs.declared.deeds.Deed as code
use Rattle.da_names.specs.Early.{asks_early}
use Rattle.da_bodies.specs.Telling.{Refusal, telling}
use Rattle.da_bodies.proofs.AgainLaws.{if_any, tells_by, told_if, at_lines-append}
use Rattle.da_bodies.proofs.TellingLaws.{telling-nil, telling-append}

snoc_by : (test : Deed → Bool) (d e : Deed) (ds : List Deed) (b : Bool) → test d ≡ b → lines_where test (ds ++ e ∷ []) ≡ lines_where test ds ++ if_any (test e) e.line → lines_where test ((d ∷ ds) ++ e ∷ []) ≡ lines_where test (d ∷ ds) ++ if_any (test e) e.line
snoc_by test d e ds true is h = rw is (ap (λ ls. d.line ∷ ls) h)
snoc_by test d e ds false is h = rw is h

one_by : (test : Deed → Bool) (e : Deed) (b : Bool) → test e ≡ b → lines_where test (e ∷ []) ≡ if_any b e.line
one_by test e true is = rw is refl
one_by test e false is = rw is refl

lines_where-snoc : (test : Deed → Bool) (ds : List Deed) (e : Deed) → lines_where test (ds ++ e ∷ []) ≡ lines_where test ds ++ if_any (test e) e.line
lines_where-snoc test [] e = one_by test e (test e) refl
lines_where-snoc test (d ∷ ds) e = snoc_by test d e ds (test d) refl (lines_where-snoc test ds e)

-- one more statement in a loop
pub where_more : (kind : ScopeKind) (test : Deed → Bool) (first found last : Option Refusal) (ds : List code.Deed) (i : ℕ) (x : code.Deed) (b : Bool) → i < length ds → x ≡ get_or ds i x
    → found ≡ telling first (at_lines kind (lines_where test (deeds_in (take i ds))))
    → b ≡ test (deed_of x)
    → ((b ≡ true) × (last ≡ telling found (record { kind = kind; line = x.line } ∷ []))) ⊎ ((b ≡ false) × (last ≡ found))
    → last ≡ telling first (at_lines kind (lines_where test (deeds_in (take (i + 1) ds))))
unfolding deeds_in
where_more kind test first found last ds i x b within here told is step =
    let before = map deed_of (take i ds) in
    let one : take (i + 1) ds ≡ take i ds ++ x ∷ [] = take_more ds i x within ∙ ap (λ y. take i ds ++ y ∷ []) (sym here) in
    let more : map deed_of (take (i + 1) ds) ≡ before ++ deed_of x ∷ [] = ap (map deed_of) one ∙ map-append deed_of (take i ds) (x ∷ []) in
    tells_by kind found last x.line b (told_if kind x.line found last b step)
    ∙ ap (λ f. telling f (at_lines kind (if_any b x.line))) told
    ∙ sym (telling-append first (at_lines kind (lines_where test before)) (at_lines kind (if_any b x.line)))
    ∙ ap (telling first) (sym (at_lines-append kind (lines_where test before) (if_any b x.line)))
    ∙ ap (λ c. telling first (at_lines kind (lines_where test before ++ if_any c x.line))) is
    ∙ ap (λ l. telling first (at_lines kind l)) (sym (lines_where-snoc test before (deed_of x)) ∙ ap (lines_where test) (sym more))

pub where_nil : (kind : ScopeKind) (test : Deed → Bool) (first : Option Refusal) → first ≡ telling first (at_lines kind (lines_where test (deeds_in [])))
unfolding deeds_in
where_nil kind test first = sym (telling-nil first)

or_false : (b : Bool) → (b || false) ≡ b
or_false true = refl
or_false false = refl

pub asks_early_false : (xs : List Expr) → list_any (asks_early false) xs ≡ list_any asks xs
unfolding asks_early
asks_early_false [] = refl
asks_early_false (x ∷ xs) = ap (λ b. b || list_any (asks_early false) xs) (or_false (asks x)) ∙ ap (λ b. asks x || b) (asks_early_false xs)
