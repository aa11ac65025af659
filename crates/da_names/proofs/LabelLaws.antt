-- The labels that are declared again, and those after `at` that are not there.
use Rattle.std.specs.Prelude.{◌≡◌, refl, ℕ, Bool, true, false, not, ◌&&◌, if◌then◌else◌, List, [], ◌∷◌, flat_map, Option}
use Rattle.std.specs.List.{list_all}
use Rattle.std.proofs.Common.{◌∙◌, sym, ap}
use Rattle.da_lang.specs.declared.refusal.ScopeKind.TheVariants.{Twice, Unknown}
use Rattle.da_lang.specs.ClassParts.{Declared, Body, labels_at}
use Rattle.da_lang.specs.NameRules.{again}
use Rattle.da_lang.specs.Scopes.{at_lines}
use Rattle.da_bodies.specs.Repeats.{is_declared}
use Rattle.da_bodies.specs.Telling.{Refusal, telling}
use Rattle.da_bodies.proofs.AgainLaws.{if_any, tells_by}
use Rattle.da_bodies.proofs.TellingLaws.{telling-append}
use Rattle.da_names.specs.ClassRules.{label_refusals, missing_at}
use Rattle.da_names.proofs.SameBody.{flat_map-same}

-- one handler
missing_by : (all : Bool) (line : ℕ) → if_any (not all) line ≡ (if all then [] else line ∷ [])
missing_by true line = refl
missing_by false line = refl

pub missing_told : (test : List ℕ → Bool) (b : Body) (found last : Option Refusal) (all : Bool) → all ≡ list_all test (labels_at b.place)
    → last ≡ (if not all then telling found (record { kind = Unknown; line = b.line } ∷ []) else found)
    → last ≡ telling found (at_lines Unknown (missing_at test b))
missing_told test b found last all is step =
    tells_by Unknown found last b.line (not all) step
    ∙ ap (λ ls. telling found (at_lines Unknown ls)) (missing_by all b.line ∙ ap (λ (c : Bool). if c then [] else b.line ∷ []) is)

-- the same by another test that says the same
all_same : (p q : List ℕ → Bool) (names : List (List ℕ)) → ((name : List ℕ) → p name ≡ q name) → list_all p names ≡ list_all q names
all_same p q [] same = refl
all_same p q (x ∷ xs) same = ap (λ b. b && list_all p xs) (same x) ∙ ap (λ b. q x && b) (all_same p q xs same)

missing_same : (p q : List ℕ → Bool) (bs : List Body) → ((name : List ℕ) → p name ≡ q name) → flat_map (missing_at p) bs ≡ flat_map (missing_at q) bs
missing_same p q bs same = flat_map-same (missing_at p) (missing_at q) bs (λ b. ap (λ (c : Bool). if c then [] else b.line ∷ []) (all_same p q (labels_at b.place) same))

-- all of it
pub labels_told : (labels : List Declared) (bs : List Body) (test : List ℕ → Bool) (first found last : Option Refusal)
    → found ≡ telling first (at_lines Twice (again labels))
    → ((name : List ℕ) → test name ≡ is_declared labels name)
    → last ≡ telling found (at_lines Unknown (flat_map (missing_at test) bs))
    → last ≡ telling first (label_refusals labels bs)
unfolding label_refusals
labels_told labels bs test first found last told same step =
    step
    ∙ ap (λ ls. telling found (at_lines Unknown ls)) (missing_same test (is_declared labels) bs same)
    ∙ ap (λ f. telling f (at_lines Unknown (flat_map (missing_at (is_declared labels)) bs))) told
    ∙ sym (telling-append first (at_lines Twice (again labels)) (at_lines Unknown (flat_map (missing_at (is_declared labels)) bs)))
