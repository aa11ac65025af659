-- What is reported of parts that stand one after the other.
use Rattle.std.specs.Prelude.{◌≡◌, ℕ, ◌+◌, ◌<◌, length, take, List, [], ◌∷◌, ◌++◌, map, flat_map, Option}
use Rattle.std.specs.List.{AllByRecursion, fold}
use Rattle.std.proofs.Common.{◌∙◌, sym, ap, get_or}
use Rattle.std.proofs.lemmas.List.{take_more}
use Rattle.std.proofs.lemmas.List.{map-append}
use Rattle.da_lang.specs.declared.refusal.ScopeKind.{ScopeKind}
use Rattle.da_lang.specs.declared.tree.Expr.{Expr}
use Rattle.da_lang.specs.ExprNames.{Role, Local, Part, in_order, brought, names_of}
use Rattle.da_lang.specs.Scopes.{Scope, at_line}
use Rattle.da_bodies.specs.Telling.{Refusal, telling}
use Rattle.da_bodies.specs.Told.{brought_each, after_part_of, behind_all, told_kinds, told_part, told_parts, told_all, told_expr}
use Rattle.da_bodies.proofs.PartLaws.{Steady, Plain, all_map, all_of, in_order-same, plain_steady, expr_plain}
use Rattle.da_bodies.proofs.SameLook.{same_here, same_brought_each, brought_each-nil, brought_each-append}
use Rattle.da_bodies.proofs.TellingLaws.{telling-nil, telling-append}

pub told_kinds-nil : (line : ℕ) (found : Option Refusal) → told_kinds line found [] ≡ found
unfolding told_kinds
told_kinds-nil line found = telling-nil found

pub told_kinds-append : (line : ℕ) (found : Option Refusal) (xs ys : List ScopeKind) → told_kinds line found (xs ++ ys) ≡ told_kinds line (told_kinds line found xs) ys
unfolding told_kinds
told_kinds-append line found xs ys =
    let at : ScopeKind → Refusal = λ kind. record { kind = kind; line = line } in
    ap (telling found) (map-append at xs ys) ∙ telling-append found (at_line line xs) (at_line line ys)

pub told_parts-nil : (line : ℕ) (role : Role) (scope : Scope Role) (found : Option Refusal) → told_parts line role scope found [] ≡ found
unfolding told_parts
told_parts-nil line role scope found = told_kinds-nil line found

pub told_parts-cons : (line : ℕ) (role : Role) (scope : Scope Role) (found : Option Refusal) (p : Part) (ps : List Part) → AllByRecursion Steady ps → told_parts line role scope found (p ∷ ps) ≡ told_parts line role (after_part_of role scope p) (told_part line role scope found p) ps
unfolding told_parts told_part after_part_of
told_parts-cons line role scope found p ps h =
    told_kinds-append line found (p.kinds role scope) (in_order ps role (brought role p.binds scope))
    ∙ ap (told_kinds line (told_kinds line found (p.kinds role scope))) (in_order-same ps h role (brought role p.binds scope) (brought_each role p.binds scope) (same_brought_each role p.binds scope))

pub told_parts-one : (line : ℕ) (role : Role) (scope : Scope Role) (found : Option Refusal) (p : Part) → told_parts line role scope found (p ∷ []) ≡ told_part line role scope found p
told_parts-one line role scope found p = told_parts-cons line role scope found p [] tt ∙ told_parts-nil line role (after_part_of role scope p) (told_part line role scope found p)

module _ {A : Type 0} (part : A → Part) (steady : (x : A) → Steady (part x)) where
  pub told_all-nil : (line : ℕ) (role : Role) (scope : Scope Role) (found : Option Refusal) → told_all part line role scope found [] ≡ found
  unfolding told_all
  told_all-nil line role scope found = told_parts-nil line role scope found

  pub told_all-cons : (line : ℕ) (role : Role) (scope : Scope Role) (found : Option Refusal) (x : A) (xs : List A) → told_all part line role scope found (x ∷ xs) ≡ told_all part line role (after_part_of role scope (part x)) (told_part line role scope found (part x)) xs
  unfolding told_all
  told_all-cons line role scope found x xs = told_parts-cons line role scope found (part x) (map part xs) (all_map Steady part xs (all_of (λ y. Steady (part y)) steady xs))

  pub told_all-one : (line : ℕ) (role : Role) (scope : Scope Role) (found : Option Refusal) (x : A) → told_all part line role scope found (x ∷ []) ≡ told_part line role scope found (part x)
  told_all-one line role scope found x = told_all-cons line role scope found x [] ∙ told_all-nil line role (after_part_of role scope (part x)) (told_part line role scope found (part x))

  pub behind_all-nil : (role : Role) (scope : Scope Role) → behind_all part role scope [] ≡ scope
  unfolding behind_all
  behind_all-nil role scope = brought_each-nil role scope

  pub behind_all-cons : (role : Role) (scope : Scope Role) (x : A) (xs : List A) → behind_all part role scope (x ∷ xs) ≡ behind_all part role (after_part_of role scope (part x)) xs
  unfolding behind_all after_part_of
  behind_all-cons role scope x xs = brought_each-append role (part x).binds (flat_map (λ y. (part y).binds) xs) scope

  pub behind_all-append : (role : Role) (scope : Scope Role) (xs ys : List A) → behind_all part role scope (xs ++ ys) ≡ behind_all part role (behind_all part role scope xs) ys
  behind_all-append role scope [] ys = ap (λ s. behind_all part role s ys) (sym (behind_all-nil role scope))
  behind_all-append role scope (x ∷ xs) ys =
      behind_all-cons role scope x (xs ++ ys) ∙ behind_all-append role (after_part_of role scope (part x)) xs ys
      ∙ ap (λ s. behind_all part role s ys) (sym (behind_all-cons role scope x xs))

  pub behind_all-snoc : (role : Role) (scope : Scope Role) (xs : List A) (y : A) → behind_all part role scope (xs ++ y ∷ []) ≡ after_part_of role (behind_all part role scope xs) (part y)
  behind_all-snoc role scope xs y = behind_all-append role scope xs (y ∷ []) ∙ behind_all-cons role (behind_all part role scope xs) y [] ∙ behind_all-nil role (after_part_of role (behind_all part role scope xs) (part y))

  pub told_all-append : (line : ℕ) (role : Role) (scope : Scope Role) (found : Option Refusal) (xs ys : List A) → told_all part line role scope found (xs ++ ys) ≡ told_all part line role (behind_all part role scope xs) (told_all part line role scope found xs) ys
  told_all-append line role scope found [] ys =
      ap (λ s. told_all part line role s found ys) (sym (behind_all-nil role scope)) ∙ ap (λ f. told_all part line role (behind_all part role scope []) f ys) (sym (told_all-nil line role scope found))
  told_all-append line role scope found (x ∷ xs) ys =
      told_all-cons line role scope found x (xs ++ ys)
      ∙ told_all-append line role (after_part_of role scope (part x)) (told_part line role scope found (part x)) xs ys
      ∙ ap (λ s. told_all part line role s (told_all part line role (after_part_of role scope (part x)) (told_part line role scope found (part x)) xs) ys) (sym (behind_all-cons role scope x xs))
      ∙ ap (λ f. told_all part line role (behind_all part role scope (x ∷ xs)) f ys) (sym (told_all-cons line role scope found x xs))

  pub told_all-snoc : (line : ℕ) (role : Role) (scope : Scope Role) (found : Option Refusal) (xs : List A) (y : A) → told_all part line role scope found (xs ++ y ∷ []) ≡ told_part line role (behind_all part role scope xs) (told_all part line role scope found xs) (part y)
  told_all-snoc line role scope found xs y = told_all-append line role scope found xs (y ∷ []) ∙ told_all-one line role (behind_all part role scope xs) (told_all part line role scope found xs) y

  -- one more turn of a loop over such a list
  pub told_all-more : (line : ℕ) (role : Role) (old names : Scope Role) (first found last : Option Refusal) (xs : List A) (i : ℕ) (x : A) → i < length xs → x ≡ get_or xs i x → found ≡ told_all part line role old first (take i xs) → names ≡ behind_all part role old (take i xs) → last ≡ told_part line role names found (part x) → last ≡ told_all part line role old first (take (i + 1) xs)
  told_all-more line role old names first found last xs i x within here told entered step =
      let more : take (i + 1) xs ≡ take i xs ++ x ∷ [] = take_more xs i x within ∙ ap (λ y. take i xs ++ y ∷ []) (sym here) in
      step ∙ ap (λ s. told_part line role s found (part x)) entered ∙ ap (λ f. told_part line role (behind_all part role old (take i xs)) f (part x)) told
      ∙ sym (told_all-snoc line role old first (take i xs) x) ∙ ap (told_all part line role old first) (sym more)

  pub behind_all-more : (role : Role) (old names last : Scope Role) (xs : List A) (i : ℕ) (x : A) → i < length xs → x ≡ get_or xs i x → names ≡ behind_all part role old (take i xs) → last ≡ after_part_of role names (part x) → last ≡ behind_all part role old (take (i + 1) xs)
  behind_all-more role old names last xs i x within here entered step =
      let more : take (i + 1) xs ≡ take i xs ++ x ∷ [] = take_more xs i x within ∙ ap (λ y. take i xs ++ y ∷ []) (sym here) in
      step ∙ ap (λ s. after_part_of role s (part x)) entered ∙ sym (behind_all-snoc role old (take i xs) x) ∙ ap (behind_all part role old) (sym more)

-- expressions
pub told_part-expr : (line : ℕ) (role : Role) (scope : Scope Role) (found : Option Refusal) (x : Expr) → told_part line role scope found (names_of x) ≡ told_expr line scope found x
unfolding told_part told_expr
told_part-expr line role scope found x = ap (told_kinds line found) ((expr_plain x).kinds role Local scope scope (same_here scope))

pub behind-plain : (role : Role) (scope : Scope Role) (p : Part) → Plain p → after_part_of role scope p ≡ scope
unfolding after_part_of
behind-plain role scope p h = ap (λ b. brought_each role b scope) h.binds ∙ brought_each-nil role scope

expr_steady : (x : Expr) → Steady (names_of x)
expr_steady x = plain_steady (names_of x) (expr_plain x)

pub told_all-exprs : (line : ℕ) (role : Role) (scope : Scope Role) (found : Option Refusal) (xs : List Expr) → told_all names_of line role scope found xs ≡ fold (told_expr line scope) found xs
told_all-exprs line role scope found [] = told_all-nil names_of expr_steady line role scope found
told_all-exprs line role scope found (x ∷ xs) =
    told_all-cons names_of expr_steady line role scope found x xs
    ∙ ap (λ s. told_all names_of line role s (told_part line role scope found (names_of x)) xs) (behind-plain role scope (names_of x) (expr_plain x))
    ∙ told_all-exprs line role scope (told_part line role scope found (names_of x)) xs
    ∙ ap (λ f. fold (told_expr line scope) f xs) (told_part-expr line role scope found x)
