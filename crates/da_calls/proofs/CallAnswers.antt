-- What the marks of a graph answer.
use Rattle.std.proofs.Common.{◌≡◌, ◌∙◌, ◌↔◌, ℕ, Bool, true, false, ◌&&◌, List, Option, Some, None, Contains, subst, sym, refl, ap, IsTrue}
use Rattle.std.specs.List.{list_any}
use Rattle.std.specs.Str.{bytes_eq}
use Rattle.da_lang.specs.declared.tree.ClassTree.{ClassTree}
use Rattle.da_lang.specs.Calls.{calls_in, is_yield, leads, yields}
use Rattle.da_lang.specs.ClassParts.{Body, method_of, stmts_if}
use Rattle.da_lang.specs.Deeds.{deeds}
use Rattle.da_calls.specs.CallPaths.{LeadsTo, here, on, IsMarked}
use Rattle.da_calls.proofs.CallBounds.{caller_is_method, leads-way, way-leads, holds_yield, way-yields, false_true, none_is_some}
use Rattle.da_calls.proofs.CallNames.{same_name, name_same, false_or_true}

-- two tests that pass alike
pub same_test : (a b : Bool) → (a ≡ true → b ≡ true) → (b ≡ true → a ≡ true) → a ≡ b
same_test true b there back = sym (there refl)
same_test false true there back = absurd (false_true (back refl))
same_test false false there back = refl

pub both_true : (a b : Bool) → a ≡ true → b ≡ true → (a && b) ≡ true
both_true true b e f = f
both_true false b e f = absurd (false_true e)

pub both_left : (a b : Bool) → (a && b) ≡ true → a ≡ true
both_left true b e = refl
both_left false b e = absurd (false_true e)

pub both_right : (a b : Bool) → (a && b) ≡ true → b ≡ true
both_right true b e = e
both_right false b e = absurd (false_true e)

-- who has no method leads to itself alone, and has no yield point
pub unknown_leads : (c : ClassTree) (x y : List ℕ) → method_of c x ≡ None → leads c x y ≡ true → x ≡ y
unknown_leads c x y none e = go (way-leads c y x e)
  where
    go : LeadsTo (calls_in c) y x → x ≡ y
    go (here m same) = same
    go (on m k step way) = let b : (z : Body) × (method_of c m ≡ Some z) = caller_is_method c m k step in absurd (none_is_some b.0 (sym none ∙ b.1))

pub leads_itself_by : (c : ClassTree) (x y : List ℕ) → x ≡ y → leads c x y ≡ true
leads_itself_by c x y e = leads-way c y x (here x e)

unknown_holds : (c : ClassTree) (x : List ℕ) → method_of c x ≡ None → holds_yield c x ≡ false
unknown_holds c x none = ap (λ o. list_any (λ d. is_yield d.does) (deeds (stmts_if o))) none

pub unknown_yields : (c : ClassTree) (x : List ℕ) → method_of c x ≡ None → false ≡ yields c x
unknown_yields c x none = sym (false_or_true (yields c x) (λ e. let found : (goal : List ℕ) × LeadsTo (calls_in c) goal x × (holds_yield c goal ≡ true) = way-yields c x e in go found.0 found.1 found.2))
  where
    go : (goal : List ℕ) → LeadsTo (calls_in c) goal x → holds_yield c goal ≡ true → ⊥
    go goal (here m same) holds = false_true (sym (unknown_holds c goal (subst (λ z. method_of c z ≡ None) same none)) ∙ holds)
    go goal (on m k step way) holds = let b : (z : Body) × (method_of c m ≡ Some z) = caller_is_method c m k step in none_is_some b.0 (sym none ∙ b.1)

-- where one of two names has no method
pub back_unknown : (c : ClassTree) (x y : List ℕ) (r : Bool) → method_of c x ≡ None → r ≡ bytes_eq x y → r ≡ (leads c x y && leads c y x)
back_unknown c x y r none test = same_test r (leads c x y && leads c y x)
    (λ e. let same : x ≡ y = same_name x y (sym test ∙ e) in both_true (leads c x y) (leads c y x) (leads_itself_by c x y same) (leads_itself_by c y x (sym same)))
    (λ e. test ∙ name_same x y (unknown_leads c x y none (both_left (leads c x y) (leads c y x) e)))

pub never_back : (c : ClassTree) (x y : List ℕ) (b : Body) → method_of c x ≡ Some b → method_of c y ≡ None → false ≡ (leads c x y && leads c y x)
never_back c x y b some none = sym (false_or_true (leads c x y && leads c y x)
    (λ e. none_is_some b (sym none ∙ ap (method_of c) (unknown_leads c y x none (both_right (leads c x y) (leads c y x) e)) ∙ some)))

-- a call leads to the method that it calls
pub leads-call : (c : ClassTree) (x y : List ℕ) → Contains (calls_in c x) y → leads c x y ≡ true
leads-call c x y calls = leads-way c y x (on x y calls (here y refl))

pub leads_back-call : (c : ClassTree) (x y : List ℕ) → Contains (calls_in c x) y → (leads c x y && leads c y x) ≡ leads c y x
leads_back-call c x y calls = ap (λ b. b && leads c y x) (leads-call c x y calls)

pub marked_test : (marks items : List (Option ℕ)) (k : ℕ) (r b : Bool) → IsTrue r ↔ IsMarked marks k → marks ≡ items → IsMarked items k ↔ (b ≡ true) → r ≡ b
marked_test marks items k r b tests same tells = same_test r b
    (λ e. tells.0 (subst (λ ms. IsMarked ms k) same (tests.0 e)))
    (λ e. tests.1 (subst (λ ms. IsMarked ms k) (sym same) (tells.1 e)))
