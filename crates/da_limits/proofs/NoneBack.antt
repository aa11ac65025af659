-- Where names refuse nothing, no call of a method leads back to it.
use Rattle.std.specs.Prelude.{◌≡◌, refl, ℕ, ◌+◌, ◌<◌, Bool, true, false, List, [], ◌∷◌, ◌++◌, length, map, drop, flat_map, filter, Some, Contains}
use Rattle.std.proofs.Common.{◌∙◌, ap, sym, subst, arith, cond, get_or, ⊎_elim}
use Rattle.da_lang.specs.declared.tree.ClassTree.{ClassTree}
use Rattle.da_lang.specs.declared.tree.Tree.{Tree}
use Rattle.da_lang.specs.Calls.{called, deeds_in}
use Rattle.da_lang.specs.Deeds.{Deed, Doing, Sends, Outputs, Labels, Calls, Loops, Awaits, TimesOut, Other}
use Rattle.da_lang.specs.NameRules.{class_refusals, leads_back, method_names, name_refusals, recursive_in}
use Rattle.da_limits.specs.Loops.{NoneLeadsBack}
use Rattle.da_limits.specs.LimitTree.{NoneLeadBack}
use Rattle.da_calls.proofs.CallBounds.{caller_is_method, filter_map_in, in_cases, in_none, method_in_names, none_is_some, some_same}
use Rattle.da_limits.proofs.ClassMembersAt.{dropped}

prefix_none : {A : Type 0} (xs ys : List A) → xs ++ ys ≡ [] → xs ≡ []
prefix_none [] ys none = refl
prefix_none (x ∷ xs) ys none = absurd (omega (arith, ap length none))

back_none : {A : Type 0} (xs ys : List A) → xs ++ ys ≡ [] → ys ≡ []
back_none [] ys none = none
back_none (x ∷ xs) ys none = absurd (omega (arith, ap length none))

map_none : {A B : Type 0} (f : A → B) (xs : List A) → map f xs ≡ [] → xs ≡ []
map_none f [] none = refl
map_none f (x ∷ xs) none = absurd (omega (arith, ap length none))

each_none : {A B : Type 0} (f : A → List B) (xs : List A) (x : A) → flat_map f xs ≡ [] → Contains xs x → f x ≡ []
each_none f [] x none has = absurd (in_none x has)
each_none f (y ∷ xs) x none has = ⊎_elim (λ same. ap f (sym same) ∙ prefix_none (f y) (flat_map f xs) none) (λ h. each_none f xs x (back_none (f y) (flat_map f xs) none) h) (in_cases y xs x has)

filter_none : {A : Type 0} (p : A → Bool) (xs : List A) (x : A) → filter p xs ≡ [] → Contains xs x → p x ≡ false
filter_none p [] x none has = absurd (in_none x has)
filter_none {A} p (y ∷ xs) x none has = go (p y) refl none (λ rest h. filter_none p xs x rest h)
  where
    go : (b : Bool) → p y ≡ b → cond b (y ∷ filter p xs) (filter p xs) ≡ [] → (filter p xs ≡ [] → Contains xs x → p x ≡ false) → p x ≡ false
    go true is some later = absurd (omega (arith, ap length some))
    go false is rest later = ⊎_elim (λ same. ap p (sym same) ∙ is) (λ h. later rest h) (in_cases y xs x has)

calls_is : (does : Doing) (next : List ℕ) → called does ≡ Some next → does ≡ Calls next
calls_is (Calls name) next is = ap Calls (some_same name next is)
calls_is Sends next is = absurd (none_is_some next is)
calls_is Outputs next is = absurd (none_is_some next is)
calls_is (Labels name) next is = absurd (none_is_some next is)
calls_is Loops next is = absurd (none_is_some next is)
calls_is Awaits next is = absurd (none_is_some next is)
calls_is TimesOut next is = absurd (none_is_some next is)
calls_is Other next is = absurd (none_is_some next is)

recursive_none : (c : ClassTree) → flat_map (recursive_in c) (method_names c) ≡ [] → NoneLeadsBack c
recursive_none c none name next calls =
    let body = caller_is_method c name next calls in
    let lines = each_none (recursive_in c) (method_names c) name none (method_in_names c name body.0 body.1) in
    let deed = filter_map_in (λ (d : Deed). called d.does) (deeds_in c name) next calls in
    let quiet = filter_none (λ (d : Deed). leads_back c name d.does) (deeds_in c name) deed.0 (map_none (λ (d : Deed). d.line) (filter (λ d. leads_back c name d.does) (deeds_in c name)) lines) deed.1 in
    ap (leads_back c name) (sym (calls_is deed.0.does next deed.2)) ∙ quiet

class_none : (c : ClassTree) → class_refusals c ≡ [] → NoneLeadsBack c
class_none c none =
    recursive_none c (map_none _ _ (back_none _ _ (prefix_none _ _ (prefix_none _ _ (prefix_none _ _ (prefix_none _ _ none))))))

classes_none : (cs : List ClassTree) → flat_map class_refusals cs ≡ [] → NoneLeadBack cs
classes_none [] none = tt
classes_none (c ∷ cs) none = (class_none c (prefix_none (class_refusals c) (flat_map class_refusals cs) none), classes_none cs (back_none (class_refusals c) (flat_map class_refusals cs) none))

pub none_back : (t : Tree) → name_refusals t ≡ [] → NoneLeadBack t.classes
unfolding name_refusals
none_back t none = classes_none t.classes (prefix_none _ _ (prefix_none _ _ none))

pub none_at : (cs : List ClassTree) (i : ℕ) (c : ClassTree) → NoneLeadBack (drop i cs) → i < length cs → c ≡ get_or cs i c → NoneLeadsBack c × NoneLeadBack (drop (i + 1) cs)
none_at cs i c back inside here = subst NoneLeadBack (dropped cs i c inside here) back
