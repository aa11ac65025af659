-- Numbers of methods, step by step.
use Rattle.std.proofs.Common.{◌≡◌, ◌∙◌, ℕ, zero, suc, ◌+◌, ◌<◌, true, false, List, [], ◌∷◌, ◌++◌, length, map, take, get_or, find, filter_map, cond, Option, Some, None, subst, sym, refl, ap, ⊎_elim, arith}
use Rattle.std.specs.Bool.{if◌then◌else◌}
use Rattle.std.specs.List.{cons_option, slice_get}
use Rattle.std.specs.Option.{option_and_then, option_or, is_some}
use Rattle.std.specs.Str.{bytes_eq}
use Rattle.std.proofs.lemmas.Bool.{cases_Bool, cases_eq}
use Rattle.std.proofs.lemmas.List.{append-nil, length-append, map-append, take_more}
use Rattle.std.proofs.lemmas.List.Folds.{find-append}
use Rattle.std.proofs.lemmas.List.Elements.{filter_map-append}
use Rattle.da_lang.specs.declared.tree.Member.{Member}
use Rattle.da_lang.specs.declared.tree.Member.TheVariants as member
use Rattle.da_lang.specs.ClassParts.{Body, InMethod, body_in, is_method}
use Rattle.da_calls.specs.CallMethods.{Numbering, AddsMethod, method_body}
use Rattle.da_calls.specs.CallNames.{number_in, PutUnder}
use Rattle.da_calls.specs.declared.names.Numbers.{Numbers}
use Rattle.da_calls.proofs.CallBounds.{false_true, none_is_some, some_same}
use Rattle.da_calls.proofs.CallNames.{same_name, name_same}

pub slice_get-push : {A : Type 0} (xs : List A) (y : A) → slice_get (xs ++ y ∷ []) (length xs) ≡ Some y
slice_get-push [] y = refl
slice_get-push (x ∷ xs) y = slice_get-push xs y

pub slice_get-before : {A : Type 0} (xs ys : List A) (k : ℕ) → k < length xs → slice_get (xs ++ ys) k ≡ slice_get xs k
slice_get-before [] ys k h = absurd (omega (arith, h))
slice_get-before (x ∷ xs) ys zero h = refl
slice_get-before (x ∷ xs) ys (suc k) h = slice_get-before xs ys k (omega (arith, h))

pub slice_get-some : {A : Type 0} (xs : List A) (k : ℕ) → k < length xs → (x : A) × (slice_get xs k ≡ Some x)
slice_get-some [] k h = absurd (omega (arith, h))
slice_get-some (x ∷ xs) zero h = (x, refl)
slice_get-some (x ∷ xs) (suc k) h = slice_get-some xs k (omega (arith, h))

pub numbering_none : (number : List ℕ → Option ℕ) → ((name : List ℕ) → number name ≡ None) → Numbering [] [] number
numbering_none number none = record {
  found = λ name. sym (ap (option_and_then (slice_get [])) (none name));
  within = λ name k is. absurd (none_is_some k (sym (none name) ∙ is));
  named = λ k h. absurd (omega (arith, h));
}

or_none : {A : Type 0} (o : Option A) → option_or o None ≡ o
or_none None = refl
or_none (Some x) = refl

or_some : {A : Type 0} (o p : Option A) (x : A) → o ≡ Some x → option_or o p ≡ o
or_some None p x e = absurd (none_is_some x e)
or_some (Some y) p x e = refl

-- a body that a name does not find
not_found : (name : List ℕ) (before : List Body) (b : Body) → is_method name b.place ≡ false → find (λ x. is_method name x.place) (before ++ b ∷ []) ≡ find (λ x. is_method name x.place) before
not_found name before b other =
    find-append (λ x. is_method name x.place) before (b ∷ []) ∙ ap (λ t. option_or (find (λ x. is_method name x.place) before) (cond t (Some b) None)) other ∙ or_none (find (λ x. is_method name x.place) before)

-- a body that is no method
pub numbering_passes : (before methods : List Body) (number : List ℕ → Option ℕ) (b : Body) → ((name : List ℕ) → is_method name b.place ≡ false) → Numbering before methods number → Numbering (before ++ b ∷ []) methods number
numbering_passes before methods number b other w = record {
  found = λ name. not_found name before b (other name) ∙ w.found name;
  within = w.within;
  named = w.named;
}

-- a method whose name has a number
pub numbering_known : (before methods : List Body) (number : List ℕ → Option ℕ) (b : Body) (name : List ℕ) (k : ℕ) → b.place ≡ InMethod name → number name ≡ Some k → Numbering before methods number → Numbering (before ++ b ∷ []) methods number
numbering_known before methods number b name k place is w = record {
  found = λ other. ⊎_elim
      (λ same. let first : (x : Body) × (slice_get methods k ≡ Some x) = slice_get-some methods k (w.within name k is) in
      let there : find (λ x. is_method other x.place) before ≡ Some first.0 =
      w.found other ∙ ap (option_and_then (slice_get methods)) (ap number (sym (same_name name other same)) ∙ is) ∙ first.1 in
      find-append (λ x. is_method other x.place) before (b ∷ []) ∙ or_some (find (λ x. is_method other x.place) before) _ first.0 there ∙ w.found other)
      (λ differs. not_found other before b (ap (is_method other) place ∙ differs) ∙ w.found other)
      (cases_Bool (bytes_eq name other));
  within = w.within;
  named = w.named;
}

-- a method with a new name
module _ (before methods longer : List Body) (number now : List ℕ → Option ℕ) (b : Body) (name : List ℕ) (place : b.place ≡ InMethod name) (new : number name ≡ None) (more : longer ≡ methods ++ b ∷ [])
    (put : (other : List ℕ) → now other ≡ (if bytes_eq name other then Some (length methods) else number other)) (w : Numbering before methods number) where
  put_here : (other : List ℕ) → bytes_eq name other ≡ true → now other ≡ Some (length methods)
  put_here other e = put other ∙ ap (λ t. if t then Some (length methods) else number other) e

  put_other : (other : List ℕ) → bytes_eq name other ≡ false → now other ≡ number other
  put_other other e = put other ∙ ap (λ t. if t then Some (length methods) else number other) e

  one_longer : length longer ≡ length methods + 1
  one_longer = ap length more ∙ length-append methods (b ∷ [])

  old_lookup : (other : List ℕ) → option_and_then (slice_get longer) (number other) ≡ option_and_then (slice_get methods) (number other)
  old_lookup other = go (number other) refl
    where
      go : (o : Option ℕ) → number other ≡ o → option_and_then (slice_get longer) o ≡ option_and_then (slice_get methods) o
      go None e = refl
      go (Some k) e = ap (λ l. slice_get l k) more ∙ slice_get-before methods (b ∷ []) k (w.within other k e)

  pub numbering_new : Numbering (before ++ b ∷ []) longer now
  numbering_new = record {
    found = λ other. ⊎_elim
        (λ same.
        let none_there : find (λ x. is_method other x.place) before ≡ None = w.found other ∙ ap (option_and_then (slice_get methods)) (ap number (sym (same_name name other same)) ∙ new) in
        find-append (λ x. is_method other x.place) before (b ∷ [])
        ∙ ap (λ o. option_or o (cond (is_method other b.place) (Some b) None)) none_there
        ∙ ap (λ t. option_or None (cond t (Some b) None)) (ap (is_method other) place ∙ same)
        ∙ sym (ap (option_and_then (slice_get longer)) (put_here other same) ∙ ap (λ l. slice_get l (length methods)) more ∙ slice_get-push methods b))
        (λ differs. not_found other before b (ap (is_method other) place ∙ differs) ∙ w.found other ∙ sym (ap (option_and_then (slice_get longer)) (put_other other differs) ∙ old_lookup other))
        (cases_Bool (bytes_eq name other));
    within = λ other k is. ⊎_elim
        (λ same. let last : length methods ≡ k = some_same (length methods) k (sym (put_here other same) ∙ is) in omega (arith, last, one_longer))
        (λ differs. let old : k < length methods = w.within other k (sym (put_other other differs) ∙ is) in omega (arith, old, one_longer))
        (cases_Bool (bytes_eq name other));
    named = λ k h. ⊎_elim
        (λ same. (name, put_here name (name_same name name refl) ∙ ap Some (sym same)))
        (λ other. let old : (n : List ℕ) × (number n ≡ Some k) = w.named k (omega (arith, h, other, one_longer)) in (
          old.0,
          ⊎_elim
              (λ same. absurd (none_is_some k (sym new ∙ ap number (same_name name old.0 same) ∙ old.1)))
              (λ differs. put_other old.0 differs ∙ old.1)
              (cases_Bool (bytes_eq name old.0)),
        ))
        (cases_eq k (length methods));
  }

-- one more member
members_more : (xs : List Member) (m : Member) → filter_map body_in (xs ++ m ∷ []) ≡ filter_map body_in xs ++ cons_option (body_in m) []
members_more xs m = filter_map-append body_in xs (m ∷ [])

pub numbering_member : (before : List Member) (m : Member) (methods : List Body) (number : List ℕ → Option ℕ) → method_body m ≡ None → Numbering (filter_map body_in before) methods number → Numbering (filter_map body_in (before ++ m ∷ [])) methods number
numbering_member before (member.Var name ty line) methods number none w = subst (λ bs. Numbering bs methods number) (sym (members_more before (member.Var name ty line) ∙ append-nil (filter_map body_in before))) w
numbering_member before (member.Setup params stmts line) methods number none w =
    subst (λ bs. Numbering bs methods number) (sym (members_more before (member.Setup params stmts line))) (numbering_passes (filter_map body_in before) methods number _ (λ name. refl) w)
numbering_member before (member.Run stmts line) methods number none w =
    subst (λ bs. Numbering bs methods number) (sym (members_more before (member.Run stmts line))) (numbering_passes (filter_map body_in before) methods number _ (λ name. refl) w)
numbering_member before (member.Method name params stmts line) methods number none w = absurd (none_is_some _ (sym none))
numbering_member before (member.Receive message from labels stmts line) methods number none w =
    subst (λ bs. Numbering bs methods number) (sym (members_more before (member.Receive message from labels stmts line))) (numbering_passes (filter_map body_in before) methods number _ (λ name. refl) w)

pub numbering_method : (before : List Member) (m : Member) (b : Body) (methods longer : List Body) (number now : List ℕ → Option ℕ) → method_body m ≡ Some b → AddsMethod b methods number longer now → Numbering (filter_map body_in before) methods number → Numbering (filter_map body_in (before ++ m ∷ [])) longer now
numbering_method before (member.Var name ty line) b methods longer number now is s w = absurd (none_is_some b is)
numbering_method before (member.Setup params stmts line) b methods longer number now is s w = absurd (none_is_some b is)
numbering_method before (member.Run stmts line) b methods longer number now is s w = absurd (none_is_some b is)
numbering_method before (member.Method name params stmts line) b methods longer number now is s w =
    subst (λ bs. Numbering bs longer now) (sym (members_more before (member.Method name params stmts line) ∙ ap (λ x. filter_map body_in before ++ x ∷ []) (some_same _ b is))) (s.behind (filter_map body_in before) w)
numbering_method before (member.Receive message from labels stmts line) b methods longer number now is s w = absurd (none_is_some b is)

-- as the code adds one
pub adds_known : (b : Body) (name key : List ℕ) (methods : List Body) (number : List ℕ → Option ℕ) (o : Option ℕ) → b.place ≡ InMethod name → key ≡ name → o ≡ number key → true ≡ is_some o → AddsMethod b methods number methods number
adds_known b name key methods number None place same finds test = absurd (false_true (sym test))
adds_known b name key methods number (Some k) place same finds test = record { behind = λ before w. numbering_known before methods number b name k place (ap number (sym same) ∙ sym finds) w }

pub adds_new : (b : Body) (name key : List ℕ) (methods longer : List Body) (old new : Numbers) (o : Option ℕ) (len : ℕ) → b.place ≡ InMethod name → key ≡ name → o ≡ number_in old key → false ≡ is_some o → len ≡ length methods → longer ≡ methods ++ b ∷ [] → PutUnder key len old new → AddsMethod b methods (number_in old) longer (number_in new)
adds_new b name key methods longer old new (Some k) len place same finds test long more put = absurd (false_true test)
adds_new b name key methods longer old new None len place same finds test long more put = record {
  behind = λ before w. numbering_new before methods longer (number_in old) (number_in new) b name place (ap (number_in old) (sym same) ∙ sym finds) more
      (λ other. put.finds other ∙ ap (λ k. if bytes_eq k other then Some len else number_in old other) same ∙ ap (λ l. if bytes_eq name other then Some l else number_in old other) long) w;
}

pub map_push : {A B : Type 0} (f : A → B) (xs longer : List A) (x : A) → longer ≡ xs ++ x ∷ [] → map f longer ≡ map f xs ++ f x ∷ []
map_push f xs longer x e = ap (map f) e ∙ map-append f xs (x ∷ [])

-- one more member, as at a step of a loop
next_member : (xs : List Member) (i : ℕ) (m : Member) → i < length xs → m ≡ get_or xs i m → take i xs ++ m ∷ [] ≡ take (i + 1) xs
next_member xs i m within is = ap (λ x. take i xs ++ x ∷ []) is ∙ sym (take_more xs i m within)

pub numbering_step : (xs : List Member) (i : ℕ) (m : Member) (next : List Body) (now : List ℕ → Option ℕ) → i < length xs → m ≡ get_or xs i m → Numbering (filter_map body_in (take i xs ++ m ∷ [])) next now → Numbering (filter_map body_in (take (i + 1) xs)) next now
numbering_step xs i m next now within is w = subst (λ ms. Numbering (filter_map body_in ms) next now) (next_member xs i m within is) w
