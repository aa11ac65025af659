-- The calls and the yield points of methods, step by step.
use Rattle.std.proofs.Common.{◌≡◌, ◌∙◌, ◌↔◌, ℕ, ◌+◌, ◌<◌, ◌≤◌, true, false, List, [], ◌∷◌, ◌++◌, length, map, take, get_or, filter, filter_map, flat_map, Option, Some, None, Contains, subst, sym, refl, ap, ⊎_elim, arith}
use Rattle.std.specs.List.{cons_option, slice_get}
use Rattle.std.specs.Option.{option_map}
use Rattle.std.proofs.lemmas.Bool.{cases_eq}
use Rattle.std.proofs.lemmas.List.{append-nil, map-append, take_more}
use Rattle.std.proofs.lemmas.List.Concat.{flat_map-append}
use Rattle.std.proofs.lemmas.List.Elements.{filter_map-append, filter-append, Contains-append_left, Contains-push, Contains-push_cases}
use Rattle.std.proofs.lemmas.Option.{slice_get_within, slice_get-map, slice_get-get_or}
use Rattle.da_lang.specs.declared.tree.Member.{Member}
use Rattle.da_lang.specs.declared.tree.Member.TheVariants as member
use Rattle.da_lang.specs.declared.tree.Stmt.{Stmt}
use Rattle.da_lang.specs.ClassParts.{Body, body_in}
use Rattle.da_lang.specs.Deeds.{Deed, deeds}
use Rattle.da_lang.specs.Limits.{is_root}
use Rattle.da_calls.specs.CallBodies.{calls_by, some_yield}
use Rattle.da_calls.specs.CallRows.{call_rows, HoldsYield, AreYieldPoints, outside_deeds, outside_stmts}
use Rattle.da_calls.proofs.CallBodies.{calls_by-append}
use Rattle.da_calls.proofs.CallBounds.{false_true, some_same, in_none}

-- the methods before a number that have a yield point
pub record YieldsBelow (count : ℕ) (methods : List Body) (points : List ℕ) : Type 0 where
  pub below : (k : ℕ) → Contains points k ↔ ((k < count) × HoldsYield methods k)

pub yields_none : (methods : List Body) (points : List ℕ) → points ≡ [] → YieldsBelow 0 methods points
yields_none methods points none = record { below = λ k. ((λ has. absurd (in_none k (subst (λ p. Contains p k) none has))), (λ h. absurd (omega (arith, h.0)))) }

pub yields_here : (count : ℕ) (methods : List Body) (points more : List ℕ) (b : Body) → slice_get methods count ≡ Some b → some_yield (deeds b.stmts) ≡ true → more ≡ points ++ count ∷ [] → YieldsBelow count methods points → YieldsBelow (count + 1) methods more
yields_here count methods points more b there holds is w = record {
  below = λ k. (
    (λ has. ⊎_elim
        (λ before. let h : (k < count) × HoldsYield methods k = (w.below k).0 before in (omega (arith, h.0), h.1))
        (λ last. (omega (arith, last), (b, ap (slice_get methods) (sym last) ∙ there, holds)))
        (Contains-push_cases points count k (subst (λ p. Contains p k) is has))),
    (λ h. ⊎_elim
        (λ same. subst (λ p. Contains p k) (sym is) (subst (λ n. Contains (points ++ count ∷ []) n) (sym same) (Contains-push points count)))
        (λ other. subst (λ p. Contains p k) (sym is) (Contains-append_left points (count ∷ []) k ((w.below k).1 (omega (arith, h.0, other), h.1))))
        (cases_eq k count)),
  );
}

pub yields_not : (count : ℕ) (methods : List Body) (points : List ℕ) (b : Body) → slice_get methods count ≡ Some b → some_yield (deeds b.stmts) ≡ false → YieldsBelow count methods points → YieldsBelow (count + 1) methods points
yields_not count methods points b there holds w = record {
  below = λ k. (
    (λ has. let h : (k < count) × HoldsYield methods k = (w.below k).0 has in (omega (arith, h.0), h.1)),
    (λ h. ⊎_elim
        (λ same. absurd (false_true (sym holds ∙ ap (λ x. some_yield (deeds x.stmts)) (some_same b h.1.0 (sym there ∙ ap (slice_get methods) (sym same) ∙ h.1.1)) ∙ h.1.2)))
        (λ other. (w.below k).1 (omega (arith, h.0, other), h.1))
        (cases_eq k count)),
  );
}

pub yields_all : (count : ℕ) (methods : List Body) (points : List ℕ) → length methods ≤ count → YieldsBelow count methods points → AreYieldPoints methods points
yields_all count methods points all w = record {
  all = λ k. ((λ has. ((w.below k).0 has).1), (λ h. (w.below k).1 (let within : k < length methods = slice_get_within methods k h.0 h.1 in omega (arith, within, all), h)));
}

-- a method that was read
pub method_read : {A : Type 0} (f : A → Body) (xs : List A) (i : ℕ) (x : A) → i < length xs → x ≡ get_or xs i x → slice_get (map f xs) i ≡ Some (f x)
method_read f xs i x within is = slice_get-map f xs i ∙ ap (option_map f) (slice_get-get_or xs i x within ∙ ap Some (sym is))

-- one more method
pub rows_more : {A : Type 0} (number : List ℕ → Option ℕ) (f : A → Body) (xs : List A) (i : ℕ) (x : A) (rows more : List (List ℕ)) (row : List ℕ) → i < length xs → x ≡ get_or xs i x → rows ≡ call_rows number (map f (take i xs)) → row ≡ calls_by number (deeds (f x).stmts) → more ≡ rows ++ row ∷ [] → more ≡ call_rows number (map f (take (i + 1) xs))
rows_more number f xs i x rows more row within is was row_is is_more =
    is_more ∙ ap (λ r. rows ++ r ∷ []) row_is ∙ ap (λ rs. rs ++ calls_by number (deeds (f x).stmts) ∷ []) was
    ∙ sym (ap (λ ys. call_rows number (map f ys)) (take_more xs i x within ∙ ap (λ y. take i xs ++ y ∷ []) (sym is))
    ∙ ap (call_rows number) (map-append f (take i xs) (x ∷ [])) ∙ map-append (λ b. calls_by number (deeds b.stmts)) (map f (take i xs)) (f x ∷ []))

-- one more member
outside_more : (xs : List Member) (m : Member) → outside_deeds (filter_map body_in (xs ++ m ∷ [])) ≡ outside_deeds (filter_map body_in xs) ++ outside_deeds (cons_option (body_in m) [])
outside_more xs m =
    ap outside_deeds (filter_map-append body_in xs (m ∷ []))
    ∙ ap (flat_map (λ b. deeds b.stmts)) (filter-append (λ b. is_root b.place) (filter_map body_in xs) (cons_option (body_in m) []))
    ∙ flat_map-append (λ b. deeds b.stmts) (filter (λ b. is_root b.place) (filter_map body_in xs)) (filter (λ b. is_root b.place) (cons_option (body_in m) []))

abbrev pub deeds_if : Option (List Stmt) → List Deed
deeds_if None = []
deeds_if (Some stmts) = deeds stmts

outside_one : (m : Member) → outside_deeds (cons_option (body_in m) []) ≡ deeds_if (outside_stmts m)
outside_one (member.Var name ty line) = refl
outside_one (member.Setup params stmts line) = append-nil (deeds stmts)
outside_one (member.Run stmts line) = append-nil (deeds stmts)
outside_one (member.Method name params stmts line) = refl
outside_one (member.Receive message from labels stmts line) = append-nil (deeds stmts)

pub outside_step : (number : List ℕ → Option ℕ) (xs : List Member) (i : ℕ) (m : Member) (stmts : Option (List Stmt)) (calls more : List ℕ) → i < length xs → m ≡ get_or xs i m → stmts ≡ outside_stmts m → more ≡ calls ++ calls_by number (deeds_if stmts) → calls ≡ calls_by number (outside_deeds (filter_map body_in (take i xs))) → more ≡ calls_by number (outside_deeds (filter_map body_in (take (i + 1) xs)))
outside_step number xs i m stmts calls more within is outside is_more was =
    is_more ∙ ap (λ c. c ++ calls_by number (deeds_if stmts)) was
    ∙ ap (λ ds. calls_by number (outside_deeds (filter_map body_in (take i xs))) ++ calls_by number ds) (ap deeds_if outside ∙ sym (outside_one m))
    ∙ sym (calls_by-append number (outside_deeds (filter_map body_in (take i xs))) (outside_deeds (cons_option (body_in m) [])))
    ∙ ap (calls_by number) (sym (outside_more (take i xs) m))
    ∙ ap (λ ms. calls_by number (outside_deeds (filter_map body_in ms))) (ap (λ x. take i xs ++ x ∷ []) is ∙ sym (take_more xs i m within))
