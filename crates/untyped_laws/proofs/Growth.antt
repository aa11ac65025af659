-- Tables that grow by slots, of which those without a type are bound, in order.
use Rattle.std.specs.Prelude.{◌≡◌, refl, ℕ, suc, ◌+◌, List, [], ◌∷◌, ◌++◌, map, length, Some, None}
use Rattle.std.specs.List.{range_with_len}
use Rattle.std.proofs.Common.{◌∙◌, ap, ap₂, sym, arith, append_assoc, append-nil, add-one}
use Rattle.std.proofs.lemmas.List.{length-append}
use Rattle.da_lang.specs.declared.program.Item.{Item}
use Rattle.da_lang.specs.declared.tree.Param.{Param}
use Rattle.da_lang.specs.declared.ty.Ty.{Ty}
use Rattle.da_lang.specs.BodyMeaning.{next, fresh, untyped, with_params}
use Rattle.da_lang.specs.ExprMeaning.{Tables}
use Rattle.da_lang.specs.Typing.{Slots}
use Rattle.untyped_laws.specs.Flow.{Step, step_binds, bound, lacking, item_steps, body_steps}

pub record Grown (a b : Tables) (binds : List ℕ) : Type 0 where
  pub new : Slots
  pub slots : b.slots ≡ a.slots ++ new
  pub lacks : binds ≡ lacking (next a) new

lacking_append : (n : ℕ) (xs ys : Slots) → lacking n (xs ++ ys) ≡ lacking n xs ++ lacking (n + length xs) ys
lacking_append n [] ys = ap (λ k. lacking k ys) (omega arith)
lacking_append n (None ∷ xs) ys =
    let on : suc n + length xs ≡ n + suc (length xs) = omega arith in
    ap (λ z. n ∷ z) (lacking_append (suc n) xs ys ∙ ap (λ k. lacking (suc n) xs ++ lacking k ys) on)
lacking_append n (Some ty ∷ xs) ys =
    let on : suc n + length xs ≡ n + suc (length xs) = omega arith in
    lacking_append (suc n) xs ys ∙ ap (λ k. lacking (suc n) xs ++ lacking k ys) on

next_grown : (a b : Tables) (new : Slots) → b.slots ≡ a.slots ++ new → next b ≡ next a + length new
next_grown a b new e =
    let size : length b.slots ≡ length a.slots + length new = ap length e ∙ length-append a.slots new in
    omega (arith, size)

pub grown_then : (a b c : Tables) (xs ys : List ℕ) → Grown a b xs → Grown b c ys → Grown a c (xs ++ ys)
grown_then a b c xs ys g h = record {
  new = g.new ++ h.new;
  slots = h.slots ∙ ap (λ z. z ++ h.new) g.slots ∙ append_assoc a.slots g.new h.new;
  lacks = ap₂ (λ u v. u ++ v) g.lacks (h.lacks ∙ ap (λ n. lacking n h.new) (next_grown a b g.new g.slots)) ∙ sym (lacking_append (next a) g.new h.new);
}

pub grown_none : (a b : Tables) → b.slots ≡ a.slots → Grown a b []
grown_none a b e = record { new = []; slots = e ∙ sym (append-nil a.slots); lacks = refl }

pub grown_as : (a b : Tables) (xs ys : List ℕ) → xs ≡ ys → Grown a b ys → Grown a b xs
grown_as a b xs ys e g = record { new = g.new; slots = g.slots; lacks = e ∙ g.lacks }

-- what comes first brings no slot
pub grown_after : (a b c : Tables) (xs : List ℕ) → b.slots ≡ a.slots → Grown b c xs → Grown a c xs
grown_after a b c xs e g = grown_then a b c [] xs (grown_none a b e) g

range_lacking : (n : ℕ) (names : List (List ℕ)) → range_with_len n (length names) ≡ lacking {A = Ty} n (map (λ name. None) names)
range_lacking n [] = refl
range_lacking n (name ∷ names) = ap (λ z. n ∷ z) (ap (λ k. range_with_len k (length names)) (add-one n) ∙ range_lacking (suc n) names)

pub grown_untyped : (names : List (List ℕ)) (a : Tables) → Grown a (untyped names a) (fresh a (length names))
grown_untyped names a = record { new = map (λ name. None) names; slots = refl; lacks = range_lacking (next a) names }

typed_lack : {A : Type 0} (n : ℕ) (ty : A → Ty) (xs : List A) → [] ≡ lacking n (map (λ x. Some (ty x)) xs)
typed_lack n ty [] = refl
typed_lack n ty (x ∷ xs) = typed_lack (suc n) ty xs

pub grown_params : (ps : List Param) (a : Tables) → Grown a (with_params ps a) []
grown_params ps a = record { new = map (λ p. Some p.ty) ps; slots = refl; lacks = typed_lack (next a) (λ p. p.ty) ps }

pub grown_typed : {A : Type 0} (ty : A → Ty) (xs : List A) (b : Tables) → b.slots ≡ map (λ x. Some (ty x)) xs → Grown (record { slots = []; queries = [] }) b []
grown_typed ty xs b e = record { new = map (λ x. Some (ty x)) xs; slots = e; lacks = typed_lack 1 ty xs }

-- what lists of steps bind
pub bound_append : (xs ys : List Step) → bound (xs ++ ys) ≡ bound xs ++ bound ys
bound_append [] ys = refl
bound_append (x ∷ xs) ys = ap (λ z. step_binds x ++ z) (bound_append xs ys) ∙ sym (append_assoc (step_binds x) (bound xs) (bound ys))

pub body_append : (xs ys : List Item) → body_steps (xs ++ ys) ≡ body_steps xs ++ body_steps ys
body_append [] ys = refl
body_append (x ∷ xs) ys = ap (λ z. item_steps x ++ z) (body_append xs ys) ∙ sym (append_assoc (item_steps x) (body_steps xs) (body_steps ys))

-- of two parts in a row, by the steps of both
pub grown_both : (a b c : Tables) (xs ys : List Step) → Grown a b (bound xs) → Grown b c (bound ys) → Grown a c (bound (xs ++ ys))
grown_both a b c xs ys g h = grown_as a c (bound (xs ++ ys)) (bound xs ++ bound ys) (bound_append xs ys) (grown_then a b c (bound xs) (bound ys) g h)
