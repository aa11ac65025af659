-- Lists of refusals by limits of which the same is reported.
use Rattle.std.specs.Prelude.{◌≡◌, refl, List, [], ◌++◌, flat_map, Option}
use Rattle.std.proofs.Common.{◌∙◌, sym, ap}
use Rattle.da_lang.specs.Limits.{rank}
use Rattle.da_bodies.specs.Telling.{LimitRefusal as Refusal, telling_limits as telling}
use Rattle.da_bodies.proofs.KindOrders.{limit_order}
use Rattle.da_bodies.proofs.TellingLaws.{telling_by-append, telling_by-nil, telling-both, telling-swap}

pub telling-nil : (found : Option Refusal) → telling found [] ≡ found
telling-nil = telling_by-nil rank

pub telling-append : (found : Option Refusal) (xs ys : List Refusal) → telling found (xs ++ ys) ≡ telling (telling found xs) ys
telling-append = telling_by-append rank

pub record Alike (xs ys : List Refusal) : Type 0 where
  pub tells : (found : Option Refusal) → telling found xs ≡ telling found ys

pub alike-refl : (xs : List Refusal) → Alike xs xs
alike-refl xs = record { tells = λ found. refl }

pub alike-trans : {xs ys zs : List Refusal} → Alike xs ys → Alike ys zs → Alike xs zs
alike-trans first second = record { tells = λ found. first.tells found ∙ second.tells found }

pub alike-sym : {xs ys : List Refusal} → Alike xs ys → Alike ys xs
alike-sym same = record { tells = λ found. sym (same.tells found) }

pub alike-is : {xs ys : List Refusal} → xs ≡ ys → Alike xs ys
alike-is same = record { tells = λ found. ap (telling found) same }

pub alike-both : (xs xs' ys ys' : List Refusal) → Alike xs xs' → Alike ys ys' → Alike (xs ++ ys) (xs' ++ ys')
alike-both xs xs' ys ys' first second = record {
  tells = λ found. telling-append found xs ys ∙ ap (λ f. telling f ys) (first.tells found) ∙ second.tells (telling found xs') ∙ sym (telling-append found xs' ys');
}

pub alike-swap : (xs ys : List Refusal) → Alike (xs ++ ys) (ys ++ xs)
alike-swap xs ys = record { tells = λ found. telling-append found xs ys ∙ telling-swap limit_order found xs ys ∙ sym (telling-append found ys xs) }

pub alike-flat : {A : Type 0} (p q : A → List Refusal) (xs : List A) → Alike (flat_map p xs ++ flat_map q xs) (flat_map (λ x. p x ++ q x) xs)
alike-flat p q xs = record { tells = λ found. telling-append found (flat_map p xs) (flat_map q xs) ∙ sym (telling-both limit_order p q found xs) }
