-- What leads to what.
use Rattle.std.proofs.Common.{ℕ, ◌<◌, List, length, Contains, subst, sym, refl}
use Rattle.da_calls.specs.CallPaths.{LeadsTo, here, on, Graph, IsGraph, Leads}

pub leads_itself : {A : Type 0} (next : A → List A) (m : A) → LeadsTo next m m
leads_itself next m = here m refl

pub leads_through : {A : Type 0} {next : A → List A} {b c a : A} → LeadsTo next b a → LeadsTo next c b → LeadsTo next c a
leads_through {A} {next} {b} {c} {a} (here m e) q = subst (LeadsTo next c) (sym e) q
leads_through (on m k h p) q = on m k h (leads_through p q)

pub leads_once : {A : Type 0} (next : A → List A) (m n : A) → Contains (next m) n → LeadsTo next n m
leads_once next m n h = on m n h (here n refl)

-- one step more
pub leads_and : {A : Type 0} {next : A → List A} {a m : A} (n : A) → LeadsTo next m a → Contains (next m) n → LeadsTo next n a
leads_and {A} {next} {a} {m} n p h = leads_through p (leads_once next m n h)

pub leads_within : (g : Graph) (n m : ℕ) → IsGraph g → m < length g → Leads g m n → n < length g
leads_within g n m is h (here k e) = subst (λ x. x < length g) e h
leads_within g n m is h (on k j s p) = leads_within g n j is (is k j s) p
