-- Scopes in which each name stands for the same.
use Rattle.std.specs.Prelude.{◌≡◌, refl, ℕ, Bool, true, false, if◌then◌else◌, List, [], ◌∷◌, ◌++◌, Option, Some, bytes_eq}
use Rattle.std.proofs.Common.{◌∙◌, sym, ap}
use Rattle.da_lang.specs.ExprNames.{Role, ClassVariable, Local, QueryVariable, Made, brought}
use Rattle.da_lang.specs.Scopes.{Scope, look, entered}
use Rattle.da_bodies.specs.Told.{entered_each, brought_each}

pub record SameLook (s t : Scope Role) : Type 0 where
  pub at : (q : List ℕ) → look s q ≡ look t q

pub same_here : (s : Scope Role) → SameLook s s
same_here s = record { at = λ q. refl }

pub same_on : (s t u : Scope Role) → SameLook s t → SameLook t u → SameLook s u
same_on s t u h k = record { at = λ q. h.at q ∙ k.at q }

same_step : (e : List ℕ × Role) (s t : Scope Role) → SameLook s t → SameLook (e ∷ s) (e ∷ t)
same_step e s t h = record { at = λ q. ap (λ o. if bytes_eq e.0 q then Some e.1 else o) (h.at q) }

pub same_entered : (role : Role) (ns : List (List ℕ)) (s t : Scope Role) → SameLook s t → SameLook (entered role ns s) (entered role ns t)
same_entered role [] s t h = h
same_entered role (n ∷ ns) s t h = same_step (n, role) (entered role ns s) (entered role ns t) (same_entered role ns s t h)

either_way : (role : Role) (rest : Option Role) (a b : Bool) → (if a then Some role else if b then Some role else rest) ≡ (if b then Some role else if a then Some role else rest)
either_way role rest true true = refl
either_way role rest true false = refl
either_way role rest false true = refl
either_way role rest false false = refl

same_moved : (role : Role) (n : List ℕ) (ns : List (List ℕ)) (s : Scope Role) → SameLook (entered role ns ((n, role) ∷ s)) ((n, role) ∷ entered role ns s)
same_moved role n [] s = same_here ((n, role) ∷ s)
same_moved role n (m ∷ ms) s = record {
  at = λ q. (same_step (m, role) (entered role ms ((n, role) ∷ s)) ((n, role) ∷ entered role ms s) (same_moved role n ms s)).at q ∙ either_way role (look (entered role ms s) q) (bytes_eq m q) (bytes_eq n q);
}

-- all at once, and one after the other
pub same_each : (role : Role) (ns : List (List ℕ)) (s : Scope Role) → SameLook (entered role ns s) (entered_each role ns s)
same_each role [] s = same_here s
same_each role (n ∷ ns) s = record {
  at = λ q. sym ((same_moved role n ns s).at q) ∙ (same_each role ns ((n, role) ∷ s)).at q;
}

pub entered_each-append : (role : Role) (ns ms : List (List ℕ)) (s : Scope Role) → entered_each role (ns ++ ms) s ≡ entered_each role ms (entered_each role ns s)
entered_each-append role [] ms s = refl
entered_each-append role (n ∷ ns) ms s = entered_each-append role ns ms ((n, role) ∷ s)

-- the variables of a part
pub same_brought : (role : Role) (ns : List (List ℕ)) (s t : Scope Role) → SameLook s t → SameLook (brought role ns s) (brought role ns t)
same_brought QueryVariable ns s t h = same_entered QueryVariable ns s t h
same_brought ClassVariable ns s t h = h
same_brought Local ns s t h = h
same_brought Made ns s t h = h

pub same_brought_each : (role : Role) (ns : List (List ℕ)) (s : Scope Role) → SameLook (brought role ns s) (brought_each role ns s)
same_brought_each QueryVariable ns s = same_each QueryVariable ns s
same_brought_each ClassVariable ns s = same_here s
same_brought_each Local ns s = same_here s
same_brought_each Made ns s = same_here s

pub brought-nil : (role : Role) (s : Scope Role) → brought role [] s ≡ s
brought-nil QueryVariable s = refl
brought-nil ClassVariable s = refl
brought-nil Local s = refl
brought-nil Made s = refl

pub brought_each-nil : (role : Role) (s : Scope Role) → brought_each role [] s ≡ s
brought_each-nil QueryVariable s = refl
brought_each-nil ClassVariable s = refl
brought_each-nil Local s = refl
brought_each-nil Made s = refl

pub brought_each-append : (role : Role) (ns ms : List (List ℕ)) (s : Scope Role) → brought_each role (ns ++ ms) s ≡ brought_each role ms (brought_each role ns s)
brought_each-append QueryVariable ns ms s = entered_each-append QueryVariable ns ms s
brought_each-append ClassVariable ns ms s = refl
brought_each-append Local ns ms s = refl
brought_each-append Made ns ms s = refl
