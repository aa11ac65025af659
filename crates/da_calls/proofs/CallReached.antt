-- Searches from several nodes, step by step.
use Rattle.std.proofs.Common.{◌≡◌, ◌∙◌, ℕ, List, [], ◌∷◌, ◌++◌, length, Option, None, replicate, Contains, subst, sym, ap, ⊎_elim}
use Rattle.std.proofs.lemmas.Bool.{cases_lt}
use Rattle.std.proofs.lemmas.List.{length-replicate, get_or-replicate, get_or_past}
use Rattle.std.proofs.lemmas.List.Elements.{Contains-append_left, Contains-push, Contains-push_cases}
use Rattle.da_calls.specs.CallPaths.{here, on, Graph, Edge, Leads, mark, IsMarked, MarkedFrom, MarksReached}
use Rattle.da_calls.proofs.CallSearch.{mark_cases, none_or_some}
use Rattle.da_calls.proofs.CallOrder.{has_none}

-- the nodes that these lead to are marked
pub record Reaching (g : Graph) (starts : List ℕ) (marks : List (Option ℕ)) : Type 0 where
  pub sized : length marks ≡ length g
  pub sound : (m : ℕ) → IsMarked marks m → (s : ℕ) × Contains starts s × Leads g s m
  pub closed : (m n : ℕ) → IsMarked marks m → Edge g m n → IsMarked marks n
  pub begun : (s : ℕ) → Contains starts s → IsMarked marks s

pub no_mark : (size m : ℕ) (marks : List (Option ℕ)) → marks ≡ replicate size None → IsMarked marks m → ⊥
no_mark size m marks none is =
    none_or_some (mark marks m) is.0
    (ap (λ ms. mark ms m) none ∙ ⊎_elim (λ h. get_or-replicate size m None None h) (λ h. get_or_past (replicate size None) m None (rw length-replicate h)) (cases_lt m size))
    is.1

pub reaching_none : (g : Graph) (marks : List (Option ℕ)) → marks ≡ replicate (length g) None → Reaching g [] marks
reaching_none g marks none = record {
  sized = ap length none ∙ length-replicate (length g) None;
  sound = λ m is. absurd (no_mark (length g) m marks none is);
  closed = λ m n is e. absurd (no_mark (length g) m marks none is);
  begun = λ s has. absurd (has_none s has);
}

pub reaching_more : (g : Graph) (starts longer : List ℕ) (start : ℕ) (old new : List (Option ℕ)) → longer ≡ starts ++ start ∷ [] → MarkedFrom g start old new → Reaching g starts old → Reaching g longer new
reaching_more g starts longer start old new is s w = record {
  sized = s.sized ∙ w.sized;
  sound = λ m has. ⊎_elim
      (λ none. (start, subst (λ l. Contains l start) (sym is) (Contains-push starts start), (s.found m has.0 none has.1).1))
      (λ was. let from : (k : ℕ) × Contains starts k × Leads g k m = w.sound m was in (from.0, earlier from.0 from.1, from.2))
      (mark_cases (mark old m));
  closed = λ m n has e. ⊎_elim
      (λ none. s.closed m n none has e)
      (λ was. keeps n (w.closed m n was e))
      (mark_cases (mark old m));
  begun = λ k has. ⊎_elim (λ h. keeps k (w.begun k h)) (λ e. subst (IsMarked new) e s.start) (Contains-push_cases starts start k (subst (λ l. Contains l k) is has));
}
  where
    keeps : (n : ℕ) → IsMarked old n → IsMarked new n
    keeps n was = (was.0, s.kept n was.0 was.1)

    earlier : (k : ℕ) → Contains starts k → Contains longer k
    earlier k has = subst (λ l. Contains l k) (sym is) (Contains-append_left starts (start ∷ []) k has)

along : (g : Graph) (starts : List ℕ) (marks : List (Option ℕ)) (m a : ℕ) → Reaching g starts marks → IsMarked marks a → Leads g a m → IsMarked marks m
along g starts marks m a w is (here k e) = subst (IsMarked marks) e is
along g starts marks m a w is (on k j step way) = along g starts marks m j w (w.closed k j is step) way

pub reaching_all : (g : Graph) (starts : List ℕ) (marks : List (Option ℕ)) → Reaching g starts marks → MarksReached g starts marks
reaching_all g starts marks w = record {
  sized = w.sized;
  reached = λ m. ((λ is. w.sound m is), (λ from. along g starts marks m from.0 w (w.begun from.0 from.1) from.2));
}
