-- The line of an action, or of something else, without its end.
use Rattle.std.proofs.Common.{◌≡◌, refl, sym, ◌∙◌, ap, ℕ, List, [], ◌∷◌, ◌++◌}
use Rattle.std.specs.Prelude.{Option, Some, None, MatchOption}
use Rattle.da_lang.specs.declared.event.Action.{Action}
use Rattle.sched_text.specs.ActionLine.{bare_line}
use Rattle.sched_text.specs.ActionText.{action_line}

-- two lists with a last element that are equal are equal before it
before_last : (xs ys : List ℕ) (x y : ℕ) → xs ++ x ∷ [] ≡ ys ++ y ∷ [] → xs ≡ ys
before_last [] [] x y same = refl
before_last [] (b ∷ []) x y same = absurd (cc)
before_last [] (b ∷ c ∷ ys) x y same = absurd (cc)
before_last (a ∷ []) [] x y same = absurd (cc)
before_last (a ∷ b ∷ xs) [] x y same = absurd (cc)
before_last (a ∷ xs) (b ∷ ys) x y same =
    let heads : a ≡ b = cc in
    let tails : xs ++ x ∷ [] ≡ ys ++ y ∷ [] = cc in
    ap (λ h. h ∷ xs) heads ∙ ap (λ rest. b ∷ rest) (before_last xs ys x y tails)

-- the text of a line, where its end was taken away
pub line_without_end : (text whole left : List ℕ) (last : Option ℕ) → whole ≡ text ++ 10 ∷ [] → MatchOption last ((whole ≡ []) × (left ≡ [])) (λ b. whole ≡ left ++ b ∷ []) → left ≡ text
line_without_end text whole left (Some b) is popped = before_last left text b 10 (sym popped ∙ is)
line_without_end text whole left None is popped = absurd (no_end text (sym is ∙ popped.0))
  where
    no_end : (xs : List ℕ) → xs ++ 10 ∷ [] ≡ [] → ⊥
    no_end [] same = cc
    no_end (x ∷ xs) same = cc

pub without_end : (a : Action) (whole left : List ℕ) (last : Option ℕ) → whole ≡ action_line a → MatchOption last ((whole ≡ []) × (left ≡ [])) (λ b. whole ≡ left ++ b ∷ []) → left ≡ bare_line a
without_end a whole left last is popped = line_without_end (bare_line a) whole left last is popped
