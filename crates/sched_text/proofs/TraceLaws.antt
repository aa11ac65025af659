-- A text is one trace at most, or has one first bad line.
use Rattle.std.proofs.Common.{◌≡◌, refl, sym, ◌∙◌, ap, subst, ℕ, suc, ◌+◌, inl, inr, List, [], ◌∷◌, ◌++◌, length, arith}
use Rattle.std.specs.List.{All}
use Rattle.std.specs.Prelude.{MatchResult, Result, Ok, Err, ◌⊎◌}
use Rattle.da_lang.specs.declared.event.Action.{Action}
use Rattle.sched_text.specs.declared.trace.TraceFault.{TraceFault}
use Rattle.sched_text.specs.declared.trace.TraceFault.TheVariants.{BadLine, Memory}
use Rattle.sched_text.specs.TraceReading.{IsRead}
use Rattle.sched_text.specs.TraceText.{IsBadTrace, IsTraceLine, SpellsTrace}
use Rattle.sched_text.proofs.TraceLemmas.{good_lines}

-- a trace has no bad line
last_good : (p : ℕ) (before after : List (List ℕ)) (line : List ℕ) → All (IsTraceLine p) (before ++ line ∷ after) → IsTraceLine p line
last_good p [] after line all = all 0 line (omega arith)
last_good p (x ∷ before) after line all = last_good p before after line (λ k d inside. all (suc k) d (omega (arith, inside)))

pub not_bad : (p : ℕ) (text : List ℕ) (actions : List Action) (number : ℕ) → SpellsTrace p text actions → IsBadTrace p text number → ⊥
not_bad p text actions number good (inl long) = omega (arith, long.0, good.size)
not_bad p text actions number good (inr wrong) =
    let first = wrong.1 in
    first.bad (last_good p first.before first.after first.line (subst (All (IsTraceLine p)) (sym good.is ∙ first.cut) (good_lines p actions good.own good.kept)))

-- the first bad line stands in one place
one_place : (p : ℕ) (before others after more : List (List ℕ)) (line other : List ℕ) → before ++ line ∷ after ≡ others ++ other ∷ more → All (IsTraceLine p) before → All (IsTraceLine p) others
    → (IsTraceLine p line → ⊥) → (IsTraceLine p other → ⊥) → length before ≡ length others
one_place p [] [] after more line other same good well bad wrong = refl
one_place p [] (x ∷ others) after more line other same good well bad wrong =
    let heads : x ≡ line = cc in
    absurd (bad (subst (IsTraceLine p) heads (well 0 x (omega arith))))
one_place p (x ∷ before) [] after more line other same good well bad wrong =
    let heads : x ≡ other = cc in
    absurd (wrong (subst (IsTraceLine p) heads (good 0 x (omega arith))))
one_place p (x ∷ before) (y ∷ others) after more line other same good well bad wrong =
    let tails : before ++ line ∷ after ≡ others ++ other ∷ more = cc in
    let rest = one_place p before others after more line other tails (λ k d inside. good (suc k) d (omega (arith, inside))) (λ k d inside. well (suc k) d (omega (arith, inside))) bad wrong in
    ap suc rest

pub one_bad_line : (p : ℕ) (text : List ℕ) (number other : ℕ) → IsBadTrace p text number → IsBadTrace p text other → number ≡ other
one_bad_line p text number other (inl long) (inl also) = long.1 ∙ sym also.1
one_bad_line p text number other (inl long) (inr wrong) = absurd (omega (arith, long.0, wrong.0))
one_bad_line p text number other (inr wrong) (inl long) = absurd (omega (arith, long.0, wrong.0))
one_bad_line p text number other (inr wrong) (inr also) =
    let a = wrong.1 in
    let b = also.1 in
    a.counted ∙ ap (λ n. n + 1) (one_place p a.before b.before a.after b.after a.line b.line (sym a.cut ∙ b.cut) a.good b.good a.bad b.bad) ∙ sym b.counted

-- what a reader answers is the one answer
pub only_bad : (p : ℕ) (text : List ℕ) (result : Result (List Action) TraceFault) (number : ℕ) → IsRead p text result → IsBadTrace p text number
    → MatchResult result (λ found. ⊥) (λ fault. (fault ≡ BadLine number) ⊎ (fault ≡ Memory))
only_bad p text (Ok found) number read bad = not_bad p text found number read bad
only_bad p text (Err (BadLine other)) number read bad = inl (ap BadLine (one_bad_line p text other number read bad))
only_bad p text (Err Memory) number read bad = inr refl

-- a reader that found a fault finds no actions
pub only_fault : (p : ℕ) (text : List ℕ) (fault : TraceFault) (actions : List Action) → IsRead p text (Err fault) → SpellsTrace p text actions → fault ≡ Memory
only_fault p text Memory actions read spelled = refl
only_fault p text (BadLine number) actions read spelled = absurd (not_bad p text actions number spelled read)
