-- How far a trace was read.
use Rattle.std.proofs.Common.{◌≡◌, refl, sym, ◌∙◌, ap, subst, ℕ, suc, ◌+◌, ◌≤◌, inl, inr, List, [], ◌∷◌, ◌++◌, length, map, arith, append_assoc, append-nil, length-append}
use Rattle.std.proofs.lemmas.List.{length-map, map-append}
use Rattle.std.proofs.lemmas.List.Elements.{All-cons, All-nil}
use Rattle.std.specs.List.{All}
use Rattle.std.specs.Prelude.{Err}
use Rattle.std.specs.Str.Lines.{lines}
use Rattle.da_lang.specs.declared.event.Action.{Action}
use Rattle.sched_text.specs.ActionLine.{IsAction, IsActionLine, bare_line}
use Rattle.trace_page.specs.declared.trace.TraceFault.{TraceFault}
use Rattle.trace_page.specs.declared.trace.TraceFault.TheVariants.{BadLine, Memory}
use Rattle.trace_page.specs.Steps.{Adds, IsFaultAt, IsRead}
use Rattle.trace_page.specs.TraceText.{IsBadTrace, IsTrace, SpellsTrace, trace_limit}

-- the lines that were passed are those of these actions, and these bytes are left
pub record Came (text rest : List ℕ) (actions : List Action) (number : ℕ) : Type 0 where
  pub cut : lines text ≡ map bare_line actions ++ lines rest
  pub each : All IsAction actions
  pub counted : number ≡ length actions + 1

pub came_first : (text : List ℕ) → Came text text [] 1
came_first text = record { cut = refl; each = All-nil IsAction; counted = omega arith }

All-last : (all : List Action) (a : Action) → All IsAction all → IsAction a → All IsAction (all ++ a ∷ [])
All-last [] a good is = All-cons IsAction a [] is (All-nil IsAction)
All-last (x ∷ all) a good is = All-cons IsAction x (all ++ a ∷ []) (good 0 x (omega arith)) (All-last all a (λ k d inside. good (suc k) d (omega (arith, inside))) is)

-- the lines of actions are lines of actions
lines_good : (actions : List Action) → All IsAction actions → All IsActionLine (map bare_line actions)
lines_good [] each = All-nil IsActionLine
lines_good (a ∷ actions) each =
    All-cons IsActionLine (bare_line a) (map bare_line actions) (a, record { action = each 0 a (omega arith); is = refl })
    (lines_good actions (λ k d inside. each (suc k) d (omega (arith, inside))))

-- one more line was read
pub came_next : (text rest others line : List ℕ) (old new : List Action) (number : ℕ) → Came text rest old number → lines rest ≡ line ∷ lines others → Adds line old new → Came text others new (number + 1)
came_next text rest others line old new number came first adds =
    let a = adds.action in
    record {
      cut =
          came.cut ∙ ap (λ x. map bare_line old ++ x) (first ∙ ap (λ l. l ∷ lines others) adds.good.is)
          ∙ sym (append_assoc (map bare_line old) (bare_line a ∷ []) (lines others))
          ∙ ap (λ x. x ++ lines others) (sym (map-append bare_line old (a ∷ [])))
          ∙ ap (λ actions. map bare_line actions ++ lines others) (sym adds.is);
      each = subst (All IsAction) (sym adds.is) (All-last old a came.each adds.good.action);
      counted = omega (arith, came.counted, ap length adds.is, length-append old (a ∷ []));
    }

-- the end of the text
pub read_whole : (text rest : List ℕ) (actions : List Action) (number : ℕ) → length text ≤ trace_limit → Came text rest actions number → length rest ≤ 0 → SpellsTrace text actions
read_whole text [] actions number few came nothing = record { size = few; each = came.each; is = came.cut ∙ append-nil (map bare_line actions) }
read_whole text (b ∷ bs) actions number few came nothing = absurd (omega (arith, nothing))

-- a line that added nothing
pub read_fault : (text rest others line : List ℕ) (actions : List Action) (number : ℕ) (fault : TraceFault) → length text ≤ trace_limit → Came text rest actions number → lines rest ≡ line ∷ lines others
    → IsFaultAt line number fault → IsRead text (Err fault)
read_fault text rest others line actions number Memory few came first is = tt
read_fault text rest others line actions number (BadLine n) few came first is =
    subst (IsBadTrace text) (sym is.0) (inr (
      few,
      record {
        before = map bare_line actions;
        line = line;
        after = lines others;
        cut = came.cut ∙ ap (λ x. map bare_line actions ++ x) first;
        counted = omega (arith, came.counted, length-map actions bare_line);
        good = lines_good actions came.each;
        bad = is.1;
      },
    ))

-- a text that spells actions is a trace
pub is_trace : (text : List ℕ) (actions : List Action) → SpellsTrace text actions → IsTrace text
is_trace text actions spells = record { size = spells.size; good = subst (All IsActionLine) (sym spells.is) (lines_good actions spells.each) }

-- a trace has no bad line
pub not_bad : (text : List ℕ) (number : ℕ) → IsTrace text → IsBadTrace text number → ⊥
not_bad text number good (inl long) = omega (arith, long.0, good.size)
not_bad text number good (inr wrong) =
    let first = wrong.1 in
    first.bad (last first.before first.after first.line (subst (All IsActionLine) first.cut good.good))
  where
    last : (before after : List (List ℕ)) (line : List ℕ) → All IsActionLine (before ++ line ∷ after) → IsActionLine line
    last [] after line all = all 0 line (omega arith)
    last (x ∷ before) after line all = last before after line (λ k d inside. all (suc k) d (omega (arith, inside)))

-- the first bad line stands in one place
one_place : (before others after more : List (List ℕ)) (line other : List ℕ) → before ++ line ∷ after ≡ others ++ other ∷ more → All IsActionLine before → All IsActionLine others
    → (IsActionLine line → ⊥) → (IsActionLine other → ⊥) → length before ≡ length others
one_place [] [] after more line other same good well bad wrong = refl
one_place [] (x ∷ others) after more line other same good well bad wrong =
    let heads : x ≡ line = cc in
    absurd (bad (subst IsActionLine heads (well 0 x (omega arith))))
one_place (x ∷ before) [] after more line other same good well bad wrong =
    let heads : x ≡ other = cc in
    absurd (wrong (subst IsActionLine heads (good 0 x (omega arith))))
one_place (x ∷ before) (y ∷ others) after more line other same good well bad wrong =
    let tails : before ++ line ∷ after ≡ others ++ other ∷ more = cc in
    let rest = one_place before others after more line other tails (λ k d inside. good (suc k) d (omega (arith, inside))) (λ k d inside. well (suc k) d (omega (arith, inside))) bad wrong in
    ap suc rest

pub one_bad_line : (text : List ℕ) (number other : ℕ) → IsBadTrace text number → IsBadTrace text other → number ≡ other
one_bad_line text number other (inl long) (inl also) = long.1 ∙ sym also.1
one_bad_line text number other (inl long) (inr wrong) = absurd (omega (arith, long.0, wrong.0))
one_bad_line text number other (inr wrong) (inl long) = absurd (omega (arith, long.0, wrong.0))
one_bad_line text number other (inr wrong) (inr also) =
    let a = wrong.1 in
    let b = also.1 in
    a.counted ∙ ap (λ n. n + 1) (one_place a.before b.before a.after b.after a.line b.line (sym a.cut ∙ b.cut) a.good b.good a.bad b.bad) ∙ sym b.counted
