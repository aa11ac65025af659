-- How far a trace was read.
use Rattle.std.proofs.Common.{◌≡◌, refl, sym, ◌∙◌, ap, subst, ℕ, suc, ◌+◌, ◌≤◌, inr, List, [], ◌∷◌, ◌++◌, length, map, arith, append-nil, length-append}
use Rattle.std.proofs.lemmas.List.{length-map}
use Rattle.std.proofs.lemmas.List.Elements.{All-cons, All-nil}
use Rattle.std.specs.List.{All}
use Rattle.std.specs.Prelude.{Some, Err}
use Rattle.da_lang.specs.declared.event.Action.{Action}
use Rattle.sched_text.specs.declared.trace.TraceFault.{TraceFault}
use Rattle.sched_text.specs.declared.trace.TraceFault.TheVariants.{BadLine, Memory}
use Rattle.sched_text.specs.ActionLine.{IsAction, bare_line}
use Rattle.sched_text.specs.TraceReading.{Adds, IsFaultAt, IsOnlyOf, IsOwnLineOf, IsRead}
use Rattle.sched_text.specs.TraceText.{AllOf, IsBadTrace, IsTraceLine, SpellsTrace, teller, trace_limit, trace_lines}

-- its line is that of no other action
abbrev pub IsAlone : Action → Type 0
IsAlone a = IsOnlyOf (bare_line a) a

-- the lines that were passed are those of these actions, and these bytes are left
pub record Came (p : ℕ) (text rest : List ℕ) (actions : List Action) (number : ℕ) : Type 0 where
  pub cut : trace_lines text ≡ map bare_line actions ++ trace_lines rest
  pub own : AllOf p actions
  pub kept : All IsAction actions
  pub alone : All IsAlone actions
  pub counted : number ≡ length actions + 1

pub came_first : (p : ℕ) (text : List ℕ) → Came p text text [] 1
came_first p text = record { cut = refl; own = All-nil (λ a. teller a ≡ Some p); kept = All-nil IsAction; alone = All-nil IsAlone; counted = omega arith }

All-last : {A : Type 0} (P : A → Type 0) (xs : List A) (x : A) → All P xs → P x → All P (xs ++ x ∷ [])
All-last P [] x each is = All-cons P x [] is (All-nil P)
All-last P (y ∷ ys) x each is = All-cons P y (ys ++ x ∷ []) (each 0 y (omega arith)) (All-last P ys x (λ k d inside. each (suc k) d (omega (arith, inside))) is)

map_last : (actions : List Action) (a : Action) (more : List (List ℕ)) → map bare_line (actions ++ a ∷ []) ++ more ≡ map bare_line actions ++ bare_line a ∷ more
map_last [] a more = refl
map_last (b ∷ actions) a more = ap (λ rest. bare_line b ∷ rest) (map_last actions a more)

-- one more line was read
came_on : (p : ℕ) (text rest others line : List ℕ) (old : List Action) (a : Action) (number : ℕ) → Came p text rest old number → trace_lines rest ≡ line ∷ trace_lines others → IsOwnLineOf p line a → Came p text others (old ++ a ∷ []) (number + 1)
came_on p text rest others line old a number came first one = record {
  cut = came.cut ∙ ap (λ x. map bare_line old ++ x) (first ∙ ap (λ l. l ∷ trace_lines others) one.line_of.is) ∙ sym (map_last old a (trace_lines others));
  own = All-last (λ b. teller b ≡ Some p) old a came.own one.own;
  kept = All-last IsAction old a came.kept one.line_of.action;
  alone = All-last IsAlone old a came.alone (subst (λ l. IsOnlyOf l a) one.line_of.is one.only);
  counted = omega (arith, came.counted, length-append old (a ∷ []));
}

pub came_next : (p : ℕ) (text rest others line : List ℕ) (old new : List Action) (number : ℕ) → Came p text rest old number → trace_lines rest ≡ line ∷ trace_lines others → Adds p line old new → Came p text others new (number + 1)
came_next p text rest others line old new number came first (a, one, is) =
    subst (λ all. Came p text others all (number + 1)) (sym is) (came_on p text rest others line old a number came first one)

-- the end of the text
pub read_whole : (p : ℕ) (text rest : List ℕ) (actions : List Action) (number : ℕ) → length text ≤ trace_limit → Came p text rest actions number → length rest ≤ 0 → SpellsTrace p text actions
read_whole p text [] actions number few came nothing = record { size = few; own = came.own; kept = came.kept; is = came.cut ∙ append-nil (map bare_line actions) }
read_whole p text (b ∷ bs) actions number few came nothing = absurd (omega (arith, nothing))

same_actions : (actions others : List Action) → All IsAlone actions → All IsAction others → map bare_line actions ≡ map bare_line others → actions ≡ others
same_actions [] [] alone kept same = refl
same_actions [] (b ∷ others) alone kept same = absurd (cc)
same_actions (a ∷ actions) [] alone kept same = absurd (cc)
same_actions (a ∷ actions) (b ∷ others) alone kept same =
    let first : bare_line a ≡ bare_line b = cc in
    let rest : map bare_line actions ≡ map bare_line others = cc in
    let one : b ≡ a = alone 0 a (omega arith) b record { action = kept 0 b (omega arith); is = first } in
    let more = same_actions actions others (λ k d inside. alone (suc k) d (omega (arith, inside))) (λ k d inside. kept (suc k) d (omega (arith, inside))) rest in
    cc

pub whole_only : (p : ℕ) (text rest : List ℕ) (actions others : List Action) (number : ℕ) → length text ≤ trace_limit → Came p text rest actions number → length rest ≤ 0 → SpellsTrace p text others → actions ≡ others
whole_only p text rest actions others number few came nothing spelled =
    same_actions actions others came.alone spelled.kept (sym (read_whole p text rest actions number few came nothing).is ∙ spelled.is)

-- the lines that were passed are lines of the process
pub good_lines : (p : ℕ) (actions : List Action) → AllOf p actions → All IsAction actions → All (IsTraceLine p) (map bare_line actions)
good_lines p [] own kept = All-nil (IsTraceLine p)
good_lines p (a ∷ actions) own kept =
    All-cons (IsTraceLine p) (bare_line a) (map bare_line actions) (a, own 0 a (omega arith), record { action = kept 0 a (omega arith); is = refl })
    (good_lines p actions (λ k d inside. own (suc k) d (omega (arith, inside))) (λ k d inside. kept (suc k) d (omega (arith, inside))))

-- a line that added nothing
pub read_fault : (p : ℕ) (text rest others line : List ℕ) (actions : List Action) (number : ℕ) (fault : TraceFault) → length text ≤ trace_limit → Came p text rest actions number → trace_lines rest ≡ line ∷ trace_lines others
    → IsFaultAt p line number fault → IsRead p text (Err fault)
read_fault p text rest others line actions number Memory few came first is = record {
  size = few;
  before = map bare_line actions;
  line = line;
  after = trace_lines others;
  cut = came.cut ∙ ap (λ x. map bare_line actions ++ x) first;
  good = good_lines p actions came.own came.kept;
}
read_fault p text rest others line actions number (BadLine n) few came first is =
    subst (IsBadTrace p text) (sym is.0) (inr (
      few,
      record {
        before = map bare_line actions;
        line = line;
        after = trace_lines others;
        cut = came.cut ∙ ap (λ x. map bare_line actions ++ x) first;
        counted = omega (arith, came.counted, length-map actions bare_line);
        good = good_lines p actions came.own came.kept;
        bad = is.1;
      },
    ))
