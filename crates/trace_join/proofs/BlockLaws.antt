-- The list of the blocked processes, by how far a run that is stuck has come.
use Rattle.std.specs.Prelude.{◌≡◌, ℕ, zero, suc, ◌+◌, ◌-◌, ◌<◌, ◌≤◌, Bool, true, false, cond, nat_lt, List, [], ◌∷◌, ◌++◌, length, Some, slice_get, refl}
use Rattle.std.proofs.Common.{sym, ap, ◌∙◌, subst, arith}
use Rattle.std.proofs.lemmas.Bool.{ltb-true, ltb-false, lt-ltb, le-ltb}
use Rattle.std.proofs.lemmas.List.{length-append}
use Rattle.da_lang.specs.declared.event.Action.{Action}
use Rattle.da_lang.specs.declared.event.Event.{Event}
use Rattle.da_lang.specs.declared.program.Program.{Program}
use Rattle.da_lang.specs.Accepted.{IsAccepted}
use Rattle.da_lang.specs.World.{at_number}
use Rattle.trace_join.specs.Blocks.{blocks_left}
use Rattle.trace_join.specs.Joins.{AreBlocks, IsReach, blocks_from, told_by}
use Rattle.trace_join.specs.Progress.{Exhausts}
use Rattle.trace_join.proofs.ReachLaws.{is_reach}
use Rattle.trace_join.proofs.Sublists.{none_there}

-- how far the events come along the traces of processes that are numbered from the first
abbrev lengths_from : Program → List Event → ℕ → List (List Action) → List ℕ
lengths_from program events first [] = []
lengths_from program events first (trace ∷ traces) = length (told_by program events first) ∷ lengths_from program events (first + 1) traces

module _ (program : Program) (events : List Event) where
  length-lengths : (first : ℕ) (traces : List (List Action)) → length (lengths_from program events first traces) ≡ length traces
  length-lengths first [] = refl
  length-lengths first (trace ∷ traces) = let rest : length (lengths_from program events (first + 1) traces) ≡ length traces = length-lengths
      (first + 1) traces in omega (arith, rest)

  length_at : (first k reach : ℕ) (traces : List (List Action)) → slice_get (lengths_from program events first traces) k ≡ Some reach
      → (reach ≡ length (told_by program events (first + k))) × ((trace : List Action) × (slice_get traces k ≡ Some trace))
  length_at first k reach [] there = none_there there
  length_at first zero reach (trace ∷ traces) there = (
    (let same : reach ≡ length (told_by program events first) = cc in same)
        ∙ ap (λ n. length (told_by program events n)) (let same : first ≡ first + 0 = omega arith in same),
    (trace, refl),
  )
  length_at first (suc k) reach (trace ∷ traces) there =
      let (is, found) = length_at (first + 1) k reach traces there in
      (is ∙ ap (λ n. length (told_by program events n)) (let same : first + 1 + k ≡ first + suc k = omega arith in same), found)

  -- the list of the blocks by what is left of the traces is the one by how far the events come
  abbrev LeftFrom : ℕ → (traces lefts : List (List Action)) → Type 0
  LeftFrom first traces lefts = (k : ℕ) (trace left : List Action) → slice_get traces k ≡ Some trace → slice_get lefts k ≡ Some left
      → trace ≡ told_by program events (first + k) ++ left

  block_same : (p all told left : ℕ) → all ≡ told + left → (here there : List (ℕ × ℕ)) → here ≡ there
      → cond (nat_lt 0 left) ((p, all - left + 1) ∷ here) here ≡ cond (nat_lt told all) ((p, told + 1) ∷ there) there
  block_same p all told left sum here there same = of (nat_lt 0 left) refl
    where
      of : (b : Bool) → nat_lt 0 left ≡ b → cond b ((p, all - left + 1) ∷ here) here ≡ cond (nat_lt told all) ((p, told + 1) ∷ there) there
      of true is =
          let some : 0 < left = ltb-true 0 left is in
          let line : all - left + 1 ≡ told + 1 = omega (arith, sum) in
          ap (λ n. (p, n) ∷ here) line ∙ ap (λ (l : List (ℕ × ℕ)). (p, told + 1) ∷ l) same
          ∙ ap (λ (b : Bool). cond b ((p, told + 1) ∷ there) there) (sym (lt-ltb told all (omega (arith, sum, some))))
      of false is =
          let none : left ≤ 0 = ltb-false 0 left is in
          same ∙ ap (λ (b : Bool). cond b ((p, told + 1) ∷ there) there) (sym (le-ltb told all (omega (arith, sum, none))))

  pub blocks_same : (first : ℕ) (traces lefts : List (List Action)) → length traces ≡ length lefts → LeftFrom first traces lefts
      → blocks_left first traces lefts ≡ blocks_from first (lengths_from program events first traces) traces
  blocks_same first [] lefts each left_from = refl
  blocks_same first (trace ∷ traces) [] each left_from = absurd (omega (arith, each))
  blocks_same first (trace ∷ traces) (left ∷ lefts) each left_from =
      let is : trace ≡ told_by program events (first + 0) ++ left = left_from 0 trace left refl refl in
      let sum : length trace ≡ length (told_by program events first) + length left =
      ap length is ∙ length-append (told_by program events (first + 0)) left
      ∙ ap (λ n. length (told_by program events n) + length left) (let same : first + 0 ≡ first = omega arith in same) in
      block_same first (length trace) (length (told_by program events first)) (length left) sum
      (blocks_left (first + 1) traces lefts) (blocks_from (first + 1) (lengths_from program events (first + 1) traces) traces)
      (blocks_same (first + 1) traces lefts (omega (arith, each))
      (λ k trace' left' at_trace at_left. left_from (suc k) trace' left' at_trace at_left
      ∙ ap (λ n. told_by program events n ++ left') (let same : first + suc k ≡ first + 1 + k = omega arith in same)))

module _ (program : Program) (accepted : IsAccepted program) (traces : List (List Action)) (each : length traces ≡ length program.procs) (events : List Event)
    (exhausts : Exhausts program traces events) where
  reach_at : (p reach : ℕ) → at_number (lengths_from program events 1 traces) p ≡ Some reach → IsReach program traces p reach
  reach_at zero reach there = none_there there
  reach_at (suc k) reach there =
      let (is, (trace, at)) = length_at program events 1 k reach traces there in
      subst (IsReach program traces (suc k)) (sym (is ∙ ap (λ n. length (told_by program events n)) (let same : 1 + k ≡ suc k = omega arith in same)))
      (is_reach program accepted traces each events exhausts (suc k) trace at)

  are_reached : AreBlocks program traces (blocks_from 1 (lengths_from program events 1 traces) traces)
  are_reached = (lengths_from program events 1 traces, length-lengths program events 1 traces, reach_at, refl)

  -- THE BLOCKS: the processes of whose traces something is left
  pub are_blocks : (lefts : List (List Action)) → length lefts ≡ length traces
      → ((p : ℕ) (trace left : List Action) → at_number traces p ≡ Some trace → at_number lefts p ≡ Some left → exhausts.lefts p ≡ left)
      → AreBlocks program traces (blocks_left 1 traces lefts)
  are_blocks lefts same left_at =
      subst (AreBlocks program traces) (sym (blocks_same program events 1 traces lefts (sym same)
      (λ k trace left at_trace at_left. exhausts.told (suc k) trace at_trace
      ∙ ap (λ (l : List Action). told_by program events (suc k) ++ l) (left_at (suc k) trace left at_trace at_left)
      ∙ ap (λ n. told_by program events n ++ left) (let number : suc k ≡ 1 + k = omega arith in number)))) are_reached
