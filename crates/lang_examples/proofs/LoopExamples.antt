-- What a `for` costs: with an empty block two turns more than it has elements, with a `pass` twice as many as elements
-- and two more.
use Rattle.std.specs.Prelude.{◌≡◌, refl, ℕ, ◌+◌, ◌*◌, ◌<◌, List, [], ◌∷◌, length, Ok}
use Rattle.std.proofs.Common.{◌∙◌, ap, arith}
use Rattle.da_values.specs.declared.val.Val.{Val}
use Rattle.da_values.specs.declared.val.Val.TheVariants as val
use Rattle.da_lang.specs.declared.program.Class.{Class}
use Rattle.da_lang.specs.declared.program.Item.{Item, roll-Item}
use Rattle.da_lang.specs.declared.program.ItemKind.TheVariants as it
use Rattle.da_lang.specs.declared.program.RExpr.{RExpr}
use Rattle.da_lang.specs.Evaluation.{eval}
use Rattle.da_lang.proofs.RunLaws.{run_goes}
use Rattle.da_lang.specs.Runs.{max_turns, run_to_yield}
use Rattle.da_lang.specs.Turns.{quiet, turn}
use Rattle.da_lang.specs.World.{Data, Task, Do, Loop, put_slot}
use Rattle.da_lang.proofs.Computing.{turning}

module _ (class : Class) (slot line : ℕ) where
  -- when these elements have gone through the slot
  abbrev passed : List Val → Data → Data
  passed [] d = d
  passed (x ∷ xs) d = passed xs (put_slot d slot x)

  abbrev loops : RExpr → List Item → Task
  loops e body = Do (roll-Item (record { line = line; kind = it.For slot e body }))

  loop_begins : (e : RExpr) (xs : List Val) (body : List Item) (d : Data) (todo : List Task) → eval class.queries e d ≡ Ok (val.Set xs) → turn class (loops e body) d todo ≡ quiet d (Loop slot xs body line ∷ todo)
  loop_begins e xs body d todo is = simp turning (rw is (simp turning))

  -- AN EMPTY BLOCK

  rest : (xs : List Val) (n : ℕ) (d : Data) (todo : List Task) → n + length xs < max_turns → run_to_yield class n d (Loop slot xs [] line ∷ todo) ≡ run_to_yield class (n + (length xs + 1)) (passed xs d) todo
  rest [] n d todo early = run_goes class n d d (Loop slot [] [] line) todo todo [] (omega (arith, early)) refl refl
  rest (x ∷ xs) n d todo early =
      let one_more : n + 1 + (length xs + 1) ≡ n + (length (x ∷ xs) + 1) = omega arith in
      run_goes class n d (put_slot d slot x) (Loop slot (x ∷ xs) [] line) todo (Loop slot xs [] line ∷ todo) [] (omega (arith, early)) refl refl
      ∙ rest xs (n + 1) (put_slot d slot x) todo (omega (arith, early))
      ∙ ap (λ m. run_to_yield class m (passed (x ∷ xs) d) todo) one_more

  for_each : (e : RExpr) (xs : List Val) (n : ℕ) (d : Data) (todo : List Task) → n + length xs + 1 < max_turns → eval class.queries e d ≡ Ok (val.Set xs)
      → run_to_yield class n d (loops e [] ∷ todo) ≡ run_to_yield class (n + (length xs + 2)) (passed xs d) todo
  for_each e xs n d todo early is =
      let two_more : n + 1 + (length xs + 1) ≡ n + (length xs + 2) = omega arith in
      run_goes class n d d (loops e []) todo (Loop slot xs [] line ∷ todo) [] (omega (arith, early)) (simp turning) (loop_begins e xs [] d todo is)
      ∙ rest xs (n + 1) d todo (omega (arith, early))
      ∙ ap (λ m. run_to_yield class m (passed xs d) todo) two_more

  -- A BLOCK WITH `pass`

  abbrev pass : Item
  pass = roll-Item (record { line = line; kind = it.Pass })

  rest_with_pass : (xs : List Val) (n : ℕ) (d : Data) (todo : List Task) → n + 2 * length xs < max_turns → run_to_yield class n d (Loop slot xs (pass ∷ []) line ∷ todo) ≡ run_to_yield class (n + (2 * length xs + 1)) (passed xs d) todo
  rest_with_pass [] n d todo early = run_goes class n d d (Loop slot [] (pass ∷ []) line) todo todo [] (omega (arith, early)) refl refl
  rest_with_pass (x ∷ xs) n d todo early =
      let two_more : n + 1 + 1 + (2 * length xs + 1) ≡ n + (2 * length (x ∷ xs) + 1) = omega arith in
      let bound : Data = put_slot d slot x in
      run_goes class n d bound (Loop slot (x ∷ xs) (pass ∷ []) line) todo (Do pass ∷ Loop slot xs (pass ∷ []) line ∷ todo) [] (omega (arith, early)) refl refl
      ∙ run_goes class (n + 1) bound bound (Do pass) (Loop slot xs (pass ∷ []) line ∷ todo) (Loop slot xs (pass ∷ []) line ∷ todo) [] (omega (arith, early)) (simp turning) (simp turning)
      ∙ rest_with_pass xs (n + 1 + 1) bound todo (omega (arith, early))
      ∙ ap (λ m. run_to_yield class m (passed (x ∷ xs) d) todo) two_more

  for_each_with_pass : (e : RExpr) (xs : List Val) (n : ℕ) (d : Data) (todo : List Task) → n + 2 * length xs + 1 < max_turns → eval class.queries e d ≡ Ok (val.Set xs)
      → run_to_yield class n d (loops e (pass ∷ []) ∷ todo) ≡ run_to_yield class (n + (2 * length xs + 2)) (passed xs d) todo
  for_each_with_pass e xs n d todo early is =
      let two_more : n + 1 + (2 * length xs + 1) ≡ n + (2 * length xs + 2) = omega arith in
      run_goes class n d d (loops e (pass ∷ [])) todo (Loop slot xs (pass ∷ []) line ∷ todo) [] (omega (arith, early)) (simp turning) (loop_begins e xs (pass ∷ []) d todo is)
      ∙ rest_with_pass xs (n + 1) d todo (omega (arith, early))
      ∙ ap (λ m. run_to_yield class m (passed xs d) todo) two_more
