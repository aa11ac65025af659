-- What the handlers of a class do with a message: one equation for each way on.
use Rattle.std.specs.Prelude.{◌≡◌, refl, ℕ, ◌+◌, ◌<◌, ◌≤◌, Bool, if◌then◌else◌, List, [], ◌∷◌, Some, None}
use Rattle.std.proofs.Common.{◌∙◌, ap}
use Rattle.std.proofs.lemmas.Bool.{lt-ltb, le-ltb}
use Rattle.da_values.specs.declared.val.Val.{Val}
use Rattle.da_lang.specs.declared.event.FaultKind.TheVariants.{TooLong}
use Rattle.da_lang.specs.declared.program.Class.{Class}
use Rattle.da_lang.specs.declared.program.Handler.{Handler}
use Rattle.da_lang.specs.Matching.{Row, matched_entry}
use Rattle.da_lang.specs.Runs.{AtYield, Faults, Ran, max_turns, run_to_yield, stopped}
use Rattle.da_lang.specs.Steps.{after_body, handle, try_handler}
use Rattle.da_lang.specs.Turns.{bind_all, do_all}
use Rattle.da_lang.specs.World.{Data}

module _ (class : Class) (m : Val) (p : ℕ) where
  pub handle_none : (n : ℕ) (d : Data) → handle class m p [] n d ≡ stopped d [] n AtYield
  handle_none n d = refl

  abbrev tried : Handler → List Handler → ℕ → Data → Bool → Ran
  tried h hs n d early =
      if early then try_handler class h (n + 1) d (matched_entry d h.message h.from m p []) (handle class m p hs) else stopped d [] n (Faults TooLong h.line)

  pub handle_late : (h : Handler) (hs : List Handler) (n : ℕ) (d : Data) → max_turns ≤ n → handle class m p (h ∷ hs) n d ≡ stopped d [] n (Faults TooLong h.line)
  handle_late h hs n d late = ap (tried h hs n d) (le-ltb n max_turns late)

  pub handle_try : (h : Handler) (hs : List Handler) (n : ℕ) (d : Data) → n < max_turns → handle class m p (h ∷ hs) n d ≡ try_handler class h (n + 1) d (matched_entry d h.message h.from m p []) (handle class m p hs)
  handle_try h hs n d early = ap (tried h hs n d) (lt-ltb n max_turns early)

  -- where the patterns do not match, and where they do
  pub handle_passes : (h : Handler) (hs : List Handler) (n : ℕ) (d : Data) → n < max_turns → matched_entry d h.message h.from m p [] ≡ None → handle class m p (h ∷ hs) n d ≡ handle class m p hs (n + 1) d
  handle_passes h hs n d early other = handle_try h hs n d early ∙ ap (λ row. try_handler class h (n + 1) d row (handle class m p hs)) other

  pub handle_runs : (h : Handler) (hs : List Handler) (n : ℕ) (d : Data) (row : Row) (ran : Ran) → n < max_turns → matched_entry d h.message h.from m p [] ≡ Some row
      → run_to_yield class (n + 1) (bind_all h.binds row d) (do_all h.body []) ≡ ran → handle class m p (h ∷ hs) n d ≡ after_body ran (handle class m p hs)
  handle_runs h hs n d row ran early matches runs =
      handle_try h hs n d early ∙ ap (λ found. try_handler class h (n + 1) d found (handle class m p hs)) matches ∙ ap (λ body. after_body body (handle class m p hs)) runs
