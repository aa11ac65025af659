-- No delivery takes more turns than an event may.
use Rattle.std.specs.Prelude.{ℕ, ◌+◌, ◌<◌, ◌≤◌, nat_lt, List, [], ◌∷◌, Option, Some, None}
use Rattle.std.proofs.Common.{arith}
use Rattle.std.proofs.lemmas.Bool.{ltb-true}
use Rattle.da_values.specs.declared.val.Val.{Val}
use Rattle.da_lang.specs.declared.program.Class.{Class}
use Rattle.da_lang.specs.declared.program.Handler.{Handler}
use Rattle.da_lang.specs.Matching.{Row, matched_entry}
use Rattle.da_lang.specs.Runs.{Halt, AtYield, UsedUp, Faults, Ran, max_turns, run_to_yield}
use Rattle.da_lang.specs.Steps.{after_halt, handle, try_handler}
use Rattle.da_lang.specs.Turns.{bind_all, do_all}
use Rattle.da_lang.specs.World.{Data}
use Rattle.da_lang.proofs.RunBounds.{by_truth, run_to_yield_turns}

abbrev IsInTime : (ℕ → Data → Ran) → Type 0
IsInTime go = (n : ℕ) (d : Data) → n ≤ max_turns → (go n d).turns ≤ max_turns

after_halt_turns : (halt : Halt) (ran : Ran) (go : ℕ → Data → Ran) → ran.turns ≤ max_turns → IsInTime go → (after_halt halt ran go).turns ≤ max_turns
after_halt_turns AtYield ran go within others = others ran.turns ran.data' within
after_halt_turns UsedUp ran go within others = others ran.turns ran.data' within
after_halt_turns (Faults kind line) ran go within others = within

try_handler_turns : (class : Class) (h : Handler) (n : ℕ) (d : Data) (row : Option Row) (go : ℕ → Data → Ran) → n ≤ max_turns → IsInTime go → (try_handler class h n d row go).turns ≤ max_turns
try_handler_turns class h n d None go within others = others n d within
try_handler_turns class h n d (Some row) go within others =
    let ran : Ran = run_to_yield class n (bind_all h.binds row d) (do_all h.body []) in
    after_halt_turns ran.halt ran go (run_to_yield_turns class n (bind_all h.binds row d) (do_all h.body []) within) others

pub handle_turns : (class : Class) (m : Val) (p : ℕ) (hs : List Handler) (n : ℕ) (d : Data) → n ≤ max_turns → (handle class m p hs n d).turns ≤ max_turns
handle_turns class m p [] n d within = within
handle_turns class m p (h ∷ hs) n d within =
    by_truth (λ (ran : Ran). ran.turns ≤ max_turns) (nat_lt n max_turns) _ _
    (λ is. let less : n < max_turns = ltb-true n max_turns is in
    try_handler_turns class h (n + 1) d (matched_entry d h.message h.from m p []) (handle class m p hs) (omega (arith, less)) (handle_turns class m p hs))
    (λ is. within)
