use Rattle.std.proofs.Common.{◌≡◌, ◌++◌, flat_map, replicate}
use Rattle.da_lang.specs.Resolution.{first_call, setup_call}
use Rattle.da_scope.proofs.making.add_processes.Given as goal

abbrev pub invariant-loop-turn : goal.invariant-loop-turn
invariant-loop-turn l = l.procs ≡ l.fn.procs ++ replicate l.turn (record { class = l.class; setup = first_call (flat_map (setup_call l.scope l.name) l.t.main) })
