use Rattle.std.proofs.Common.{◌≡◌, map, take}
use Rattle.da_lang.specs.Live.{live_pattern}
use Rattle.history_live.proofs.term.+patterns.Given as goal

abbrev pub invariant-live_parts-loop-p : goal.invariant-live_parts-loop-p
invariant-live_parts-loop-p l = l.live ≡ map live_pattern (take l.p-index l.parts)
