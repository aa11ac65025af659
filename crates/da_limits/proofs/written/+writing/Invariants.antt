use Rattle.std.proofs.Common.{◌≡◌, map, take}
use Rattle.da_lang.specs.Written.{chain_written, gen_written, of, pattern_written, writing}
use Rattle.da_limits.specs.Writings.{seen}
use Rattle.da_limits.proofs.written.+writing.Given as goal

abbrev pub invariant-all_written-loop-x : goal.invariant-all_written-loop-x
invariant-all_written-loop-x l = l.all ≡ seen (of (map writing (take l.x-index l.xs)))

abbrev pub invariant-gens_written-loop-g : goal.invariant-gens_written-loop-g
invariant-gens_written-loop-g l = l.all ≡ seen (of (map gen_written (take l.g-index l.gens)))

abbrev pub invariant-links_written-loop-link : goal.invariant-links_written-loop-link
invariant-links_written-loop-link l = l.all ≡ seen (of (map chain_written (take l.link-index l.links)))

abbrev pub invariant-patterns_written-loop-pattern : goal.invariant-patterns_written-loop-pattern
invariant-patterns_written-loop-pattern l = l.all ≡ seen (of (map pattern_written (take l.pattern-index l.patterns)))
