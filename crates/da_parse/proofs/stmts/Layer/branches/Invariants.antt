use Rattle.std.proofs.Common.{◌≡◌, ◌-◌}
use Rattle.da_phrases.specs.Lists.{begun, begun_from}
use Rattle.da_phrases.specs.Exprs.{at_depth}
use Rattle.da_parse.specs.Stmts.{branch, body_below}
use Rattle.da_parse.proofs.stmts.Layer.branches.Given as goal

abbrev pub invariant-loop-turn : goal.invariant-loop-turn
invariant-loop-turn g l = begun l.mark (branch (at_depth l.self.depth) (body_below l.self.depth)) l.fn.found l.fn.tokens ≡ begun_from l.mark (branch (at_depth l.self.depth) (body_below l.self.depth)) (l._turn-end - l._turn) l.found l.tokens
