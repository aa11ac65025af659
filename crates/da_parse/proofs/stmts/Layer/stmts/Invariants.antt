use Rattle.std.proofs.Common.{◌≡◌, ◌-◌}
use Rattle.da_phrases.specs.Lists.{ended_from}
use Rattle.da_phrases.specs.Exprs.{at_depth}
use Rattle.da_parse.specs.Stmts.{stmt, stmts, body_below}
use Rattle.da_parse.proofs.stmts.Layer.stmts.Given as goal

abbrev pub invariant-loop-turn : goal.invariant-loop-turn
invariant-loop-turn g l = stmts (at_depth l.self.depth) (body_below l.self.depth) l.fn.tokens ≡ ended_from (stmt (at_depth l.self.depth) (body_below l.self.depth)) (l._turn-end - l._turn) l.found l.tokens
