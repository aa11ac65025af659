use Rattle.std.proofs.Common.{◌≡◌, ◌-◌}
use Rattle.da_parse.specs.Programs.{outermost, decls, decls_from}
use Rattle.da_parse.proofs.programs.decls.Given as goal

abbrev pub invariant-loop-turn : goal.invariant-loop-turn
invariant-loop-turn l = decls (outermost l.loose) l.kind l.fn.tokens ≡ decls_from (outermost l.loose) l.kind (l._turn-end - l._turn) l.messages l.classes l.tokens
