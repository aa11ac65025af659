use Rattle.std.proofs.Common.{◌≡◌, take}
use Rattle.std.specs.List.{fold}
use Rattle.da_lang.specs.ExprNames.{QueryVariable, pattern_part, gen_part}
use Rattle.da_bodies.specs.Told.{behind_all, told_all, told_expr, told_link}
use Rattle.da_bodies.proofs.expressions.+expressions.Given as goal

abbrev pub invariant-check_exprs-loop-x : goal.invariant-check_exprs-loop-x
invariant-check_exprs-loop-x l = record {
  told : l.least ≡ fold (told_expr l.line l.initial.names) l.initial.least (take l.x-index l.xs);
  same : l.names ≡ l.initial.names;
}

abbrev pub invariant-check_links-loop-link : goal.invariant-check_links-loop-link
invariant-check_links-loop-link l = record {
  told : l.least ≡ fold (told_link l.line l.initial.names) l.initial.least (take l.link-index l.links);
  same : l.names ≡ l.initial.names;
}

abbrev pub invariant-enter_gens-loop-generator : goal.invariant-enter_gens-loop-generator
invariant-enter_gens-loop-generator l = record {
  told : l.least ≡ told_all gen_part l.line QueryVariable l.initial.names l.initial.least (take l.generator-index l.gens);
  entered : l.names ≡ behind_all gen_part QueryVariable l.initial.names (take l.generator-index l.gens);
}

abbrev pub invariant-enter_patterns-loop-pattern : goal.invariant-enter_patterns-loop-pattern
invariant-enter_patterns-loop-pattern l = record {
  told : l.least ≡ told_all pattern_part l.line QueryVariable l.initial.names l.initial.least (take l.pattern-index l.patterns);
  entered : l.names ≡ behind_all pattern_part QueryVariable l.initial.names (take l.pattern-index l.patterns);
}
