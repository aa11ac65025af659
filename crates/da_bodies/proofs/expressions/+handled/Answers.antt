use Rattle.std.proofs.Common.{◌∙◌, refl, sym, take}
use Rattle.da_lang.specs.ExprNames.{Local, pattern_part}
use Rattle.da_bodies.proofs.PartLaws.{pattern_steady}
use Rattle.da_bodies.proofs.ToldExprs.{after_local, told_patterns-nil}
use Rattle.da_bodies.proofs.ToldParts.{told_all-more}
use Rattle.da_bodies.proofs.expressions.+handled.Goals as goal

pub check_patterns-loop-pattern-preserved : goal.check_patterns-loop-pattern-preserved
check_patterns-loop-pattern-preserved t c =
    let l = c.loop-pattern in
    record {
      told = told_all-more pattern_part pattern_steady c.args.line Local c.args.names.now l.names c.args.least.now l.least c.check_pattern.new.least c.args.patterns.now l.pattern-index c.pattern-item.result c.loop-pattern-test.true c.pattern-item.is l.invariant.told (l.invariant.same ∙ sym (after_local c.args.names.now (take l.pattern-index c.args.patterns.now))) c.in_ok-check_pattern.ensures.told;
      same = c.in_ok-check_pattern.ensures.same ∙ l.invariant.same;
    }

pub check_patterns-loop-pattern-init : goal.check_patterns-loop-pattern-init
check_patterns-loop-pattern-init t c = record {
  told = sym (told_patterns-nil c.args.line Local c.args.names.now c.args.least.now);
  same = refl;
}
