use Rattle.std.proofs.Common.{◌∙◌, ap, map}
use Rattle.da_lang.specs.declared.refusal.LimitKind.TheVariants as limit
use Rattle.da_lang.specs.declared.tree.ClassTree.{ClassTree}
use Rattle.da_limits.specs.LimitLines.{told_at}
use Rattle.da_limits.proofs.LimitTreeAt.{classes_rest}
use Rattle.da_limits.proofs.tree.tell_count.Goals as goal

pub returns-then-classes-gt-MOST_CLASSES : goal.returns-then-classes-gt-MOST_CLASSES
returns-then-classes-gt-MOST_CLASSES c = c.tell_lines.ensures ∙ ap (λ cs. told_at limit.Classes c.args.least.now (map (λ (k : ClassTree). k.line) cs)) (classes_rest c.args.classes.now)
