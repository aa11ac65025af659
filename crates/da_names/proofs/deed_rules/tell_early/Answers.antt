use Rattle.std.proofs.Common.{◌∙◌, inl, inr}
use Rattle.da_lang.specs.declared.refusal.ScopeKind.TheVariants.{Setup}
use Rattle.da_lang.specs.Deeds.{Deed}
use Rattle.da_lang.specs.NameRules.{acts}
use Rattle.std.specs.List.{list_any}
use Rattle.std.specs.Prelude.{◌||◌}
use Rattle.da_lang.specs.Written.{asks}
use Rattle.da_names.proofs.DeedLaws.{where_more, where_nil}
use Rattle.da_names.proofs.deed_rules.tell_early.Goals as goal
use Rattle.da_names.proofs.deed_rules.tell_early.Goals.{then-is_early, else-is_early}

pub loop-deed-init : goal.loop-deed-init
loop-deed-init c = where_nil Setup (λ (d : Deed). acts d.does || list_any asks d.says) c.args.least.now

pub loop-deed-preserved : goal.loop-deed-preserved
loop-deed-preserved c =
    let l = c.loop-deed in
    where_more Setup (λ (d : Deed). acts d.does || list_any asks d.says) c.args.least.now l.least c.if-is_early.least c.args.deeds.now l.deed-index c.deed-item.result c.is_early.result c.loop-deed-test.true c.deed-item.is l.invariant c.is_early.ensures
    (elim c.if-is_early.branch [
      | then-is_early w ↦ inl (w.if-is_early.true, w.least-is ∙ w.tell.ensures)
      | else-is_early w ↦ inr (w.if-is_early.false, w.least-is)
    ])
