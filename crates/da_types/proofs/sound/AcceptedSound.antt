-- An accepted program is sound.
use Rattle.std.specs.Prelude.{◌≡◌, refl, map}
use Rattle.std.proofs.Common.{◌∙◌, ap, sym, subst}
use Rattle.da_values.specs.Sets.{Has}
use Rattle.da_values.specs.declared.value.Value.{Value}
use Rattle.da_values.proofs.Members.{of_map}
use Rattle.da_lang.specs.declared.program.Class.{Class}
use Rattle.da_lang.specs.declared.program.Program.{Program}
use Rattle.da_lang.specs.declared.tree.Tree.{Tree}
use Rattle.da_lang.specs.Limits.{Resolves}
use Rattle.da_lang.specs.Shaped.{IsItemOf}
use Rattle.da_lang.specs.Typing.{IsTyped, Typed, filled, filled_class}
use Rattle.da_types.specs.Constants.{AreFine, ConstantsAreThere, Notes, tree_notes}
use Rattle.da_types.specs.QueryNotes.{AreThere}
use Rattle.da_types.specs.Sound.{IsSoundClass}
use Rattle.da_types.specs.Totality.{IsConstant}
use Rattle.da_types.proofs.resolved.ClassConstants.{GoodClass}
use Rattle.da_types.proofs.resolved.FewProcesses.{process_numbers}
use Rattle.da_types.proofs.resolved.ResolvedConstants.{constants_by, good_class}
use Rattle.da_types.proofs.resolved.ResolvedTyped.{resolved_is_typed}
use Rattle.da_types.proofs.sound.BoundRows.{takes_message, takes_row}

pub filled_classes : (p : Program) → (filled p).classes ≡ map (filled_class p.messages) p.classes
unfolding filled
filled_classes p = refl

pub filled_procs : (p : Program) → (filled p).procs ≡ p.procs
unfolding filled
filled_procs p = refl

-- constants stay when the slots are filled in
filled_constant : (p : Program) (v : Value) → IsConstant p v → IsConstant (filled p) v
unfolding filled
filled_constant p v good = record { proper = good.proper; processes = good.processes }

filled_there : (p : Program) (ns : Notes) → AreThere p ns → AreThere (filled p) ns
filled_there p ns there = record { constants = λ v h. filled_constant p v (there.constants v h); few = there.few }

filled_constants : (p : Program) → ConstantsAreThere p → ConstantsAreThere (filled p)
filled_constants p there = record {
  of_queries = λ d q v has own h. (
      let (c, stands, is) = of_map (filled_class p.messages) p.classes d (subst (λ z. Has z d) (filled_classes p) has) in
      filled_constant p v (there.of_queries c q v stands (subst (λ (z : Class). Has z.queries q) is own) h));
  of_statements = λ d i x v has own k h. (
      let (c, stands, is) = of_map (filled_class p.messages) p.classes d (subst (λ z. Has z d) (filled_classes p) has) in
      filled_constant p v (there.of_statements c i x v stands (subst (λ (z : Class). IsItemOf z i) is own) k h));
  of_setups = λ d call x v has is k h. filled_constant p v (there.of_setups d call x v (subst (λ z. Has z d) (filled_procs p) has) is k h);
}

-- so does what is good of a class
filled_good : (p : Program) (c : Class) → GoodClass p c.queries c → GoodClass p (filled_class p.messages c).queries (filled_class p.messages c)
filled_good p c good = record { items = good.items; handlers = good.handlers; queries = good.queries; params = good.params }

module _ (t : Tree) (p q : Program) (r : Resolves t p) (typed : Typed p q) (fine : AreFine (tree_notes t)) where
  is_typed : IsTyped q
  is_typed = resolved_is_typed t p q r typed

  class_is_good : (d : Class) → Has q.classes d → GoodClass p d.queries d
  class_is_good d has =
      let (c, stands, is) = of_map (filled_class p.messages) p.classes d (subst (λ z. Has z d) (ap (λ (z : Program). z.classes) typed.becomes ∙ filled_classes p) has) in
      let (tree, same, good) = good_class t p (process_numbers t p r) r.becomes fine c stands in
      subst (λ (z : Class). GoodClass p z.queries z) (sym is) (filled_good p c good)

  stays_there : {ns : Notes} → AreThere p ns → AreThere q ns
  stays_there {ns} there = subst (λ z. AreThere z ns) (sym typed.becomes) (filled_there p ns there)

  pub class_is_sound : (d : Class) → Has q.classes d → IsSoundClass q d
  class_is_sound d has =
      let good = class_is_good d has in
      record {
        items = λ i own. (
            let (items, among, within) = own in
            let rule = good.items items among i within in
            record {
              finds = λ n binds h. (let asks = rule.finds n binds h in record { asks = asks; takes = takes_row q d is_typed.keeps has i own n binds h asks });
              distinct = rule.distinct;
              waits = λ b h. stays_there (rule.waits b h);
            });
        handlers = λ h own. record { takes = takes_message q d is_typed.keeps has h own; distinct = (good.handlers h own).distinct; patterns = stays_there (good.handlers h own).patterns };
        queries = λ x own. stays_there (good.queries x own);
        params = good.params;
      }

  pub constants_are_there : ConstantsAreThere q
  constants_are_there = subst ConstantsAreThere (sym typed.becomes) (filled_constants p (constants_by t p (process_numbers t p r) r.becomes fine))
