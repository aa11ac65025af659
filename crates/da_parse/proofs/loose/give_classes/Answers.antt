use Rattle.std.proofs.Common.{◌≡◌, length, arith}
use Rattle.da_parse.specs.Loose.{given_class, open_classes}
use Rattle.da_parse.proofs.GivenTypes.{given_none, given_on, all_given, given_size, put_size, in_class, classes_noted}
use Rattle.da_parse.proofs.loose.give_classes.Goals as goal

pub loop-at-init : goal.loop-at-init
loop-at-init c = given_none given_class open_classes c.args.classes.now c.args.untyped.now

pub replace-class-requires : goal.replace-class-requires
replace-class-requires c = let size : length c.loop-at.classes ≡ length c.args.classes.now = given_size _ _ _ _ _ _ _ c.loop-at.invariant in omega arith

pub set-requires : goal.set-requires
set-requires c =
    let size : length c.loop-at.classes ≡ length c.args.classes.now = given_size _ _ _ _ _ _ _ c.loop-at.invariant in
    let same : length c.replace-class.new.self ≡ length c.loop-at.classes = put_size _ _ _ _ c.replace-class.ensures.put in omega arith

pub loop-at-preserved : goal.loop-at-preserved
loop-at-preserved c =
    given_on given_class open_classes in_class classes_noted _ _ _ _ _ c.loop-at.invariant _ _ _ _ _ _ c.replace-class.ensures.value c.replace-class.ensures.put c.in_ok-given.ensures.class c.set.ensures c.in_ok-given.ensures.noted

pub returns-clause-classes : goal.returns-clause-classes
returns-clause-classes c =
    let end : c.loop-at.at ≡ length c.args.classes.now = omega arith in
    (all_given given_class open_classes in_class classes_noted _ _ _ _ _ c.loop-at.invariant end).0

pub returns-clause-noted : goal.returns-clause-noted
returns-clause-noted c =
    let end : c.loop-at.at ≡ length c.args.classes.now = omega arith in
    (all_given given_class open_classes in_class classes_noted _ _ _ _ _ c.loop-at.invariant end).1
