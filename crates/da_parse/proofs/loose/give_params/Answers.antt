use Rattle.std.proofs.Common.{◌≡◌, length, arith}
use Rattle.da_parse.specs.Loose.{given_param, open_param, open_params}
use Rattle.da_parse.proofs.GivenTypes.{given_none, given_on, all_given, given_size, put_size, params_noted}
use Rattle.da_parse.proofs.loose.give_params.Goals as goal

pub loop-at-init : goal.loop-at-init
loop-at-init c = given_none given_param (open_params c.args.class c.args.member) c.args.params.now c.args.untyped.now

pub replace-param-requires : goal.replace-param-requires
replace-param-requires c = let size : length c.loop-at.params ≡ length c.args.params.now = given_size _ _ _ _ _ _ _ c.loop-at.invariant in omega arith

pub set-requires : goal.set-requires
set-requires c =
    let size : length c.loop-at.params ≡ length c.args.params.now = given_size _ _ _ _ _ _ _ c.loop-at.invariant in
    let same : length c.replace-param.new.self ≡ length c.loop-at.params = put_size _ _ _ _ c.replace-param.ensures.put in omega arith

pub loop-at-preserved : goal.loop-at-preserved
loop-at-preserved c =
    given_on given_param (open_params c.args.class c.args.member) (open_param c.args.class c.args.member) (params_noted c.args.class c.args.member) _ _ _ _ _ c.loop-at.invariant _ _ _ _ _ _ c.replace-param.ensures.value c.replace-param.ensures.put c.in_ok-given.ensures.param c.set.ensures c.in_ok-given.ensures.noted

pub returns-clause-params : goal.returns-clause-params
returns-clause-params c =
    let end : c.loop-at.at ≡ length c.args.params.now = omega arith in
    (all_given given_param (open_params c.args.class c.args.member) (open_param c.args.class c.args.member) (params_noted c.args.class c.args.member) _ _ _ _ _ c.loop-at.invariant end).0

pub returns-clause-noted : goal.returns-clause-noted
returns-clause-noted c =
    let end : c.loop-at.at ≡ length c.args.params.now = omega arith in
    (all_given given_param (open_params c.args.class c.args.member) (open_param c.args.class c.args.member) (params_noted c.args.class c.args.member) _ _ _ _ _ c.loop-at.invariant end).1
