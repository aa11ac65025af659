use Rattle.std.proofs.Common.{◌∙◌, ap, option_map, sym}
use Rattle.da_lang.specs.Limits.{limit_refusals, rank as limit_rank}
use Rattle.da_lang.specs.NameRules.{name_refusals, rank as name_rank}
use Rattle.da_bodies.specs.Telling.{refusal_of}
use Rattle.da_bodies.proofs.TellingLaws.{untold}
use Rattle.da_scope.proofs.top.resolve.Goals as goal

pub limit_fault-requires : goal.limit_fault-requires
limit_fault-requires c = untold name_rank (name_refusals c.args.t.now) c.in_ok-kind.field-0 c.in_ok-kind.ensures c.in_default.is

pub build_program-requires : goal.build_program-requires
build_program-requires c = untold limit_rank (limit_refusals c.args.t.now) c.in_ok-kind-2.field-0 c.in_ok-kind-2.ensures c.in_default-2.is

pub returns-in-Some-2-clause-refused : goal.returns-in-Some-2-clause-refused
returns-in-Some-2-clause-refused c = (
  untold name_rank (name_refusals c.args.t.now) c.in_ok-kind.field-0 c.in_ok-kind.ensures c.in_default.is,
  sym c.in_ok-kind-2.ensures ∙ ap (option_map refusal_of) c.in-Some-2.is,
)

pub returns-clause-program : goal.returns-clause-program
returns-clause-program c = record {
  named = untold name_rank (name_refusals c.args.t.now) c.in_ok-kind.field-0 c.in_ok-kind.ensures c.in_default.is;
  within = untold limit_rank (limit_refusals c.args.t.now) c.in_ok-kind-2.field-0 c.in_ok-kind-2.ensures c.in_default-2.is;
  becomes = c.in_ok-build_program.ensures;
}

pub returns-clause-resolved : goal.returns-clause-resolved
returns-clause-resolved c = record {
  tree = c.args.t.now;
  written = c.requires.written;
  resolves = record {
    named = untold name_rank (name_refusals c.args.t.now) c.in_ok-kind.field-0 c.in_ok-kind.ensures c.in_default.is;
    within = untold limit_rank (limit_refusals c.args.t.now) c.in_ok-kind-2.field-0 c.in_ok-kind-2.ensures c.in_default-2.is;
    becomes = c.in_ok-build_program.ensures;
  };
}
