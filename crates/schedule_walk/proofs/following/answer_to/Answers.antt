use Rattle.std.proofs.Common.{◌∙◌, refl, rules}
use Rattle.da_core.specs.Compiled.{program_of as compiled_program}
use Rattle.da_system.specs.State.{program_of}
use Rattle.schedule_walk.proofs.NextLemmas.{lists, stops, unspent_after}
use Rattle.schedule_walk.proofs.following.answer_to.Goals as goal

pub list_allowed-requires : goal.list_allowed-requires
list_allowed-requires c = record {
  ready = search rules;
  unspent = unspent_after (compiled_program c.args.compiled.now) c.args.events.now c.args.system.now c.requires.opening (program_of c.args.system.now) c.requires.program _ c.run.new.system (c.in-Done.ensures.ran tt);
  program = c.in-Done.ensures.program ∙ c.requires.program;
  compiled = c.requires.compiled;
}

pub returns-in-Done : goal.returns-in-Done
returns-in-Done c =
    lists (compiled_program c.args.compiled.now) c.args.events.now c.args.system.now c.requires.opening (program_of c.args.system.now) c.requires.program _ c.run.new.system (program_of c.run.new.system) c.list_allowed.result refl
    (c.in-Done.ensures.program ∙ c.requires.program) (c.in-Done.ensures.ran tt) c.list_allowed.ensures

pub returns-in_ok-stop_line-in-Forbidden : goal.returns-in_ok-stop_line-in-Forbidden
returns-in_ok-stop_line-in-Forbidden c =
    stops (compiled_program c.args.compiled.now) c.args.events.now c.args.system.now c.requires.opening (program_of c.args.system.now) c.requires.program _ c.run.new.system _ _ refl
    (c.in-Forbidden.ensures.ran tt) c.in_ok-stop_line-in-Forbidden.ensures
