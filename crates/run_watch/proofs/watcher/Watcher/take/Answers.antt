use Rattle.std.proofs.Common.{rules}
use Rattle.da_core.specs.Arrivals.{arrival}
use Rattle.da_core.specs.Compiled.{program_of}
use Rattle.da_values.specs.Value.{val_of}
use Rattle.run_watch.specs.Watching.{message_from}
use Rattle.run_watch.proofs.WatchLemmas.{core_forbids, core_there, forbidden_hears, made_done, made_leads, may_come, message_hears, same_core, same_out, untyped_hears, worn_hears}
use Rattle.run_watch.proofs.watcher.Watcher.take.Goals as goal

pub returns-then-worn : goal.returns-then-worn
returns-then-worn c = λ program w come. worn_hears program w c.args.self.now (message_from program c.args.from (val_of c.args.value.now)) c.args.out.now come c.if-worn.true

pub returns-then-not-well_typed : goal.returns-then-not-well_typed
returns-then-not-well_typed c = λ program w come.
    untyped_hears program (program_of c.args.self.now.compiled.now) w c.args.self.now c.args.from (val_of c.args.value.now) c.well_typed.result c.args.out.now come.program_is c.well_typed.ensures c.if-not-well_typed.true come

pub deliver-requires : goal.deliver-requires
deliver-requires c = record {
  ready = λ unspent. core_there c.args.self.now c.requires c.if-worn.false;
  arrives = may_come c.args.self.now c.requires c.args.value.now c.args.from 0 ((c.may_arrive.ensures 0).0 c.if-not-may_arrive.false);
}

pub returns-in-Err-Forbidden : goal.returns-in-Err-Forbidden
returns-in-Err-Forbidden c = λ program w come.
    let same = c.in-Err-Forbidden.ensures.same (search rules) in
    same_out program _ _ _ _ same.1
    (forbidden_hears program (program_of c.args.self.now.compiled.now) w _ c.args.from (val_of c.args.value.now) c.well_typed.result _ come.program_is c.well_typed.ensures c.if-not-well_typed.false
    (core_forbids program w c.args.self.now (arrival c.args.value.now c.args.from 0) come c.if-worn.false (c.in-Err-Forbidden.ensures.forbidden (search rules))) (same_core program w c.args.self.now _ come same.0))

pub settle-requires : goal.settle-requires
settle-requires c =
    let (program, w, come) = c.requires in
    record {
      there = (program, _, (made_done program w c.args.self.now (arrival c.args.value.now c.args.from 0) _ _ _ _ come c.if-worn.false c.in-Ok.ensures.delivers c.in-Ok.ensures.program).come);
      unworn = c.if-worn.false;
    }

pub returns : goal.returns
returns c = λ program w come.
    let makes = made_done program w c.args.self.now (arrival c.args.value.now c.args.from 0) _ _ _ _ come c.if-worn.false c.in-Ok.ensures.delivers c.in-Ok.ensures.program in
    message_hears program (program_of c.args.self.now.compiled.now) w _ _ c.args.from (val_of c.args.value.now) c.well_typed.result _ _ _ _ come.program_is c.well_typed.ensures c.if-not-well_typed.false
    (made_leads program w c.args.self.now (arrival c.args.value.now c.args.from 0) _ _ _ _ come c.if-worn.false c.in-Ok.ensures.delivers c.in-Ok.ensures.program) makes (c.in_ok-settle.ensures program _ makes.come)
