use Rattle.std.proofs.Common.{◌≡◌, ◌<◌, ◌^◌, ◌+◌, ◌∙◌, ◌∷◌, ◌++◌, [], ap, arith, length, map, refl, subst, sym}
use Rattle.std.specs.List.{range_with_len}
use Rattle.da_lang.specs.declared.program.Program.{Program}
use Rattle.da_lang.specs.World.{opening}
use Rattle.da_types.proofs.sound.AcceptedLaws.{is_sound}
use Rattle.da_core.specs.Compiled.{program_of}
use Rattle.da_system.specs.Channels.{no_messages}
use Rattle.da_system.specs.Queues.{StandsFor}
use Rattle.da_system.specs.Network.{StandFrom}
use Rattle.da_system.specs.SystemStep.{start}
use Rattle.da_system.proofs.AcceptedStates.{sound_start}
use Rattle.da_system.proofs.StandLemmas.{opened_more, opened_stands}
use Rattle.da_system.proofs.Tested.{chosen_ok}
use Rattle.da_system.proofs.network.Network.new.Goals as goal

pub returns-in_err-core-clause-sound : goal.returns-in_err-core-clause-sound
returns-in_err-core-clause-sound c = sound_start (program_of c.args.compiled.now) c.requires.accepted

pub returns-then-is_err-clause-sound : goal.returns-then-is_err-clause-sound
returns-then-is_err-clause-sound c = sound_start (program_of c.args.compiled.now) c.requires.accepted

pub loop-place-preserved : goal.loop-place-preserved
loop-place-preserved c =
    let p = program_of c.args.compiled.now in
    let pushed : c.push.new.self.items ≡ c.loop-place.cores.items ++ c.in_ok-core.core ∷ [] = c.push.ensures.items ∙ chosen_ok c.push.result c.is_err.result c.is_err.ensures.value _ _ c.if-is_err.false in
    subst (λ xs. StandFrom p 1 xs (map (opening p) (range_with_len 1 (c.loop-place.place + 1)))) (sym pushed)
    (opened_more p c.loop-place.place (c.loop-place.place + 1) c.loop-place.cores.items c.in_ok-core.core refl c.in_ok-core.ensures.program c.in_ok-core.ensures.stands c.loop-place.invariant)

pub overflow_cast-place : goal.overflow_cast-place
overflow_cast-place c =
    let procs : c.len-count.result ≡ length (program_of c.args.compiled.now).procs = c.len-count.ensures ∙ ap (λ (p : Program). length p.procs) c.program.ensures in
    let few = (is_sound (program_of c.args.compiled.now) c.requires.accepted).few in
    let small : c.loop-place.place < 2 ^ 16 = omega (arith, c.loop-place-test.true, procs, few) in
    record { fits = small }

pub overflow_add-place : goal.overflow_add-place
overflow_add-place c =
    let procs : c.len-count.result ≡ length (program_of c.args.compiled.now).procs = c.len-count.ensures ∙ ap (λ (p : Program). length p.procs) c.program.ensures in
    let few = (is_sound (program_of c.args.compiled.now) c.requires.accepted).few in
    let small : c.loop-place.place + 1 < 2 ^ 16 = omega (arith, c.loop-place-test.true, procs, few) in
    record { fits = small }

pub new-requires : goal.new-requires
new-requires c =
    let procs : c.len-count.result ≡ length (program_of c.args.compiled.now).procs = c.len-count.ensures ∙ ap (λ (p : Program). length p.procs) c.program.ensures in
    let few = (is_sound (program_of c.args.compiled.now) c.requires.accepted).few in
    omega (arith, procs, few)

pub returns-in_err-channels-clause-sound : goal.returns-in_err-channels-clause-sound
returns-in_err-channels-clause-sound c = sound_start (program_of c.args.compiled.now) c.requires.accepted

pub returns-clause-ready : goal.returns-clause-ready
returns-clause-ready c =
    let all : c.loop-place.place ≡ length c.program.result.now.procs = omega (arith, c.loop-place-test.false, c.loop-place.auto.place-end, c.len-count.ensures) in
    let procs : c.len-count.result ≡ length (program_of c.args.compiled.now).procs = c.len-count.ensures ∙ ap (λ (p : Program). length p.procs) c.program.ensures in
    λ unspent. (
      start (program_of c.args.compiled.now),
      opened_stands _ c.loop-place.place refl c.requires (all ∙ ap (λ (p : Program). length p.procs) c.program.ensures) c.loop-place.invariant
          (c.in_ok-channels.ensures.count ∙ procs) (subst (λ n. StandsFor c.in_ok-channels.channels (no_messages n)) procs c.in_ok-channels.ensures.stands),
    )

pub returns-clause-start : goal.returns-clause-start
returns-clause-start c =
    let all : c.loop-place.place ≡ length c.program.result.now.procs = omega (arith, c.loop-place-test.false, c.loop-place.auto.place-end, c.len-count.ensures) in
    let procs : c.len-count.result ≡ length (program_of c.args.compiled.now).procs = c.len-count.ensures ∙ ap (λ (p : Program). length p.procs) c.program.ensures in
    opened_stands _ c.loop-place.place refl c.requires (all ∙ ap (λ (p : Program). length p.procs) c.program.ensures) c.loop-place.invariant
    (c.in_ok-channels.ensures.count ∙ procs) (subst (λ n. StandsFor c.in_ok-channels.channels (no_messages n)) procs c.in_ok-channels.ensures.stands)

pub returns-clause-sound : goal.returns-clause-sound
returns-clause-sound c = sound_start (program_of c.args.compiled.now) c.requires.accepted
