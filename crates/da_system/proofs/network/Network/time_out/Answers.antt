use Rattle.std.proofs.Common.{◌∙◌, arith, refl, rules, sym}
use Rattle.std.proofs.lemmas.Bool.{false≢true}
use Rattle.da_lang.specs.declared.event.Event.TheVariants.{Timeout}
use Rattle.da_lang.specs.Steps.{TimeOut}
use Rattle.da_system.specs.Queues.{count_of}
use Rattle.da_system.specs.Network.{program_of}
use Rattle.da_system.specs.SystemStep.{process_step}
use Rattle.da_system.proofs.PostLemmas.{alike, posted_answers}
use Rattle.da_system.proofs.MadeLemmas.{core_begins, core_forbids, core_stands, made_begun, made_longer, made_sends, made_stands, sound_after}
use Rattle.da_system.proofs.PlaceLemmas.{numbered_at, numbered_put, set_same}
use Rattle.da_system.proofs.StepLemmas.{no_core}
use Rattle.da_system.proofs.network.Network.time_out.Goals as goal

pub returns-in_default-clause-answers : goal.returns-in_default-clause-answers
returns-in_default-clause-answers c = (λ s stands. no_core c.args.self.now s stands c.args.p TimeOut c.in_default.ensures, λ s. (λ x. x, λ x. x), refl)

pub make_timeout-requires : goal.make_timeout-requires
make_timeout-requires c = λ unspent.
    let there = numbered_at c.args.self.now.cores.items c.args.p c.in-Some.place c.index_mut-core.result.now c.in-Some.ensures.0 c.in-Some.ensures.1 c.index_mut-core.ensures.value in
    let (s, stands) = c.requires.ready c.requires.unspent in
    core_stands c.args.self.now s stands (process_step (program_of c.args.self.now) s c.args.p TimeOut) s.channels c.args.p TimeOut refl c.index_mut-core.result.now there

pub post-requires-clause-told : goal.post-requires-clause-told
post-requires-clause-told c =
    let there = numbered_at c.args.self.now.cores.items c.args.p c.in-Some.place c.index_mut-core.result.now c.in-Some.ensures.0 c.in-Some.ensures.1 c.index_mut-core.ensures.value in
    let (s, stands) = c.requires.ready c.requires.unspent in
    let longer = made_longer c.args.self.now s stands (process_step (program_of c.args.self.now) s c.args.p TimeOut) s.channels c.args.p TimeOut refl c.index_mut-core.result.now there c.make_timeout.new.self c.in-Ok.field-0 c.args.out.now c.make_timeout.new.out c.in-Ok.ensures.moves in
    omega (arith, c.len-told.ensures, longer)

pub post-requires-clause-sent : goal.post-requires-clause-sent
post-requires-clause-sent c =
    let there = numbered_at c.args.self.now.cores.items c.args.p c.in-Some.place c.index_mut-core.result.now c.in-Some.ensures.0 c.in-Some.ensures.1 c.index_mut-core.ensures.value in
    let (s, stands) = c.requires.ready c.requires.unspent in
    made_sends c.args.self.now s stands (process_step (program_of c.args.self.now) s c.args.p TimeOut) s.channels c.args.p TimeOut refl c.index_mut-core.result.now there c.make_timeout.new.self c.in-Ok.field-0 c.args.out.now c.make_timeout.new.out c.in-Ok.ensures.moves
    tt c.len-told.result c.len-told.ensures (count_of c.args.self.now.channels) stands.count

pub returns-in-Ok-clause-answers : goal.returns-in-Ok-clause-answers
returns-in-Ok-clause-answers c =
    let there = numbered_at c.args.self.now.cores.items c.args.p c.in-Some.place c.index_mut-core.result.now c.in-Some.ensures.0 c.in-Some.ensures.1 c.index_mut-core.ensures.value in
    let put = numbered_put c.args.self.now.cores.items c.args.p c.in-Some.place c.make_timeout.new.self c.in-Some.ensures.0 in
    posted_answers (λ s. process_step (program_of c.args.self.now) s c.args.p TimeOut) c.args.self.now _ c.post.new.self c.args.out.now c.make_timeout.new.out _ c.post.result c.post.ensures.posted c.post.ensures.memory
    (λ s stands. made_begun c.args.self.now s stands (process_step (program_of c.args.self.now) s c.args.p TimeOut) s.channels c.args.p TimeOut refl c.index_mut-core.result.now there c.make_timeout.new.self c.in-Ok.field-0 c.args.out.now c.make_timeout.new.out c.in-Ok.ensures.moves)
    (λ posted s stands. made_stands c.args.self.now s stands (process_step (program_of c.args.self.now) s c.args.p TimeOut) s.channels c.args.p TimeOut refl c.index_mut-core.result.now there c.make_timeout.new.self c.in-Ok.field-0 c.args.out.now c.make_timeout.new.out c.in-Ok.ensures.moves c.make_timeout.ensures.program
    (sound_after c.args.self.now s stands (Timeout c.args.p)) c.len-told.result c.len-told.ensures c.post.new.self (posted.spent ∙ c.requires.unspent) posted.compiled (posted.cores ∙ put) posted.count (posted.channels s.channels stands.channels))

pub returns-in-Err-Memory-clause-answers : goal.returns-in-Err-Memory-clause-answers
returns-in-Err-Memory-clause-answers c =
    let there = numbered_at c.args.self.now.cores.items c.args.p c.in-Some.place c.index_mut-core.result.now c.in-Some.ensures.0 c.in-Some.ensures.1 c.index_mut-core.ensures.value in
    (refl, λ s stands. core_begins c.args.self.now s stands (process_step (program_of c.args.self.now) s c.args.p TimeOut) s.channels c.args.p TimeOut refl c.index_mut-core.result.now there c.args.out.now c.make_timeout.new.out (c.in-Err-Memory.ensures.prefix (search rules)))

pub returns-in-Err-Forbidden-clause-answers : goal.returns-in-Err-Forbidden-clause-answers
returns-in-Err-Forbidden-clause-answers c =
    let there = numbered_at c.args.self.now.cores.items c.args.p c.in-Some.place c.index_mut-core.result.now c.in-Some.ensures.0 c.in-Some.ensures.1 c.index_mut-core.ensures.value in
    let same = c.in-Err-Forbidden.ensures.same (search rules) in
    let none = c.in-Err-Forbidden.ensures.forbidden (search rules) in (
      λ s stands. core_forbids c.args.self.now s stands (process_step (program_of c.args.self.now) s c.args.p TimeOut) s.channels c.args.p TimeOut refl c.index_mut-core.result.now there none,
      alike c.args.self.now _ refl refl (set_same c.args.self.now.cores.items c.in-Some.place c.index_mut-core.result.now c.make_timeout.new.self same.0 c.index_mut-core.ensures.value) refl,
      same.1,
    )

pub returns-in-Err-Spent-clause-answers : goal.returns-in-Err-Spent-clause-answers
returns-in-Err-Spent-clause-answers c =
    let there = numbered_at c.args.self.now.cores.items c.args.p c.in-Some.place c.index_mut-core.result.now c.in-Some.ensures.0 c.in-Some.ensures.1 c.index_mut-core.ensures.value in
    let (s, stands) = c.requires.ready c.requires.unspent in
    let (w, at) = core_stands c.args.self.now s stands (process_step (program_of c.args.self.now) s c.args.p TimeOut) s.channels c.args.p TimeOut refl c.index_mut-core.result.now there in
    false≢true (sym at.unspent ∙ (c.in-Err-Spent.ensures.only_spent (search rules)).0)
