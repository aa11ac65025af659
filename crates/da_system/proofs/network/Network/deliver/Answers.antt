use Rattle.std.proofs.Common.{◌∙◌, ap, arith, refl, rules, sym, subst}
use Rattle.std.specs.Prelude.{is_some}
use Rattle.std.proofs.lemmas.Bool.{false≢true}
use Rattle.da_lang.specs.declared.program.Program.{Program}
use Rattle.da_lang.specs.Shaped.{IsEntry}
use Rattle.da_core.specs.Arrivals.{arrival, entry_at}
use Rattle.da_system.specs.Channels.{without_message}
use Rattle.da_system.specs.Queues.{count_of, message_of}
use Rattle.da_system.specs.Network.{program_of}
use Rattle.da_system.specs.SystemStep.{deliver}
use Rattle.da_system.proofs.PostLemmas.{posted_answers}
use Rattle.da_system.proofs.MessageLemmas.{arrives_is, arrives_sound, both_there, few_senders, message_may, may_come}
use Rattle.da_system.proofs.MadeLemmas.{core_begins, core_forbids, core_program, core_stands, made_begun, made_longer, made_sends, made_stands}
use Rattle.da_system.proofs.PlaceLemmas.{numbered_at, numbered_put}
use Rattle.da_system.proofs.network.Network.deliver.Goals as goal

pub remove-requires : goal.remove-requires
remove-requires c =
    let (s, stands) = c.requires.ready c.requires.unspent in
    both_there c.args.self.now s stands c.args.p c.args.q c.args.i ((c.may_deliver.ensures s stands).0 c.if-not-may_deliver.false)

pub overflow_cast-p : goal.overflow_cast-p
overflow_cast-p c =
    let (s, stands) = c.requires.ready c.requires.unspent in
    record { fits = few_senders c.args.self.now s stands c.args.p c.args.q c.args.i ((c.may_deliver.ensures s stands).0 c.if-not-may_deliver.false) }

pub take-requires-clause-ready : goal.take-requires-clause-ready
take-requires-clause-ready c = λ unspent.
    let (s, stands) = c.requires.ready c.requires.unspent in
    let there = numbered_at c.args.self.now.cores.items c.args.q c.in-Some.place c.index_mut-core.result.now c.in-Some.ensures.0 c.in-Some.ensures.1 c.index_mut-core.ensures.value in
    core_stands c.args.self.now s stands (deliver (program_of c.args.self.now) s c.args.p c.args.q c.args.i) (without_message s.channels c.args.p c.args.q c.args.i) c.args.q (arrival c.in-Some-remove.message.value c.args.p c.in-Some-remove.message.time) (arrives_is c.args.self.now s stands c.args.p c.args.q c.args.i (message_of c.in-Some-remove.message) (sym (c.in-Some-remove.ensures.value s.channels stands.channels)) (may_come c.args.self.now s stands c.args.p c.args.q c.args.i ((c.may_deliver.ensures s stands).0 c.if-not-may_deliver.false))) c.index_mut-core.result.now there

pub take-requires-clause-arrives : goal.take-requires-clause-arrives
take-requires-clause-arrives c =
    let (s, stands) = c.requires.ready c.requires.unspent in
    let there = numbered_at c.args.self.now.cores.items c.args.q c.in-Some.place c.index_mut-core.result.now c.in-Some.ensures.0 c.in-Some.ensures.1 c.index_mut-core.ensures.value in
    subst (λ (x : Program). IsEntry x (entry_at c.in-Some-remove.message.value c.args.p c.in-Some-remove.message.time)) (sym (core_program c.args.self.now s stands (deliver (program_of c.args.self.now) s c.args.p c.args.q c.args.i) (without_message s.channels c.args.p c.args.q c.args.i) c.args.q (arrival c.in-Some-remove.message.value c.args.p c.in-Some-remove.message.time) (arrives_is c.args.self.now s stands c.args.p c.args.q c.args.i (message_of c.in-Some-remove.message) (sym (c.in-Some-remove.ensures.value s.channels stands.channels)) (may_come c.args.self.now s stands c.args.p c.args.q c.args.i ((c.may_deliver.ensures s stands).0 c.if-not-may_deliver.false))) c.index_mut-core.result.now there))
    (message_may c.args.self.now s stands c.args.p c.args.q c.args.i (message_of c.in-Some-remove.message) (sym (c.in-Some-remove.ensures.value s.channels stands.channels)) (both_there c.args.self.now s stands c.args.p c.args.q c.args.i ((c.may_deliver.ensures s stands).0 c.if-not-may_deliver.false)).0)

pub post-requires-clause-told : goal.post-requires-clause-told
post-requires-clause-told c =
    let (s, stands) = c.requires.ready c.requires.unspent in
    let there = numbered_at c.args.self.now.cores.items c.args.q c.in-Some.place c.index_mut-core.result.now c.in-Some.ensures.0 c.in-Some.ensures.1 c.index_mut-core.ensures.value in
    let longer = made_longer c.args.self.now s stands (deliver (program_of c.args.self.now) s c.args.p c.args.q c.args.i) (without_message s.channels c.args.p c.args.q c.args.i) c.args.q (arrival c.in-Some-remove.message.value c.args.p c.in-Some-remove.message.time) (arrives_is c.args.self.now s stands c.args.p c.args.q c.args.i (message_of c.in-Some-remove.message) (sym (c.in-Some-remove.ensures.value s.channels stands.channels)) (may_come c.args.self.now s stands c.args.p c.args.q c.args.i ((c.may_deliver.ensures s stands).0 c.if-not-may_deliver.false))) c.index_mut-core.result.now there c.take.new.self c.in-Ok.field-0 c.args.out.now c.take.new.out c.in-Ok.ensures.delivers in
    omega (arith, c.len-told.ensures, longer)

pub post-requires-clause-sent : goal.post-requires-clause-sent
post-requires-clause-sent c =
    let (s, stands) = c.requires.ready c.requires.unspent in
    let there = numbered_at c.args.self.now.cores.items c.args.q c.in-Some.place c.index_mut-core.result.now c.in-Some.ensures.0 c.in-Some.ensures.1 c.index_mut-core.ensures.value in
    made_sends c.args.self.now s stands (deliver (program_of c.args.self.now) s c.args.p c.args.q c.args.i) (without_message s.channels c.args.p c.args.q c.args.i) c.args.q (arrival c.in-Some-remove.message.value c.args.p c.in-Some-remove.message.time) (arrives_is c.args.self.now s stands c.args.p c.args.q c.args.i (message_of c.in-Some-remove.message) (sym (c.in-Some-remove.ensures.value s.channels stands.channels)) (may_come c.args.self.now s stands c.args.p c.args.q c.args.i ((c.may_deliver.ensures s stands).0 c.if-not-may_deliver.false))) c.index_mut-core.result.now there c.take.new.self c.in-Ok.field-0 c.args.out.now c.take.new.out c.in-Ok.ensures.delivers
    (message_may c.args.self.now s stands c.args.p c.args.q c.args.i (message_of c.in-Some-remove.message) (sym (c.in-Some-remove.ensures.value s.channels stands.channels)) (both_there c.args.self.now s stands c.args.p c.args.q c.args.i ((c.may_deliver.ensures s stands).0 c.if-not-may_deliver.false)).0) c.len-told.result c.len-told.ensures (count_of c.remove.new.self) (c.remove.ensures.count ∙ stands.count)

pub returns-in-Ok-clause-answers : goal.returns-in-Ok-clause-answers
returns-in-Ok-clause-answers c =
    let there = numbered_at c.args.self.now.cores.items c.args.q c.in-Some.place c.index_mut-core.result.now c.in-Some.ensures.0 c.in-Some.ensures.1 c.index_mut-core.ensures.value in
    let put = numbered_put c.args.self.now.cores.items c.args.q c.in-Some.place c.take.new.self c.in-Some.ensures.0 in
    posted_answers (λ s. deliver (program_of c.args.self.now) s c.args.p c.args.q c.args.i) c.args.self.now _ c.post.new.self c.args.out.now c.take.new.out _ c.post.result c.post.ensures.posted c.post.ensures.memory
    (λ s stands. made_begun c.args.self.now s stands (deliver (program_of c.args.self.now) s c.args.p c.args.q c.args.i) (without_message s.channels c.args.p c.args.q c.args.i) c.args.q (arrival c.in-Some-remove.message.value c.args.p c.in-Some-remove.message.time) (arrives_is c.args.self.now s stands c.args.p c.args.q c.args.i (message_of c.in-Some-remove.message) (sym (c.in-Some-remove.ensures.value s.channels stands.channels)) (may_come c.args.self.now s stands c.args.p c.args.q c.args.i ((c.may_deliver.ensures s stands).0 c.if-not-may_deliver.false))) c.index_mut-core.result.now there c.take.new.self c.in-Ok.field-0 c.args.out.now c.take.new.out c.in-Ok.ensures.delivers)
    (λ posted s stands. made_stands c.args.self.now s stands (deliver (program_of c.args.self.now) s c.args.p c.args.q c.args.i) (without_message s.channels c.args.p c.args.q c.args.i) c.args.q (arrival c.in-Some-remove.message.value c.args.p c.in-Some-remove.message.time) (arrives_is c.args.self.now s stands c.args.p c.args.q c.args.i (message_of c.in-Some-remove.message) (sym (c.in-Some-remove.ensures.value s.channels stands.channels)) (may_come c.args.self.now s stands c.args.p c.args.q c.args.i ((c.may_deliver.ensures s stands).0 c.if-not-may_deliver.false))) c.index_mut-core.result.now there c.take.new.self c.in-Ok.field-0 c.args.out.now c.take.new.out c.in-Ok.ensures.delivers c.take.ensures.program
    (arrives_sound c.args.self.now s stands c.args.p c.args.q c.args.i (message_of c.in-Some-remove.message) (sym (c.in-Some-remove.ensures.value s.channels stands.channels))) c.len-told.result c.len-told.ensures c.post.new.self (posted.spent ∙ c.requires.unspent) posted.compiled (posted.cores ∙ put) (posted.count ∙ c.remove.ensures.count)
    (posted.channels (without_message s.channels c.args.p c.args.q c.args.i) (c.remove.ensures.stands s.channels stands.channels)))

pub returns-in-Err-Memory-clause-answers : goal.returns-in-Err-Memory-clause-answers
returns-in-Err-Memory-clause-answers c =
    let there = numbered_at c.args.self.now.cores.items c.args.q c.in-Some.place c.index_mut-core.result.now c.in-Some.ensures.0 c.in-Some.ensures.1 c.index_mut-core.ensures.value in
    (refl, λ s stands. core_begins c.args.self.now s stands (deliver (program_of c.args.self.now) s c.args.p c.args.q c.args.i) (without_message s.channels c.args.p c.args.q c.args.i) c.args.q (arrival c.in-Some-remove.message.value c.args.p c.in-Some-remove.message.time) (arrives_is c.args.self.now s stands c.args.p c.args.q c.args.i (message_of c.in-Some-remove.message) (sym (c.in-Some-remove.ensures.value s.channels stands.channels)) (may_come c.args.self.now s stands c.args.p c.args.q c.args.i ((c.may_deliver.ensures s stands).0 c.if-not-may_deliver.false))) c.index_mut-core.result.now there c.args.out.now c.take.new.out (c.in-Err-Memory.ensures.prefix (search rules)))

pub returns-in-Err-Forbidden-clause-answers : goal.returns-in-Err-Forbidden-clause-answers
returns-in-Err-Forbidden-clause-answers c =
    let (s, stands) = c.requires.ready c.requires.unspent in
    let there = numbered_at c.args.self.now.cores.items c.args.q c.in-Some.place c.index_mut-core.result.now c.in-Some.ensures.0 c.in-Some.ensures.1 c.index_mut-core.ensures.value in
    let none = core_forbids c.args.self.now s stands (deliver (program_of c.args.self.now) s c.args.p c.args.q c.args.i) (without_message s.channels c.args.p c.args.q c.args.i) c.args.q (arrival c.in-Some-remove.message.value c.args.p c.in-Some-remove.message.time) (arrives_is c.args.self.now s stands c.args.p c.args.q c.args.i (message_of c.in-Some-remove.message) (sym (c.in-Some-remove.ensures.value s.channels stands.channels)) (may_come c.args.self.now s stands c.args.p c.args.q c.args.i ((c.may_deliver.ensures s stands).0 c.if-not-may_deliver.false))) c.index_mut-core.result.now there (c.in-Err-Forbidden.ensures.forbidden (search rules)) in
    absurd (false≢true (sym (ap is_some none) ∙ ((c.may_deliver.ensures s stands).0 c.if-not-may_deliver.false)))

pub returns-in-Err-Spent-clause-answers : goal.returns-in-Err-Spent-clause-answers
returns-in-Err-Spent-clause-answers c =
    let (s, stands) = c.requires.ready c.requires.unspent in
    let there = numbered_at c.args.self.now.cores.items c.args.q c.in-Some.place c.index_mut-core.result.now c.in-Some.ensures.0 c.in-Some.ensures.1 c.index_mut-core.ensures.value in
    let (w, at) = core_stands c.args.self.now s stands (deliver (program_of c.args.self.now) s c.args.p c.args.q c.args.i) (without_message s.channels c.args.p c.args.q c.args.i) c.args.q (arrival c.in-Some-remove.message.value c.args.p c.in-Some-remove.message.time) (arrives_is c.args.self.now s stands c.args.p c.args.q c.args.i (message_of c.in-Some-remove.message) (sym (c.in-Some-remove.ensures.value s.channels stands.channels)) (may_come c.args.self.now s stands c.args.p c.args.q c.args.i ((c.may_deliver.ensures s stands).0 c.if-not-may_deliver.false))) c.index_mut-core.result.now there in
    false≢true (sym at.unspent ∙ (c.in-Err-Spent.ensures.only_spent (search rules)).0)
