use Rattle.std.proofs.Common.{◌∙◌, sym}
use Rattle.da_types.proofs.CheckLaws.{typed_where_none}
use Rattle.da_types.proofs.sound.AcceptedLaws.{accepted, is_sound, is_total, is_typed}
use Rattle.da_types.proofs.top.check_types.Goals as goal

pub invariant_of-result : goal.invariant_of-result
invariant_of-result c =
    accepted c.args.p c.in_ok-program.program c.requires.resolved
    (typed_where_none c.args.p c.in_ok-program.program c.in_ok-program.ensures (sym c.in-None.is ∙ c.in_ok-found.ensures))

pub returns-in-None-clause-accepted : goal.returns-in-None-clause-accepted
returns-in-None-clause-accepted c =
    accepted c.args.p c.in_ok-program.program c.requires.resolved
    (typed_where_none c.args.p c.in_ok-program.program c.in_ok-program.ensures (sym c.in-None.is ∙ c.in_ok-found.ensures))

pub returns-in-None-clause-total : goal.returns-in-None-clause-total
returns-in-None-clause-total c =
    let q = c.in_ok-program.program in
    let is = accepted c.args.p q c.requires.resolved (typed_where_none c.args.p q c.in_ok-program.ensures (sym c.in-None.is ∙ c.in_ok-found.ensures)) in
    (is_typed q is, is_total q is)

pub returns-in-None-clause-sound : goal.returns-in-None-clause-sound
returns-in-None-clause-sound c =
    let q = c.in_ok-program.program in
    is_sound q (accepted c.args.p q c.requires.resolved (typed_where_none c.args.p q c.in_ok-program.ensures (sym c.in-None.is ∙ c.in_ok-found.ensures)))
