use Rattle.std.proofs.Common.{◌<◌, length, rules}
use Rattle.sched_text.proofs.IfLemmas.{if_none}
use Rattle.sched_text.proofs.WordLemmas.{no_first, no_later, no_more, not_listed}
use Rattle.sched_text.proofs.words.read_numbers.Goals as goal

pub returns-in_err-second-clause-none : goal.returns-in_err-second-clause-none
returns-in_err-second-clause-none c =
    let left : 0 < length c.in_ok-first.rest.now = search rules in
    if_none c.from_residual-in_err-second.result _ (not_listed c.args.bytes.now
    (no_later 2 c.args.bytes.now c.in_ok-first.rest.now c.in_ok-first.first c.in_ok-first.ensures.some left (no_first 2 c.in_ok-first.rest.now c.in_err-second.ensures.none)))

pub returns-in_err-third-clause-none : goal.returns-in_err-third-clause-none
returns-in_err-third-clause-none c =
    let left : 0 < length c.in_ok-first.rest.now = search rules in
    let more : 0 < length c.in_ok-second.rest.now = search rules in
    if_none c.from_residual-in_err-third.result _ (not_listed c.args.bytes.now
    (no_later 2 c.args.bytes.now c.in_ok-first.rest.now c.in_ok-first.first c.in_ok-first.ensures.some left
    (no_later 1 c.in_ok-first.rest.now c.in_ok-second.rest.now c.in_ok-second.second c.in_ok-second.ensures.some more (no_first 1 c.in_ok-second.rest.now c.in_err-third.ensures.none))))

pub returns-clause-none : goal.returns-clause-none
returns-clause-none c =
    let left : 0 < length c.in_ok-first.rest.now = search rules in
    let more : 0 < length c.in_ok-second.rest.now = search rules in
    let most : 0 < length c.in_ok-third.rest.now = search rules in
    not_listed c.args.bytes.now
    (no_later 2 c.args.bytes.now c.in_ok-first.rest.now c.in_ok-first.first c.in_ok-first.ensures.some left
    (no_later 1 c.in_ok-first.rest.now c.in_ok-second.rest.now c.in_ok-second.second c.in_ok-second.ensures.some more
    (no_later 0 c.in_ok-second.rest.now c.in_ok-third.rest.now c.in_ok-third.third c.in_ok-third.ensures.some most (no_more c.in_ok-third.rest.now))))
