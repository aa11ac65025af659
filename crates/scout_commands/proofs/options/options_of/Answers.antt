use Rattle.std.proofs.Common.{◌∷◌, map}
use Rattle.std.specs.String.{string_bytes}
use Rattle.scout_commands.proofs.OptionLemmas.{left_at_first, left_ends, left_fewer, left_on, left_stops, others_of, words_from}
use Rattle.scout_commands.proofs.options.options_of.Goals as goal

pub left-init : goal.left-init
left-init c = left_at_first (map string_bytes c.args.words.now)

pub left-preserved : goal.left-preserved
left-preserved c =
    left_on (map string_bytes c.args.words.now) c.left.options c.in-Some.taken.options (map string_bytes c.left.rest.now) (c.as_str.result.now ∷ map string_bytes (others_of c.left.rest.now)) (map string_bytes c.in-Some.taken.others.now)
    (words_from c.left.rest.now c.word-item.result c.as_str.result.now c.in-len1-up.len_at_least c.word-item.is c.as_str.ensures.value) c.left.invariant c.in-Some.ensures

pub left-smaller : goal.left-smaller
left-smaller c =
    left_fewer c.left.rest.now c.left.options c.in-Some.taken.options (c.as_str.result.now ∷ map string_bytes (others_of c.left.rest.now)) c.in-Some.taken.others.now
    (words_from c.left.rest.now c.word-item.result c.as_str.result.now c.in-len1-up.len_at_least c.word-item.is c.as_str.ensures.value) c.in-Some.ensures

pub returns-in-None : goal.returns-in-None
returns-in-None c =
    left_stops (map string_bytes c.args.words.now) c.left.options (map string_bytes c.left.rest.now) c.as_str.result.now (map string_bytes (others_of c.left.rest.now))
    (words_from c.left.rest.now c.word-item.result c.as_str.result.now c.in-len1-up.len_at_least c.word-item.is c.as_str.ensures.value) c.left.invariant c.in-None.ensures

pub returns : goal.returns
returns c = left_ends (map string_bytes c.args.words.now) c.left.options c.left.rest.now c.in_default.len_below c.left.invariant
