use Rattle.std.proofs.Common.{◌≡◌, ◌++◌, take, flat_map}
use Rattle.added_names.specs.Tags.{tags_in, chain_tags, gen_tags, pattern_tags}
use Rattle.added_names.proofs.tags.+tags.Given as goal

abbrev pub invariant-put_all-loop-part : goal.invariant-put_all-loop-part
invariant-put_all-loop-part l = l.out ≡ l.initial.out ++ flat_map (tags_in l.line) (take l.part-index l.parts)

abbrev pub invariant-put_links-loop-other : goal.invariant-put_links-loop-other
invariant-put_links-loop-other l = l.out ≡ l.initial.out ++ flat_map (chain_tags l.line) (take l.other-index l.others)

abbrev pub invariant-put_gens-loop-generator : goal.invariant-put_gens-loop-generator
invariant-put_gens-loop-generator l = l.out ≡ l.initial.out ++ flat_map (gen_tags l.line) (take l.generator-index l.gens)

abbrev pub invariant-put_patterns-loop-part : goal.invariant-put_patterns-loop-part
invariant-put_patterns-loop-part l = l.out ≡ l.initial.out ++ flat_map (pattern_tags l.line) (take l.part-index l.parts)
