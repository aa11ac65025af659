use Rattle.std.proofs.Common.{◌≡◌, ◌++◌, codes, take, flat_map}
use Rattle.da_unparse.specs.Levels.{rank}
use Rattle.da_unparse.specs.Texts.{text_at, link_text, gen_text, pattern_text}
use Rattle.da_unparse.proofs.expressions.+exprs.Given as goal

abbrev pub invariant-put_operands-loop-part : goal.invariant-put_operands-loop-part
invariant-put_operands-loop-part l = l.out ≡ l.initial.out ++ flat_map (λ y. l.between ++ text_at (rank l.asked) y) (take l.part-index l.rest)

abbrev pub invariant-put_links-loop-link : goal.invariant-put_links-loop-link
invariant-put_links-loop-link l = l.out ≡ l.initial.out ++ flat_map (link_text (rank l.asked)) (take l.link-index l.links)

abbrev pub invariant-put_gens-loop-generator : goal.invariant-put_gens-loop-generator
invariant-put_gens-loop-generator l = l.out ≡ l.initial.out ++ flat_map (λ y. codes ", " ++ gen_text y) (take l.generator-index l.rest)

abbrev pub invariant-put_patterns-loop-pattern : goal.invariant-put_patterns-loop-pattern
invariant-put_patterns-loop-pattern l = l.out ≡ l.initial.out ++ flat_map (λ y. codes ", " ++ pattern_text y) (take l.pattern-index l.rest)
