-- What is left is no more than there is, and the blocks are found one by one.
use Rattle.std.proofs.Common.{ap, length, map, refl, ℕ, ◌∙◌}
use Rattle.trace_join.specs.Blocks.{blocks_left}
use Rattle.trace_join.proofs.EndLaws.{blocks_step, lefts_of, rest_fits}
use Rattle.trace_join.proofs.joining.blocks_of.Goals as goal

pub push_block-requires : goal.push_block-requires
push_block-requires c =
    rest_fits c.args.traces.now c.args.tracks.now c.loop-place.place c.len-all.result c.index-traces-place.result c.index-tracks-place.result
    c.loop-place-test.true c.requires.same
    (c.len-all.ensures ∙ ap length c.index-traces-place.is) c.requires.shorter

pub loop-place-preserved : goal.loop-place-preserved
loop-place-preserved c =
    blocks_step c.args.traces.now c.args.tracks.now c.loop-place.place c.len-all.result _ _ _ c.index-traces-place.result c.index-tracks-place.result
    (map {B = ℕ × ℕ} (λ b. (b.process, b.line)) c.loop-place.blocks) (map {B = ℕ × ℕ} (λ b. (b.process, b.line)) c.push_block.new.blocks)
    (blocks_left 1 c.args.traces.now (lefts_of c.args.tracks.now)) c.loop-place-test.true c.requires.same (c.len-all.ensures
    ∙ ap length c.index-traces-place.is) refl refl refl
    c.in_ok-push_block.ensures c.loop-place.invariant
