use Rattle.std.proofs.Common.{ap, sym, ◌∙◌}
use Rattle.da_outside.proofs.OutsideLemmas.{no_cause}
use Rattle.lsp_frames.specs.declared.cutting.Cut.TheVariants as cut_is
use Rattle.lsp_server.specs.declared.turns.Extent.{Extent}
use Rattle.lsp_server.proofs.SessionLemmas.{heard_turns, large_turns, more_turns, unread_turns}
use Rattle.lsp_server.proofs.turns.turn.Goals as goal

pub returns-in-More-clause-turned : goal.returns-in-More-clause-turned
returns-in-More-clause-turned g c =
    let old = c.args.state.now in
    let new = c.more.new.state in
    more_turns old.phase new.phase old.input new.input (g.S.Source.left c.args.source.now) (g.S.Source.left c.more.new.source) (g.K.Sink.taken c.args.out.now) c.more.result
    (sym c.front.ensures ∙ c.in-More.is) c.more.ensures.ends c.more.ensures.goes c.more.ensures.phase

pub returns-in-More-clause-write : goal.returns-in-More-clause-write
returns-in-More-clause-write g c = no_cause _ c.more.ensures.unwritten

pub returns-in-Content-clause-turned : goal.returns-in-Content-clause-turned
returns-in-Content-clause-turned g c =
    let old = c.args.state.now in
    let new = c.take_content.new.state in
    heard_turns old.phase new.phase old.input new.input (g.S.Source.left c.args.source.now) (g.K.Sink.taken c.args.out.now) (g.K.Sink.taken c.take_content.new.out) c.take_content.result c.extent_of.result
    (sym c.front.ensures ∙ c.in-Content.is ∙ sym (ap (λ (e : Extent). cut_is.Content e.first e.length) c.extent_of.ensures)) c.take_content.ensures.moved c.take_content.ensures.heard

pub returns-in-Content-clause-read : goal.returns-in-Content-clause-read
returns-in-Content-clause-read g c = no_cause _ c.take_content.ensures.unread

pub returns-in-Unread-clause-turned : goal.returns-in-Unread-clause-turned
returns-in-Unread-clause-turned g c =
    let old = c.args.state.now in
    let new = c.refuse.new.state in
    let extent = c.extent_of-in-Unread.result in
    unread_turns old.phase new.phase old.input new.input (g.S.Source.left c.args.source.now) (g.K.Sink.taken c.args.out.now) (g.K.Sink.taken c.refuse.new.out) c.refuse.result extent
    (ap (λ (e : Extent). e.length) c.extent_of-in-Unread.ensures) (sym c.front.ensures ∙ c.in-Unread.is ∙ sym (ap (λ (e : Extent). cut_is.Unread e.first) c.extent_of-in-Unread.ensures))
    c.refuse.ensures.moved c.refuse.ensures.replied c.refuse.ensures.phase

pub returns-in-Unread-clause-read : goal.returns-in-Unread-clause-read
returns-in-Unread-clause-read g c = no_cause _ c.refuse.ensures.unread

pub returns-in-Large-clause-turned : goal.returns-in-Large-clause-turned
returns-in-Large-clause-turned g c =
    let old = c.args.state.now in
    let new = c.refuse-in-Large.new.state in
    let extent = c.extent_of-in-Large.result in
    large_turns old.phase new.phase old.input new.input (g.S.Source.left c.args.source.now) (g.K.Sink.taken c.args.out.now) (g.K.Sink.taken c.refuse-in-Large.new.out) c.refuse-in-Large.result extent
    (sym c.front.ensures ∙ c.in-Large.is ∙ sym (ap (λ (e : Extent). cut_is.Large e.first e.length) c.extent_of-in-Large.ensures))
    c.refuse-in-Large.ensures.moved c.refuse-in-Large.ensures.replied c.refuse-in-Large.ensures.phase

pub returns-in-Large-clause-read : goal.returns-in-Large-clause-read
returns-in-Large-clause-read g c = no_cause _ c.refuse-in-Large.ensures.unread
