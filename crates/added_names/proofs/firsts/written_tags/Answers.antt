use Rattle.std.proofs.Common.{◌∙◌, ap, ◌||◌, bytes_eq, List, ℕ, false, map}
use Rattle.std.proofs.lemmas.List.{take_all}
use Rattle.da_lang.specs.declared.tree.MessageDecl.{MessageDecl}
use Rattle.added_names.specs.Firsts.{is_seen, knows}
use Rattle.added_names.proofs.FirstLaws.{seen_more}
use Rattle.added_names.proofs.firsts.written_tags.Goals as goal

pub loop-message-preserved : goal.loop-message-preserved
loop-message-preserved c = λ q.
    let l = c.loop-message in
    let name : MessageDecl → List ℕ = λ m. m.tag in
    seen_more name q false _ _ c.args.messages.now l.message-index c.message-item.result c.loop-message-test.true c.message-item.is (l.invariant q)
    (c.in_ok-see.ensures q ∙ ap (λ n. bytes_eq n q || is_seen l.seen q) c.as_slice.ensures)

pub loop-message-init : goal.loop-message-init
loop-message-init c = c.nothing_seen-seen.ensures

pub returns : goal.returns
returns c = λ q.
    let l = c.loop-message in
    l.invariant q ∙ ap (λ (ms : List MessageDecl). knows (map (λ (m : MessageDecl). m.tag) ms) q) (take_all l.message-index c.args.messages.now c.loop-message-test.false)
