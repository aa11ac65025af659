use Rattle.std.proofs.Common.{◌∙◌, sym, ap, ◌||◌, bytes_eq, List, ℕ, map, flat_map}
use Rattle.da_lang.specs.declared.tree.MessageDecl.{MessageDecl}
use Rattle.added_names.specs.declared.added.AddedTag.{AddedTag}
use Rattle.added_names.specs.Changes.{declares}
use Rattle.added_names.specs.Firsts.{is_seen, knows, unless}
use Rattle.added_names.proofs.FirstLaws.{firsts-nil, firsts_more, seen_more, or_nil}
use Rattle.added_names.proofs.firsts.first_tags.Goals as goal

pub loop-one-init : goal.loop-one-init
loop-one-init c =
    let known : List (List ℕ) = map (λ (m : MessageDecl). m.tag) c.args.messages.now in
    let name : AddedTag → List ℕ = λ x. x.tag in
    record {
      kept = c.new-kept.ensures ∙ sym (firsts-nil name known);
      known = λ q. c.in_ok-seen.ensures q ∙ sym (or_nil (knows known q));
    }

pub loop-one-preserved : goal.loop-one-preserved
loop-one-preserved c =
    let l = c.loop-one in
    let known : List (List ℕ) = map (λ (m : MessageDecl). m.tag) c.args.messages.now in
    let name : AddedTag → List ℕ = λ x. x.tag in
    record {
      kept = firsts_more name known _ _ c.args.found.now l.one-index c.one-item.result c.has_seen.result c.loop-one-test.true c.one-item.is l.invariant.kept
          (c.has_seen.ensures ∙ ap (is_seen l.seen) c.as_slice-name.ensures ∙ l.invariant.known (name c.one-item.result))
          c.in_ok-keep_tag.ensures;
      known = λ q. seen_more name q (knows known q) _ _ c.args.found.now l.one-index c.one-item.result c.loop-one-test.true c.one-item.is (l.invariant.known q)
          (c.in_ok-see.ensures q ∙ ap (λ n. bytes_eq n q || is_seen l.seen q) c.as_slice-name.ensures);
    }
