-- What is given and written of some actions up to a fault.
use Rattle.std.proofs.Common.{◌≡◌, refl, sym, ◌∙◌, ap, subst, ℕ, suc, ◌<◌, List, [], ◌∷◌, ◌++◌, length, get_or, take, drop, arith, ◌+◌, append-nil, length-append, take-append-drop, drop-cons}
use Rattle.std.specs.Prelude.{Option}
use Rattle.std.proofs.lemmas.Grind.{flat_map-append}
use Rattle.std.proofs.Math.Seq.{take-suc}
use Rattle.da_lang.specs.declared.event.Action.{Action}
use Rattle.da_outside.specs.declared.link.LinkEntry.{LinkEntry}
use Rattle.da_outside.specs.declared.outside.Trouble.{Trouble}
use Rattle.da_outside.specs.declared.outside.Trouble.TheVariants as trouble
use Rattle.da_outside.specs.Link.{Gains}
use Rattle.da_outside.specs.Outside.{AppendsPrefix}
use Rattle.da_outside.proofs.OutsideLemmas.{appends_none, prefix_none}
use Rattle.sched_text.specs.ActionText.{action_text}
use Rattle.node_run.specs.Faults.{link_fault, sink_fault}
use Rattle.node_run.specs.Gifts.{CutText, GainsSome, IsCutShort, MayLeave, due}
use Rattle.node_run.specs.NodeRun.{gift_of, gifts}
use Rattle.node_run.proofs.TalkLaws.{gains_then}

-- one more action's gift was given
pub gave_on : (before mid after : Option (List LinkEntry)) (actions : List Action) (i : ℕ) (action : Action) → i < length actions → action ≡ get_or actions i action
    → Gains before mid (gifts (take i actions)) → Gains mid after (gift_of action) → Gains before after (gifts (take (i + 1) actions))
gave_on before mid after actions i action inside is gave more =
    let next : i + 1 ≡ suc i = omega (arith) in
    let taken : take (i + 1) actions ≡ take i actions ++ action ∷ [] =
    ap (λ n. take n actions) next ∙ take-suc actions i action inside ∙ ap (λ a. take i actions ++ a ∷ []) (sym is) in
    let whole : gifts (take (i + 1) actions) ≡ gifts (take i actions) ++ gift_of action =
    ap gifts taken ∙ flat_map-append gift_of (take i actions) (action ∷ []) ∙ ap (λ l. gifts (take i actions) ++ l) (append-nil (gift_of action)) in
    subst (Gains before after) (sym whole) (gains_then before mid after (gifts (take i actions)) (gift_of action) gave more)

-- the packets before that of an action were given, and its own was not
pub gave_some : (before mid after : Option (List LinkEntry)) (actions : List Action) (i : ℕ) (action : Action) → i < length actions → action ≡ get_or actions i action
    → Gains before mid (gifts (take i actions)) → Gains mid after [] → 0 < length (gift_of action) → GainsSome before after (gifts actions)
gave_some before mid after actions i action inside is gave same some = record {
  front = record {
    given = gifts (take i actions);
    left = gift_of action ++ gifts (drop (suc i) actions);
    told = subst (Gains before after) (append-nil (gifts (take i actions))) (gains_then before mid after (gifts (take i actions)) [] gave same);
    whole =
        ap gifts (sym (take-append-drop i actions))
        ∙ flat_map-append gift_of (take i actions) (drop i actions)
        ∙ ap (λ l. gifts (take i actions) ++ gifts l) (drop-cons actions i action inside ∙ ap (λ a. a ∷ drop (suc i) actions) (sym is));
  };
  some_left = omega (arith, some, length-append (gift_of action) (gifts (drop (suc i) actions)));
}

-- a link that did not take all
pub link_cut : (why : Trouble) (actions : List Action) (told_before told_after : Option (List LinkEntry)) (taken : Option (List ℕ)) → GainsSome told_before told_after (gifts actions)
    → IsCutShort (link_fault why) actions told_before told_after taken taken
link_cut why actions told_before told_after taken some = record {
  gained = some.front;
  left = by_trouble why;
  written = unwritten why some.front.left some.some_left;
}
  where
    by_trouble : (why : Trouble) → MayLeave (link_fault why) some.front.left
    by_trouble trouble.Failed = some.some_left
    by_trouble trouble.Memory = tt

    unwritten : (why : Trouble) (left : List LinkEntry) → 0 < length left → CutText (link_fault why) taken taken (due left (action_text actions))
    unwritten why [] left = absurd (omega arith)
    unwritten trouble.Failed (entry ∷ more) left = appends_none taken
    unwritten trouble.Memory (entry ∷ more) left = prefix_none taken []

-- a sink that did not take all
pub sink_cut : (why : Trouble) (actions : List Action) (told_before told_after : Option (List LinkEntry)) (before after : Option (List ℕ)) → Gains told_before told_after (gifts actions)
    → AppendsPrefix before after (action_text actions) → IsCutShort (sink_fault why) actions told_before told_after before after
sink_cut why actions told_before told_after before after gave front = record {
  gained = record { given = gifts actions; left = []; told = gave; whole = sym (append-nil (gifts actions)) };
  left = by_trouble why;
  written = written_so why;
}
  where
    by_trouble : (why : Trouble) → MayLeave (sink_fault why) []
    by_trouble trouble.Failed = refl
    by_trouble trouble.Memory = tt

    written_so : (why : Trouble) → CutText (sink_fault why) before after (action_text actions)
    written_so trouble.Failed = front
    written_so trouble.Memory = front
