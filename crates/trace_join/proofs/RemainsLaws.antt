-- What remains in a channel, as messages are sent, taken, lost and doubled on either side.
use Rattle.std.specs.Prelude.{◌≡◌, ◌⊎◌, ◌==◌, ℕ, ◌+◌, true, List, [], ◌∷◌, ◌++◌, Some, refl}
use Rattle.std.proofs.Common.{sym, ap, ◌∙◌, subst, inl, inr, arith, append_assoc, append-nil}
use Rattle.std.proofs.lemmas.Bool.{false≢true, eqb-true}
use Rattle.da_values.specs.Sets.{Has}
use Rattle.da_values.proofs.Members.{Has-append_left, Has-append_right, of_append}
use Rattle.da_lang.specs.declared.ty.ChannelKind.{ChannelKind}
use Rattle.da_lang.specs.declared.ty.ChannelKind.TheVariants.{FifoReliable, UnorderedReliable, FifoUnreliable, UnorderedUnreliable}
use Rattle.da_lang.specs.World.{at_number}
use Rattle.da_system.specs.Channels.{MessageInFlight, may_arrive, may_lose, may_repeat, without_numbered}
use Rattle.trace_join.specs.Remains.{CanArrive, IsSublist, Remains, weight_of}
use Rattle.trace_join.proofs.Sublists.{CutAt, Leaves, cut_first, cut_numbered, has_middle, has_round, leaves_behind, leaves_longer, middle_or_round, sublist_inside, sublist_of_one}
use Rattle.trace_join.proofs.Weights.{has_balanced, weight-append, weight-middle}

-- what remains, by lists that are the same
pub remains_as : (kind : ChannelKind) {before before' sent sent' taken taken' : List MessageInFlight} (after wanted : List MessageInFlight)
    → before ≡ before' → sent ≡ sent' → taken ≡ taken' → Remains kind before sent taken after wanted → Remains kind before' sent' taken' after wanted
remains_as kind {before} {before'} {sent} {sent'} {taken} {taken'} after wanted befores sents takens remains =
    subst (λ (x : List MessageInFlight). Remains kind before' sent' x after wanted) takens
    (subst (λ (x : List MessageInFlight). Remains kind before' x taken after wanted) sents
    (subst (λ (x : List MessageInFlight). Remains kind x sent taken after wanted) befores remains))

-- where nothing was sent or taken, all remains
pub remains_all : (kind : ChannelKind) (messages wanted : List MessageInFlight) → Remains kind messages [] [] messages wanted
remains_all FifoReliable messages wanted = append-nil messages
remains_all UnorderedReliable messages wanted = λ weight. omega arith
remains_all FifoUnreliable messages wanted = λ more within. subst (λ (l : List MessageInFlight). IsSublist more l) (append-nil messages) within
remains_all UnorderedUnreliable messages wanted = λ l has wants. subst (λ (x : List MessageInFlight). Has x l) (append-nil messages) has

-- THE RUN THAT IS BEHIND GOES ON

-- it sends what was to be sent first
pub behind_sends : (kind : ChannelKind) (before new sent taken after wanted : List MessageInFlight)
    → Remains kind before (new ++ sent) taken after wanted → Remains kind (before ++ new) sent taken after wanted
behind_sends FifoReliable before new sent taken after wanted remains = append_assoc before new sent ∙ remains
behind_sends UnorderedReliable before new sent taken after wanted remains =
    λ weight. omega (arith, remains weight, weight-append weight before new, weight-append weight new sent)
behind_sends FifoUnreliable before new sent taken after wanted remains =
    λ more within. remains more (subst (λ (l : List MessageInFlight). IsSublist (taken ++ more) l) (append_assoc before new sent) within)
behind_sends UnorderedUnreliable before new sent taken after wanted remains =
    λ l has. remains l (subst (λ (x : List MessageInFlight). Has x l) (append_assoc before new sent) has)

-- the only message that may arrive in order is the first
first_only : (i : ℕ) → i == 1 ≡ true → (before : List MessageInFlight) (l : MessageInFlight) → at_number before i ≡ Some l → before ≡ l ∷ without_numbered before i
first_only i one before l there =
    let first : i ≡ 1 = eqb-true i 1 one in
    cut_first before l (ap (at_number before) (sym first) ∙ there) ∙ ap (λ n. l ∷ without_numbered before n) (sym first)

-- what a shorter channel has, the longer one has too
has_without : (before : List MessageInFlight) (i : ℕ) (l : MessageInFlight) (sent : List MessageInFlight) (x : MessageInFlight) → at_number before i ≡ Some l
    → Has (without_numbered before i ++ sent) x → Has (before ++ sent) x
has_without before i l sent x there has =
    let cut : CutAt before l (without_numbered before i) = cut_numbered before i l there in
    elim (of_append (without_numbered before i) sent x has) [
      | inl old ↦ Has-append_left before sent x (subst (λ (z : List MessageInFlight). Has z x) (sym cut.whole)
          (has_round cut.front l cut.back x (subst (λ (z : List MessageInFlight). Has z x) cut.rest old)))
      | inr new ↦ Has-append_right before sent x new
    ]

sublist_without : (before : List MessageInFlight) (i : ℕ) (l : MessageInFlight) (sent xs : List MessageInFlight) → at_number before i ≡ Some l
    → IsSublist xs (without_numbered before i ++ sent) → IsSublist xs (before ++ sent)
sublist_without before i l sent xs there within =
    let cut : CutAt before l (without_numbered before i) = cut_numbered before i l there in
    subst (IsSublist xs) (sym (append_assoc cut.front (l ∷ cut.back) sent) ∙ ap (λ (z : List MessageInFlight). z ++ sent) (sym cut.whole))
    (sublist_inside xs cut.front l (cut.back ++ sent) (subst (IsSublist xs) (ap (λ (z : List MessageInFlight). z ++ sent) cut.rest
    ∙ append_assoc cut.front cut.back sent) within))

-- it takes the message that was to be taken first
pub behind_takes : (kind : ChannelKind) (before sent taken after wanted : List MessageInFlight) (i : ℕ) (l : MessageInFlight) → may_arrive kind i ≡ true
    → at_number before i ≡ Some l
    → Remains kind before sent (l ∷ taken) after wanted → Remains kind (without_numbered before i) sent taken after wanted
behind_takes FifoReliable before sent taken after wanted i l may there remains =
    let both : l ∷ (without_numbered before i ++ sent) ≡ l ∷ (taken ++ after) = ap (λ (x : List MessageInFlight). x ++ sent) (sym (first_only i may before l there))
    ∙ remains in cc
behind_takes UnorderedReliable before sent taken after wanted i l may there remains = λ weight.
    let cut : CutAt before l (without_numbered before i) = cut_numbered before i l there in
    let was : weight_of weight before ≡ weight l + weight_of weight (cut.front ++ cut.back) = ap (weight_of weight) cut.whole
    ∙ weight-middle weight cut.front l cut.back in
    let is : weight_of weight (without_numbered before i) ≡ weight_of weight (cut.front ++ cut.back) = ap (weight_of weight) cut.rest in
    omega (arith, remains weight, was, is)
behind_takes FifoUnreliable before sent taken after wanted i l may there remains = λ more within.
    remains more (subst (λ (x : List MessageInFlight). IsSublist (l ∷ (taken ++ more)) (x ++ sent)) (sym (first_only i may before l there)) (inl (refl, within)))
behind_takes UnorderedUnreliable before sent taken after wanted i l may there remains = λ x has. remains x (has_without before i l sent x there has)

-- it loses a message
pub behind_loses : (kind : ChannelKind) (before sent taken after wanted : List MessageInFlight) (i : ℕ) (l : MessageInFlight) → may_lose kind ≡ true → at_number before i ≡ Some l
    → Remains kind before sent taken after wanted → Remains kind (without_numbered before i) sent taken after wanted
behind_loses FifoReliable before sent taken after wanted i l may there remains = absurd (false≢true may)
behind_loses UnorderedReliable before sent taken after wanted i l may there remains = absurd (false≢true may)
behind_loses FifoUnreliable before sent taken after wanted i l may there remains = λ more within. remains more
    (sublist_without before i l sent (taken ++ more) there within)
behind_loses UnorderedUnreliable before sent taken after wanted i l may there remains = λ x has. remains x (has_without before i l sent x there has)

has_doubled : (before : List MessageInFlight) (i : ℕ) (l : MessageInFlight) (sent : List MessageInFlight) (x : MessageInFlight) → at_number before i ≡ Some l → Has ((before ++ l ∷ []) ++ sent) x
    → Has (before ++ sent) x
has_doubled before i l sent x there has =
    let cut : CutAt before l (without_numbered before i) = cut_numbered before i l there in
    elim (middle_or_round before l sent x (subst (λ (z : List MessageInFlight). Has z x) (append_assoc before (l ∷ []) sent) has)) [
      | inl same ↦ Has-append_left before sent x (subst (Has before) (sym same)
          (subst (λ (z : List MessageInFlight). Has z l) (sym cut.whole) (has_middle cut.front l cut.back)))
      | inr round ↦ round
    ]

-- it doubles a message
pub behind_doubles : (kind : ChannelKind) (before sent taken after wanted : List MessageInFlight) (i : ℕ) (l : MessageInFlight) → may_repeat kind ≡ true
    → at_number before i ≡ Some l
    → Remains kind before sent taken after wanted → Remains kind (before ++ l ∷ []) sent taken after wanted
behind_doubles FifoReliable before sent taken after wanted i l may there remains = absurd (false≢true may)
behind_doubles UnorderedReliable before sent taken after wanted i l may there remains = absurd (false≢true may)
behind_doubles FifoUnreliable before sent taken after wanted i l may there remains = absurd (false≢true may)
behind_doubles UnorderedUnreliable before sent taken after wanted i l may there remains = λ x has. remains x (has_doubled before i l sent x there has)

-- where nothing was to be taken, a wanted message that may arrive behind can arrive ahead as well
pub arrives_ahead : (kind : ChannelKind) (before sent after wanted : List MessageInFlight) (i : ℕ) (l : MessageInFlight) → may_arrive kind i ≡ true
    → at_number before i ≡ Some l → Has wanted l
    → Remains kind before sent [] after wanted → CanArrive kind after l
arrives_ahead FifoReliable before sent after wanted i l may there wants remains =
    (without_numbered before i ++ sent, sym remains ∙ ap (λ (x : List MessageInFlight). x ++ sent) (first_only i may before l there))
arrives_ahead UnorderedReliable before sent after wanted i l may there wants remains =
    let cut : CutAt before l (without_numbered before i) = cut_numbered before i l there in
    has_balanced l (before ++ sent) after
    (Has-append_left before sent l (subst (λ (z : List MessageInFlight). Has z l) (sym cut.whole) (has_middle cut.front l cut.back)))
    (λ weight. omega (arith, remains weight, weight-append weight before sent))
arrives_ahead FifoUnreliable before sent after wanted i l may there wants remains =
    sublist_of_one l after (remains (l ∷ []) (subst (λ (x : List MessageInFlight). IsSublist (l ∷ []) (x ++ sent)) (sym (first_only i may before l there))
    (inl (refl, tt))))
arrives_ahead UnorderedUnreliable before sent after wanted i l may there wants remains =
    let cut : CutAt before l (without_numbered before i) = cut_numbered before i l there in
    remains l (Has-append_left before sent l (subst (λ (z : List MessageInFlight). Has z l) (sym cut.whole) (has_middle cut.front l cut.back))) wants

-- THE RUN THAT IS AHEAD GOES ON

-- it sends more
pub ahead_sends : (kind : ChannelKind) (before sent new taken after wanted : List MessageInFlight)
    → Remains kind before sent taken after wanted → Remains kind before (sent ++ new) taken (after ++ new) wanted
ahead_sends FifoReliable before sent new taken after wanted remains =
    sym (append_assoc before sent new) ∙ ap (λ (x : List MessageInFlight). x ++ new) remains ∙ append_assoc taken after new
ahead_sends UnorderedReliable before sent new taken after wanted remains =
    λ weight. omega (arith, remains weight, weight-append weight sent new, weight-append weight after new)
ahead_sends FifoUnreliable before sent new taken after wanted remains =
    subst (λ (x : List MessageInFlight). Leaves x taken (after ++ new)) (append_assoc before sent new) (leaves_longer (before ++ sent) taken after new remains)
ahead_sends UnorderedUnreliable before sent new taken after wanted remains = λ x has wants.
    elim (of_append (before ++ sent) new x (subst (λ (z : List MessageInFlight). Has z x) (sym (append_assoc before sent new)) has)) [
      | inl old ↦ Has-append_left after new x (remains x old wants)
      | inr fresh ↦ Has-append_right after new x fresh
    ]

-- its trace wants less
pub ahead_wants : (kind : ChannelKind) (before sent taken after wanted wanted' : List MessageInFlight) → ((l : MessageInFlight) → Has wanted' l → Has wanted l)
    → Remains kind before sent taken after wanted → Remains kind before sent taken after wanted'
ahead_wants FifoReliable before sent taken after wanted wanted' less remains = remains
ahead_wants UnorderedReliable before sent taken after wanted wanted' less remains = remains
ahead_wants FifoUnreliable before sent taken after wanted wanted' less remains = remains
ahead_wants UnorderedUnreliable before sent taken after wanted wanted' less remains = λ l has wants. remains l has (less l wants)

-- How it may take a message out of a channel: the first in order, any one, or the first that is like it. Where messages may be
-- doubled, this one is, unless it is not wanted any more.
abbrev pub Serves : ChannelKind → (messages : List MessageInFlight) → MessageInFlight → (wanted left : List MessageInFlight) → Type 0
Serves FifoReliable messages l wanted left = messages ≡ l ∷ left
Serves UnorderedReliable messages l wanted left = CutAt messages l left
Serves FifoUnreliable messages l wanted left = (front : List MessageInFlight) × (messages ≡ front ++ l ∷ left) × (Has front l → ⊥)
Serves UnorderedUnreliable messages l wanted left =
    (front back : List MessageInFlight) × (messages ≡ front ++ l ∷ back) × ((left ≡ (front ++ back) ++ l ∷ []) ⊎ ((Has wanted l → ⊥) × (left ≡ front ++ back)))

kept_for : (front back : List MessageInFlight) (l : MessageInFlight) (wanted left : List MessageInFlight) (x : MessageInFlight) → (x ≡ l) ⊎ Has (front ++ back) x → Has wanted x
    → (left ≡ (front ++ back) ++ l ∷ []) ⊎ ((Has wanted l → ⊥) × (left ≡ front ++ back)) → Has left x
kept_for front back l wanted left x (inl same) wants (inl doubled) = subst (λ (z : List MessageInFlight). Has z x) (sym doubled)
    (Has-append_right (front ++ back) (l ∷ []) x (inl same))
kept_for front back l wanted left x (inl same) wants (inr (none, is)) = absurd (none (subst (Has wanted) same wants))
kept_for front back l wanted left x (inr round) wants (inl doubled) = subst (λ (z : List MessageInFlight). Has z x) (sym doubled)
    (Has-append_left (front ++ back) (l ∷ []) x round)
kept_for front back l wanted left x (inr round) wants (inr (none, is)) = subst (λ (z : List MessageInFlight). Has z x) (sym is) round

pub ahead_takes : (kind : ChannelKind) (before sent taken after wanted : List MessageInFlight) (l : MessageInFlight) (left : List MessageInFlight)
    → Serves kind after l wanted left → Remains kind before sent taken after wanted → Remains kind before sent (taken ++ l ∷ []) left wanted
ahead_takes FifoReliable before sent taken after wanted l left serves remains =
    remains ∙ ap (λ (x : List MessageInFlight). taken ++ x) serves ∙ sym (append_assoc taken (l ∷ []) left)
ahead_takes UnorderedReliable before sent taken after wanted l left cut remains = λ weight.
    let was : weight_of weight after ≡ weight l + weight_of weight (cut.front ++ cut.back) = ap (weight_of weight) cut.whole
    ∙ weight-middle weight cut.front l cut.back in
    let is : weight_of weight left ≡ weight_of weight (cut.front ++ cut.back) = ap (weight_of weight) cut.rest in
    omega (arith, remains weight, was, is, weight-append weight taken (l ∷ []))
ahead_takes FifoUnreliable before sent taken after wanted l left (front, whole, first) remains =
    leaves_behind (before ++ sent) taken front left l first (subst (λ (x : List MessageInFlight). Leaves (before ++ sent) taken x) whole remains)
ahead_takes UnorderedUnreliable before sent taken after wanted l left (front, back, whole, ends) remains = λ x has wants.
    kept_for front back l wanted left x (middle_or_round front l back x (subst (λ (z : List MessageInFlight). Has z x) whole (remains x has wants))) wants ends
