-- The laws of what a link tells and a sink takes of rounds, and of where they are cut short.
use Rattle.std.proofs.Common.{◌≡◌, refl, sym, ◌∙◌, ap, subst, ℕ, ◌+◌, ◌-◌, ◌≤◌, ◌<◌, List, [], ◌∷◌, ◌++◌, length, take, drop, take-append-drop, arith, append-nil, append_assoc, length-append, leb-true, ltb-true, Bool, true, false}
use Rattle.std.specs.Prelude.{Option, Some, None, nat_le, nat_lt, if◌then◌else◌}
use Rattle.std.proofs.lemmas.Bool.{le-leb, lt-leb}
use Rattle.std.specs.List.{filter}
use Rattle.std.proofs.lemmas.Grind.{flat_map-append}
use Rattle.std.proofs.lemmas.List.Elements.{filter-append}
use Rattle.std.proofs.Math.Seq.{take-append_seam}
use Rattle.da_lang.specs.declared.event.Action.{Action}
use Rattle.da_lang.specs.declared.event.Action.TheVariants.{Sent}
use Rattle.da_outside.specs.declared.link.LinkEntry.{LinkEntry}
use Rattle.da_outside.specs.Link.{Carries, Gains, is_binding}
use Rattle.da_outside.specs.Outside.{Appends, AppendsPrefix}
use Rattle.da_outside.proofs.OutsideLemmas.{appends_then}
use Rattle.sched_text.specs.ActionText.{action_line, action_text}
use Rattle.node_run.specs.declared.outcome.NodeOutcome.{NodeOutcome}
use Rattle.node_run.specs.declared.outcome.NodeOutcome.TheVariants as outcome
use Rattle.node_run.specs.Gifts.{CutText, MayLeave, due}
use Rattle.node_run.specs.NodeCall.{WroteAll, WrotePrefix, WroteGiven, answer_in, answers_in, given_rounds, passed_rounds}
use Rattle.node_run.specs.NodeRun.{Round, actions_of, gift_of, gifts, talk_of, text_of}

-- WHAT A LINK TELLS AND A SINK TAKES

-- one call after another
pub gains_then : (a b c : Option (List LinkEntry)) (xs ys : List LinkEntry) → Gains a b xs → Gains b c ys → Gains a c (xs ++ ys)
gains_then a b None xs ys first then' = tt
gains_then a None (Some now) xs ys first then' = absurd (let clash : Some now ≡ None = then' in cc)
gains_then None (Some mid) (Some now) xs ys first then' = absurd (let clash : Some mid ≡ None = first in cc)
gains_then (Some told) (Some mid) (Some now) xs ys first then' =
    let mid_is : mid ≡ told ++ xs = (let same : Some mid ≡ Some (told ++ xs) = first in cc) in
    then' ∙ ap (λ l. Some (l ++ ys)) mid_is ∙ ap Some (append_assoc told xs ys)

pub gains_nothing : (a : Option (List LinkEntry)) → Gains a a []
gains_nothing None = tt
gains_nothing (Some told) = ap Some (sym (append-nil told))

-- what a link carries, where it was not bound

pub carries_none : (a : Option (List LinkEntry)) → Carries a a []
carries_none None = tt
carries_none (Some told) = ([], gains_nothing (Some told), refl)

pub carries_then : (a b c : Option (List LinkEntry)) → Carries a b [] → Carries b c [] → Carries a c []
carries_then a b None first then' = tt
carries_then a None (Some now) first (more, gains, none) = absurd (let clash : Some now ≡ None = gains in cc)
carries_then a (Some mid) (Some now) (xs, first, no_xs) (ys, then', no_ys) =
    (xs ++ ys, gains_then a (Some mid) (Some now) xs ys first then', filter-append is_binding xs ys ∙ ap (λ l. l ++ filter is_binding ys) no_xs ∙ no_ys)

-- ROUNDS ONE AFTER THE OTHER

pub text_then : (xs ys : List Round) → text_of (xs ++ ys) ≡ text_of xs ++ text_of ys
text_then xs ys = ap action_text (flat_map-append (λ (round : Round). round.actions) xs ys) ∙ flat_map-append action_line (actions_of xs) (actions_of ys)

pub talk_then : (xs ys : List Round) → talk_of (xs ++ ys) ≡ talk_of xs ++ talk_of ys
talk_then xs ys = flat_map-append (λ (round : Round). round.talk) xs ys

pub answers_then : (xs ys : List LinkEntry) → answers_in (xs ++ ys) ≡ answers_in xs ++ answers_in ys
answers_then xs ys = flat_map-append answer_in xs ys

pub text_one : (round : Round) → text_of (round ∷ []) ≡ action_text round.actions
text_one round = ap action_text (append-nil round.actions)

-- what is given is no answer
gift_answers : (a : Action) → answers_in (gift_of a) ≡ []
gift_answers (Sent p q t v) = refl
gift_answers _ = refl

pub no_answer : (actions : List Action) → answers_in (gifts actions) ≡ []
no_answer [] = refl
no_answer (a ∷ actions) = answers_then (gift_of a) (gifts actions) ∙ ap (λ l. l ++ answers_in (gifts actions)) (gift_answers a) ∙ no_answer actions

front_nil : {A : Type 0} (xs ys : List A) → xs ++ ys ≡ [] → xs ≡ []
front_nil [] ys is = refl
front_nil (x ∷ xs) ys is = absurd (let clash : x ∷ (xs ++ ys) ≡ [] = is in cc)

pub no_answer_given : (actions : List Action) (given left : List LinkEntry) → gifts actions ≡ given ++ left → answers_in given ≡ []
no_answer_given actions given left whole = front_nil (answers_in given) (answers_in left) (sym (answers_then given left) ∙ ap answers_in (sym whole) ∙ no_answer actions)

-- THE ROUNDS WHOSE PACKETS WERE ALL GIVEN

given_next : (told more : ℕ) (round : Round) (rounds : List Round) → told ≡ length round.talk + more → given_rounds told (round ∷ rounds) ≡ round ∷ given_rounds more rounds
given_next told more round rounds is =
    let test : nat_le (length round.talk) told ≡ true = le-leb (length round.talk) told (omega arith) in
    let rest : told - length round.talk ≡ more = omega arith in
    ap (λ b. if b then round ∷ given_rounds (told - length round.talk) rounds else []) test ∙ ap (λ n. round ∷ given_rounds n rounds) rest

given_none : (told : ℕ) (round : Round) (rounds : List Round) → told < length round.talk → given_rounds told (round ∷ rounds) ≡ []
given_none told round rounds few =
    let test : nat_le (length round.talk) told ≡ false = lt-leb (length round.talk) told few in
    ap (λ b. if b then round ∷ given_rounds (told - length round.talk) rounds else []) test

pub given_all : (rounds : List Round) → given_rounds (length (talk_of rounds)) rounds ≡ rounds
given_all [] = refl
given_all (round ∷ rounds) =
    given_next (length (talk_of (round ∷ rounds))) (length (talk_of rounds)) round rounds (length-append round.talk (talk_of rounds)) ∙ ap (λ l. round ∷ l) (given_all rounds)

given_more : (rounds more : List Round) (n : ℕ) → given_rounds (length (talk_of rounds) + n) (rounds ++ more) ≡ rounds ++ given_rounds n more
given_more [] more n = let same : 0 + n ≡ n = omega arith in ap (λ k. given_rounds k more) same
given_more (round ∷ rounds) more n =
    let size : length (talk_of (round ∷ rounds)) + n ≡ length round.talk + (length (talk_of rounds) + n) = omega (arith, length-append round.talk (talk_of rounds)) in
    given_next (length (talk_of (round ∷ rounds)) + n) (length (talk_of rounds) + n) round (rounds ++ more) size ∙ ap (λ l. round ∷ l) (given_more rounds more n)

-- where all packets of the rounds before this one were given, and of its own these, with others left or none
given_up_to : (rounds more : List Round) (round : Round) (given left : List LinkEntry) (entry : LinkEntry) → round.talk ≡ given ++ entry ∷ left
    → given_rounds (length (talk_of rounds ++ given)) (rounds ++ round ∷ more) ≡ rounds
given_up_to rounds more round given left entry whole =
    let size : length given < length round.talk = omega (arith, ap length whole, length-append given (entry ∷ left)) in
    ap (λ n. given_rounds n (rounds ++ round ∷ more)) (length-append (talk_of rounds) given)
    ∙ given_more rounds (round ∷ more) (length given)
    ∙ ap (λ l. rounds ++ l) (given_none (length given) round more size)
    ∙ append-nil rounds

given_through : (rounds more : List Round) (round : Round) (given : List LinkEntry) → round.talk ≡ given ++ []
    → given_rounds (length (talk_of rounds ++ given)) (rounds ++ round ∷ more) ≡ rounds ++ round ∷ given_rounds 0 more
given_through rounds more round given whole =
    let size : length given ≡ length round.talk + 0 = omega (arith, ap length whole, length-append given []) in
    ap (λ n. given_rounds n (rounds ++ round ∷ more)) (length-append (talk_of rounds) given)
    ∙ given_more rounds (round ∷ more) (length given)
    ∙ ap (λ l. rounds ++ l) (given_next (length given) 0 round more size)

-- their talk is no more than was told
given_within : (rounds : List Round) (told : ℕ) → length (talk_of (given_rounds told rounds)) ≤ told
given_within [] told = omega arith
given_within (round ∷ rounds) told = by_test (nat_le (length round.talk) told) refl (given_within rounds (told - length round.talk))
  where
    by_test : (b : Bool) → nat_le (length round.talk) told ≡ b → length (talk_of (given_rounds (told - length round.talk) rounds)) ≤ told - length round.talk
        → length (talk_of (if b then round ∷ given_rounds (told - length round.talk) rounds else [])) ≤ told
    by_test true test later =
        let here : length round.talk ≤ told = leb-true (length round.talk) told test in
        omega (arith, here, later, length-append round.talk (talk_of (given_rounds (told - length round.talk) rounds)))
    by_test false test later = omega arith

-- ROUNDS AFTER WHICH MORE WAS TOLD

text_next : (round : Round) (rounds : List Round) → length (text_of (round ∷ rounds)) ≡ length (action_text round.actions) + length (text_of rounds)
text_next round rounds =
    ap length (flat_map-append action_line round.actions (actions_of rounds)) ∙ length-append (action_text round.actions) (text_of rounds)

-- their lines are lines of these rounds, where no more was told than up to the end of the next one
passed_within : (rounds more : List Round) (round : Round) (told : ℕ) → told ≤ length (talk_of rounds) + length round.talk
    → length (text_of (passed_rounds told (rounds ++ round ∷ more))) ≤ length (text_of rounds)
passed_within [] more round told few = by_test (nat_lt (length round.talk) told) refl
  where
    by_test : (b : Bool) → nat_lt (length round.talk) told ≡ b → length (text_of (if b then round ∷ passed_rounds (told - length round.talk) more else [])) ≤ 0
    by_test true test = absurd (let beyond : length round.talk < told = ltb-true (length round.talk) told test in omega (arith, few))
    by_test false test = omega arith
passed_within (first ∷ rounds) more round told few = by_test (nat_lt (length first.talk) told) refl (passed_within rounds more round (told - length first.talk))
  where
    by_test : (b : Bool) → nat_lt (length first.talk) told ≡ b
        → (told - length first.talk ≤ length (talk_of rounds) + length round.talk → length (text_of (passed_rounds (told - length first.talk) (rounds ++ round ∷ more))) ≤ length (text_of rounds))
        → length (text_of (if b then first ∷ passed_rounds (told - length first.talk) (rounds ++ round ∷ more) else [])) ≤ length (text_of (first ∷ rounds))
    by_test true test later =
        let here : told - length first.talk ≤ length (talk_of rounds) + length round.talk = omega (arith, few, length-append first.talk (talk_of rounds)) in
        omega (arith, later here, text_next first (passed_rounds (told - length first.talk) (rounds ++ round ∷ more)), text_next first rounds)
    by_test false test later = omega arith

passed_all : (rounds : List Round) (told : ℕ) → length (text_of (passed_rounds told rounds)) ≤ length (text_of rounds)
passed_all [] told = omega arith
passed_all (first ∷ rounds) told = by_test (nat_lt (length first.talk) told) (passed_all rounds (told - length first.talk))
  where
    by_test : (b : Bool) → length (text_of (passed_rounds (told - length first.talk) rounds)) ≤ length (text_of rounds)
        → length (text_of (if b then first ∷ passed_rounds (told - length first.talk) rounds else [])) ≤ length (text_of (first ∷ rounds))
    by_test true later = omega (arith, later, text_next first (passed_rounds (told - length first.talk) rounds), text_next first rounds)
    by_test false later = omega arith

-- WHAT WAS WRITTEN OF ROUNDS, by what cut them short
abbrev pub WroteUpTo : NodeOutcome → ℕ → Option (List ℕ) → Option (List ℕ) → List Round → Type 0
WroteUpTo outcome.LinkFault = WroteAll
WroteUpTo outcome.WriteFault = WroteGiven
WroteUpTo outcome.Memory = WrotePrefix
WroteUpTo _ = λ told before after rounds. ⊥

-- a prefix of a text was written, with at least so much of it
record WroteSome (before after : Option (List ℕ)) (least : ℕ) (text : List ℕ) : Type 0 where
  size : ℕ
  written : Appends before after (take size text)
  reaches : least ≤ size

-- a text was written, and a prefix of one that stands after it
some_then : (before mid after : Option (List ℕ)) (done next more whole : List ℕ) → whole ≡ done ++ (next ++ more) → Appends before mid done → AppendsPrefix mid after next
    → WroteSome before after (length done) whole
some_then before mid after done next more whole is written (n, front) =
    let size = length done + length (take n next) in
    let parts : whole ≡ (done ++ take n next) ++ (drop n next ++ more) =
    is
    ∙ ap (λ l. done ++ (l ++ more)) (sym (take-append-drop n next))
    ∙ ap (λ l. done ++ l) (append_assoc (take n next) (drop n next) more)
    ∙ sym (append_assoc done (take n next) (drop n next ++ more)) in
    let shown : take size whole ≡ done ++ take n next =
    ap (λ k. take k whole) (sym (length-append done (take n next)))
    ∙ ap (take (length (done ++ take n next))) parts
    ∙ take-append_seam (done ++ take n next) (drop n next ++ more) in
    record {
      size = size;
      written = subst (Appends before after) (sym shown) (appends_then before mid after done (take n next) written front);
      reaches = omega arith;
    }

front_of : (told : ℕ) (before after : Option (List ℕ)) (rounds : List Round) (least : ℕ) → length (text_of (passed_rounds told rounds)) ≤ least
    → WroteSome before after least (text_of (given_rounds told rounds)) → WrotePrefix told before after rounds
front_of told before after rounds least within some = record { size = some.size; written = some.written; reaches = omega (arith, within, some.reaches) }

-- all lines of these rounds, where no more was written
pub all_up_to : (how : NodeOutcome) (before mid after : Option (List ℕ)) (rounds : List Round) → Appends before mid (text_of rounds) → CutText how mid after []
    → WroteUpTo how (length (talk_of rounds)) before after rounds
all_up_to how before mid after rounds written cut = by_outcome how cut
  where
    told : ℕ
    told = length (talk_of rounds)

    front : AppendsPrefix mid after [] → WrotePrefix told before after rounds
    front empty =
        front_of told before after rounds (length (text_of rounds)) (passed_all rounds told)
        (some_then before mid after (text_of rounds) [] [] (text_of (given_rounds told rounds)) (ap text_of (given_all rounds) ∙ sym (append-nil (text_of rounds))) written empty)

    by_outcome : (how : NodeOutcome) → CutText how mid after [] → WroteUpTo how told before after rounds
    by_outcome outcome.LinkFault empty =
        subst (Appends before after) (append-nil (text_of rounds) ∙ ap text_of (sym (given_all rounds))) (appends_then before mid after (text_of rounds) [] written empty)
    by_outcome outcome.WriteFault empty = record { front = front empty; whole = ap (λ l. length (talk_of l)) (given_all rounds) }
    by_outcome outcome.Memory empty = front empty
    by_outcome _ empty = absurd empty

-- after earlier rounds one that was cut short, and others that were not begun
pub cut_later : (how : NodeOutcome) (before mid after : Option (List ℕ)) (rounds more : List Round) (round : Round) (given left : List LinkEntry) → round.talk ≡ given ++ left → MayLeave how left
    → Appends before mid (text_of rounds) → CutText how mid after (due left (action_text round.actions)) → WroteUpTo how (length (talk_of rounds ++ given)) before after (rounds ++ round ∷ more)
cut_later how before mid after rounds more round given left whole may written cut = by_left left whole how may cut
  where
    told : ℕ
    told = length (talk_of rounds ++ given)

    within : (left : List LinkEntry) → round.talk ≡ given ++ left → length (text_of (passed_rounds told (rounds ++ round ∷ more))) ≤ length (text_of rounds)
    within left whole = passed_within rounds more round told (omega (arith, length-append (talk_of rounds) given, ap length whole, length-append given left))

    -- where packets are left of it
    some_left : (entry : LinkEntry) (left : List LinkEntry) → round.talk ≡ given ++ entry ∷ left → (how : NodeOutcome) → MayLeave how (entry ∷ left) → CutText how mid after []
        → WroteUpTo how told before after (rounds ++ round ∷ more)
    some_left entry left whole outcome.LinkFault may cut =
        subst (Appends before after) (append-nil (text_of rounds) ∙ ap text_of (sym (given_up_to rounds more round given left entry whole)))
        (appends_then before mid after (text_of rounds) [] written cut)
    some_left entry left whole outcome.WriteFault may cut = absurd (let clash : entry ∷ left ≡ [] = may in cc)
    some_left entry left whole outcome.Memory may cut =
        front_of told before after (rounds ++ round ∷ more) (length (text_of rounds)) (within (entry ∷ left) whole)
        (some_then before mid after (text_of rounds) [] [] (text_of (given_rounds told (rounds ++ round ∷ more)))
        (ap text_of (given_up_to rounds more round given left entry whole) ∙ sym (append-nil (text_of rounds))) written cut)
    some_left entry left whole _ may cut = absurd cut

    -- where all were given
    text_is : round.talk ≡ given ++ [] → text_of (given_rounds told (rounds ++ round ∷ more)) ≡ text_of rounds ++ (action_text round.actions ++ text_of (given_rounds 0 more))
    text_is whole =
        ap text_of (given_through rounds more round given whole)
        ∙ text_then rounds (round ∷ given_rounds 0 more)
        ∙ ap (λ l. text_of rounds ++ l) (flat_map-append action_line round.actions (actions_of (given_rounds 0 more)))

    front : round.talk ≡ given ++ [] → AppendsPrefix mid after (action_text round.actions) → WrotePrefix told before after (rounds ++ round ∷ more)
    front whole cut =
        front_of told before after (rounds ++ round ∷ more) (length (text_of rounds)) (within [] whole)
        (some_then before mid after (text_of rounds) (action_text round.actions) (text_of (given_rounds 0 more)) (text_of (given_rounds told (rounds ++ round ∷ more))) (text_is whole) written cut)

    all_talk : round.talk ≡ given ++ [] → length (talk_of (given_rounds told (rounds ++ round ∷ more))) ≡ told
    all_talk whole =
        let size : length (talk_of (given_rounds told (rounds ++ round ∷ more))) ≡ length (talk_of (rounds ++ round ∷ given_rounds 0 more)) =
        ap (λ l. length (talk_of l)) (given_through rounds more round given whole) in
        omega (
          arith,
          size,
          ap length (talk_then rounds (round ∷ given_rounds 0 more)),
          length-append (talk_of rounds) (talk_of (round ∷ given_rounds 0 more)),
          length-append round.talk (talk_of (given_rounds 0 more)),
          given_within more 0,
          ap length whole,
          length-append given [],
          length-append (talk_of rounds) given,
        )

    none_left : round.talk ≡ given ++ [] → (how : NodeOutcome) → MayLeave how [] → CutText how mid after (action_text round.actions) → WroteUpTo how told before after (rounds ++ round ∷ more)
    none_left whole outcome.LinkFault may cut = absurd (omega (arith, may))
    none_left whole outcome.WriteFault may cut = record { front = front whole cut; whole = all_talk whole }
    none_left whole outcome.Memory may cut = front whole cut
    none_left whole _ may cut = absurd cut

    by_left : (left : List LinkEntry) → round.talk ≡ given ++ left → (how : NodeOutcome) → MayLeave how left → CutText how mid after (due left (action_text round.actions))
        → WroteUpTo how told before after (rounds ++ round ∷ more)
    by_left [] whole how may cut = none_left whole how may cut
    by_left (entry ∷ left) whole how may cut = some_left entry left whole how may cut
