-- What a reliable link tells are the calls of which its inner link tells.
use Rattle.std.specs.Prelude.{◌≡◌, ◌==◌, true, false, ℕ, zero, suc, ◌+◌, ◌<◌, nat_lt, List, [], ◌∷◌, ◌++◌, length, take, drop, map, refl}
use Rattle.std.proofs.Common.{sym, ap, ◌∙◌, subst, arith, append-nil, append_assoc, ltb-true}
use Rattle.std.proofs.lemmas.Bool.{and_parts, cond_both, eqb-true}
use Rattle.std.proofs.lemmas.Slice.Eq.{bytes_eq-Decides}
use Rattle.std.specs.Str.{bytes_eq}
use Rattle.da_outside.specs.declared.link.LinkAnswer.{LinkAnswer}
use Rattle.da_outside.specs.declared.link.LinkEntry.{LinkEntry}
use Rattle.da_outside.specs.declared.link.LinkEntry.TheVariants.{Bound, Answered, Gave}
use Rattle.arq_link.specs.Calls.{Calls, Follows, none, takes, gives, untold, is_cut}
use Rattle.arq_link.specs.Endpoint.{Gift, Endpoint, Turn, new_endpoint, number_limit, peer_at, give_turn, take_turn}
use Rattle.arq_link.specs.Frames.{frame_bytes}
use Rattle.arq_link.specs.Telling.{answer_by, arrival_by, gift_entry, Retelling, are_none, answered, is_gift, is_only_gift, gave_on, goes_on, retelling, retold, AreDue}
use Rattle.arq_link.proofs.TellLaws.{retelling_more}

-- WHERE THE CALLS ARE

-- between two calls; or within one, of whose gifts so many were given
data Stage (r : Retelling) (first : Endpoint) (since talk : List LinkEntry) : Type 0 where
  between : Calls r.me first since talk r.endpoint → r.owed ≡ [] → Stage r first since talk
  within : (done : List LinkEntry) (answer : LinkAnswer) (k : ℕ) → Calls r.me first done talk r.endpoint
      → since ≡ done ++ Answered answer ∷ take k (map gift_entry (take_turn r.me r.endpoint (arrival_by answer)).gifts)
      → k < length (take_turn r.me r.endpoint (arrival_by answer)).gifts → r.owed ≡ drop k (take_turn r.me r.endpoint (arrival_by answer)).gifts
      → r.later ≡ (take_turn r.me r.endpoint (arrival_by answer)).after
      → r.answer ≡ Answered (answer_by (take_turn r.me r.endpoint (arrival_by answer)).delivers) → Stage r first since talk

record Shown (r : Retelling) (entries : List LinkEntry) : Type 0 where
  before : List LinkEntry
  port : ℕ
  count : ℕ
  since : List LinkEntry
  talk : List LinkEntry
  entries_are : entries ≡ before ++ Bound port r.me count ∷ since
  told_are : r.told ≡ Bound port r.me count ∷ talk
  stage : Stage r (new_endpoint count) since talk

-- one entry more after the binding
further : (entries before since : List LinkEntry) (binding entry : LinkEntry) → entries ≡ before ++ binding ∷ since
    → entries ++ entry ∷ [] ≡ before ++ binding ∷ (since ++ entry ∷ [])
further entries before since binding entry is = ap (λ (l : List LinkEntry). l ++ entry ∷ []) is ∙ append_assoc before (binding ∷ since) (entry ∷ [])

-- AN ANSWER

none_owed : (gifts : List Gift) → are_none gifts ≡ true → gifts ≡ []
none_owed [] is = refl
none_owed (gift ∷ gifts) is = absurd (let both : false ≡ true = is in cc)

none_left : (gifts : List Gift) (k : ℕ) → k < length gifts → drop k gifts ≡ [] → ⊥
none_left [] k few is = omega (arith, few)
none_left (gift ∷ gifts) zero few is = let none : length (gift ∷ gifts) ≡ 0 = ap (λ (l : List Gift). length l) is in omega (arith, none)
none_left (gift ∷ gifts) (suc k) few is = none_left gifts k (omega (arith, few)) is

-- no gift is owed between two calls alone
calls_there : (r : Retelling) (first : Endpoint) (since talk : List LinkEntry) → Stage r first since talk → r.owed ≡ []
    → Calls r.me first since talk r.endpoint
calls_there r first since talk (between calls owes) is = calls
calls_there r first since talk (within done answer k calls since_is few owes later tells) is =
    absurd (none_left (take_turn r.me r.endpoint (arrival_by answer)).gifts k few (sym owes ∙ is))

answer_shown : (r : Retelling) (entries : List LinkEntry) (answer : LinkAnswer) (gifts : List Gift)
    → (take_turn r.me r.endpoint (arrival_by answer)).gifts ≡ gifts
    → Shown r entries → r.owed ≡ [] → Shown (answered r (take_turn r.me r.endpoint (arrival_by answer)) gifts) (entries ++ Answered answer ∷ [])
answer_shown r entries answer [] gifts_are shown owes = record {
  before = shown.before;
  port = shown.port;
  count = shown.count;
  since = shown.since ++ Answered answer ∷ [];
  talk = shown.talk ++ Answered (answer_by (take_turn r.me r.endpoint (arrival_by answer)).delivers) ∷ [];
  entries_are = further entries shown.before shown.since _ (Answered answer) shown.entries_are;
  told_are = ap (λ (l : List LinkEntry). l ++ Answered (answer_by (take_turn r.me r.endpoint (arrival_by answer)).delivers) ∷ []) shown.told_are;
  stage = between
      (subst (λ (l : List Gift). Calls r.me (new_endpoint shown.count) (shown.since ++ Answered answer ∷ map gift_entry l)
      (shown.talk ++ Answered (answer_by (take_turn r.me r.endpoint (arrival_by answer)).delivers) ∷ [])
      (take_turn r.me r.endpoint (arrival_by answer)).after) gifts_are
      (takes shown.since shown.talk r.endpoint answer (calls_there r _ _ _ shown.stage owes)))
      refl;
}
answer_shown r entries answer (gift ∷ gifts) gifts_are shown owes = record {
  before = shown.before;
  port = shown.port;
  count = shown.count;
  since = shown.since ++ Answered answer ∷ [];
  talk = shown.talk;
  entries_are = further entries shown.before shown.since _ (Answered answer) shown.entries_are;
  told_are = shown.told_are;
  stage = within shown.since answer 0 (calls_there r _ _ _ shown.stage owes) refl
      (let long : length (take_turn r.me r.endpoint (arrival_by answer)).gifts ≡ length (gift ∷ gifts) = ap (λ (l : List Gift). length l) gifts_are in omega
      (arith, long))
      (sym gifts_are) refl refl;
}

-- A GIFT

gift_is : (gift : Gift) (to : ℕ) (bytes : List ℕ) → is_gift gift to bytes ≡ true → Gave to bytes ≡ gift_entry gift
gift_is gift to bytes is = let (to_is, bytes_are) = and_parts (to == gift.to) (bytes_eq bytes (frame_bytes gift.frame)) is in
    ap (λ k. Gave k bytes) (eqb-true to gift.to to_is) ∙ ap (λ (l : List ℕ). Gave gift.to l) ((bytes_eq-Decides bytes (frame_bytes gift.frame)).0 bytes_are)

only_gift_is : (gifts : List Gift) (to : ℕ) (bytes : List ℕ) → is_only_gift gifts to bytes ≡ true → Gave to bytes ∷ [] ≡ map gift_entry gifts
only_gift_is [] to bytes is = absurd (let both : false ≡ true = is in cc)
only_gift_is (gift ∷ gifts) to bytes is = let (this, alone) = and_parts (is_gift gift to bytes) (are_none gifts) is in
    ap (λ (entry : LinkEntry). entry ∷ []) (gift_is gift to bytes this) ∙ ap (λ (l : List Gift). gift_entry gift ∷ map gift_entry l)
    (sym (none_owed gifts alone))

has_room : (me : ℕ) (e : Endpoint) (to : ℕ) (payload bytes : List ℕ) → is_only_gift (give_turn me e to payload).gifts to bytes ≡ true
    → (peer_at e.peers to).next < number_limit
has_room me e to payload bytes = cond_both (nat_lt (peer_at e.peers to).next number_limit) _ _
    (λ (turn : Turn). is_only_gift turn.gifts to bytes ≡ true → (peer_at e.peers to).next < number_limit)
    (λ room _. ltb-true (peer_at e.peers to).next number_limit room)
    (λ _ is. absurd (let both : false ≡ true = is in cc))

-- the gifts up to one, this one, and the others
gifts_split : (gifts rest : List Gift) (gift : Gift) (k : ℕ) → drop k gifts ≡ gift ∷ rest
    → (take (k + 1) (map gift_entry gifts) ≡ take k (map gift_entry gifts) ++ gift_entry gift ∷ []) × (drop (k + 1) gifts ≡ rest)
gifts_split gifts rest gift k is = let next : k + 1 ≡ suc k = omega arith in
    let (taken, left) = by gifts k is in (ap (λ n. take n (map gift_entry gifts)) next ∙ taken, ap (λ n. drop n gifts) next ∙ left)
  where
    by : (gifts : List Gift) (k : ℕ) → drop k gifts ≡ gift ∷ rest
        → (take (suc k) (map gift_entry gifts) ≡ take k (map gift_entry gifts) ++ gift_entry gift ∷ []) × (drop (suc k) gifts ≡ rest)
    by [] zero is = absurd (let none : length (gift ∷ rest) ≡ 0 = ap (λ (l : List Gift). length l) (sym is) in omega (arith, none))
    by [] (suc k) is = absurd (let none : length (gift ∷ rest) ≡ 0 = ap (λ (l : List Gift). length l) (sym is) in omega (arith, none))
    by (x ∷ gifts) zero is = (ap (λ (y : Gift). gift_entry y ∷ []) (let same : x ≡ gift = cc in same), (let same : gifts ≡ rest = cc in same))
    by (x ∷ gifts) (suc k) is = let (taken, left) = by gifts k is in (ap (λ (l : List LinkEntry). gift_entry x ∷ l) taken, left)

all_given : (gifts : List Gift) (n : ℕ) → drop n gifts ≡ [] → take n (map gift_entry gifts) ≡ map gift_entry gifts
all_given [] zero is = refl
all_given [] (suc n) is = refl
all_given (x ∷ gifts) zero is = absurd (let none : length (x ∷ gifts) ≡ 0 = ap (λ (l : List Gift). length l) is in omega (arith, none))
all_given (x ∷ gifts) (suc n) is = ap (λ (l : List LinkEntry). gift_entry x ∷ l) (all_given gifts n is)

-- a gift that no answer owes
gift_shown : (r : Retelling) (entries : List LinkEntry) (to : ℕ) (bytes : List ℕ) → Shown r entries → r.owed ≡ []
    → is_only_gift (give_turn r.me r.endpoint to (drop 14 bytes)).gifts to bytes ≡ true → Shown (gave_on r [] to bytes) (entries ++ Gave to bytes ∷ [])
gift_shown r entries to bytes shown owes only = record {
  before = shown.before;
  port = shown.port;
  count = shown.count;
  since = shown.since ++ Gave to bytes ∷ [];
  talk = shown.talk ++ Gave to (drop 14 bytes) ∷ [];
  entries_are = further entries shown.before shown.since _ (Gave to bytes) shown.entries_are;
  told_are = ap (λ (l : List LinkEntry). l ++ Gave to (drop 14 bytes) ∷ []) shown.told_are;
  stage = between
      (subst (λ (l : List LinkEntry). Calls r.me (new_endpoint shown.count) (shown.since ++ l) (shown.talk ++ Gave to (drop 14 bytes) ∷ [])
      (give_turn r.me r.endpoint to (drop 14 bytes)).after)
      (sym (only_gift_is (give_turn r.me r.endpoint to (drop 14 bytes)).gifts to bytes only))
      (gives shown.since shown.talk r.endpoint to (drop 14 bytes) (has_room r.me r.endpoint to (drop 14 bytes) bytes only)
      (calls_there r _ _ _ shown.stage owes)))
      refl;
}

-- one that an answer owes
module _ (r : Retelling) (entries : List LinkEntry) (to : ℕ) (bytes : List ℕ) (gift : Gift) (is : Gave to bytes ≡ gift_entry gift) where
  last_shown : (shown : Shown r entries) → Stage r (new_endpoint shown.count) shown.since shown.talk → r.owed ≡ gift ∷ []
      → Shown (gave_on r (gift ∷ []) to bytes) (entries ++ Gave to bytes ∷ [])
  last_shown shown (between calls none_is) owes = absurd
      (let none : length (gift ∷ []) ≡ 0 = ap (λ (l : List Gift). length l) (sym owes ∙ none_is) in omega (arith, none))
  last_shown shown (within done answer k calls since_is few owed_is later tells) owes = record {
    before = shown.before;
    port = shown.port;
    count = shown.count;
    since = done ++ Answered answer ∷ map gift_entry (take_turn r.me r.endpoint (arrival_by answer)).gifts;
    talk = shown.talk ++ Answered (answer_by (take_turn r.me r.endpoint (arrival_by answer)).delivers) ∷ [];
    entries_are = further entries shown.before shown.since _ (Gave to bytes) shown.entries_are
        ∙ ap (λ (l : List LinkEntry). shown.before ++ Bound shown.port r.me shown.count ∷ l) since_on;
    told_are = ap (λ (l : List LinkEntry). l ++ r.answer ∷ []) shown.told_are
        ∙ ap (λ (a : LinkEntry). Bound shown.port r.me shown.count ∷ (shown.talk ++ a ∷ [])) tells;
    stage = between
        (subst (λ (e : Endpoint). Calls r.me (new_endpoint shown.count)
        (done ++ Answered answer ∷ map gift_entry (take_turn r.me r.endpoint (arrival_by answer)).gifts)
        (shown.talk ++ Answered (answer_by (take_turn r.me r.endpoint (arrival_by answer)).delivers) ∷ []) e) (sym later)
        (takes done shown.talk r.endpoint answer calls))
        refl;
  }
    where
      gifts : List Gift
      gifts = (take_turn r.me r.endpoint (arrival_by answer)).gifts

      since_on : shown.since ++ Gave to bytes ∷ [] ≡ done ++ Answered answer ∷ map gift_entry (take_turn r.me r.endpoint (arrival_by answer)).gifts
      since_on = let (taken, left) = gifts_split gifts [] gift k (sym owed_is ∙ owes) in
          ap (λ (l : List LinkEntry). l ++ Gave to bytes ∷ []) since_is ∙ append_assoc done (Answered answer ∷ take k (map gift_entry gifts))
          (Gave to bytes ∷ [])
          ∙ ap (λ (entry : LinkEntry). done ++ Answered answer ∷ (take k (map gift_entry gifts) ++ entry ∷ [])) is
          ∙ ap (λ (l : List LinkEntry). done ++ Answered answer ∷ l) (sym taken ∙ all_given gifts (k + 1) left)

  next_shown : (next : Gift) (others : List Gift) (shown : Shown r entries) → Stage r (new_endpoint shown.count) shown.since shown.talk
      → r.owed ≡ gift ∷ next ∷ others
      → Shown (gave_on r (gift ∷ next ∷ others) to bytes) (entries ++ Gave to bytes ∷ [])
  next_shown next others shown (between calls none_is) owes = absurd
      (let none : length (gift ∷ next ∷ others) ≡ 0 = ap (λ (l : List Gift). length l) (sym owes ∙ none_is) in omega (arith, none))
  next_shown next others shown (within done answer k calls since_is few owed_is later tells) owes = record {
    before = shown.before;
    port = shown.port;
    count = shown.count;
    since = shown.since ++ Gave to bytes ∷ [];
    talk = shown.talk;
    entries_are = further entries shown.before shown.since _ (Gave to bytes) shown.entries_are;
    told_are = shown.told_are;
    stage = within done answer (k + 1) calls since_on more (sym (gifts_split gifts (next ∷ others) gift k (sym owed_is ∙ owes)).1) later tells;
  }
    where
      gifts : List Gift
      gifts = (take_turn r.me r.endpoint (arrival_by answer)).gifts

      since_on : shown.since ++ Gave to bytes ∷ [] ≡ done ++ Answered answer ∷ take (k + 1)
          (map gift_entry (take_turn r.me r.endpoint (arrival_by answer)).gifts)
      since_on =
          ap (λ (l : List LinkEntry). l ++ Gave to bytes ∷ []) since_is ∙ append_assoc done (Answered answer ∷ take k (map gift_entry gifts))
          (Gave to bytes ∷ [])
          ∙ ap (λ (entry : LinkEntry). done ++ Answered answer ∷ (take k (map gift_entry gifts) ++ entry ∷ [])) is
          ∙ ap (λ (l : List LinkEntry). done ++ Answered answer ∷ l) (sym (gifts_split gifts (next ∷ others) gift k (sym owed_is ∙ owes)).0)

      more : k + 1 < length (take_turn r.me r.endpoint (arrival_by answer)).gifts
      more = let long : length gifts ≡ k + length (gift ∷ next ∷ others) = long_by gifts k few (sym owed_is ∙ owes) in omega (arith, long)
        where
          long_by : (gs : List Gift) (n : ℕ) → n < length gs → drop n gs ≡ gift ∷ next ∷ others → length gs ≡ n + length (gift ∷ next ∷ others)
          long_by [] n below is = absurd (omega (arith, below))
          long_by (x ∷ gs) zero below is = let same : length (x ∷ gs) ≡ length (gift ∷ next ∷ others) = ap (λ (l : List Gift). length l) is in omega
              (arith, same)
          long_by (x ∷ gs) (suc n) below is = let rest : length gs ≡ n + length (gift ∷ next ∷ others) = long_by gs n (omega (arith, below)) is in omega
              (arith, rest)

gave_shown : (r : Retelling) (entries : List LinkEntry) (to : ℕ) (bytes : List ℕ) (owed : List Gift) → r.owed ≡ owed → (r.due ≡ true → Shown r entries)
    → (gave_on r owed to bytes).due ≡ true → Shown (gave_on r owed to bytes) (entries ++ Gave to bytes ∷ [])
gave_shown r entries to bytes [] owes shown due =
    let (so_far, only) = and_parts r.due (is_only_gift (give_turn r.me r.endpoint to (drop 14 bytes)).gifts to bytes) due in gift_shown r entries to bytes
    (shown so_far) owes only
gave_shown r entries to bytes (gift ∷ []) owes shown due =
    let (so_far, this) = and_parts r.due (is_gift gift to bytes) due in last_shown r entries to bytes gift (gift_is gift to bytes this) (shown so_far)
    (shown so_far).stage owes
gave_shown r entries to bytes (gift ∷ next ∷ others) owes shown due =
    let (so_far, this) = and_parts r.due (is_gift gift to bytes) due in next_shown r entries to bytes gift (gift_is gift to bytes this) next others
    (shown so_far) (shown so_far).stage owes

-- ANY ENTRIES

answered_due : (r : Retelling) (turn : Turn) (gifts : List Gift) → (answered r turn gifts).due ≡ true → (r.due ≡ true) × (r.owed ≡ [])
answered_due r turn [] due = let (so_far, free) = and_parts r.due (are_none r.owed) due in (so_far, none_owed r.owed free)
answered_due r turn (gift ∷ gifts) due = let (so_far, free) = and_parts r.due (are_none r.owed) due in (so_far, none_owed r.owed free)

step_shown : (r : Retelling) (entries : List LinkEntry) (entry : LinkEntry) → (r.due ≡ true → Shown r entries) → (goes_on r entry).due ≡ true
    → Shown (goes_on r entry) (entries ++ entry ∷ [])
step_shown r entries (Bound port me count) shown due = record {
  before = entries;
  port = port;
  count = count;
  since = [];
  talk = [];
  entries_are = refl;
  told_are = refl;
  stage = between none refl;
}
step_shown r entries (Answered answer) shown due =
    let (so_far, owes) = answered_due r (take_turn r.me r.endpoint (arrival_by answer)) (take_turn r.me r.endpoint (arrival_by answer)).gifts due in
    answer_shown r entries answer (take_turn r.me r.endpoint (arrival_by answer)).gifts refl (shown so_far) owes
step_shown r entries (Gave to bytes) shown due = gave_shown r entries to bytes r.owed refl shown due

more_shown : (front rest : List LinkEntry) → ((retelling front).due ≡ true → Shown (retelling front) front) → (retelling (front ++ rest)).due ≡ true
    → Shown (retelling (front ++ rest)) (front ++ rest)
more_shown front [] shown = subst (λ (l : List LinkEntry). (retelling l).due ≡ true → Shown (retelling l) l) (sym (append-nil front)) shown
more_shown front (entry ∷ rest) shown = subst (λ (l : List LinkEntry). (retelling l).due ≡ true → Shown (retelling l) l)
    (append_assoc front (entry ∷ []) rest)
    (more_shown (front ++ entry ∷ []) rest
    (subst (λ (r : Retelling). r.due ≡ true → Shown r (front ++ entry ∷ [])) (sym (retelling_more front (entry ∷ [])))
    (step_shown (retelling front) front entry shown)))

all_shown : (entries : List LinkEntry) → AreDue entries → Shown (retelling entries) entries
all_shown entries due = more_shown [] entries (λ is. absurd (let both : false ≡ true = is in cc)) due

pub follows : (entries : List LinkEntry) → AreDue entries → Follows entries (retold entries)
follows entries due = by (all_shown entries due) (all_shown entries due).stage
  where
    by : (shown : Shown (retelling entries) entries) → Stage (retelling entries) (new_endpoint shown.count) shown.since shown.talk
        → Follows entries (retold entries)
    by shown (between calls owes) = record {
      before = shown.before;
      port = shown.port;
      me = (retelling entries).me;
      count = shown.count;
      since = shown.since;
      talk = shown.talk;
      endpoint = (retelling entries).endpoint;
      rest = [];
      inner_is = shown.entries_are ∙ ap (λ (l : List LinkEntry). shown.before ++ Bound shown.port (retelling entries).me shown.count ∷ l)
          (sym (append-nil shown.since));
      told_is = shown.told_are;
      calls = calls;
      failed = untold;
    }
    by shown (within done answer k calls since_is few owed_is later tells) = record {
      before = shown.before;
      port = shown.port;
      me = (retelling entries).me;
      count = shown.count;
      since = done;
      talk = shown.talk;
      endpoint = (retelling entries).endpoint;
      rest = Answered answer ∷ take k (map gift_entry (take_turn (retelling entries).me (retelling entries).endpoint (arrival_by answer)).gifts);
      inner_is = shown.entries_are ∙ ap (λ (l : List LinkEntry). shown.before ++ Bound shown.port (retelling entries).me shown.count ∷ l) since_is;
      told_is = shown.told_are;
      calls = calls;
      failed = is_cut answer k few;
    }
