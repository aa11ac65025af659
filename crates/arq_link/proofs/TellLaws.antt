-- What is told where a call is whole, and where it is cut.
use Rattle.std.specs.Prelude.{◌≡◌, ◌&&◌, ◌==◌, Bool, true, false, ℕ, zero, suc, ◌<◌, List, [], ◌∷◌, ◌++◌, length, take, map, fold, refl}
use Rattle.std.proofs.Common.{sym, ap, ◌∙◌, subst, arith, eq-eqb}
use Rattle.std.proofs.lemmas.Bool.{and_from}
use Rattle.std.proofs.lemmas.Slice.Eq.{bytes_eq-Decides}
use Rattle.std.specs.Str.{bytes_eq}
use Rattle.std.proofs.lemmas.Grind.{fold-append}
use Rattle.da_outside.specs.declared.link.LinkAnswer.{LinkAnswer}
use Rattle.da_outside.specs.declared.link.LinkEntry.{LinkEntry}
use Rattle.da_outside.specs.declared.link.LinkEntry.TheVariants.{Bound, Answered, Gave}
use Rattle.arq_link.specs.Endpoint.{Data, Gift, Endpoint, Turn, new_endpoint, number_limit, peer_at, give_turn, take_turn}
use Rattle.arq_link.specs.Frames.{frame_bytes}
use Rattle.arq_link.specs.Telling.{answer_by, arrival_by, gift_entry, Retelling, settled, are_none, answered, is_gift, is_only_gift, gave_on, goes_on, retelling, retold, AreDue, LeadsTo}
use Rattle.arq_link.proofs.GiveLaws.{give_below}

-- A GIFT THAT WAS DUE

and_true : (b t : Bool) → t ≡ true → b && t ≡ b
and_true true t is = is
and_true false t is = refl

gift_of : (gift : Gift) (to : ℕ) (bytes : List ℕ) → to ≡ gift.to → bytes ≡ frame_bytes gift.frame → is_gift gift to bytes ≡ true
gift_of gift to bytes to_is is = and_from (to == gift.to) (bytes_eq bytes (frame_bytes gift.frame)) (eq-eqb to gift.to to_is)
    ((bytes_eq-Decides bytes (frame_bytes gift.frame)).1 is)

module _ (me : ℕ) (now later : Endpoint) (told : List LinkEntry) (answer : LinkEntry) where
  abbrev owing : Bool → List Gift → Retelling
  owing due gifts = record { me = me; endpoint = now; told = told; owed = gifts; later = later; answer = answer; due = due }

  paid : (due : Bool) (gift : Gift) (gifts : List Gift) → fold goes_on (owing due (gift ∷ gifts)) (map gift_entry (gift ∷ gifts)) ≡ settled due me later
      (told ++ answer ∷ [])
  paid due gift [] = ap (λ b. settled b me later (told ++ answer ∷ [])) (and_true due _ (gift_of gift gift.to (frame_bytes gift.frame) refl refl))
  paid due gift (next ∷ gifts) =
      ap (λ b. fold goes_on (owing b (next ∷ gifts)) (map gift_entry (next ∷ gifts)))
      (and_true due _ (gift_of gift gift.to (frame_bytes gift.frame) refl refl)) ∙ paid due next gifts

  -- after some of the gifts
  paid_part : (due : Bool) (gifts : List Gift) (k : ℕ) → k < length gifts
      → ((fold goes_on (owing due gifts) (take k (map gift_entry gifts))).told ≡ told)
      × ((fold goes_on (owing due gifts) (take k (map gift_entry gifts))).due ≡ due)
  paid_part due gifts zero few = (refl, refl)
  paid_part due [] (suc k) few = absurd (omega (arith, few))
  paid_part due (gift ∷ []) (suc k) few = absurd (omega (arith, few))
  paid_part due (gift ∷ next ∷ gifts) (suc k) few =
      let (same, right) = paid_part (due && is_gift gift gift.to (frame_bytes gift.frame)) (next ∷ gifts) k (omega (arith, few)) in
      (same, right ∙ and_true due _ (gift_of gift gift.to (frame_bytes gift.frame) refl refl))

-- A CALL `take`

module _ (r : Retelling) (answer : LinkAnswer) (turn : Turn) (is : take_turn r.me r.endpoint (arrival_by answer) ≡ turn) (none : r.owed ≡ []) where
  abbrev due_there : Bool
  due_there = r.due && are_none r.owed

  same_due : due_there ≡ r.due
  same_due = and_true r.due (are_none r.owed) (ap are_none none)

  took : fold goes_on r (Answered answer ∷ map gift_entry turn.gifts) ≡ settled r.due r.me turn.after (r.told ++ Answered (answer_by turn.delivers) ∷ [])
  took = ap (λ (t : Turn). fold goes_on (answered r t t.gifts) (map gift_entry turn.gifts)) is ∙ by turn.gifts
      ∙ ap (λ b. settled b r.me turn.after (r.told ++ Answered (answer_by turn.delivers) ∷ [])) same_due
    where
      by : (gifts : List Gift) → fold goes_on (answered r turn gifts) (map gift_entry gifts) ≡ settled due_there r.me turn.after
          (r.told ++ Answered (answer_by turn.delivers) ∷ [])
      by [] = refl
      by (gift ∷ gifts) = paid r.me r.endpoint turn.after r.told (Answered (answer_by turn.delivers)) due_there gift gifts

  took_part : (k : ℕ) → k < length turn.gifts
      → ((fold goes_on r (Answered answer ∷ take k (map gift_entry turn.gifts))).told ≡ r.told)
      × ((fold goes_on r (Answered answer ∷ take k (map gift_entry turn.gifts))).due ≡ r.due)
  took_part k few = let (same, right) = by turn.gifts few in (
    ap (λ (t : Turn). (fold goes_on (answered r t t.gifts) (take k (map gift_entry turn.gifts))).told) is ∙ same,
    ap (λ (t : Turn). (fold goes_on (answered r t t.gifts) (take k (map gift_entry turn.gifts))).due) is ∙ right ∙ same_due,
  )
    where
      by : (gifts : List Gift) → k < length gifts
          → ((fold goes_on (answered r turn gifts) (take k (map gift_entry gifts))).told ≡ r.told)
          × ((fold goes_on (answered r turn gifts) (take k (map gift_entry gifts))).due ≡ due_there)
      by [] few = absurd (omega (arith, few))
      by (gift ∷ gifts) few = paid_part r.me r.endpoint turn.after r.told (Answered (answer_by turn.delivers)) due_there (gift ∷ gifts) k few

-- MORE ENTRIES

pub retelling_more : (entries more : List LinkEntry) → retelling (entries ++ more) ≡ fold goes_on (retelling entries) more
retelling_more entries more = fold-append goes_on _ entries more

leads_on : (due : Bool) (me : ℕ) (after : Endpoint) (entries more new : List LinkEntry) → (retelling entries).me ≡ me → due ≡ true
    → fold goes_on (retelling entries) more ≡ settled due (retelling entries).me after ((retelling entries).told ++ new)
    → LeadsTo me after (entries ++ more) × (retold (entries ++ more) ≡ retold entries ++ new)
leads_on due me after entries more new mine right is =
    let all : retelling (entries ++ more) ≡ settled due (retelling entries).me after ((retelling entries).told ++ new) = retelling_more entries more
    ∙ is in (
      record {
        mine = ap (λ (r : Retelling). r.me) all ∙ mine;
        leads = ap (λ (r : Retelling). r.endpoint) all;
        whole = ap (λ (r : Retelling). r.owed) all;
        due = ap (λ (r : Retelling). r.due) all ∙ right;
      },
      ap (λ (r : Retelling). r.told) all,
    )

module _ (me : ℕ) (e : Endpoint) (entries : List LinkEntry) (lead : LeadsTo me e entries) where
  turn_there : (answer : LinkAnswer) → take_turn (retelling entries).me (retelling entries).endpoint (arrival_by answer) ≡ take_turn me e
      (arrival_by answer)
  turn_there answer = ap (λ k. take_turn k (retelling entries).endpoint (arrival_by answer)) lead.mine
      ∙ ap (λ (y : Endpoint). take_turn me y (arrival_by answer)) lead.leads

  -- a take that is whole
  pub tells_taken : (answer : LinkAnswer)
      → LeadsTo me (take_turn me e (arrival_by answer)).after (entries ++ Answered answer ∷ map gift_entry (take_turn me e (arrival_by answer)).gifts)
      × (retold (entries ++ Answered answer ∷ map gift_entry (take_turn me e (arrival_by answer)).gifts) ≡ retold entries ++ Answered
      (answer_by (take_turn me e (arrival_by answer)).delivers) ∷ [])
  tells_taken answer = leads_on (retelling entries).due me (take_turn me e (arrival_by answer)).after entries _
      (Answered (answer_by (take_turn me e (arrival_by answer)).delivers) ∷ []) lead.mine lead.due
      (took (retelling entries) answer (take_turn me e (arrival_by answer)) (turn_there answer) lead.whole)

  -- one that is cut
  pub tells_cut : (answer : LinkAnswer) (k : ℕ) → k < length (take_turn me e (arrival_by answer)).gifts
      → (retold (entries ++ Answered answer ∷ take k (map gift_entry (take_turn me e (arrival_by answer)).gifts)) ≡ retold entries)
      × AreDue (entries ++ Answered answer ∷ take k (map gift_entry (take_turn me e (arrival_by answer)).gifts))
  tells_cut answer k few =
      let (same, right) = took_part (retelling entries) answer (take_turn me e (arrival_by answer)) (turn_there answer) lead.whole k few in
      let all : retelling (entries ++ Answered answer ∷ take k (map gift_entry (take_turn me e (arrival_by answer)).gifts))
      ≡ fold goes_on (retelling entries) (Answered answer ∷ take k (map gift_entry (take_turn me e (arrival_by answer)).gifts)) = retelling_more entries
      _ in
      (ap (λ (r : Retelling). r.told) all ∙ same, ap (λ (r : Retelling). r.due) all ∙ right ∙ lead.due)

  -- a gift
  pub tells_given : (to : ℕ) (payload : List ℕ) → (peer_at e.peers to).next < number_limit
      → LeadsTo me (give_turn me e to payload).after (entries ++ map gift_entry (give_turn me e to payload).gifts)
      × (retold (entries ++ map gift_entry (give_turn me e to payload).gifts) ≡ retold entries ++ Gave to payload ∷ [])
  tells_given to payload room = subst
      (λ (gifts : List Gift). LeadsTo me (give_turn me e to payload).after
      (entries ++ map gift_entry gifts) × (retold (entries ++ map gift_entry gifts) ≡ retold entries ++ Gave to payload ∷ []))
      (sym gifts_are)
      (leads_on due me (give_turn me e to payload).after entries _ (Gave to payload ∷ []) lead.mine
      (and_from (retelling entries).due _ lead.due
      (ap (λ (gifts : List Gift). is_only_gift gifts to bytes) (ap (λ (turn : Turn). turn.gifts) turn_same ∙ gifts_are)
      ∙ and_true (is_gift gift to bytes) true refl ∙ gift_of gift to bytes refl refl))
      (ap (λ (gifts : List Gift). gave_on (retelling entries) gifts to bytes) lead.whole
      ∙ ap (λ (turn : Turn). settled due (retelling entries).me turn.after ((retelling entries).told ++ Gave to payload ∷ [])) turn_same))
    where
      gift : Gift
      gift = record { to = to; frame = Data me (peer_at e.peers to).next payload }

      bytes : List ℕ
      bytes = frame_bytes (Data me (peer_at e.peers to).next payload)

      gifts_are : (give_turn me e to payload).gifts ≡ gift ∷ []
      gifts_are = ap (λ (turn : Turn). turn.gifts) (give_below me e to payload room)

      turn_same : give_turn (retelling entries).me (retelling entries).endpoint to payload ≡ give_turn me e to payload
      turn_same = ap (λ k. give_turn k (retelling entries).endpoint to payload) lead.mine ∙ ap (λ (y : Endpoint). give_turn me y to payload) lead.leads

      due : Bool
      due = (retelling entries).due && is_only_gift (give_turn (retelling entries).me (retelling entries).endpoint to payload).gifts to bytes

-- a binding
pub tells_bound : (port me count : ℕ) (entries : List LinkEntry)
    → LeadsTo me (new_endpoint count) (entries ++ Bound port me count ∷ []) × (retold (entries ++ Bound port me count ∷ []) ≡ Bound port me count ∷ [])
tells_bound port me count entries =
    let all : retelling (entries ++ Bound port me count ∷ []) ≡ settled true me (new_endpoint count) (Bound port me count ∷ []) = retelling_more entries
    (Bound port me count ∷ []) in (
      record {
        mine = ap (λ (r : Retelling). r.me) all;
        leads = ap (λ (r : Retelling). r.endpoint) all;
        whole = ap (λ (r : Retelling). r.owed) all;
        due = ap
            (λ (r : Retelling). r.due) all;
      },
      ap (λ (r : Retelling). r.told) all,
    )
