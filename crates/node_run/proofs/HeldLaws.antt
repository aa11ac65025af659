-- The laws of the held packet that is delivered next, and how it is found place by place.
use Rattle.std.proofs.Common.{◌≡◌, refl, sym, ◌∙◌, ap, subst, ℕ, zero, suc, ◌+◌, ◌≤◌, ◌<◌, List, [], ◌∷◌, ◌++◌, length, take, drop, slice_get, arith, length-append, get_or, Bool, true, false, ◌&&◌, ◌||◌, ◌==◌}
use Rattle.std.specs.List.{list_any}
use Rattle.std.specs.Prelude.{Option, Some, None, is_some, if◌then◌else◌}
use Rattle.std.proofs.lemmas.Bool.{eq-eqb, false≢true, and_parts}
use Rattle.std.proofs.lemmas.Option.{none-some, same_Some}
use Rattle.da_lang.specs.declared.program.Program.{Program}
use Rattle.da_lang.specs.Steps.{Stepped, proc_step}
use Rattle.da_lang.specs.World.{World}
use Rattle.msg_codec.specs.declared.packet.Packet.{Packet}
use Rattle.node_run.specs.Hearing.{IsFoundAt, held_in, held_of}
use Rattle.node_run.specs.HeldPackets.{Held, arrival_of, find_held, goes_first, may_come}

-- a step that is there
pub some_of : (o : Option Stepped) → is_some o ≡ true → (after : Stepped) × (o ≡ Some after)
some_of None some = absurd (false≢true some)
some_of (Some after) some = (after, refl)

-- THE PACKET THAT IS FOUND

-- it may come, and one packet less is held after it
pub record IsFound (program : Program) (w : World) (before later : List Held) (x : Held) (held : List Held) : Type 0 where
  pub after : Stepped
  pub leads : proc_step program w (arrival_of x) ≡ Some after
  pub size : length before + length later ≡ suc (length held)

-- by the test of the first of those to come, and what is found among the others
found_by : (program : Program) (w : World) (before later : List Held) (y x : Held) (held : List Held) (b : Bool) → (goes_first program.kind before y && may_come program w y) ≡ b
    → (if b then Some (y, before ++ later) else find_held program w (before ++ y ∷ []) later) ≡ Some (x, held)
    → (find_held program w (before ++ y ∷ []) later ≡ Some (x, held) → IsFound program w (before ++ y ∷ []) later x held) → IsFound program w before (y ∷ later) x held
found_by program w before later y x held true test is others =
    let both : (y, before ++ later) ≡ (x, held) = same_Some (y, before ++ later) (x, held) is in
    let (after, leads) = some_of (proc_step program w (arrival_of y)) (and_parts (goes_first program.kind before y) (may_come program w y) test).1 in
    record {
      after = after;
      leads = subst (λ z. proc_step program w (arrival_of z) ≡ Some after) (ap (λ p. p.0) both) leads;
      size = omega (arith, length-append before later, ap (λ p. length p.1) both);
    }
found_by program w before later y x held false test is others =
    let found = others is in
    record { after = found.after; leads = found.leads; size = omega (arith, found.size, length-append before (y ∷ [])) }

pub found_one : (program : Program) (w : World) (before later : List Held) (x : Held) (held : List Held) → find_held program w before later ≡ Some (x, held) → IsFound program w before later x held
found_one program w before [] x held is = absurd (none-some (x, held) is)
found_one program w before (y ∷ later) x held is =
    found_by program w before later y x held (goes_first program.kind before y && may_come program w y) refl is (λ others. found_one program w (before ++ y ∷ []) later x held others)

-- PLACE BY PLACE

pub held_then : (xs ys : List Packet) → held_in (xs ++ ys) ≡ held_in xs ++ held_in ys
held_then [] ys = refl
held_then (x ∷ xs) ys = ap (λ l. held_of x ∷ l) (held_then xs ys)

-- what is found of all is found after the first so many
abbrev pub FindsFrom : Program → World → List Packet → ℕ → Type 0
FindsFrom program w packets n = find_held program w [] (held_in packets) ≡ find_held program w (held_in (take n packets)) (held_in (drop n packets))

-- the packet at a place, by those before it and after it
record StandsAt (packets : List Packet) (n : ℕ) (packet : Packet) : Type 0 where
  later : drop n packets ≡ packet ∷ drop (suc n) packets
  earlier : take (suc n) packets ≡ take n packets ++ packet ∷ []

stands_at : (packets : List Packet) (n : ℕ) (packet : Packet) → slice_get packets n ≡ Some packet → StandsAt packets n packet
stands_at [] n packet there = absurd (none-some packet there)
stands_at (p ∷ packets) zero packet there = let same = same_Some p packet there in record { later = ap (λ q. q ∷ packets) same; earlier = ap (λ q. q ∷ []) same }
stands_at (p ∷ packets) (suc n) packet there =
    let at = stands_at packets n packet there in
    record { later = at.later; earlier = ap (λ l. p ∷ l) at.earlier }

module _ (program : Program) (w : World) (packets : List Packet) (n : ℕ) (packet : Packet) (there : slice_get packets n ≡ Some packet) (so_far : FindsFrom program w packets n) where
  abbrev first : Bool
  first = goes_first program.kind (held_in (take n packets)) (held_of packet) && may_come program w (held_of packet)

  tried : find_held program w [] (held_in packets)
      ≡ (if first then Some (held_of packet, held_in (take n packets) ++ held_in (drop (suc n) packets)) else find_held program w (held_in (take n packets) ++ held_of packet ∷ []) (held_in (drop (suc n) packets)))
  tried = so_far ∙ ap (λ l. find_held program w (held_in (take n packets)) (held_in l)) (stands_at packets n packet there).later

  -- it is the one
  pub finds_here : first ≡ true → IsFoundAt packets (find_held program w [] (held_in packets)) (Some n)
  finds_here is = (
    packet,
    there,
    tried
        ∙ ap (λ b. if b then Some (held_of packet, held_in (take n packets) ++ held_in (drop (suc n) packets)) else find_held program w (held_in (take n packets) ++ held_of packet ∷ []) (held_in (drop (suc n) packets))) is
        ∙ ap (λ l. Some (held_of packet, l)) (sym (held_then (take n packets) (drop (suc n) packets))),
  )

  -- it is not
  pub finds_later : first ≡ false → FindsFrom program w packets (suc n)
  finds_later is =
      tried
      ∙ ap (λ b. if b then Some (held_of packet, held_in (take n packets) ++ held_in (drop (suc n) packets)) else find_held program w (held_in (take n packets) ++ held_of packet ∷ []) (held_in (drop (suc n) packets))) is
      ∙ ap (λ l. find_held program w l (held_in (drop (suc n) packets))) (sym (held_then (take n packets) (packet ∷ [])) ∙ ap held_in (sym (stands_at packets n packet there).earlier))

-- none of all is
pub finds_none : (program : Program) (w : World) (packets : List Packet) (n : ℕ) → length packets ≤ n → FindsFrom program w packets n → find_held program w [] (held_in packets) ≡ None
finds_none program w packets n past so_far = so_far ∙ ap (λ l. find_held program w (held_in (take n packets)) (held_in l)) (drop_past packets n past)
  where
    drop_past : (xs : List Packet) (n : ℕ) → length xs ≤ n → drop n xs ≡ []
    drop_past [] zero past = refl
    drop_past [] (suc n) past = refl
    drop_past (x ∷ xs) zero past = absurd (omega (arith, past))
    drop_past (x ∷ xs) (suc n) past = drop_past xs n (omega (arith, past))

-- THE SENDERS

pub among_at : (packets : List Packet) (sender n : ℕ) (packet : Packet) → n < length packets → packet ≡ get_or packets n packet → packet.sender ≡ sender
    → list_any (λ x. x.sender == sender) (held_in packets) ≡ true
among_at [] sender n packet inside is same = absurd (omega (arith, inside))
among_at (p ∷ packets) sender zero packet inside is same =
    let here : (p.sender == sender) ≡ true = eq-eqb p.sender sender (ap (λ (q : Packet). q.sender) (sym is) ∙ same) in
    ap (λ b. b || list_any (λ x. x.sender == sender) (held_in packets)) here
among_at (p ∷ packets) sender (suc n) packet inside is same =
    ap (λ b. (p.sender == sender) || b) (among_at packets sender n packet (omega (arith, inside)) is same) ∙ or_true (p.sender == sender)
  where
    or_true : (b : Bool) → (b || true) ≡ true
    or_true true = refl
    or_true false = refl

-- a packet at a place is one of those that are there
pub place_inside : (packets : List Packet) (n : ℕ) (packet : Packet) → slice_get packets n ≡ Some packet → n < length packets
place_inside [] n packet there = absurd (none-some packet there)
place_inside (p ∷ packets) zero packet there = omega arith
place_inside (p ∷ packets) (suc n) packet there = omega (arith, place_inside packets n packet there)

pub there_at : (packets : List Packet) (n : ℕ) (packet : Packet) → n < length packets → packet ≡ get_or packets n packet → slice_get packets n ≡ Some packet
there_at [] n packet inside is = absurd (omega (arith, inside))
there_at (p ∷ packets) zero packet inside is = ap Some (sym is)
there_at (p ∷ packets) (suc n) packet inside is = there_at packets n packet (omega (arith, inside)) is
