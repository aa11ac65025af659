-- What a packet brings with it, and that no other packet begins as it does.
use Rattle.std.specs.Prelude.{◌≡◌, ℕ, zero, suc, Bool, true, false, ◌-◌, ◌+◌, ◌^◌, ◌<◌, ◌≤◌, List, [], ◌∷◌, ◌++◌, drop, length, map, Result, Ok, Err, IfOk, IsErrOf, MatchResult, refl}
use Rattle.std.specs.Int.{w16, w64, cast_unsigned, to_be_bytes}
use Rattle.std.proofs.Common.{◌∙◌, ap, sym, subst, arith, append-nil, length-append}
use Rattle.std.proofs.Math.Seq.{take-length}
use Rattle.std.proofs.lemmas.Int.{to_z-of_z}
use Rattle.std.proofs.lemmas.List.{drop-append-le, drop_all, take-append-le}
use mir.ValLaws as laws
use Rattle.da_values.specs.declared.val.Val.{Val}
use Rattle.da_values.specs.declared.value.Value.{Value}
use Rattle.da_values.specs.declared.value.Value.TheVariants as kept
use Rattle.da_values.specs.Value.{val_of}
use Rattle.msg_codec.specs.declared.packet.CodecFault.{CodecFault}
use Rattle.msg_codec.specs.declared.packet.CodecFault.TheVariants.{Memory, NotAPacket}
use Rattle.msg_codec.specs.declared.packet.Packet.{Packet}
use Rattle.msg_codec.specs.Packets.{IsPacket, joined, mark, truth_byte, value_bytes}
use Rattle.msg_codec.specs.Pieces.{Begins, BeginsEach, AfterLetter, IsHead}
use Rattle.msg_codec.proofs.CarriedLaws.{asked, packet_carries}
use Rattle.msg_codec.proofs.Numbers.{same_short, same_long}
use Rattle.msg_codec.proofs.PieceLaws.{begins_after, every_val, first_of, no_bytes, rest_of}
use Rattle.msg_codec.proofs.ReadLaws.{begins_first, integer_only, most_values, set_only, text_only, tuple_only}

-- THE HEAD

pub same_head : (s c s' c' : ℕ) (bytes r r' : List ℕ) → c < 2 ^ 64 → s < 2 ^ 16 → bytes ≡ mark ++ to_be_bytes w16 s ++ to_be_bytes w64 c ++ r → IsHead s' c' bytes r' → (s ≡ s') × (c ≡ c') × (r ≡ r')
same_head s c s' c' bytes r r' fits few is head =
    let senders = same_short s s' (to_be_bytes w64 c ++ r) (to_be_bytes w64 c' ++ r') few head.sender_fits (ap (drop 3) (sym is ∙ head.is)) in
    let clocks = same_long c c' r r' fits (omega (arith, head.clock_fits)) senders.1 in
    (senders.0, clocks.0, clocks.1)

-- a time stands after the sender
pub time_after : (s s' c' : ℕ) (bytes front back rest : List ℕ) → bytes ≡ mark ++ front → front ≡ to_be_bytes w16 s ++ back → IsHead s' c' bytes rest → back ≡ to_be_bytes w64 c' ++ rest
time_after s s' c' bytes front back rest marked read head = ap (drop 5) (sym (marked ∙ ap (λ t. mark ++ t) read) ∙ head.is)

-- a time that is too great has no head
pub no_head : (s c : ℕ) (bytes r : List ℕ) → c < 2 ^ 64 → s < 2 ^ 16 → 2 ^ 63 ≤ c → bytes ≡ mark ++ to_be_bytes w16 s ++ to_be_bytes w64 c ++ r → (s' c' : ℕ) (r' : List ℕ) → IsHead s' c' bytes r' → ⊥
no_head s c bytes r fits few great is s' c' r' head = let same = same_head s c s' c' bytes r r' fits few is head in omega (arith, same.1, great, head.clock_fits)

pub head_of : (s c : ℕ) (v : Val) (bytes : List ℕ) → IsPacket s c v bytes → IsHead s c bytes (value_bytes v)
head_of s c v bytes packet = record { sender_fits = packet.sender_fits; clock_fits = packet.clock_fits; is = packet.is }

pub small_rest : (s c : ℕ) (bytes rest : List ℕ) → IsHead s c bytes rest → length bytes ≤ 60000 → length rest ≤ 60000
small_rest s c bytes rest head small = omega (arith, ap length head.is, small)

module _ (s c : ℕ) (bytes rest : List ℕ) (head : IsHead s c bytes rest) where
  -- the value of a packet stands after its head
  pub value_after : (s' c' : ℕ) (v : Val) → IsPacket s' c' v bytes → (s ≡ s') × (c ≡ c') × Begins 32 v rest []
  value_after s' c' v packet =
      let same = same_head s c s' c' bytes rest (value_bytes v) (omega (arith, head.clock_fits)) head.sender_fits head.is (head_of s' c' v bytes packet) in
      (same.0, same.1, record { carries = packet_carries s' c' v bytes packet; is = same.2 ∙ sym (append-nil (value_bytes v)) })

  pub packet_there : (x : Val) (left : List ℕ) → length bytes ≤ 60000 → Begins 32 x rest left → left ≡ [] → IsPacket s c x bytes
  packet_there x left small begins end = let value = asked x 32 begins.carries in record {
    sender_fits = head.sender_fits;
    clock_fits = head.clock_fits;
    proper = value.proper;
    narrow = value.narrow;
    few_parts = value.few_parts;
    nested = value.nested;
    small = small;
    is = head.is ∙ ap (λ t. mark ++ to_be_bytes w16 s ++ to_be_bytes w64 c ++ t) (begins.is ∙ ap (λ t. value_bytes x ++ t) end ∙ append-nil (value_bytes x));
  }

  pub packet_failed : (P : Type 0) → ((y : Val) (t : List ℕ) → Begins 32 y rest t → P) → (s' c' : ℕ) (v : Val) → IsPacket s' c' v bytes → P
  packet_failed P fails s' c' v packet = fails v [] (value_after s' c' v packet).2

  pub packet_only : (x : Val) (left : List ℕ) → ((y : Val) (t : List ℕ) → Begins 32 y rest t → (x ≡ y) × (left ≡ t)) → (s' c' : ℕ) (v : Val) → IsPacket s' c' v bytes → (s ≡ s') × (c ≡ c') × (x ≡ v) × (left ≡ [])
  packet_only x left only s' c' v packet =
      let behind = value_after s' c' v packet in
      let found = only v [] behind.2 in
      (behind.0, behind.1, found.0, found.1)

pub none_left : (bytes : List ℕ) → length bytes ≤ 0 → bytes ≡ []
none_left [] few = refl
none_left (b ∷ bs) few = absurd (omega (arith, few))

-- what is refused is no packet
pub none_of : (bytes : List ℕ) (result : Result Packet CodecFault)
    → ((s c : ℕ) (v : Val) → IsPacket s c v bytes → MatchResult result (λ packet. (packet.sender ≡ s) × (packet.clock ≡ c) × (val_of packet.value ≡ v)) (λ fault. fault ≡ Memory))
    → IsErrOf result NotAPacket → (s c : ℕ) (v : Val) → IsPacket s c v bytes → ⊥
none_of bytes (Ok found) only refused s c v packet = cc
none_of bytes (Err NotAPacket) only refused s c v packet = let said = only s c v packet in cc
none_of bytes (Err Memory) only refused s c v packet = cc

-- NO VALUE BEGINS ANOTHER

abbrev pub SameAt : ℕ → Type 0
SameAt depth = (x y : Val) (bytes r s : List ℕ) → length bytes ≤ 60000 → Begins depth x bytes r → Begins depth y bytes s → (x ≡ y) × (r ≡ s)

pub same_each : (depth n : ℕ) → SameAt depth → (xs ys : List Val) (bytes r s : List ℕ) → length bytes ≤ 60000 → BeginsEach depth n xs bytes r → BeginsEach depth n ys bytes s → (xs ≡ ys) × (r ≡ s)
same_each depth n same [] [] bytes r s small one two = (refl, sym one.is ∙ two.is)
same_each depth n same [] (y ∷ ys) bytes r s small one two = absurd (omega (arith, one.counted, two.counted))
same_each depth n same (x ∷ xs) [] bytes r s small one two = absurd (omega (arith, one.counted, two.counted))
same_each depth n same (x ∷ xs) (y ∷ ys) bytes r s small one two =
    let first = begins_first depth n x xs bytes r one in
    let found = same x y bytes (joined (map value_bytes xs) ++ r) (joined (map value_bytes ys) ++ s) small first (begins_first depth n y ys bytes s two) in
    let others =
    same_each depth (n - 1) same xs ys (joined (map value_bytes xs) ++ r) r s (omega (arith, ap length first.is, length-append (value_bytes x) (joined (map value_bytes xs) ++ r), small))
    (record { carried = one.carried.1; counted = omega (arith, one.counted); is = refl }) (record { carried = two.carried.1; counted = omega (arith, two.counted); is = found.1 }) in
    ((λ i. found.0 i ∷ others.0 i), others.1)

truth_same : (a b : Bool) → truth_byte a ≡ truth_byte b → a ≡ b
truth_same false false same = refl
truth_same true true same = refl
truth_same false true same = absurd (omega (arith, same))
truth_same true false same = absurd (omega (arith, same))

truth_only : (depth : ℕ) (truth : Bool) (bytes left : List ℕ) → bytes ≡ truth_byte truth ∷ left → (w : Value) (rest : List ℕ) → AfterLetter depth w 98 bytes rest → (kept.Bool truth ≡ w) × (left ≡ rest)
truth_only depth truth bytes left read (kept.Bool other) rest (first, there) =
    let same = sym read ∙ there in
    (ap kept.Bool (truth_same truth other (first_of _ _ _ _ same)), rest_of _ _ _ _ same)
truth_only depth truth bytes left read (kept.Int number) rest there = absurd (omega (arith, there.0))
truth_only depth truth bytes left read (kept.Text text) rest there = absurd (omega (arith, there.0))
truth_only depth truth bytes left read (kept.Proc process) rest there = absurd (omega (arith, there.0))
truth_only depth truth bytes left read (kept.Tuple parts) rest there = absurd (omega (arith, there.0))
truth_only depth truth bytes left read (kept.Set elements) rest there = absurd (omega (arith, there.0))

process_only : (depth process : ℕ) (bytes left : List ℕ) → process < 2 ^ 16 → bytes ≡ to_be_bytes w16 process ++ left → (w : Value) (rest : List ℕ) → AfterLetter depth w 112 bytes rest → (kept.Proc process ≡ w) × (left ≡ rest)
process_only depth process bytes left fits read (kept.Proc other) rest (first, some, few, there) =
    let same = same_short process other left rest fits few (sym read ∙ there) in
    (ap kept.Proc same.0, same.1)
process_only depth process bytes left fits read (kept.Int number) rest there = absurd (omega (arith, there.0))
process_only depth process bytes left fits read (kept.Bool truth) rest there = absurd (omega (arith, there.0))
process_only depth process bytes left fits read (kept.Text text) rest there = absurd (omega (arith, there.0))
process_only depth process bytes left fits read (kept.Tuple parts) rest there = absurd (omega (arith, there.0))
process_only depth process bytes left fits read (kept.Set elements) rest there = absurd (omega (arith, there.0))

-- by what stands inside, one level further in
module _ (depth : ℕ) (below : 0 < depth → SameAt (depth - 1)) (front r s : List ℕ) (small : length front ≤ 60000) where
  same_kept : (v w : Value) (letter : ℕ) → AfterLetter depth v letter front r → AfterLetter depth w letter front s → (v ≡ w) × (r ≡ s)
  same_kept (kept.Int number) w letter (first, fits, is) two =
      integer_only (cast_unsigned w64 number) number front r (laws.of_z_fits w64 number fits).fits is (sym (to_z-of_z w64 number fits)) depth w s (subst (λ l. AfterLetter depth w l front s) first two)
  same_kept (kept.Bool truth) w letter (first, is) two = truth_only depth truth front r is w s (subst (λ l. AfterLetter depth w l front s) first two)
  same_kept (kept.Text text) w letter (first, allowed, is) two =
      let sizes : length front ≡ 2 + (length text + length r) = ap length is ∙ omega (arith, length-append text r) in
      let found =
      text_only (length text) front (text ++ r) text r small (omega (arith, sizes, small)) is (sym (take-append-le (length text) text r (omega arith) ∙ take-length text))
      (sym (drop-append-le (length text) text r (omega arith) ∙ ap (λ none. none ++ r) (drop_all (length text) text (omega arith)))) depth w s (subst (λ l. AfterLetter depth w l front s) first two) in
      (found.0, found.1)
  same_kept (kept.Proc process) w letter (first, some, fits, is) two = process_only depth process front r fits is w s (subst (λ l. AfterLetter depth w l front s) first two)
  same_kept (kept.Tuple parts) w letter (first, few, (some, each), is) two =
      let meant = tuple_only depth (length parts) front (joined (map value_bytes parts) ++ r) is w s (subst (λ l. AfterLetter depth w l front s) first two) in
      let sizes : length (joined (map value_bytes parts) ++ r) ≤ 60000 = omega (arith, ap length is, small) in
      let same = same_each (depth - 1) (length parts) (below some) parts meant.0 (joined (map value_bytes parts) ++ r) r s sizes (record { carried = each; counted = refl; is = refl }) meant.2 in
      (ap kept.Tuple same.0 ∙ meant.1, same.1)
  same_kept (kept.Set elements) w letter (first, ascends, (some, each), is) two =
      let sizes : length (joined (map value_bytes elements) ++ r) ≤ 60000 = omega (arith, ap length is, small) in
      let fits : length elements < 2 ^ 32 = omega (arith, most_values elements, length-append (joined (map value_bytes elements)) r, sizes) in
      let meant = set_only depth (length elements) front (joined (map value_bytes elements) ++ r) small fits is w s (subst (λ l. AfterLetter depth w l front s) first two) in
      let same = same_each (depth - 1) (length elements) (below some) elements meant.0 (joined (map value_bytes elements) ++ r) r s sizes (record { carried = each; counted = refl; is = refl }) meant.3 in
      (ap kept.Set same.0 ∙ meant.1, same.1)

same_step : (depth : ℕ) → (0 < depth → SameAt (depth - 1)) → SameAt depth
same_step depth below x y [] r s small one two = absurd (no_bytes depth x [] r refl one)
same_step depth below x y (letter ∷ front) r s small one two = go (every_val x) (every_val y)
  where
    go : (v : Value) × (val_of v ≡ x) → (w : Value) × (val_of w ≡ y) → (x ≡ y) × (r ≡ s)
    go (v, is_x) (w, is_y) =
        let behind_x = begins_after depth front r v letter (subst (λ z. Begins depth z (letter ∷ front) r) (sym is_x) one) in
        let behind_y = begins_after depth front s w letter (subst (λ z. Begins depth z (letter ∷ front) s) (sym is_y) two) in
        let same = same_kept depth below front r s (omega (arith, small)) v w letter behind_x behind_y in
        (sym is_x ∙ ap val_of same.0 ∙ is_y, same.1)

pub same_value : (depth : ℕ) → SameAt depth
same_value zero = same_step zero (λ some. absurd (omega (arith, some)))
same_value (suc depth) = same_step (suc depth) (λ some. subst SameAt (omega arith) (same_value depth))

-- no packet is the beginning of another one
pub nothing_more : (s c s' c' : ℕ) (x v : Val) (bytes more : List ℕ) → IsPacket s c x bytes → IsPacket s' c' v (bytes ++ more) → more ≡ []
nothing_more s c s' c' x v bytes more one two =
    let there : bytes ++ more ≡ mark ++ to_be_bytes w16 s ++ to_be_bytes w64 c ++ (value_bytes x ++ more) = ap (λ t. t ++ more) one.is in
    let head : IsHead s c (bytes ++ more) (value_bytes x ++ more) = record { sender_fits = one.sender_fits; clock_fits = one.clock_fits; is = there } in
    let behind = value_after s c (bytes ++ more) (value_bytes x ++ more) head s' c' v two in
    (same_value 32 x v (value_bytes x ++ more) more [] (small_rest s c (bytes ++ more) (value_bytes x ++ more) head two.small) (record { carries = packet_carries s c x bytes one; is = refl }) behind.2).1

pub whole_of : (bytes : List ℕ) (result : Result Packet CodecFault) → IfOk result (λ packet. IsPacket packet.sender packet.clock (val_of packet.value) bytes)
    → IfOk result (λ packet. (s c : ℕ) (v : Val) (more : List ℕ) → IsPacket s c v (bytes ++ more) → more ≡ [])
whole_of bytes (Ok packet) one = λ s c v more two. nothing_more packet.sender packet.clock s c (val_of packet.value) v bytes more one two
whole_of bytes (Err fault) one = tt
