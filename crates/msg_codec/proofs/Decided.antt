-- Of each list of bytes it is decided whether they are a packet, and a packet has one message.
use Rattle.std.specs.Prelude.{◌≡◌, ◌⊎◌, ℕ, zero, suc, ℤ, Bool, true, false, ◌-◌, ◌+◌, ◌^◌, ◌<◌, ◌≤◌, FitsSigned, List, [], ◌∷◌, ◌++◌, drop, take, length, map, refl}
use Rattle.std.specs.Int.{w16, w32, w64, cast_signed, cast_unsigned, from_be_bytes, to_be_bytes}
use Rattle.std.specs.List.{All}
use Rattle.std.specs.declared.cmp.Ordering.{Ordering}
use Rattle.std.specs.declared.cmp.Ordering.TheVariants.{Less, Equal, Greater}
use Rattle.std.proofs.Common.{◌∙◌, ap, sym, subst, arith, append_assoc, bytes_eq, inl, inr, length-append, ltb, leb, eqb}
use Rattle.std.proofs.Math.Seq.{take-length}
use Rattle.std.proofs.lemmas.Bool.{eq-eqb, eqb-true, le-leb, leb-true, lt-ltb, ltb-true}
use Rattle.std.proofs.lemmas.Int.{to_z-of_z}
use Rattle.std.proofs.lemmas.List.{drop-append-le, drop_all, take-append-le}
use Rattle.std.proofs.lemmas.List.Elements.{All-cons, All-head, All-nil, All-tail}
use Rattle.std.proofs.lemmas.Nat.{from_be_bytes-to_be_bytes_2, from_be_bytes-to_be_bytes_4, from_be_bytes-to_be_bytes_8}
use Rattle.std.proofs.lemmas.Slice.Eq.{bytes_eq-Decides}
use mir.ValLaws as laws
use Rattle.da_values.specs.declared.val.Val.{Val}
use Rattle.da_values.specs.declared.value.Value.{Value}
use Rattle.da_values.specs.declared.value.Value.TheVariants as kept
use Rattle.da_values.specs.Narrow.{is_i64}
use Rattle.da_values.specs.Order.{val_cmp}
use Rattle.da_values.specs.Sets.{Ascends, Below}
use Rattle.da_values.specs.Str.{IsTextByte}
use Rattle.da_values.specs.Value.{val_of}
use Rattle.msg_codec.specs.Packets.{IsPacket, joined, truth_byte, value_bytes}
use Rattle.msg_codec.specs.Pieces.{Begins, BeginsEach, AfterLetter, IsHead}
use Rattle.msg_codec.proofs.CarriedLaws.{fits_of_i64, i64_of_fits}
use Rattle.msg_codec.proofs.PacketLaws.{head_of, packet_there, same_each, same_value, small_rest, value_after}
use Rattle.msg_codec.proofs.PieceLaws.{begins_after, after_begins, every_val, first_of, no_bytes, rest_of}
use Rattle.msg_codec.proofs.ReadLaws.{begins_first, most_values}

-- DECIDED

-- it never holds, or it holds
abbrev Decided : Type 0 → Type 0
Decided P = (P → ⊥) ⊎ P

-- by another statement that is as good
decided_by : {P Q : Type 0} → (P → Q) → (Q → P) → Decided P → Decided Q
decided_by there back (inl never) = inl (λ q. never (back q))
decided_by there back (inr p) = inr (there p)

decided_not : {P : Type 0} → Decided P → Decided (P → ⊥)
decided_not (inl never) = inr never
decided_not (inr p) = inl (λ never. never p)

decided_both : {P Q : Type 0} → Decided P → Decided Q → Decided (P × Q)
decided_both (inl never) second = inl (λ both. never both.0)
decided_both (inr p) (inl never) = inl (λ both. never both.1)
decided_both (inr p) (inr q) = inr (p, q)

-- where the second is decided by the first
decided_then : {P Q : Type 0} → Decided P → (P → Decided Q) → Decided (P × Q)
decided_then (inl never) next = inl (λ both. never both.0)
decided_then (inr p) next = decided_both (inr p) (next p)

decided_three : {P Q R : Type 0} → Decided P → Decided Q → Decided R → Decided (P × Q × R)
decided_three first second third = decided_by (λ all. (all.0, all.1.0, all.1.1)) (λ all. (all.0, (all.1, all.2))) (decided_both first (decided_both second third))

-- of one thing alone, where it can hold of no other
decided_at : {A : Type 0} (P : A → Type 0) (a : A) → ((x : A) → P x → a ≡ x) → Decided (P a) → Decided ((x : A) × P x)
decided_at P a only (inl never) = inl (λ found. never (subst P (sym (only found.0 found.1)) found.1))
decided_at P a only (inr p) = inr (a, p)

-- that Q holds too, of the one thing that P holds of
decided_also : {A : Type 0} (P Q : A → Type 0) → ((x y : A) → P x → P y → x ≡ y) → ((x : A) → Decided (Q x)) → Decided ((x : A) × P x) → Decided ((x : A) × (P x × Q x))
decided_also P Q same at (inl never) = inl (λ found. never (found.0, found.1.0))
decided_also P Q same at (inr (x, p)) =
    decided_at (λ y. P y × Q y) x (λ y found. same x y p found.0) (decided_both (inr p) (at x))

decided_true : (b : Bool) → Decided (b ≡ true)
decided_true false = inl (λ same. cc)
decided_true true = inr refl

-- NUMBERS, TEXTS AND ORDERS

same_number : (n m : ℕ) → Decided (n ≡ m)
same_number n m = decided_by (eqb-true n m) (eq-eqb n m) (decided_true (eqb n m))

is_under : (n m : ℕ) → Decided (n < m)
is_under n m = decided_by (ltb-true n m) (lt-ltb n m) (decided_true (ltb n m))

at_most : (n m : ℕ) → Decided (n ≤ m)
at_most n m = decided_by (leb-true n m) (le-leb n m) (decided_true (leb n m))

are_bytes : (bytes others : List ℕ) → Decided (bytes ≡ others)
are_bytes bytes others = let decides = bytes_eq-Decides bytes others in decided_by decides.0 decides.1 (decided_true (bytes_eq bytes others))

fits_signed : (number : ℤ) → Decided (FitsSigned w64 number)
fits_signed number = decided_by (fits_of_i64 number) (i64_of_fits number) (decided_true (is_i64 number))

is_truth : (byte : ℕ) → Decided ((truth : Bool) × (byte ≡ truth_byte truth))
is_truth byte = go (same_number byte 0) (same_number byte 1)
  where
    go : Decided (byte ≡ 0) → Decided (byte ≡ 1) → Decided ((truth : Bool) × (byte ≡ truth_byte truth))
    go (inr is) _ = inr (false, is)
    go (inl not_zero) (inr is) = inr (true, is)
    go (inl not_zero) (inl not_one) = inl (λ found. neither found.0 found.1)
      where
        neither : (truth : Bool) → byte ≡ truth_byte truth → ⊥
        neither false is = not_zero is
        neither true is = not_one is

is_text_byte : (byte : ℕ) → Decided (IsTextByte byte)
is_text_byte byte = decided_three (at_most 32 byte) (at_most byte 126) (decided_not (same_number byte 39))

is_text : (text : List ℕ) → Decided (All IsTextByte text)
is_text [] = inr (All-nil IsTextByte)
is_text (byte ∷ text) =
    decided_by (λ both. All-cons IsTextByte byte text both.0 both.1) (λ all. (All-head IsTextByte byte text all, All-tail IsTextByte byte text all)) (decided_both (is_text_byte byte) (is_text text))

is_before : (order : Ordering) → Decided (order ≡ Less)
is_before Less = inr refl
is_before Equal = inl (λ same. cc)
is_before Greater = inl (λ same. cc)

is_below : (x : Val) (ys : List Val) → Decided (Below val_cmp x ys)
is_below x [] = inr tt
is_below x (y ∷ ys) = decided_both (is_before (val_cmp x y)) (is_below x ys)

is_ascending : (xs : List Val) → Decided (Ascends val_cmp xs)
is_ascending [] = inr tt
is_ascending (x ∷ xs) = decided_both (is_below x xs) (is_ascending xs)

-- WHAT STANDS BEHIND A LETTER

-- the value at the front, and the rest
abbrev ValueAt : ℕ → List ℕ → Type 0
ValueAt depth bytes = (found : Val × List ℕ) × Begins depth found.0 bytes found.1

-- so many values at the front, and the rest
abbrev ValuesAt : ℕ → ℕ → List ℕ → Type 0
ValuesAt depth count bytes = (found : List Val × List ℕ) × BeginsEach depth count found.0 bytes found.1

-- what is decided of a value at the front of few enough bytes
abbrev AtFront : ℕ → Type 0
AtFront depth = (bytes : List ℕ) → length bytes ≤ 60000 → Decided (ValueAt depth bytes)

module _ (depth letter : ℕ) (bytes : List ℕ) where
  -- what is kept in a value of one kind after the letter, and the rest
  abbrev Of : {A : Type 0} → (A → Value) → Type 0
  Of {A} kind = (found : A × List ℕ) × AfterLetter depth (kind found.0) letter bytes found.1

  of_integer : Decided (Of kept.Int)
  of_integer =
      decided_at (λ found. AfterLetter depth (kept.Int found.0) letter bytes found.1) (cast_signed w64 (from_be_bytes w64 (take 8 bytes)), drop 8 bytes)
      (λ found behind. only found.0 found.1 behind.1 behind.2)
      (decided_three (same_number letter 105) (fits_signed _) (are_bytes bytes _))
    where
      only : (number : ℤ) (rest : List ℕ) → FitsSigned w64 number → bytes ≡ to_be_bytes w64 (cast_unsigned w64 number) ++ rest
          → ◌≡◌ {A = ℤ × List ℕ} (cast_signed w64 (from_be_bytes w64 (take 8 bytes)), drop 8 bytes) (number, rest)
      only number rest fits is =
          let written = ap (λ b. from_be_bytes w64 (take 8 b)) is ∙ from_be_bytes-to_be_bytes_8 (cast_unsigned w64 number) (laws.of_z_fits w64 number fits).fits in
          let same = ap (cast_signed w64) written ∙ to_z-of_z w64 number fits in
          (λ i. (same i, drop 8 (is i)))

  of_truth : Decided (Of kept.Bool)
  of_truth = go bytes
    where
      go : (front : List ℕ) → Decided ((found : Bool × List ℕ) × ((letter ≡ 98) × (front ≡ truth_byte found.0 ∷ found.1)))
      go [] = inl (λ found. omega (arith, ap length found.1.1))
      go (byte ∷ rest) = decided_by
          (λ all. ((all.0.0, rest), (all.1, ap (λ b. b ∷ rest) all.0.1)))
          (λ found. ((found.0.0, first_of byte (truth_byte found.0.0) rest found.0.1 found.1.1), found.1.0))
          (decided_both (is_truth byte) (same_number letter 98))

  of_process : Decided (Of kept.Proc)
  of_process =
      decided_at (λ found. AfterLetter depth (kept.Proc found.0) letter bytes found.1) (from_be_bytes w16 (take 2 bytes), drop 2 bytes)
      (λ found behind. only found.0 found.1 behind.2 behind.3)
      (decided_by (λ all. (all.0, all.1.0, all.1.1, all.1.2)) (λ all. (all.0, (all.1, all.2, all.3)))
      (decided_both (same_number letter 112) (decided_three (is_under 0 _) (is_under _ (2 ^ 16)) (are_bytes bytes _))))
    where
      only : (process : ℕ) (rest : List ℕ) → process < 2 ^ 16 → bytes ≡ to_be_bytes w16 process ++ rest
          → ◌≡◌ {A = ℕ × List ℕ} (from_be_bytes w16 (take 2 bytes), drop 2 bytes) (process, rest)
      only process rest fits is =
          let same = ap (λ b. from_be_bytes w16 (take 2 b)) is ∙ from_be_bytes-to_be_bytes_2 process fits in
          (λ i. (same i, drop 2 (is i)))

  of_text : length bytes ≤ 60000 → Decided (Of kept.Text)
  of_text small =
      decided_at (λ found. AfterLetter depth (kept.Text found.0) letter bytes found.1) (take size front, drop size front)
      (λ found behind. only found.0 found.1 behind.2)
      (decided_three (same_number letter 115) (is_text (take size front)) (are_bytes bytes _))
    where
      size : ℕ
      size = from_be_bytes w16 (take 2 bytes)

      front : List ℕ
      front = drop 2 bytes

      only : (text rest : List ℕ) → bytes ≡ to_be_bytes w16 (length text) ++ (text ++ rest)
          → ◌≡◌ {A = List ℕ × List ℕ} (take size front, drop size front) (text, rest)
      only text rest is =
          let sizes : length bytes ≡ 2 + (length text + length rest) = ap length is ∙ omega (arith, length-append text rest) in
          let fits : length text < 2 ^ 16 = omega (arith, sizes, small) in
          let same : size ≡ length text = ap (λ b. from_be_bytes w16 (take 2 b)) is ∙ from_be_bytes-to_be_bytes_2 (length text) fits in
          let behind : front ≡ text ++ rest = ap (drop 2) is in
          let texts = (λ i. take (same i) (behind i)) ∙ take-append-le (length text) text rest (omega arith) ∙ take-length text in
          let rests = (λ i. drop (same i) (behind i)) ∙ drop-append-le (length text) text rest (omega arith) ∙ ap (λ none. none ++ rest) (drop_all (length text) text (omega arith)) in
          (λ i. (texts i, rests i))

  -- by what is decided of the values that stand one level further in
  module _ (small : length bytes ≤ 60000) (inside : (count : ℕ) (front : List ℕ) → 0 < depth → length front ≤ 60000 → Decided (ValuesAt (depth - 1) count front)) where
    of_tuple : Decided (Of kept.Tuple)
    of_tuple = go bytes small
      where
        go : (bytes : List ℕ) → length bytes ≤ 60000 → Decided ((found : List Val × List ℕ) × AfterLetter depth (kept.Tuple found.0) letter bytes found.1)
        go [] small = inl (λ found. omega (arith, ap length found.1.3))
        go (count ∷ front) small = decided_by there back
            (decided_three (same_number letter 116) (at_most count 255) (decided_then (is_under 0 depth) (λ some. inside count front some (omega (arith, small)))))
          where
            there : (letter ≡ 116) × (count ≤ 255) × ((0 < depth) × ValuesAt (depth - 1) count front) → (found : List Val × List ℕ) × AfterLetter depth (kept.Tuple found.0) letter (count ∷ front) found.1
            there all = let each = all.2.1.1 in
                (all.2.1.0, (all.0, omega (arith, all.1, each.counted), (all.2.0, each.carried), (λ i. sym each.counted i ∷ each.is i)))

            back : (found : List Val × List ℕ) × AfterLetter depth (kept.Tuple found.0) letter (count ∷ front) found.1 → (letter ≡ 116) × (count ≤ 255) × ((0 < depth) × ValuesAt (depth - 1) count front)
            back found = let behind = found.1 in
                let counted = first_of _ _ _ _ behind.3 in
                (behind.0, omega (arith, behind.1, counted), (behind.2.0, (found.0, record { carried = behind.2.1; counted = sym counted; is = rest_of _ _ _ _ behind.3 })))

    -- a set by its count and what follows that
    abbrev SetBy : ℕ → List ℕ → Type 0
    SetBy count front =
        ((letter ≡ 83) × (bytes ≡ to_be_bytes w32 count ++ front))
        × ((0 < depth) × ((found : List Val × List ℕ) × (BeginsEach (depth - 1) count found.0 front found.1 × Ascends val_cmp found.0)))

    of_set : Decided (Of kept.Set)
    of_set = decided_by there back
        (decided_then (decided_both (same_number letter 83) (are_bytes bytes (to_be_bytes w32 count ++ front)))
        (λ read. decided_then (is_under 0 depth) (λ some.
        let fewer : length front ≤ 60000 = omega (arith, ap length read.1, small) in
        decided_also (λ found. BeginsEach (depth - 1) count found.0 front found.1) (λ found. Ascends val_cmp found.0)
        (λ one two each each'. let same = same_each (depth - 1) count (same_value (depth - 1)) one.0 two.0 front one.1 two.1 fewer each each' in (λ i. (same.0 i, same.1 i)))
        (λ found. is_ascending found.0) (inside count front some fewer))))
      where
        count : ℕ
        count = from_be_bytes w32 (take 4 bytes)

        front : List ℕ
        front = drop 4 bytes

        there : SetBy count front → Of kept.Set
        there all = let each = all.1.1.1.0 in (
          all.1.1.0,
          (
            all.0.0,
            all.1.1.1.1,
            (all.1.0, each.carried),
            all.0.1 ∙ (λ i. to_be_bytes w32 (sym each.counted i) ++ each.is i),
          ),
        )

        back : Of kept.Set → SetBy count front
        back found =
            let elements = found.0.0 in
            let rest = found.0.1 in
            let is = found.1.3 in
            let sizes : length bytes ≡ 4 + (length (joined (map value_bytes elements)) + length rest) = ap length is ∙ omega (arith, length-append (joined (map value_bytes elements)) rest) in
            let fits : length elements < 2 ^ 32 = omega (arith, sizes, small, most_values elements) in
            let counted : count ≡ length elements = ap (λ b. from_be_bytes w32 (take 4 b)) is ∙ from_be_bytes-to_be_bytes_4 (length elements) fits in
            let behind : front ≡ joined (map value_bytes elements) ++ rest = ap (drop 4) is in (
              (found.1.0, is ∙ (λ i. to_be_bytes w32 (sym counted i) ++ sym behind i)),
              (found.1.2.0, (found.0, (record { carried = found.1.2.1; counted = sym counted; is = behind }, found.1.1))),
            )

    of_any : Decided ((found : Value × List ℕ) × AfterLetter depth found.0 letter bytes found.1)
    of_any = go of_integer of_truth (of_text small) of_process of_tuple of_set
      where
        go : Decided (Of kept.Int) → Decided (Of kept.Bool) → Decided (Of kept.Text) → Decided (Of kept.Proc) → Decided (Of kept.Tuple) → Decided (Of kept.Set)
            → Decided ((found : Value × List ℕ) × AfterLetter depth found.0 letter bytes found.1)
        go (inr found) _ _ _ _ _ = inr ((kept.Int found.0.0, found.0.1), found.1)
        go (inl integer) (inr found) _ _ _ _ = inr ((kept.Bool found.0.0, found.0.1), found.1)
        go (inl integer) (inl truth) (inr found) _ _ _ = inr ((kept.Text found.0.0, found.0.1), found.1)
        go (inl integer) (inl truth) (inl text) (inr found) _ _ = inr ((kept.Proc found.0.0, found.0.1), found.1)
        go (inl integer) (inl truth) (inl text) (inl process) (inr found) _ = inr ((kept.Tuple found.0.0, found.0.1), found.1)
        go (inl integer) (inl truth) (inl text) (inl process) (inl tuple) (inr found) = inr ((kept.Set found.0.0, found.0.1), found.1)
        go (inl integer) (inl truth) (inl text) (inl process) (inl tuple) (inl set) = inl (λ found. never found.0.0 found.0.1 found.1)
          where
            never : (v : Value) (rest : List ℕ) → AfterLetter depth v letter bytes rest → ⊥
            never (kept.Int number) rest behind = integer ((number, rest), behind)
            never (kept.Bool b) rest behind = truth ((b, rest), behind)
            never (kept.Text t) rest behind = text ((t, rest), behind)
            never (kept.Proc p) rest behind = process ((p, rest), behind)
            never (kept.Tuple parts) rest behind = tuple ((parts, rest), behind)
            never (kept.Set elements) rest behind = set ((elements, rest), behind)

-- WHAT STANDS AT THE FRONT

-- a value and so many others, by what is decided of these after it
one_more : (depth count : ℕ) (bytes : List ℕ) → length bytes ≤ 60000 → ((left : List ℕ) → length left ≤ 60000 → Decided (ValuesAt depth count left)) → Decided (ValueAt depth bytes) → Decided (ValuesAt depth (suc count) bytes)
one_more depth count bytes small go_on (inl never) = inl (λ found. go found.0.0 found.0.1 found.1)
  where
    go : (xs : List Val) (rest : List ℕ) → BeginsEach depth (suc count) xs bytes rest → ⊥
    go [] rest each = omega (arith, each.counted)
    go (y ∷ ys) rest each = never ((y, joined (map value_bytes ys) ++ rest), begins_first depth (suc count) y ys bytes rest each)
one_more depth count bytes small go_on (inr one) = others (go_on left (omega (arith, ap length here.is, length-append (value_bytes x) left, small)))
  where
    x : Val
    x = one.0.0

    left : List ℕ
    left = one.0.1

    here : Begins depth x bytes left
    here = one.1

    others : Decided (ValuesAt depth count left) → Decided (ValuesAt depth (suc count) bytes)
    others (inl never) = inl (λ found. go found.0.0 found.0.1 found.1)
      where
        go : (xs : List Val) (rest : List ℕ) → BeginsEach depth (suc count) xs bytes rest → ⊥
        go [] rest each = omega (arith, each.counted)
        go (y ∷ ys) rest each =
            let same = same_value depth x y bytes left (joined (map value_bytes ys) ++ rest) small here (begins_first depth (suc count) y ys bytes rest each) in
            never ((ys, rest), record { carried = each.carried.1; counted = omega (arith, each.counted); is = same.1 })
    others (inr found) =
        let each = found.1 in
        let xs = found.0.0 in
        inr (
          (x ∷ xs, found.0.1),
          record {
            carried = (here.carries, each.carried);
            counted = omega (arith, each.counted);
            is = here.is ∙ ap (λ t. value_bytes x ++ t) each.is ∙ sym (append_assoc (value_bytes x) (joined (map value_bytes xs)) found.0.1);
          },
        )

-- the recursion on the count stops at the first value that fails
several : (depth : ℕ) → AtFront depth → (count : ℕ) (bytes : List ℕ) → length bytes ≤ 60000 → Decided (ValuesAt depth count bytes)
several depth at zero bytes small = inr (([], bytes), record { carried = tt; counted = refl; is = refl })
several depth at (suc count) bytes small = one_more depth count bytes small (several depth at count) (at bytes small)

value_step : (depth : ℕ) → (0 < depth → AtFront (depth - 1)) → AtFront depth
value_step depth below [] small = inl (λ found. no_bytes depth found.0.0 [] found.0.1 refl found.1)
value_step depth below (letter ∷ front) small =
    decided_by (λ found. ((val_of found.0.0, found.0.1), after_begins depth front found.0.1 found.0.0 letter found.1)) back
    (of_any depth letter front (omega (arith, small)) (λ count bytes some fewer. several (depth - 1) (below some) count bytes fewer))
  where
    back : ValueAt depth (letter ∷ front) → (found : Value × List ℕ) × AfterLetter depth found.0 letter front found.1
    back found =
        let v = every_val found.0.0 in
        ((v.0, found.0.1), begins_after depth front found.0.1 v.0 letter (subst (λ x. Begins depth x (letter ∷ front) found.0.1) (sym v.1) found.1))

value_front : (depth : ℕ) → AtFront depth
value_front zero = value_step zero (λ some. absurd (omega (arith, some)))
value_front (suc depth) = value_step (suc depth) (λ some. subst AtFront (omega arith) (value_front depth))

-- PACKETS

head_front : (bytes : List ℕ) → Decided ((head : ℕ × ℕ × List ℕ) × IsHead head.0 head.1 bytes head.2)
head_front bytes =
    decided_at (λ head. IsHead head.0 head.1 bytes head.2) (sender, clock, drop 13 bytes) (λ head there. only head.0 head.1 head.2 there)
    (decided_by (λ all. record { sender_fits = all.0; clock_fits = all.1; is = all.2 }) (λ head. (head.sender_fits, head.clock_fits, head.is))
    (decided_three (is_under sender (2 ^ 16)) (is_under clock (2 ^ 63)) (are_bytes bytes _)))
  where
    sender : ℕ
    sender = from_be_bytes w16 (take 2 (drop 3 bytes))

    clock : ℕ
    clock = from_be_bytes w64 (take 8 (drop 5 bytes))

    only : (s c : ℕ) (rest : List ℕ) → IsHead s c bytes rest → ◌≡◌ {A = ℕ × ℕ × List ℕ} (sender, clock, drop 13 bytes) (s, c, rest)
    only s c rest head =
        let senders = ap (λ b. from_be_bytes w16 (take 2 (drop 3 b))) head.is ∙ from_be_bytes-to_be_bytes_2 s head.sender_fits in
        let clocks = ap (λ b. from_be_bytes w64 (take 8 (drop 5 b))) head.is ∙ from_be_bytes-to_be_bytes_8 c (omega (arith, head.clock_fits)) in
        (λ i. (senders i, clocks i, drop 13 (head.is i)))

-- one packet has one message
pub packet_once : {s c s' c' : ℕ} {v v' : Val} {bytes : List ℕ} → IsPacket s c v bytes → IsPacket s' c' v' bytes → (s ≡ s') × (c ≡ c') × (v ≡ v')
packet_once {s} {c} {s'} {c'} {v} {v'} {bytes} one two =
    let head = head_of s c v bytes one in
    let behind = value_after s c bytes (value_bytes v) head s' c' v' two in
    let here : Begins 32 v (value_bytes v) [] = (value_after s c bytes (value_bytes v) head s c v one).2 in
    (behind.0, behind.1, (same_value 32 v v' (value_bytes v) [] [] (small_rest s c bytes (value_bytes v) head one.small) here behind.2).0)

-- a message whose packet these bytes are
abbrev PacketOf : List ℕ → Type 0
PacketOf bytes = (sender : ℕ) × (clock : ℕ) × (v : Val) × IsPacket sender clock v bytes

module _ (bytes : List ℕ) (small : length bytes ≤ 60000) where
  after_head : (s c : ℕ) (rest : List ℕ) → IsHead s c bytes rest → Decided (PacketOf bytes)
  after_head s c rest head = value (value_front 32 rest fewer)
    where
      fewer : length rest ≤ 60000
      fewer = small_rest s c bytes rest head small

      whole : (x : Val) (left : List ℕ) → Begins 32 x rest left → Decided (left ≡ []) → Decided (PacketOf bytes)
      whole x left begins (inr end) = inr (s, c, x, packet_there s c bytes rest head x left small begins end)
      whole x left begins (inl more) = inl (λ packet.
          let meant = value_after s c bytes rest head packet.0 packet.1 packet.2 packet.3 in
          more (same_value 32 x packet.2 rest left [] fewer begins meant.2).1)

      value : Decided (ValueAt 32 rest) → Decided (PacketOf bytes)
      value (inl never) = inl (λ packet. never ((packet.2, []), (value_after s c bytes rest head packet.0 packet.1 packet.2 packet.3).2))
      value (inr found) = whole found.0.0 found.0.1 found.1 (are_bytes found.0.1 [])

  small_packet : Decided (PacketOf bytes)
  small_packet = go (head_front bytes)
    where
      go : Decided ((head : ℕ × ℕ × List ℕ) × IsHead head.0 head.1 bytes head.2) → Decided (PacketOf bytes)
      go (inl never) = inl (λ packet. never ((packet.0, packet.1, value_bytes packet.2), head_of packet.0 packet.1 packet.2 bytes packet.3))
      go (inr found) = after_head found.0.0 found.0.1 found.0.2 found.1

packet_decided : (bytes : List ℕ) → Decided (PacketOf bytes)
packet_decided bytes = go (at_most (length bytes) 60000)
  where
    go : Decided (length bytes ≤ 60000) → Decided (PacketOf bytes)
    go (inl large) = inl (λ packet. large packet.3.small)
    go (inr small) = small_packet bytes small

-- no message has these bytes as its packet, or here is the one that has
pub packet_or_none : (bytes : List ℕ) → ((sender clock : ℕ) (v : Val) → IsPacket sender clock v bytes → ⊥) ⊎ ((sender : ℕ) × (clock : ℕ) × (v : Val) × IsPacket sender clock v bytes)
packet_or_none bytes = go (packet_decided bytes)
  where
    go : Decided (PacketOf bytes) → ((sender clock : ℕ) (v : Val) → IsPacket sender clock v bytes → ⊥) ⊎ ((sender : ℕ) × (clock : ℕ) × (v : Val) × IsPacket sender clock v bytes)
    go (inl never) = inl (λ sender clock v packet. never (sender, clock, v, packet))
    go (inr found) = inr found
