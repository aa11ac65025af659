-- A value at the front of some bytes, by its letter and what stands after that.
use Rattle.std.specs.Prelude.{◌≡◌, ℕ, zero, suc, ◌<◌, List, [], ◌∷◌, ◌++◌, drop, length, slice_index_or, Result, Ok, Err, IfOk, MatchResult, refl}
use Rattle.std.specs.Borrow.{Bor}
use Rattle.std.specs.List.{AllByRecursion}
use Rattle.std.proofs.Common.{◌∙◌, ap, sym, subst, arith, length-append}
use Rattle.da_values.specs.declared.val.Val.{Val}
use Rattle.da_values.specs.declared.val.Val.TheOpen.{Val-F, Int, Bool as Truth, Text, Proc, Tuple, Set}
use Rattle.da_values.specs.declared.value.Value.{Value}
use Rattle.da_values.specs.declared.value.Value.TheVariants as kept
use Rattle.da_values.specs.Layer.{layer, out-val_of}
use Rattle.da_values.specs.Value.{val_of}
use Rattle.da_values.proofs.Induction.{val_induction}
use Rattle.msg_codec.specs.Packets.{value_bytes}
use Rattle.msg_codec.specs.Pieces.{AreInside, Begins, AfterLetter, Carries, CarriesLayer}
use Rattle.msg_codec.specs.declared.packet.CodecFault.{CodecFault}
use Rattle.msg_codec.specs.declared.packet.CodecFault.TheVariants.{Memory}
use Rattle.msg_codec.proofs.BytesAt.{bytes_at, value_bytes_of}

-- each value is that of a kept one
pub every_val : (x : Val) → (v : Value) × (val_of v ≡ x)
every_val =
    val_induction (λ x. (v : Value) × (val_of v ≡ x))
    (λ number. (kept.Int number, refl))
    (λ truth. (kept.Bool truth, refl))
    (λ text. (kept.Text text, refl))
    (λ process. (kept.Proc process, refl))
    (λ parts each. (kept.Tuple parts, refl))
    (λ elements each. (kept.Set elements, refl))

-- WHAT A PACKET CARRIES

module _ (F G : List Val → Type 0) (f : (xs : List Val) → F xs → G xs) where
  layer_from : (l : Val-F Val) → CarriesLayer F l → CarriesLayer G l
  layer_from (Int number) carried = carried
  layer_from (Truth truth) carried = carried
  layer_from (Text text) carried = carried
  layer_from (Proc process) carried = carried
  layer_from (Tuple parts) carried = (carried.0, f parts carried.1)
  layer_from (Set elements) carried = (carried.0, f elements carried.1)

pub carried_layer : (depth : ℕ) (v : Value) → Carries depth (val_of v) → CarriesLayer (AreInside depth) (layer v)
unfolding Carries
carried_layer zero v carries = layer_from _ _ (λ xs inside. absurd inside) (layer v) (subst (CarriesLayer (λ inside. ⊥)) (out-val_of v) carries)
carried_layer (suc depth) v carries =
    layer_from _ _ (λ xs inside. (omega arith, subst (λ n. AllByRecursion (Carries n) xs) (omega arith) inside)) (layer v) (subst (CarriesLayer (AllByRecursion (Carries depth))) (out-val_of v) carries)

pub layer_carried : (depth : ℕ) (v : Value) → CarriesLayer (AreInside depth) (layer v) → Carries depth (val_of v)
unfolding Carries
layer_carried zero v carried = subst (CarriesLayer (λ inside. ⊥)) (sym (out-val_of v)) (layer_from _ _ (λ xs inside. omega (arith, inside.0)) (layer v) carried)
layer_carried (suc depth) v carried =
    subst (CarriesLayer (AllByRecursion (Carries depth))) (sym (out-val_of v)) (layer_from _ _ (λ xs inside. subst (λ n. AllByRecursion (Carries n) xs) (omega arith) inside.1) (layer v) carried)

-- THE LETTER

pub first_of : (a b : ℕ) (s t : List ℕ) → a ∷ s ≡ b ∷ t → a ≡ b
first_of a b s t same = ap (λ bytes. slice_index_or bytes 0 0) same

pub rest_of : (a b : ℕ) (s t : List ℕ) → a ∷ s ≡ b ∷ t → s ≡ t
rest_of a b s t same = ap (drop 1) same

cons_of : (a b : ℕ) (s t : List ℕ) → a ≡ b → s ≡ t → a ∷ s ≡ b ∷ t
cons_of a b s t first rest i = first i ∷ rest i

module _ (depth : ℕ) (bytes rest : List ℕ) where
  after_of : (v : Value) (letter : ℕ) → CarriesLayer (AreInside depth) (layer v) → letter ∷ bytes ≡ bytes_at v ++ rest → AfterLetter depth v letter bytes rest
  after_of (kept.Int number) letter carried is = (first_of _ _ _ _ is, carried, rest_of _ _ _ _ is)
  after_of (kept.Bool truth) letter carried is = (first_of _ _ _ _ is, rest_of _ _ _ _ is)
  after_of (kept.Text text) letter carried is = (first_of _ _ _ _ is, carried, rest_of _ _ _ _ is)
  after_of (kept.Proc process) letter carried is = (first_of _ _ _ _ is, carried.0, carried.1, rest_of _ _ _ _ is)
  after_of (kept.Tuple parts) letter carried is = (first_of _ _ _ _ is, carried.0, carried.1, rest_of _ _ _ _ is)
  after_of (kept.Set elements) letter carried is = (first_of _ _ _ _ is, carried.0, carried.1, rest_of _ _ _ _ is)

  of_after : (v : Value) (letter : ℕ) → AfterLetter depth v letter bytes rest → CarriesLayer (AreInside depth) (layer v) × (letter ∷ bytes ≡ bytes_at v ++ rest)
  of_after (kept.Int number) letter (first, fits, is) = (fits, cons_of _ _ _ _ first is)
  of_after (kept.Bool truth) letter (first, is) = (tt, cons_of _ _ _ _ first is)
  of_after (kept.Text text) letter (first, allowed, is) = (allowed, cons_of _ _ _ _ first is)
  of_after (kept.Proc process) letter (first, some, fits, is) = ((some, fits), cons_of _ _ _ _ first is)
  of_after (kept.Tuple parts) letter (first, few, inside, is) = ((few, inside), cons_of _ _ _ _ first is)
  of_after (kept.Set elements) letter (first, ascends, inside, is) = ((ascends, inside), cons_of _ _ _ _ first is)

  pub begins_after : (v : Value) (letter : ℕ) → Begins depth (val_of v) (letter ∷ bytes) rest → AfterLetter depth v letter bytes rest
  begins_after v letter begins = after_of v letter (carried_layer depth v begins.carries) (begins.is ∙ ap (λ t. t ++ rest) (value_bytes_of v))

  pub after_begins : (v : Value) (letter : ℕ) → AfterLetter depth v letter bytes rest → Begins depth (val_of v) (letter ∷ bytes) rest
  after_begins v letter behind =
      let there = of_after v letter behind in
      record { carries = layer_carried depth v there.0; is = there.1 ∙ ap (λ t. t ++ rest) (sym (value_bytes_of v)) }

-- EACH VALUE HAS BYTES

pub some_bytes : (x : Val) → 0 < length (value_bytes x)
some_bytes x = let found = every_val x in subst (λ y. 0 < length (value_bytes y)) found.1 (rw (value_bytes_of found.0) (go found.0))
  where
    go : (v : Value) → 0 < length (bytes_at v)
    go (kept.Int number) = omega arith
    go (kept.Bool truth) = omega arith
    go (kept.Text text) = omega arith
    go (kept.Proc process) = omega arith
    go (kept.Tuple parts) = omega arith
    go (kept.Set elements) = omega arith

-- no value has bytes that begin otherwise
pub no_letter : (depth : ℕ) (v : Value) (letter : ℕ) (bytes rest : List ℕ) → (letter ≡ 105 → ⊥) → (letter ≡ 98 → ⊥) → (letter ≡ 115 → ⊥) → (letter ≡ 112 → ⊥) → (letter ≡ 116 → ⊥) → (letter ≡ 83 → ⊥) → AfterLetter depth v letter bytes rest → ⊥
no_letter depth (kept.Int number) letter bytes rest i b s p t S behind = i behind.0
no_letter depth (kept.Bool truth) letter bytes rest i b s p t S behind = b behind.0
no_letter depth (kept.Text text) letter bytes rest i b s p t S behind = s behind.0
no_letter depth (kept.Proc process) letter bytes rest i b s p t S behind = p behind.0
no_letter depth (kept.Tuple parts) letter bytes rest i b s p t S behind = t behind.0
no_letter depth (kept.Set elements) letter bytes rest i b s p t S behind = S behind.0

-- no value has no bytes
pub no_bytes : (depth : ℕ) (x : Val) (bytes rest : List ℕ) → bytes ≡ [] → Begins depth x bytes rest → ⊥
no_bytes depth x bytes rest none begins = omega (arith, some_bytes x, length-append (value_bytes x) rest, ap length begins.is, ap length none)

-- WHAT A READER ANSWERS

-- from what it says of kept values to what it says of values
pub value_only : (depth : ℕ) (letter : ℕ) (bytes front : List ℕ) (result : Result (Value × Bor (List ℕ)) CodecFault) → bytes ≡ letter ∷ front
    → ((v : Value) (rest : List ℕ) → AfterLetter depth v letter front rest → MatchResult result (λ found. (found.0 ≡ v) × (found.1.now ≡ rest)) (λ fault. fault ≡ Memory))
    → (x : Val) (rest : List ℕ) → Begins depth x bytes rest → MatchResult result (λ found. (val_of found.0 ≡ x) × (found.1.now ≡ rest)) (λ fault. fault ≡ Memory)
value_only depth letter bytes front result is only x rest begins = let v = every_val x in at v.0 v.1
  where
    kept_only : (v : Value) → MatchResult result (λ found. (found.0 ≡ v) × (found.1.now ≡ rest)) (λ fault. fault ≡ Memory) → MatchResult result (λ found. (val_of found.0 ≡ val_of v) × (found.1.now ≡ rest)) (λ fault. fault ≡ Memory)
    kept_only v said = go result said
      where
        go : (r : Result (Value × Bor (List ℕ)) CodecFault) → MatchResult r (λ found. (found.0 ≡ v) × (found.1.now ≡ rest)) (λ fault. fault ≡ Memory) → MatchResult r (λ found. (val_of found.0 ≡ val_of v) × (found.1.now ≡ rest)) (λ fault. fault ≡ Memory)
        go (Ok found) said = (ap val_of said.0, said.1)
        go (Err fault) said = said

    at : (v : Value) → val_of v ≡ x → MatchResult result (λ found. (val_of found.0 ≡ x) × (found.1.now ≡ rest)) (λ fault. fault ≡ Memory)
    at v same =
        subst (λ y. MatchResult result (λ found. (val_of found.0 ≡ y) × (found.1.now ≡ rest)) (λ fault. fault ≡ Memory)) same
        (kept_only v (only v rest (begins_after depth front rest v letter (subst (λ b. Begins depth (val_of v) b rest) is (subst (λ y. Begins depth y bytes rest) (sym same) begins)))))

pub value_there : (depth : ℕ) (letter : ℕ) (bytes front : List ℕ) (result : Result (Value × Bor (List ℕ)) CodecFault) → bytes ≡ letter ∷ front
    → IfOk result (λ found. AfterLetter depth found.0 letter front found.1.now) → IfOk result (λ found. Begins depth (val_of found.0) bytes found.1.now)
value_there depth letter bytes front (Ok found) is there = subst (λ b. Begins depth (val_of found.0) b found.1.now) (sym is) (after_begins depth front found.1.now found.0 letter there)
value_there depth letter bytes front (Err fault) is there = tt
