-- What may stand at the front of a value's text, and where it ends.
use Rattle.std.specs.Prelude.{◌≡◌, ◌≢◌, ◌⊎◌, ◌||◌, ℕ, suc, ◌^◌, ◌<◌, ◌≤◌, Bool, true, false, FitsSigned, List, [], ◌∷◌, ◌++◌, codes, decimal, map, refl}
use Rattle.std.specs.Int.{w128}
use Rattle.std.specs.List.{list_any, All}
use Rattle.std.proofs.Common.{◌∙◌, ap, sym, subst, inl, inr, arith, append_assoc, append-nil}
use Rattle.std.proofs.lemmas.Bool.{false≢true}
use Rattle.std.proofs.lemmas.Bool.Decides.{nat_tests}
use Rattle.da_values.specs.declared.val.Val.{Val, out-Val}
use Rattle.da_values.specs.declared.val.Val.TheVariants as val
use Rattle.da_values.specs.declared.val.Val.TheVariants.{outs-Tuple, outs-Set, outs-Int, outs-Bool, outs-Text, outs-Proc}
use Rattle.da_values.specs.declared.val.Val.TheOpen as layers
use Rattle.da_values.specs.declared.val.Val.TheOpen.{Val-F}
use Rattle.da_values.specs.declared.value.Value.{Value}
use Rattle.da_values.specs.declared.value.Value.TheVariants.{Int, Bool as Truth, Text, Proc, Tuple, Set}
use Rattle.da_values.specs.Layer.{layer, out-val_of}
use Rattle.da_values.specs.Order.{val_cmp}
use Rattle.da_values.specs.Proper.{IsValue, integer, truth, text, process, tuple, set, AreValues}
use Rattle.da_values.specs.Reading.{IsTextOf, is_stop, Stops, Spells, IsWordOf}
use Rattle.da_values.specs.Sets.{Ascends}
use Rattle.da_values.specs.Str.{IsTextByte}
use Rattle.da_values.specs.Text.{value_text, separated, closing}
use Rattle.da_values.specs.Value.{val_of, value_of}
use Rattle.da_values.proofs.FoldsAt.{nesting_of}
use Rattle.da_values.proofs.Numerals.{first-signed_decimal, no_stop-decimal, no_stop-signed_decimal}
use Rattle.da_values.proofs.TextLemmas.{value_text_of}
use Rattle.da_values.proofs.ViewLaws.{val_of-value_of}
use Rattle.da_values.proofs.WordLaws.{first_same}

-- what each kind of value must be
abbrev pub IsProper : Val-F Val → Type 0
IsProper (layers.Int number) = FitsSigned w128 number
IsProper (layers.Bool b) = Unit {0}
IsProper (layers.Text bytes) = All IsTextByte bytes
IsProper (layers.Proc p) = (0 < p) × (p < 2 ^ 16)
IsProper (layers.Tuple parts) = AreValues parts
IsProper (layers.Set elements) = AreValues elements × Ascends val_cmp elements

pub proper_of : (x : Val) → IsValue x → IsProper (out-Val x)
proper_of _ (integer number fits) = subst IsProper (sym (outs-Int number)) fits
proper_of _ (truth b) = subst IsProper (sym (outs-Bool b)) tt
proper_of _ (text bytes allowed) = subst IsProper (sym (outs-Text bytes)) allowed
proper_of _ (process p some small) = subst IsProper (sym (outs-Proc p)) (some, small)
proper_of _ (tuple parts each) = subst IsProper (sym (outs-Tuple parts)) each
proper_of _ (set elements each up) = subst IsProper (sym (outs-Set elements)) (each, up)

pub proper_at : (v : Value) → IsValue (val_of v) → IsProper (layer v)
proper_at v is = subst IsProper (out-val_of v) (proper_of (val_of v) is)

-- the first byte of each kind
abbrev pub Opens : Value → ℕ → Type 0
Opens (Int number) d = (45 ≤ d) × (d ≤ 57)
Opens (Truth b) d = (d ≡ 116) ⊎ (d ≡ 102)
Opens (Text bytes) d = d ≡ 39
Opens (Proc p) d = d ≡ 112
Opens (Tuple parts) d = d ≡ 40
Opens (Set elements) d = d ≡ 123

pub first-value_text : (v : Value) → IsProper (layer v) → (d : ℕ) × (rest : List ℕ) × (value_text (val_of v) ≡ d ∷ rest) × Opens v d
first-value_text (Int number) fits =
    let first = first-signed_decimal number fits in (first.0, first.1, value_text_of (Int number) ∙ first.2, (first.3, first.4))
first-value_text (Truth true) is = (116, codes "rue", value_text_of (Truth true), inl refl)
first-value_text (Truth false) is = (102, codes "alse", value_text_of (Truth false), inr refl)
first-value_text (Text bytes) is = (39, bytes ++ codes "'", value_text_of (Text bytes), refl)
first-value_text (Proc p) is = (112, decimal p, value_text_of (Proc p), refl)
first-value_text (Tuple parts) is = (40, separated (map value_text parts) ++ closing (map value_text parts), value_text_of (Tuple parts), refl)
first-value_text (Set elements) is = (123, separated (map value_text elements) ++ codes "}", value_text_of (Set elements), refl)

no_stop_first : (v : Value) (d : ℕ) → Opens v d → is_stop d ≡ false
no_stop_first (Int number) d opens = grind (arith, nat_tests)
no_stop_first (Truth b) d (inl e) = ap is_stop e
no_stop_first (Truth b) d (inr e) = ap is_stop e
no_stop_first (Text bytes) d e = ap is_stop e
no_stop_first (Proc p) d e = ap is_stop e
no_stop_first (Tuple parts) d e = ap is_stop e
no_stop_first (Set elements) d e = ap is_stop e

-- the value that is spelled, kept
pub kept_spelled : (depth : ℕ) (x : Val) (bytes rest : List ℕ) → Spells depth x bytes rest → Spells depth (val_of (value_of x)) bytes rest
kept_spelled depth x bytes rest spelled = subst (λ y. Spells depth y bytes rest) (sym (val_of-value_of x)) spelled

pub opens_with : (depth : ℕ) (v : Value) (b : ℕ) (bytes rest : List ℕ) → Spells depth (val_of v) (b ∷ bytes) rest → Opens v b
opens_with depth v b bytes rest spelled =
    let first = first-value_text v (proper_at v spelled.value) in
    subst (Opens v) (sym (first_same b first.0 bytes (first.1 ++ rest) (spelled.is ∙ ap (λ t. t ++ rest) first.2))) first.3

-- a value's text begins with no byte that may stand after a value
pub no_stop_spelled : (depth : ℕ) (x : Val) (b : ℕ) (bytes rest : List ℕ) → Spells depth x (b ∷ bytes) rest → is_stop b ≡ false
no_stop_spelled depth x b bytes rest spelled = let v = value_of x in no_stop_first v b (opens_with depth v b bytes rest (kept_spelled depth x (b ∷ bytes) rest spelled))

pub some_spelled : (depth : ℕ) (x : Val) (rest : List ℕ) → Spells depth x [] rest → ⊥
some_spelled depth x rest spelled =
    let v = value_of x in
    let kept = kept_spelled depth x [] rest spelled in
    let first = first-value_text v (proper_at v kept.value) in
    empty first.0 (first.1 ++ rest) (kept.is ∙ ap (λ t. t ++ rest) first.2)
  where
    empty : (d : ℕ) (ds : List ℕ) → ◌≡◌ {A = List ℕ} [] (d ∷ ds) → ⊥
    empty d ds e = cc

-- the kind by the first byte
text_opens : (v : Value) → Opens v 39 → (bytes : List ℕ) × (v ≡ Text bytes)
text_opens (Int number) opens = absurd (omega (arith, opens.0))
text_opens (Truth b) (inl e) = absurd (omega (arith, e))
text_opens (Truth b) (inr e) = absurd (omega (arith, e))
text_opens (Text bytes) e = (bytes, refl)
text_opens (Proc p) e = absurd (omega (arith, e))
text_opens (Tuple parts) e = absurd (omega (arith, e))
text_opens (Set elements) e = absurd (omega (arith, e))

tuple_opens : (v : Value) → Opens v 40 → (parts : List Val) × (v ≡ Tuple parts)
tuple_opens (Int number) opens = absurd (omega (arith, opens.0))
tuple_opens (Truth b) (inl e) = absurd (omega (arith, e))
tuple_opens (Truth b) (inr e) = absurd (omega (arith, e))
tuple_opens (Text bytes) e = absurd (omega (arith, e))
tuple_opens (Proc p) e = absurd (omega (arith, e))
tuple_opens (Tuple parts) e = (parts, refl)
tuple_opens (Set elements) e = absurd (omega (arith, e))

set_opens : (v : Value) → Opens v 123 → (elements : List Val) × (v ≡ Set elements)
set_opens (Int number) opens = absurd (omega (arith, opens.1))
set_opens (Truth b) (inl e) = absurd (omega (arith, e))
set_opens (Truth b) (inr e) = absurd (omega (arith, e))
set_opens (Text bytes) e = absurd (omega (arith, e))
set_opens (Proc p) e = absurd (omega (arith, e))
set_opens (Tuple parts) e = absurd (omega (arith, e))
set_opens (Set elements) e = (elements, refl)

module _ (depth : ℕ) (x : Val) (bytes rest : List ℕ) where
  pub is_text : Spells depth x (39 ∷ bytes) rest → (t : List ℕ) × (x ≡ val.Text t)
  is_text spelled =
      let found = text_opens (value_of x) (opens_with depth (value_of x) 39 bytes rest (kept_spelled depth x (39 ∷ bytes) rest spelled)) in
      (found.0, sym (val_of-value_of x) ∙ ap val_of found.1)

  pub is_tuple : Spells depth x (40 ∷ bytes) rest → (parts : List Val) × (x ≡ val.Tuple parts)
  is_tuple spelled =
      let found = tuple_opens (value_of x) (opens_with depth (value_of x) 40 bytes rest (kept_spelled depth x (40 ∷ bytes) rest spelled)) in
      (found.0, sym (val_of-value_of x) ∙ ap val_of found.1)

  pub is_set : Spells depth x (123 ∷ bytes) rest → (elements : List Val) × (x ≡ val.Set elements)
  is_set spelled =
      let found = set_opens (value_of x) (opens_with depth (value_of x) 123 bytes rest (kept_spelled depth x (123 ∷ bytes) rest spelled)) in
      (found.0, sym (val_of-value_of x) ∙ ap val_of found.1)

-- texts
rest_same : (a b : ℕ) (xs ys : List ℕ) → a ∷ xs ≡ b ∷ ys → xs ≡ ys
rest_same a b xs ys e = cc

pub text_parts : (depth : ℕ) (t bytes rest : List ℕ) → Spells depth (val.Text t) (39 ∷ bytes) rest → All IsTextByte t × (bytes ≡ t ++ 39 ∷ rest)
text_parts depth t bytes rest spelled =
    (proper_at (Text t) spelled.value, rest_same 39 39 bytes ((t ++ codes "'") ++ rest) (spelled.is ∙ ap (λ s. s ++ rest) (value_text_of (Text t))) ∙ append_assoc t (codes "'") rest)

pub text_spelled : (depth : ℕ) (t bytes rest : List ℕ) → All IsTextByte t → bytes ≡ t ++ 39 ∷ rest → Spells depth (val.Text t) (39 ∷ bytes) rest
text_spelled depth t bytes rest allowed is = record {
  value = text t allowed;
  nested = omega (arith, nesting_of (Text t));
  is = ap (λ s. 39 ∷ s) (is ∙ sym (append_assoc t (codes "'") rest)) ∙ ap (λ s. s ++ rest) (sym (value_text_of (Text t)));
}

-- up to the first quote
pub one_quote : (xs ys : List ℕ) (s t : List ℕ) → All (λ byte. byte ≢ 39) xs → All (λ byte. byte ≢ 39) ys → xs ++ 39 ∷ s ≡ ys ++ 39 ∷ t → (xs ≡ ys) × (s ≡ t)
one_quote [] [] s t f g e = (refl, rest_same 39 39 s t e)
one_quote [] (y ∷ ys) s t f g e = absurd (g 0 y (omega arith) (sym (first_same 39 y s (ys ++ 39 ∷ t) e)))
one_quote (x ∷ xs) [] s t f g e = absurd (f 0 x (omega arith) (first_same x 39 (xs ++ 39 ∷ s) t e))
one_quote (x ∷ xs) (y ∷ ys) s t f g e =
    let more = one_quote xs ys s t (λ k d inside. f (suc k) d (omega (arith, inside))) (λ k d inside. g (suc k) d (omega (arith, inside))) (rest_same x y (xs ++ 39 ∷ s) (ys ++ 39 ∷ t) e) in
    (ap (λ z. z ∷ xs) (first_same x y (xs ++ 39 ∷ s) (ys ++ 39 ∷ t) e) ∙ ap (λ zs. y ∷ zs) more.0, more.1)

pub no_quote : (t : List ℕ) → All IsTextByte t → All (λ byte. byte ≢ 39) t
no_quote t allowed k d inside = (allowed k d inside).2

pub quote_somewhere : (t rest : List ℕ) → All (λ byte. byte ≢ 39) (t ++ 39 ∷ rest) → ⊥
quote_somewhere [] rest f = f 0 0 (omega arith) refl
quote_somewhere (x ∷ xs) rest f = quote_somewhere xs rest (λ k d inside. f (suc k) d (omega (arith, inside)))

-- words
pub no_stop_word : (word : List ℕ) (v : Value) → IsWordOf word v → list_any is_stop word ≡ false
no_stop_word word (Int number) h = ap (list_any is_stop) h.1 ∙ no_stop-signed_decimal number h.0
no_stop_word word (Truth true) h = ap (list_any is_stop) h
no_stop_word word (Truth false) h = ap (list_any is_stop) h
no_stop_word word (Proc p) h = ap (list_any is_stop) h.2 ∙ no_stop-decimal p (omega (arith, h.1))
no_stop_word word (Text t) h = absurd h
no_stop_word word (Tuple t) h = absurd h
no_stop_word word (Set t) h = absurd h

pub word_spelled : (depth : ℕ) (word : List ℕ) (v : Value) (bytes rest : List ℕ) → IsWordOf word v → bytes ≡ word ++ rest → Spells depth (val_of v) bytes rest
word_spelled depth word (Int number) bytes rest h is = record { value = integer number h.0; nested = omega (arith, nesting_of (Int number)); is = is ∙ ap (λ s. s ++ rest) (h.1 ∙ sym (value_text_of (Int number))) }
word_spelled depth word (Truth true) bytes rest h is = record { value = truth true; nested = omega (arith, nesting_of (Truth true)); is = is ∙ ap (λ s. s ++ rest) (h ∙ sym (value_text_of (Truth true))) }
word_spelled depth word (Truth false) bytes rest h is = record { value = truth false; nested = omega (arith, nesting_of (Truth false)); is = is ∙ ap (λ s. s ++ rest) (h ∙ sym (value_text_of (Truth false))) }
word_spelled depth word (Proc p) bytes rest h is = record { value = process p h.0 h.1; nested = omega (arith, nesting_of (Proc p)); is = is ∙ ap (λ s. s ++ rest) (h.2 ∙ sym (value_text_of (Proc p))) }
word_spelled depth word (Text t) bytes rest h is = absurd h
word_spelled depth word (Tuple t) bytes rest h is = absurd h
word_spelled depth word (Set t) bytes rest h is = absurd h

any_from_all : (xs : List ℕ) → All (λ byte. is_stop byte ≡ false) xs → list_any is_stop xs ≡ false
any_from_all [] f = refl
any_from_all (x ∷ xs) f = ap (λ b. b || list_any is_stop xs) (f 0 x (omega arith)) ∙ any_from_all xs (λ k d inside. f (suc k) d (omega (arith, inside)))

or_false : (b c : Bool) → (b || c) ≡ false → (b ≡ false) × (c ≡ false)
or_false false c e = (refl, e)
or_false true c e = absurd (cc)

stops_not : (x : ℕ) (xs s : List ℕ) → Stops s → s ≡ x ∷ xs → is_stop x ≡ false → ⊥
stops_not x xs [] stops e plain = cc
stops_not x xs (b ∷ bs) stops e plain = false≢true (sym (ap is_stop (first_same b x bs xs e) ∙ plain) ∙ stops)

same_word : (xs ys s t : List ℕ) → list_any is_stop xs ≡ false → list_any is_stop ys ≡ false → Stops s → Stops t → xs ++ s ≡ ys ++ t → (xs ≡ ys) × (s ≡ t)
same_word [] [] s t f g stops ends e = (refl, e)
same_word [] (y ∷ ys) s t f g stops ends e = absurd (stops_not y (ys ++ t) s stops e (or_false (is_stop y) (list_any is_stop ys) g).0)
same_word (x ∷ xs) [] s t f g stops ends e = absurd (stops_not x (xs ++ s) t ends (sym e) (or_false (is_stop x) (list_any is_stop xs) f).0)
same_word (x ∷ xs) (y ∷ ys) s t f g stops ends e =
    let more = same_word xs ys s t (or_false (is_stop x) (list_any is_stop xs) f).1 (or_false (is_stop y) (list_any is_stop ys) g).1 stops ends (rest_same x y (xs ++ s) (ys ++ t) e) in
    (ap (λ z. z ∷ xs) (first_same x y (xs ++ s) (ys ++ t) e) ∙ ap (λ zs. y ∷ zs) more.0, more.1)

-- what begins with no quote and no bracket is a word
word_at : (depth : ℕ) (v : Value) (bytes rest : List ℕ) → Spells depth (val_of v) bytes rest
    → ((r : List ℕ) → bytes ≡ 39 ∷ r → ⊥) → ((r : List ℕ) → bytes ≡ 40 ∷ r → ⊥) → ((r : List ℕ) → bytes ≡ 123 ∷ r → ⊥) → IsWordOf (value_text (val_of v)) v
word_at depth (Int number) bytes rest s q p b = (proper_at (Int number) s.value, value_text_of (Int number))
word_at depth (Truth true) bytes rest s q p b = value_text_of (Truth true)
word_at depth (Truth false) bytes rest s q p b = value_text_of (Truth false)
word_at depth (Proc n) bytes rest s q p b = let is = proper_at (Proc n) s.value in (is.0, is.1, value_text_of (Proc n))
word_at depth (Text t) bytes rest s q p b = absurd (q ((t ++ codes "'") ++ rest) (s.is ∙ ap (λ x. x ++ rest) (value_text_of (Text t))))
word_at depth (Tuple xs) bytes rest s q p b = absurd (p ((separated (map value_text xs) ++ closing (map value_text xs)) ++ rest) (s.is ∙ ap (λ x. x ++ rest) (value_text_of (Tuple xs))))
word_at depth (Set xs) bytes rest s q p b = absurd (b ((separated (map value_text xs) ++ codes "}") ++ rest) (s.is ∙ ap (λ x. x ++ rest) (value_text_of (Set xs))))

pub word_only : (depth : ℕ) (x : Val) (bytes word rest t : List ℕ) → Spells depth x bytes t → Stops t → bytes ≡ word ++ rest → All (λ byte. is_stop byte ≡ false) word → Stops rest
    → ((r : List ℕ) → bytes ≡ 39 ∷ r → ⊥) → ((r : List ℕ) → bytes ≡ 40 ∷ r → ⊥) → ((r : List ℕ) → bytes ≡ 123 ∷ r → ⊥)
    → (v : Value) × (val_of v ≡ x) × IsWordOf word v × (rest ≡ t)
word_only depth x bytes word rest t spelled ends split plain stops q p b =
    let v = value_of x in
    let kept = kept_spelled depth x bytes t spelled in
    let is_word = word_at depth v bytes t kept q p b in
    let same = same_word word (value_text (val_of v)) rest t (any_from_all word plain) (no_stop_word (value_text (val_of v)) v is_word) stops ends (sym split ∙ kept.is) in
    (v, val_of-value_of x, subst (λ w. IsWordOf w v) (sym same.0) is_word, same.1)

-- a text that is split at its closing quote
module _ (front bytes rest : List ℕ) (split : bytes ≡ front ++ codes "'" ++ rest) where
  pub text_found : (t : List ℕ) → t ≡ front → All IsTextByte t → Spells 0 (val.Text t) (39 ∷ bytes) rest
  text_found t same allowed = text_spelled 0 t bytes rest allowed (split ∙ append_assoc front (codes "'") rest ∙ ap (λ s. s ++ 39 ∷ rest) (sym same))

  pub text_only : All (λ byte. byte ≢ 39) front → (t s : List ℕ) → Spells 0 (val.Text t) (39 ∷ bytes) s → All IsTextByte t × (front ≡ t) × (rest ≡ s)
  text_only plain t s spelled =
      let other = text_parts 0 t bytes s spelled in
      let same = one_quote front t rest s plain (no_quote t other.0) (sym (append_assoc front (codes "'") rest) ∙ sym split ∙ other.1) in
      (other.0, same.0, same.1)

-- the value after an opening byte
module _ (depth : ℕ) (x : Val) (bytes r rest : List ℕ) where
  pub text_there : bytes ≡ codes "'" ++ r → Spells depth x bytes rest → (t : List ℕ) × (x ≡ val.Text t) × Spells 0 (val.Text t) (39 ∷ r) rest
  text_there begins spelled =
      let there = subst (λ bs. Spells depth x bs rest) begins spelled in
      let found = is_text depth x r rest there in
      let same = subst (λ y. Spells depth y (39 ∷ r) rest) found.1 there in
      (found.0, found.1, record { value = same.value; nested = omega (arith, nesting_of (Text found.0)); is = same.is })

  pub tuple_there : bytes ≡ codes "(" ++ r → Spells depth x bytes rest → (parts : List Val) × (x ≡ val.Tuple parts) × Spells depth (val.Tuple parts) (40 ∷ r) rest
  tuple_there begins spelled =
      let there = subst (λ bs. Spells depth x bs rest) begins spelled in
      let found = is_tuple depth x r rest there in
      (found.0, found.1, subst (λ y. Spells depth y (40 ∷ r) rest) found.1 there)

  pub set_there : bytes ≡ codes "{" ++ r → Spells depth x bytes rest → (elements : List Val) × (x ≡ val.Set elements) × Spells depth (val.Set elements) (123 ∷ r) rest
  set_there begins spelled =
      let there = subst (λ bs. Spells depth x bs rest) begins spelled in
      let found = is_set depth x r rest there in
      (found.0, found.1, subst (λ y. Spells depth y (123 ∷ r) rest) found.1 there)

-- a text with nothing after it
pub whole_text : (bytes : List ℕ) (x : Val) → IsTextOf bytes x → Spells 64 x bytes []
whole_text bytes x of = record { value = of.value; nested = of.nested; is = of.is ∙ sym (append-nil (value_text x)) }
