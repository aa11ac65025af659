-- Which messages a trace gets more than once, from its last action on.
use Rattle.std.specs.Prelude.{◌≡◌, ◌↔◌, ◌⊎◌, ◌==◌, ℕ, zero, suc, ◌+◌, ◌-◌, ◌*◌, ◌<◌, ◌≤◌, Bool, true, false, cond, List, [], ◌∷◌, ◌++◌, length, take, drop, slice_get, slice_index_or, Option, Some, None, IsTrue, is_some, refl}
use Rattle.std.specs.BTreeSet.{BTreeSet, contains}
use Rattle.std.specs.Ordering.{nat_cmp}
use Rattle.std.proofs.Common.{sym, ap, ◌∙◌, subst, inl, inr, arith}
use Rattle.std.proofs.lemmas.Bool.{eq-eqb, eqb-true, false≢true}
use Rattle.std.proofs.lemmas.List.{drop_more, length-append}
use Rattle.da_values.specs.declared.value.Value.{Value}
use Rattle.da_values.specs.Sets.{Has}
use Rattle.da_values.proofs.Members.{Has-append_left, Has-append_right, of_append}
use Rattle.da_lang.specs.declared.event.Action.{Action}
use Rattle.da_lang.specs.declared.event.Action.TheVariants.{Got}
use Rattle.da_system.specs.Channels.{MessageInFlight}
use Rattle.trace_join.specs.Repeats.{HasKey, HasKeys, IsGotAgain, KeepsKeys, TellRepeats, got_key, key_of, message_at}
use Rattle.trace_join.specs.Traces.{message_from, messages_from}
use Rattle.trace_join.proofs.SendLaws.{get_within}

-- TWO ACTIONS

one_of : (b : Bool) (l l2 : MessageInFlight) → Has (cond b (l ∷ []) [] ++ []) l2 → (b ≡ true) × (l ≡ l2)
one_of false l l2 has = absurd has
one_of true l l2 (inl same) = (refl, sym same)
one_of true l l2 (inr none) = absurd none

pub gets_one : (a b : Action) (r : Bool) (q p t q2 p2 t2 : ℕ) (m m2 : Value) → a ≡ Got q p t m → b ≡ Got q2 p2 t2 m2 → p ≡ p2
    → (IsTrue r ↔ (message_at m t ≡ message_at m2 t2))
    → (IsTrue r ↔ IsGotAgain b (a ∷ []))
gets_one a b r q p t q2 p2 t2 m m2 is_a is_b senders decides =
    subst (λ (x : Action). IsTrue r ↔ IsGotAgain b (x ∷ [])) (sym is_a) (subst (λ (x : Action). IsTrue r ↔ IsGotAgain x (Got q p t m ∷ [])) (sym is_b) (
      (λ yes'. subst (λ (c : Bool). Has (cond c (message_at m t ∷ []) [] ++ []) (message_at m2 t2)) (sym (eq-eqb p p2 senders)) (inl (sym (decides.0 yes')))),
      λ has. decides.1 (one_of (p == p2) (message_at m t) (message_at m2 t2) has).1,
    ))

pub gets_other : (a b : Action) (q p t q2 p2 t2 : ℕ) (m m2 : Value) → a ≡ Got q p t m → b ≡ Got q2 p2 t2 m2 → (p ≡ p2 → ⊥) → IsGotAgain b (a ∷ []) → ⊥
gets_other a b q p t q2 p2 t2 m m2 is_a is_b others again =
    others (eqb-true p p2 (one_of (p == p2) (message_at m t) (message_at m2 t2)
    (subst (λ (x : Action). IsGotAgain (Got q2 p2 t2 m2) (x ∷ [])) is_a (subst (λ (x : Action). IsGotAgain x (a ∷ [])) is_b again))).0)

-- MANY ACTIONS

messages-append : (p : ℕ) (xs ys : List Action) (l : MessageInFlight) → Has (messages_from p (xs ++ ys)) l → Has (messages_from p xs) l ⊎ Has (messages_from p ys) l
messages-append p [] ys l has = inr has
messages-append p (x ∷ xs) ys l has = elim (of_append (message_from p x) (messages_from p (xs ++ ys)) l has) [
  | inl here ↦ inl (Has-append_left (message_from p x) (messages_from p xs) l here)
  | inr later ↦ elim (messages-append p xs ys l later) [
    | inl front ↦ inl
        (Has-append_right (message_from p x) (messages_from p xs) l front)
    | inr back ↦ inr back
  ]
]

messages_at : (p : ℕ) (xs : List Action) (k : ℕ) (a : Action) (l : MessageInFlight) → slice_get xs k ≡ Some a → Has (messages_from p (a ∷ [])) l
    → Has (messages_from p xs) l
messages_at p [] k a l there has = absurd (false≢true (ap is_some there))
messages_at p (x ∷ xs) zero a l there has = let same : x ≡ a = cc in elim (of_append (message_from p a) [] l has) [
  | inl here ↦ Has-append_left (message_from p x) (messages_from p xs) l (subst (λ (y : Action). Has (message_from p y) l) (sym same) here)
  | inr none ↦ absurd none
]
messages_at p (x ∷ xs) (suc k) a l there has = Has-append_right (message_from p x) (messages_from p xs) l (messages_at p xs k a l there has)

take_one_more : {A : Type 0} (xs : List A) (k : ℕ) (x : A) → slice_get xs k ≡ Some x → take (suc k) xs ≡ take k xs ++ x ∷ []
take_one_more [] k x there = absurd (false≢true (ap is_some there))
take_one_more (y ∷ ys) zero x there = let same : y ≡ x = cc in ap (λ z. z ∷ []) same
take_one_more {A} (y ∷ ys) (suc k) x there = ap (λ (zs : List A). y ∷ zs) (take_one_more ys k x there)

again_append : (got : Action) (xs ys : List Action) → IsGotAgain got (xs ++ ys) → IsGotAgain got xs ⊎ IsGotAgain got ys
again_append (Got q p t m) xs ys again = messages-append p xs ys (message_at m t) again
again_append _ xs ys again = absurd again

again_at : (got : Action) (xs : List Action) (k : ℕ) (a : Action) → slice_get xs k ≡ Some a → IsGotAgain got (a ∷ []) → IsGotAgain got xs
again_at (Got q p t m) xs k a there again = messages_at p xs k a (message_at m t) there again
again_at _ xs k a there again = absurd again

module _ (got : Action) (xs : List Action) (k : ℕ) where
  pub again_there : (a : Action) (r : Bool) → k < length xs → a ≡ slice_index_or xs k a → (IsTrue r ↔ IsGotAgain got (a ∷ [])) → r ≡ true → IsGotAgain got xs
  again_there a r within is says found = again_at got xs k a (get_within xs k a within is) (says.0 found)

  pub again_on : (a : Action) (r : Bool) → k < length xs → a ≡ slice_index_or xs k a → (IsGotAgain got (take k xs) → ⊥)
      → (IsTrue r ↔ IsGotAgain got (a ∷ [])) → r ≡ false
      → IsGotAgain got (take (k + 1) xs) → ⊥
  again_on a r within is none says not again =
      elim (again_append got (take k xs) (a ∷ []) (subst (IsGotAgain got)
      (ap (λ n. take n xs) (let one : k + 1 ≡ suc k = omega arith in one) ∙ take_one_more xs k a (get_within xs k a within is)) again)) [
        | inl before ↦ none before
        | inr here ↦ false≢true (sym not ∙ says.1 here)
      ]

all_taken : {A : Type 0} (xs : List A) (n : ℕ) → length xs ≤ n → take n xs ≡ xs
all_taken [] zero within = refl
all_taken [] (suc n) within = refl
all_taken (x ∷ xs) zero within = absurd (omega (arith, within))
all_taken {A} (x ∷ xs) (suc n) within = ap (λ (ys : List A). x ∷ ys) (all_taken xs n (omega (arith, within)))

pub again_all : (got : Action) (xs : List Action) (k : ℕ) → length xs ≤ k → (IsGotAgain got (take k xs) → ⊥) → IsGotAgain got xs → ⊥
again_all got xs k past none again = none (subst (IsGotAgain got) (sym (all_taken xs k past)) again)

-- KEYS

from_one : (keys : BTreeSet ℕ) (p : ℕ) (a : Action) (l : MessageInFlight) → HasKey keys (got_key a) → Has (message_from p a) l
    → IsTrue (contains nat_cmp keys (key_of p l.time))
from_one keys p (Got q from t m) l key has = of (from == p) refl has
  where
    of : (b : Bool) → (from == p) ≡ b → Has {A = MessageInFlight} (cond b (message_at m t ∷ []) []) l → IsTrue (contains nat_cmp keys (key_of p l.time))
    of false is has = absurd has
    of true is (inl same) =
        subst (λ n. IsTrue (contains nat_cmp keys (key_of n l.time))) (eqb-true from p is)
        (subst (λ n. IsTrue (contains nat_cmp keys (key_of from n))) (ap (λ (x : MessageInFlight). x.time) (sym same)) key)
    of true is (inr none) = absurd none
from_one keys p _ l key has = absurd has

from_all : (keys : BTreeSet ℕ) (p : ℕ) (xs : List Action) (l : MessageInFlight) → HasKeys keys xs → Has (messages_from p xs) l
    → IsTrue (contains nat_cmp keys (key_of p l.time))
from_all keys p [] l all has = absurd has
from_all keys p (x ∷ xs) l all has = elim (of_append (message_from p x) (messages_from p xs) l has) [
  | inl here ↦ from_one keys p x l all.0 here
  | inr later ↦ from_all keys p xs l all.1 later
]

-- what has no key is not got again
pub has_key : (keys : BTreeSet ℕ) (a : Action) (xs : List Action) (q p t : ℕ) (m : Value) → a ≡ Got q p t m → HasKeys keys xs
    → contains nat_cmp keys (t * 65536 + p) ≡ false → IsGotAgain a xs → ⊥
has_key keys a xs q p t m is all none again =
    false≢true (sym none ∙ from_all keys p xs (message_at m t) all (subst (λ (x : Action). IsGotAgain x xs) is again))

pub keys_kept : (old new : BTreeSet ℕ) (xs : List Action) → KeepsKeys old new → HasKeys old xs → HasKeys new xs
keys_kept old new [] keeps all = tt
keys_kept old new (x ∷ xs) keeps all = (of (got_key x) all.0, keys_kept old new xs keeps all.1)
  where
    of : (k : Option ℕ) → HasKey old k → HasKey new k
    of None has = tt
    of (Some k) has = keeps k has

-- FROM THE LAST ACTION ON

get_front : {A : Type 0} (xs : List A) (y : A) (k : ℕ) → k < length xs → slice_get (xs ++ y ∷ []) k ≡ slice_get xs k
get_front [] y k within = absurd (omega (arith, within))
get_front (x ∷ xs) y zero within = refl
get_front (x ∷ xs) y (suc k) within = get_front xs y k (omega (arith, within))

get_last : {A : Type 0} (xs : List A) (y : A) (k : ℕ) → k ≡ length xs → slice_get (xs ++ y ∷ []) k ≡ Some y
get_last [] y zero is = refl
get_last [] y (suc k) is = absurd (let same : suc k ≡ 0 = is in omega (arith, same))
get_last (x ∷ xs) y zero is = absurd (let same : 0 ≡ suc (length xs) = is in omega (arith, same))
get_last (x ∷ xs) y (suc k) is = get_last xs y k (let same : suc k ≡ suc (length xs) = is in omega (arith, same))

tell_more : (xs : List Action) (repeats : List Bool) (b : Bool) → length xs ≤ length repeats → TellRepeats xs repeats → TellRepeats xs (repeats ++ b ∷ [])
tell_more [] repeats b within tells = tt
tell_more (x ∷ xs) repeats b within tells = (
  λ c there. tells.0 c (sym (get_front repeats b (length xs) (omega (arith, within))) ∙ there),
  tell_more xs repeats b (omega (arith, within)) tells.1,
)

-- so much is known of a trace, from this place on
pub record KnownFrom (trace : List Action) (place : ℕ) (repeats : List Bool) (keys : BTreeSet ℕ) : Type 0 where
  pub within : place ≤ length trace
  pub size : length repeats + place ≡ length trace
  pub tells : TellRepeats (drop place trace) repeats
  pub has : HasKeys keys (drop place trace)

drop_end : {A : Type 0} (xs : List A) → drop (length xs) xs ≡ []
drop_end [] = refl
drop_end (x ∷ xs) = drop_end xs

pub known_last : (trace : List Action) (place : ℕ) (repeats : List Bool) (keys : BTreeSet ℕ) → place ≡ length trace → repeats ≡ []
    → KnownFrom trace place repeats keys
known_last trace place repeats keys is none = record {
  within = omega (arith, is);
  size = (let no : length repeats ≡ 0 = ap length none in omega (arith, is, no));
  tells = subst (λ (xs : List Action). TellRepeats xs repeats) (sym (ap (λ n. drop n trace) is ∙ drop_end trace)) tt;
  has = subst (HasKeys keys) (sym (ap (λ n. drop n trace) is ∙ drop_end trace)) tt;
}

length_dropped : {A : Type 0} (xs : List A) (n : ℕ) → n ≤ length xs → length (drop n xs) + n ≡ length xs
length_dropped xs zero within = omega arith
length_dropped [] (suc n) within = absurd (omega (arith, within))
length_dropped (x ∷ xs) (suc n) within = let rest : length (drop n xs) + n ≡ length xs = length_dropped xs n (omega (arith, within)) in omega (arith, rest)

pub known_before : (trace : List Action) (place before : ℕ) (repeats more : List Bool) (keys keys' : BTreeSet ℕ) (a : Action) (b : Bool)
    → KnownFrom trace place repeats keys
    → before + 1 ≡ place → a ≡ slice_index_or trace before a → (IsTrue b ↔ IsGotAgain a (take (length trace - (before + 1)) (drop (before + 1) trace)))
    → more ≡ repeats ++ b ∷ []
    → HasKey keys' (got_key a) → KeepsKeys keys keys' → KnownFrom trace before more keys'
known_before trace place before repeats more keys keys' a b known is there found added key keeps = record {
  within = omega (arith, is, known.within);
  size = (let size : length more ≡ length repeats + 1 = ap length added ∙ length-append repeats (b ∷ []) in omega (arith, size, is, known.size));
  tells = subst (λ (xs : List Action). TellRepeats xs more) (sym opened) (subst (TellRepeats (a ∷ drop place trace)) (sym added) (
    (λ c found. subst (λ x. IsTrue x ↔ IsGotAgain a (drop place trace)) (its c found) (subst (λ n. IsTrue b ↔ IsGotAgain a (drop n trace)) is says)),
    tell_more (drop place trace) repeats b (omega (arith, behind, known.size)) known.tells,
  ));
  has = subst (HasKeys keys') (sym opened) (key, keys_kept keys keys' (drop place trace) keeps known.has);
}
  where
    behind : length (drop place trace) + place ≡ length trace
    behind = length_dropped trace place known.within

    says : IsTrue b ↔ IsGotAgain a (drop (before + 1) trace)
    says = subst (λ (xs : List Action). IsTrue b ↔ IsGotAgain a xs) (all_taken (drop (before + 1) trace) (length trace - (before + 1))
        (let size : length (drop (before + 1) trace) + (before + 1) ≡ length trace = length_dropped trace (before + 1)
        (omega (arith, is, known.within)) in omega (arith, size))) found

    opened : drop before trace ≡ a ∷ drop place trace
    opened = drop_more trace before a (omega (arith, is, known.within)) ∙ ap (λ x. x ∷ drop (before + 1) trace) (sym there) ∙ ap (λ n. a ∷ drop n trace) is

    its : (c : Bool) → slice_get (repeats ++ b ∷ []) (length (drop place trace)) ≡ Some c → b ≡ c
    its c found = let same : Some b ≡ Some c = sym (get_last repeats b (length (drop place trace)) (omega (arith, behind, known.size))) ∙ found in cc

pub known_all : (trace : List Action) (place : ℕ) (repeats : List Bool) (keys : BTreeSet ℕ) → KnownFrom trace place repeats keys → place ≤ 0
    → TellRepeats trace repeats
known_all trace place repeats keys known none = subst (λ n. TellRepeats (drop n trace) repeats)
    (let zero' : place ≡ 0 = omega (arith, none) in zero') known.tells
