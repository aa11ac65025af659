-- The messages of a queue: which of them is the one that an action gets, and what is left without one.
use Rattle.std.specs.Prelude.{◌≡◌, ◌↔◌, ◌⊎◌, ℕ, zero, suc, ◌+◌, ◌<◌, ◌≤◌, Bool, false, List, [], ◌∷◌, ◌++◌, length, map, take, drop, remove, replicate, slice_get, Option, Some, None, IsSome, IsTrue, OnSome, is_some, refl}
use Rattle.std.proofs.Common.{sym, ap, ◌∙◌, subst, inl, inr, arith, append_assoc}
use Rattle.std.proofs.lemmas.Bool.{false≢true}
use Rattle.std.proofs.lemmas.List.{drop-drop, drop-map, map-append, replicate_more, take-map}
use Rattle.da_values.specs.declared.value.Value.{Value}
use Rattle.da_values.specs.Sets.{Has}
use Rattle.da_values.specs.Value.{val_of}
use Rattle.da_values.proofs.ViewLaws.{val_of_injective}
use Rattle.da_lang.specs.declared.event.Action.{Action}
use Rattle.da_lang.specs.declared.event.Action.TheVariants.{Sent, Got}
use Rattle.da_lang.specs.declared.event.Event.{Event}
use Rattle.da_system.specs.Channels.{MessageInFlight}
use Rattle.trace_join.specs.Fetching.{IsFirst, message_in}

-- WHICH MESSAGE AN ACTION GETS

abbrev message_of : Value → ℕ → MessageInFlight
message_of m time = record { message = val_of m; time = time }

pub same_message : (m m2 : Value) (t t2 : ℕ) → t ≡ t2 → m ≡ m2 → message_of m t ≡ message_of m2 t2
same_message m m2 t t2 times messages = ap (λ (v : Value). message_of v t) messages ∙ ap (message_of m2) times

pub message_value : (m m2 : Value) (t t2 : ℕ) → ◌≡◌ {A = MessageInFlight} (record { message = val_of m; time = t }) (record { message = val_of m2; time = t2 }) → m ≡ m2
message_value m m2 t t2 same = val_of_injective m m2 (ap (λ (l : MessageInFlight). l.message) same)

pub message_time : (m m2 : Value) (t t2 : ℕ) → ◌≡◌ {A = MessageInFlight} (record { message = val_of m; time = t }) (record { message = val_of m2; time = t2 }) → t ≡ t2
message_time m m2 t t2 same = ap (λ (l : MessageInFlight). l.time) same

-- messages of one time are told apart by their values
pub by_messages : (sent got : Action) (r : Bool) (p q t q2 p2 t2 : ℕ) (m m2 : Value) → sent ≡ Sent p q t m → got ≡ Got q2 p2 t2 m2 → t ≡ t2
    → (IsTrue r ↔ (m ≡ m2)) → (IsTrue r ↔ (message_in sent ≡ message_in got))
by_messages sent got r p q t q2 p2 t2 m m2 is_sent is_got times decides =
    subst (λ (a : Action). IsTrue r ↔ (message_in a ≡ message_in got)) (sym is_sent)
    (subst (λ (b : Action). IsTrue r ↔ (message_in (Sent p q t m) ≡ message_in b)) (sym is_got)
    (λ is. same_message m m2 t t2 times (decides.0 is), λ same. decides.1 (message_value m m2 t t2 same)))

pub decides_message : (m m2 : Value) (t t2 : ℕ) (r : Bool) → t ≡ t2 → (IsTrue r ↔ (m ≡ m2)) → (IsTrue r ↔ (message_of m t ≡ message_of m2 t2))
decides_message m m2 t t2 r times decides = (λ is. same_message m m2 t t2 times (decides.0 is), λ same. decides.1 (message_value m m2 t t2 same))

-- A LIST WITHOUT ONE OF ITS MEMBERS

pub map_remove : {A B : Type 0} (f : A → B) (xs : List A) (place : ℕ) → map f (remove xs place) ≡ remove (map f xs) place
map_remove {A} {B} f xs place =
    map-append f (take place xs) (drop (suc place) xs)
    ∙ ap (λ (ys : List B). ys ++ map f (drop (suc place) xs)) (sym (take-map f place xs))
    ∙ ap (λ (ys : List B). take place (map f xs) ++ ys) (sym (drop-map f (suc place) xs))

-- THE FIRST MESSAGE THAT IS LIKE ANOTHER

front_of : (messages : List MessageInFlight) (l : MessageInFlight) (place : ℕ) → slice_get messages place ≡ Some l → messages ≡ take place messages ++ l ∷ drop (suc place) messages
front_of [] l place there = absurd (false≢true (ap is_some there))
front_of (x ∷ xs) l zero there = let same : x ≡ l = cc in ap (λ (y : MessageInFlight). y ∷ xs) same
front_of (x ∷ xs) l (suc place) there = ap (λ (ys : List MessageInFlight). x ∷ ys) (front_of xs l place there)

size_of : (messages : List MessageInFlight) (l : MessageInFlight) (place : ℕ) → slice_get messages place ≡ Some l → place ≡ length (take place messages)
size_of [] l place there = absurd (false≢true (ap is_some there))
size_of (x ∷ xs) l zero there = refl
size_of (x ∷ xs) l (suc place) there = ap suc (size_of xs l place there)

pub first_at : (messages : List MessageInFlight) (l : MessageInFlight) (place : ℕ) → (Has (take place messages) l → ⊥) → slice_get messages place ≡ Some l → IsFirst messages l place
first_at messages l place none there = record {
  front = take place messages;
  back = drop (suc place) messages;
  cut = front_of messages l place there;
  size = size_of messages l place there;
  none = none;
}

taken_on : (messages : List MessageInFlight) (l : MessageInFlight) (place : ℕ) → Has (take (suc place) messages) l → Has (take place messages) l ⊎ (slice_get messages place ≡ Some l)
taken_on [] l place has = absurd has
taken_on (x ∷ xs) l zero (inl same) = inr (ap Some (sym same))
taken_on (x ∷ xs) l zero (inr none) = absurd none
taken_on (x ∷ xs) l (suc place) (inl same) = inl (inl same)
taken_on (x ∷ xs) l (suc place) (inr more) = elim (taken_on xs l place more) [ inl before ↦ inl (inr before) | inr here ↦ inr here ]

pub none_on : (messages : List MessageInFlight) (l : MessageInFlight) (place : ℕ) (found : Bool) → (Has (take place messages) l → ⊥)
    → (IsTrue found ↔ (slice_get messages place ≡ Some l)) → found ≡ false → Has (take (place + 1) messages) l → ⊥
none_on messages l place found none says not has =
    elim (taken_on messages l place (subst (λ n. Has (take n messages) l) (let same : place + 1 ≡ suc place = omega arith in same) has)) [
      | inl before ↦ none before
      | inr here ↦ false≢true (sym not ∙ says.1 here)
    ]

all_taken : {A : Type 0} (xs : List A) (n : ℕ) → length xs ≤ n → take n xs ≡ xs
all_taken [] zero within = refl
all_taken [] (suc n) within = refl
all_taken (x ∷ xs) zero within = absurd (omega (arith, within))
all_taken {A} (x ∷ xs) (suc n) within = ap (λ (ys : List A). x ∷ ys) (all_taken xs n (omega (arith, within)))

pub none_there : (messages : List MessageInFlight) (l : MessageInFlight) (place : ℕ) → (Has (take place messages) l → ⊥) → length messages ≤ place → Has messages l → ⊥
none_there messages l place none past has = none (subst (λ (ls : List MessageInFlight). Has ls l) (sym (all_taken messages place past)) has)

-- LOSSES, one after the other

pub lost_on : (lost count : ℕ) (messages now next : List MessageInFlight) (events before after : List Event) (e : Event) → lost < count → count ≤ length messages
    → now ≡ drop lost messages → before ≡ events ++ replicate lost e → next ≡ remove now 0 → after ≡ before ++ e ∷ []
    → (lost + 1 ≤ count) × (count ≤ length messages) × (next ≡ drop (lost + 1) messages) × (after ≡ events ++ replicate (lost + 1) e)
lost_on lost count messages now next events before after e more within left so_far removed added = (
  omega (arith, more),
  within,
  removed ∙ ap (drop 1) left ∙ drop-drop 1 lost messages,
  added ∙ ap (λ (es : List Event). es ++ e ∷ []) so_far ∙ append_assoc events (replicate lost e) (e ∷ [])
      ∙ ap (λ (es : List Event). events ++ es) (replicate_more lost e),
)

pub on_some_by : {A : Type 0} {P : Type 0} (o : Option A) → IsSome o → OnSome o P → P
on_some_by None some holds = absurd (false≢true some)
on_some_by (Some x) some holds = holds
