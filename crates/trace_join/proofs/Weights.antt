-- What messages weigh together, and that a message weighs as much as others only where they have it.
use Rattle.std.specs.Prelude.{◌≡◌, ◌&&◌, ◌==◌, ℕ, ◌+◌, ◌<◌, Bool, true, cond, if◌then◌else◌, List, [], ◌∷◌, ◌++◌, refl}
use Rattle.std.specs.Ordering.{is_eq}
use Rattle.std.specs.declared.cmp.Ordering.{Ordering}
use Rattle.std.specs.declared.cmp.Ordering.TheVariants.{Less, Equal, Greater}
use Rattle.std.proofs.Common.{sym, ap, ◌∙◌, inl, inr, arith}
use Rattle.std.proofs.lemmas.Bool.{false≢true, and_parts, and_from, eqb-true, eq-eqb, cases_Bool}
use Rattle.std.proofs.lemmas.Cmp.{tied_itself}
use Rattle.da_values.specs.declared.val.Val.{Val}
use Rattle.da_values.specs.Order.{val_cmp}
use Rattle.da_values.specs.Sets.{Has}
use Rattle.da_values.proofs.OrderLaws.{same_from_val_cmp, val_order}
use Rattle.da_system.specs.Channels.{MessageInFlight}
use Rattle.trace_join.specs.Remains.{weight_of}

pub weight-append : (weight : MessageInFlight → ℕ) (xs ys : List MessageInFlight) → weight_of weight (xs ++ ys) ≡ weight_of weight xs + weight_of weight ys
weight-append weight [] ys = omega arith
weight-append weight (x ∷ xs) ys = let rest : weight_of weight (xs ++ ys) ≡ weight_of weight xs + weight_of weight ys = weight-append weight xs ys in omega
    (arith, rest)

pub weight-middle : (weight : MessageInFlight → ℕ) (front : List MessageInFlight) (x : MessageInFlight) (back : List MessageInFlight)
    → weight_of weight (front ++ x ∷ back) ≡ weight x + weight_of weight (front ++ back)
weight-middle weight [] x back = refl
weight-middle weight (y ∷ front) x back =
    let rest : weight_of weight (front ++ x ∷ back) ≡ weight x + weight_of weight (front ++ back) = weight-middle weight front x back in omega (arith, rest)

-- EQUAL MESSAGES

abbrev is_same : MessageInFlight → MessageInFlight → Bool
is_same a b = is_eq (val_cmp a.message b.message) && (a.time == b.time)

equal_by : (o : Ordering) → is_eq o ≡ true → o ≡ Equal
equal_by Less is = absurd (false≢true is)
equal_by Equal is = refl
equal_by Greater is = absurd (false≢true is)

same_by : (a b : MessageInFlight) → is_same a b ≡ true → a ≡ b
same_by a b is =
    let (messages, times) = and_parts (is_eq (val_cmp a.message b.message)) (a.time == b.time) is in
    ap (λ (m : Val). record { message = m; time = a.time }) (same_from_val_cmp a.message b.message (equal_by (val_cmp a.message b.message) messages))
    ∙ ap (λ n. record { message = b.message; time = n }) (eqb-true a.time b.time times)

same_itself : (a : MessageInFlight) → is_same a a ≡ true
same_itself a = and_from (is_eq (val_cmp a.message a.message)) (a.time == a.time) (ap is_eq (tied_itself val_order a.message)) (eq-eqb a.time a.time refl)

-- the weight of this message is one, and that of all others nothing
abbrev only : MessageInFlight → MessageInFlight → ℕ
only a b = if is_same a b then 1 else 0

only_itself : (a : MessageInFlight) → only a a ≡ 1
only_itself a = ap (λ (b : Bool). cond b 1 0) (same_itself a)

has_weighed : (a : MessageInFlight) (xs : List MessageInFlight) → 0 < weight_of (only a) xs → Has xs a
has_weighed a [] some = absurd (omega (arith, some))
has_weighed a (x ∷ xs) some = elim (cases_Bool (is_same a x)) [
  | inl same ↦ inl (same_by a x same)
  | inr other ↦ inr (has_weighed a xs (let none : only a x ≡ 0 = ap (λ (b : Bool). cond b 1 0) other in omega (arith, some, none)))
]

weighs_there : (a : MessageInFlight) (xs : List MessageInFlight) → Has xs a → 0 < weight_of (only a) xs
weighs_there a [] none = absurd none
weighs_there a (x ∷ xs) (inl same) = let one : only a x ≡ 1 = ap (only a) (sym same) ∙ only_itself a in omega (arith, one)
weighs_there a (x ∷ xs) (inr has) = let more : 0 < weight_of (only a) xs = weighs_there a xs has in omega (arith, more)

pub has_balanced : (a : MessageInFlight) (xs ys : List MessageInFlight) → Has xs a → ((weight : MessageInFlight → ℕ) → weight_of weight xs ≡ weight_of weight ys) → Has ys a
has_balanced a xs ys has balanced = has_weighed a ys (let some : 0 < weight_of (only a) xs = weighs_there a xs has in omega (arith, some, balanced (only a)))
