-- What patterns take, one form at a time.
use Rattle.std.specs.Prelude.{◌≡◌, ℕ, zero, suc, ◌+◌, List, [], ◌∷◌, ◌++◌, ◌<◌, ◌≤◌, drop, length, map, slice_get, Result, Ok, Err, refl}
use denote.Bor.{Bor}
use Rattle.std.proofs.Common.{add-one, ap, get_or, sym, subst, ◌∙◌, arith, length-append}
use Rattle.std.proofs.Math.Seq.{drop-cons}
use Rattle.std.proofs.lemmas.List.{append-nil, drop_all}
use Rattle.da_values.specs.declared.val.Val.{Val, out-Val}
use Rattle.da_values.specs.declared.value.Value.{Value}
use Rattle.da_values.specs.declared.value.Value.TheVariants as kept
use Rattle.da_values.specs.Layer.{layer, out-val_of}
use Rattle.da_values.specs.Value.{val_of, vals}
use Rattle.da_lang.specs.declared.query.Pattern.{Pattern}
use Rattle.da_lang.specs.declared.query.Pattern.TheVariants as pattern
use Rattle.da_lang.specs.declared.query.Pattern.TheOpen as made
use Rattle.da_lang.specs.declared.query.Pattern.TheFolds.{fold-roll-Pattern}
use Rattle.da_lang.specs.declared.query.Term.{Term}
use Rattle.da_lang.specs.Matching.{Row}
use Rattle.da_pattern.specs.RowView.{Finds}
use Rattle.da_pattern.specs.Taken.{Takes, taken, taken_parts, taken_step, taken_tuple}

module _ (x : Val) where
  abbrev take_of : Pattern → Row
  take_of p = taken p x

  pub taken-Any : taken pattern.Any x ≡ []
  taken-Any = ap take_of (sym pattern.rolls-Any) ∙ ap (λ (m : Takes). m x) (fold-roll-Pattern Takes taken_step made.Any)

  pub taken-Bind : taken pattern.Bind x ≡ x ∷ []
  taken-Bind = ap take_of (sym pattern.rolls-Bind) ∙ ap (λ (m : Takes). m x) (fold-roll-Pattern Takes taken_step made.Bind)

  pub taken-Const : (c : Value) → taken (pattern.Const c) x ≡ []
  taken-Const c = ap take_of (sym (pattern.rolls-Const c)) ∙ ap (λ (m : Takes). m x) (fold-roll-Pattern Takes taken_step (made.Const c))

  pub taken-Me : taken pattern.Me x ≡ []
  taken-Me = ap take_of (sym pattern.rolls-Me) ∙ ap (λ (m : Takes). m x) (fold-roll-Pattern Takes taken_step made.Me)

  pub taken-Equal : (t : Term) → taken (pattern.Equal t) x ≡ []
  taken-Equal t = ap take_of (sym (pattern.rolls-Equal t)) ∙ ap (λ (m : Takes). m x) (fold-roll-Pattern Takes taken_step (made.Equal t))

  taken-Tuple : (parts : List Pattern) → taken (pattern.Tuple parts) x ≡ taken_tuple (map taken parts) (out-Val x)
  taken-Tuple parts = ap take_of (sym (pattern.rolls-Tuple parts)) ∙ ap (λ (m : Takes). m x) (fold-roll-Pattern Takes taken_step (made.Tuple parts))

-- of a tuple part by part, and of no value of another kind
abbrev pub taken_of_tuple : List Pattern → Value → Row
taken_of_tuple parts (kept.Tuple xs) = taken_parts (map taken parts) xs
taken_of_tuple parts _ = []

pub no_tuple : (parts : List Pattern) (v : Value) → ((xs : List Val) → v ≡ kept.Tuple xs → ⊥) → taken_of_tuple parts v ≡ []
no_tuple parts (kept.Tuple xs) other = absurd (other xs refl)
no_tuple parts (kept.Int number) other = refl
no_tuple parts (kept.Bool truth) other = refl
no_tuple parts (kept.Text text) other = refl
no_tuple parts (kept.Proc process) other = refl
no_tuple parts (kept.Set elements) other = refl

tuple_at : (parts : List Pattern) (v : Value) → taken (pattern.Tuple parts) (val_of v) ≡ taken_tuple (map taken parts) (layer v)
tuple_at parts v = taken-Tuple (val_of v) parts ∙ ap (taken_tuple (map taken parts)) (out-val_of v)

pub taken-Tuple_of : (parts : List Pattern) (v : Value) → taken (pattern.Tuple parts) (val_of v) ≡ taken_of_tuple parts v
taken-Tuple_of parts (kept.Int number) = tuple_at parts (kept.Int number)
taken-Tuple_of parts (kept.Bool truth) = tuple_at parts (kept.Bool truth)
taken-Tuple_of parts (kept.Text text) = tuple_at parts (kept.Text text)
taken-Tuple_of parts (kept.Proc process) = tuple_at parts (kept.Proc process)
taken-Tuple_of parts (kept.Tuple xs) = tuple_at parts (kept.Tuple xs)
taken-Tuple_of parts (kept.Set xs) = tuple_at parts (kept.Set xs)

pub ruleset taken_at = (taken-Any, taken-Bind, taken-Const, taken-Me, taken-Equal, taken-Tuple_of)

-- FINDING A PLACE

pub found_front : (xs ys : Row) (at : ℕ) (v : Bor Value) → Finds xs at (Ok v) → Finds (xs ++ ys) at (Ok v)
found_front [] ys at v found = absurd (cc)
found_front (x ∷ xs) ys zero v found = found
found_front (x ∷ xs) ys (suc at) v found = found_front xs ys at v found

get_after : (xs ys : Row) (left : ℕ) → slice_get (xs ++ ys) (length xs + left) ≡ slice_get ys left
get_after [] ys left = ap (slice_get ys) (let same : 0 + left ≡ left = omega arith in same)
get_after (x ∷ xs) ys left = ap (slice_get (x ∷ (xs ++ ys))) (let same : suc (length xs) + left ≡ suc (length xs + left) = omega arith in same) ∙ get_after xs ys left

pub found_behind : (xs ys : Row) (at left : ℕ) (r : Result (Bor Value) ℕ) → Finds xs at (Err left) → Finds ys left r → Finds (xs ++ ys) at r
found_behind xs ys at left (Ok v) passed found = ap (slice_get (xs ++ ys)) passed ∙ get_after xs ys left ∙ found
found_behind xs ys at left (Err behind) passed found = omega (arith, passed, found, length-append xs ys)

-- what is left of the parts of a tuple, from a place on
module _ (parts : List Pattern) (values : List Value) (at : ℕ) where
  abbrev pub rest_from : ℕ → Row
  rest_from place = taken_parts (map taken (drop place parts)) (vals (drop place values))

  -- so far nothing was found, and the place lies so far on
  abbrev pub NotYet : ℕ → ℕ → Type 0
  NotYet left place = (r : Result (Bor Value) ℕ) → Finds (rest_from place) left r → Finds (rest_from 0) at r

  pub not_yet : NotYet at 0
  not_yet r found = found

  module _ (left place : ℕ) (so_far : NotYet left place) where
    module _ (p : Pattern) (v : Value) (in_parts : place < length parts) (in_values : place < length values) where
      abbrev part : Row
      part = taken (get_or parts place p) (val_of (get_or values place v))

      split : rest_from place ≡ part ++ rest_from (place + 1)
      split =
          ap (λ zs. taken_parts (map taken zs) (vals (drop place values))) (drop-cons parts place p in_parts ∙ ap (λ n. get_or parts place p ∷ drop n parts) (sym (add-one place)))
          ∙ ap (λ zs. taken_parts (map taken (get_or parts place p ∷ drop (place + 1) parts)) (vals zs)) (drop-cons values place v in_values ∙ ap (λ n. get_or values place v ∷ drop n values) (sym (add-one place)))

      module _ (q : Pattern) (w : Value) (q_is : q ≡ get_or parts place p) (w_is : w ≡ get_or values place v) where
        same_part : taken q (val_of w) ≡ part
        same_part = ap (λ z. taken z (val_of w)) q_is ∙ ap (λ z. taken (get_or parts place p) (val_of z)) w_is

        pub found_here : (x : Bor Value) → Finds (taken q (val_of w)) left (Ok x) → Finds (rest_from 0) at (Ok x)
        found_here x found = so_far (Ok x) (subst (λ z. Finds z left (Ok x)) (sym split) (found_front part (rest_from (place + 1)) left x (subst (λ z. Finds z left (Ok x)) same_part found)))

        pub goes_after : (behind : ℕ) → Finds (taken q (val_of w)) left (Err behind) → NotYet behind (place + 1)
        goes_after behind passed r found =
            so_far r (subst (λ z. Finds z left r) (sym split) (found_behind part (rest_from (place + 1)) left behind r (subst (λ z. Finds z left (Err behind)) same_part passed) found))

    nothing_left : rest_from place ≡ [] → Finds (rest_from 0) at (Err left)
    nothing_left none = so_far (Err left) (subst (λ z. Finds z left (Err left)) (sym none) (omega arith))

    pub no_part : length parts ≤ place → Finds (rest_from 0) at (Err left)
    no_part end = nothing_left (ap (λ zs. taken_parts (map taken zs) (vals (drop place values))) (drop_all place parts end))

    no_value : (ps : List Pattern) → taken_parts (map taken ps) [] ≡ []
    no_value [] = refl
    no_value (q ∷ ps) = refl

    pub no_values : length values ≤ place → Finds (rest_from 0) at (Err left)
    no_values end = nothing_left (ap (λ zs. taken_parts (map taken (drop place parts)) (vals zs)) (drop_all place values end) ∙ no_value (drop place parts))

-- a tuple takes nothing of a value of another kind
pub takes_nothing : (p : Pattern) (v : Value) (parts : List Pattern) (row : Row) → p ≡ pattern.Tuple parts → ((xs : List Val) → v ≡ kept.Tuple xs → ⊥) → row ≡ row ++ taken p (val_of v)
takes_nothing p v parts row is other =
    sym (ap (λ z. row ++ z) (ap (λ q. taken q (val_of v)) is ∙ taken-Tuple_of parts v ∙ no_tuple parts v other) ∙ append-nil row)
