-- The index by numbers: what is looked up, and what comes or goes.
use Rattle.std.specs.Prelude.{◌≡◌, ◌⊎◌, ℕ, zero, suc, ◌+◌, ◌<◌, ◌≤◌, Bool, true, false, List, [], ◌∷◌, ◌++◌, length, nat_eq, Option, Some, None, MatchOption, slice_get, IsFalse, IsTrue, refl}
use Rattle.std.proofs.Common.{sym, ap, ◌∙◌, subst, inl, inr, arith}
use Rattle.std.proofs.lemmas.Bool.{cases_eq}
use Rattle.std.specs.Cmp.{unsigned_Decides}
use Rattle.std.specs.Map.{lookup}
use Rattle.da_values.specs.Keys.{same_value, same_value-is}
use Rattle.da_values.specs.Sets.{Has}
use Rattle.da_values.specs.Value.{val_of}
use Rattle.da_values.specs.declared.val.Val.{Val}
use Rattle.indexmap.specs.IndexMap.{IndexMap, UpdatesBy}
use Rattle.row_pool.specs.declared.cell.Cell.{Cell}
use Rattle.row_pool.specs.Cells.{Cells, cell_at, count, value_at, value_in}
use Rattle.row_pool.specs.Index.{AreMarked, Comes, Goes, SameCounts, or_none, under}
use Rattle.row_pool.specs.Marks.{mark}
use Rattle.row_pool.proofs.CountLaws.{count_append, count_self}
use Rattle.row_pool.proofs.MarkLaws.{counted_has, has_counted, listed}
use Rattle.row_pool.proofs.UseLaws.{cell_of}

-- WHAT IS UNDER A NUMBER

-- A value that is there is under its number.
pub under_mark : (keys : ℕ → List ℕ) (s : Cells) (k : ℕ) (x : Val) → AreMarked keys s → value_at s k ≡ Some x → Has (keys (mark x)) k
under_mark keys s k x marks is =
    let (c, at, same) = cell_of s k x (cell_at s k) refl is in
    subst (λ (n : ℕ). Has (keys n) k) (marks.marked k c at ∙ ap mark same) (listed keys s k c marks at)

pub among_all : (keys : ℕ → List ℕ) (s : Cells) (x : Val) (found : List ℕ) (n : ℕ) (r : Option ℕ) → AreMarked keys s → n ≡ mark x → keys n ≡ found
    → MatchOption r ((k : ℕ) → Has found k → value_at s k ≡ Some x → ⊥) (λ key. value_at s key ≡ Some x) → MatchOption r ((k : ℕ) → value_at s k ≡ Some x → ⊥) (λ key. value_at s key ≡ Some x)
among_all keys s x found n None marks number is absent =
    λ k at. absent k (subst (λ (ks : List ℕ). Has ks k) (ap keys (sym number) ∙ is) (under_mark keys s k x marks at)) at
among_all keys s x found n (Some key) marks number is there = there

pub among_none : (keys : ℕ → List ℕ) (s : Cells) (x : Val) (n : ℕ) → AreMarked keys s → n ≡ mark x → keys n ≡ [] → (k : ℕ) → value_at s k ≡ Some x → ⊥
among_none keys s x n marks number none k at = subst (λ (ks : List ℕ). Has ks k) (ap keys (sym number) ∙ none) (under_mark keys s k x marks at)

-- A loop over keys: what is among all of them and not yet passed is among those that are left.
pub passes : (keys left rest : List ℕ) (one k : ℕ) → (Has keys k → Has left k) → left ≡ one ∷ rest → (one ≡ k → ⊥) → Has keys k → Has rest k
passes keys left rest one k before is other has = go (subst (λ (ks : List ℕ). Has ks k) is (before has))
  where
    go : (k ≡ one) ⊎ Has rest k → Has rest k
    go (inl same) = absurd (other (sym same))
    go (inr more) = more

pub none_left : (keys left : List ℕ) (k : ℕ) → (Has keys k → Has left k) → left ≡ [] → Has keys k → ⊥
none_left keys left k before is has = subst (λ (ks : List ℕ). Has ks k) is (before has)

-- The same of the keys of one value.
pub passes_value : (s : Cells) (x : Val) (keys left rest : List ℕ) (one : ℕ) → ((k : ℕ) → Has keys k → value_at s k ≡ Some x → Has left k) → left ≡ one ∷ rest → (value_at s one ≡ Some x → ⊥)
    → (k : ℕ) → Has keys k → value_at s k ≡ Some x → Has rest k
passes_value s x keys left rest one before is other k has at =
    passes keys left rest one k (λ there. before k there at) is (λ same. other (ap (value_at s) same ∙ at)) has

-- A test whether two values are the same.
pub same_there : (s : Cells) (k : ℕ) (c : Cell) (x : Val) (b : Bool) → cell_at s k ≡ Some c → b ≡ same_value (val_of c.value) x → IsTrue b → value_at s k ≡ Some x
same_there s k c x b at test true_is = ap value_in at ∙ ap Some ((same_value-is (val_of c.value) x).0 (sym test ∙ true_is))

pub not_same : (s : Cells) (k : ℕ) (c : Cell) (x : Val) (b : Bool) → cell_at s k ≡ Some c → b ≡ same_value (val_of c.value) x → IsFalse b → value_at s k ≡ Some x → ⊥
not_same s k c x b at test false_is is =
    let both : Some (val_of c.value) ≡ Some x = sym (ap value_in at) ∙ is in
    let same : val_of c.value ≡ x = cc both in
    let clash : true ≡ false = sym ((same_value-is (val_of c.value) x).1 same) ∙ sym test ∙ false_is in
    cc clash

pub not_named : (s : Cells) (k : ℕ) (x : Val) → cell_at s k ≡ None → value_at s k ≡ Some x → ⊥
not_named s k x none is = let clash : None ≡ Some x = sym (ap value_in none) ∙ is in cc clash

-- MAPS

apart_by : (m q : ℕ) → (q ≡ m → ⊥) → (b : Bool) → nat_eq m q ≡ b → b ≡ false
apart_by m q ne true is = absurd (ne (sym ((unsigned_Decides m q).0 is)))
apart_by m q ne false is = refl

apart : (m q : ℕ) → (q ≡ m → ⊥) → nat_eq m q ≡ false
apart m q ne = apart_by m q ne (nat_eq m q) refl

pub same_map : {S : Type 0} (m n : IndexMap ℕ (List ℕ) S) → n ≡ m → SameCounts (under m) (under n)
same_map {S} m n same = λ number k. ap (λ (z : IndexMap ℕ (List ℕ) S). count k (under z number)) same

pub same_entries : {S : Type 0} (m n : IndexMap ℕ (List ℕ) S) → n.entries ≡ m.entries → SameCounts (under m) (under n)
same_entries m n same = λ number k. ap (λ (es : List (ℕ × List ℕ)). count k (or_none (lookup (nat_eq number) es))) same

pub no_entries : {S : Type 0} (m : IndexMap ℕ (List ℕ) S) → m.entries ≡ [] → (number : ℕ) → under m number ≡ []
no_entries m empty number = ap (λ (es : List (ℕ × List ℕ)). or_none (lookup (nat_eq number) es)) empty

-- A number gets these keys.
module _ (S : Type 0) (m n : IndexMap ℕ (List ℕ) S) (number key : ℕ) (now : Option (List ℕ)) (updates : UpdatesBy nat_eq (nat_eq number) m n now) where
  now_under : under n number ≡ or_none now
  now_under = ap or_none updates.1

  elsewhere : (q : ℕ) → (q ≡ number → ⊥) → under n q ≡ under m q
  elsewhere q ne = ap or_none (updates.2 q (apart number q ne))

  pub comes_by : (was : List ℕ) → under m number ≡ was → or_none now ≡ was ++ key ∷ [] → Comes (under m) (under n) number key
  comes_by was before after = record {
    here = λ k.
        let old : count k (under m number) ≡ count k was = ap (count k) before in
        let new : count k (under n number) ≡ count k (was ++ key ∷ []) = ap (count k) (now_under ∙ after) in
        omega (arith, old, new, count_append k was (key ∷ []));
    others = elsewhere;
  }

  pub goes_by : (was left : List ℕ) → under m number ≡ was → or_none now ≡ left → ((k : ℕ) → count k was ≡ count k left + count k (key ∷ [])) → Goes (under m) (under n) number key
  goes_by was left before after counts = record {
    here = λ k.
        let old : count k (under m number) ≡ count k was = ap (count k) before in
        let new : count k (under n number) ≡ count k left = ap (count k) (now_under ∙ after) in
        omega (arith, old, new, counts k);
    others = elsewhere;
  }

  pub same_by : (was : List ℕ) → under m number ≡ was → or_none now ≡ was → SameCounts (under m) (under n)
  same_by was before after = λ q k. go q k (cases_eq q number)
    where
      go : (q k : ℕ) → (q ≡ number) ⊎ (q ≡ number → ⊥) → count k (under n q) ≡ count k (under m q)
      go q k (inl same) =
          let old : count k (under m q) ≡ count k was = ap (count k) (ap (under m) same ∙ before) in
          let new : count k (under n q) ≡ count k was = ap (count k) (ap (under n) same ∙ now_under ∙ after) in
          new ∙ sym old
      go q k (inr ne) = ap (count k) (elsewhere q ne)

-- The first key of a number.
pub first_comes : {S : Type 0} (m n : IndexMap ℕ (List ℕ) S) (number key : ℕ) (keys : List ℕ) → under m number ≡ [] → keys ≡ key ∷ [] → UpdatesBy nat_eq (nat_eq number) m n (Some keys) → Comes (under m) (under n) number key
first_comes m n number key keys none one updates = comes_by _ m n number key (Some keys) updates [] none one

-- One more key of a number that has some, and the same where there was no memory for it.
pub next_comes : {S : Type 0} (m n : IndexMap ℕ (List ℕ) S) (number key : ℕ) (was keys : List ℕ) → under m number ≡ was → UpdatesBy nat_eq (nat_eq number) m n (Some keys) → keys ≡ was ++ key ∷ [] → Comes (under m) (under n) number key
next_comes m n number key was keys before updates more = comes_by _ m n number key (Some keys) updates was before more

pub none_comes : {S : Type 0} (m n : IndexMap ℕ (List ℕ) S) (number : ℕ) (was keys : List ℕ) → under m number ≡ was → UpdatesBy nat_eq (nat_eq number) m n (Some keys) → keys ≡ was → SameCounts (under m) (under n)
none_comes m n number was keys before updates same = same_by _ m n number 0 (Some keys) updates was before same

-- The only key of a number.
alone_in : (xs : List ℕ) (key : ℕ) → Has xs key → length xs ≤ 1 → xs ≡ key ∷ []
alone_in [] key has few = absurd has
alone_in (x ∷ []) key (inl same) few = ap (λ (y : ℕ). y ∷ []) (sym same)
alone_in (x ∷ []) key (inr more) few = absurd more
alone_in (x ∷ y ∷ ys) key has few = absurd (omega (arith, few))

pub last_goes : {S : Type 0} (m n : IndexMap ℕ (List ℕ) S) (number : ℕ) → length (under m number) ≤ 1 → UpdatesBy nat_eq (nat_eq number) m n None → (key : ℕ) → Has (under m number) key → Goes (under m) (under n) number key
last_goes m n number few updates key has =
    goes_by _ m n number key None updates (key ∷ []) [] (alone_in (under m number) key has few) refl (λ k. omega arith)

-- WHAT COMES AND GOES AGAIN

pub still_has : (old new : ℕ → List ℕ) (number key n k : ℕ) → Comes old new number key → Has (old n) k → Has (new n) k
still_has old new number key n k comes has = go (cases_eq n number)
  where
    go : (n ≡ number) ⊎ (n ≡ number → ⊥) → Has (new n) k
    go (inl same) =
        let before : count k (old n) ≡ count k (old number) = ap (λ m. count k (old m)) same in
        let after : count k (new n) ≡ count k (new number) = ap (λ m. count k (new m)) same in
        counted_has k (new n) (omega (arith, before, after, has_counted k (old n) has, comes.here k))
    go (inr ne) = subst (λ (ks : List ℕ). Has ks k) (sym (comes.others n ne)) has

pub has_come : (old new : ℕ → List ℕ) (number key : ℕ) → Comes old new number key → Has (new number) key
has_come old new number key comes = counted_has key (new number) (omega (arith, comes.here key, count_self key))

pub come_and_gone : (old between new : ℕ → List ℕ) (number key : ℕ) → Comes old between number key → Goes between new number key → SameCounts old new
come_and_gone old between new number key comes goes = λ n k. go n k (cases_eq n number)
  where
    go : (n k : ℕ) → (n ≡ number) ⊎ (n ≡ number → ⊥) → count k (new n) ≡ count k (old n)
    go n k (inl same) =
        let before : count k (old n) ≡ count k (old number) = ap (λ m. count k (old m)) same in
        let after : count k (new n) ≡ count k (new number) = ap (λ m. count k (new m)) same in
        omega (arith, before, after, comes.here k, goes.here k)
    go n k (inr ne) = ap (count k) (goes.others n ne ∙ comes.others n ne)

-- PLACES OF KEYS

pub place_within : (xs : List ℕ) (i k : ℕ) → slice_get xs i ≡ Some k → i < length xs
place_within [] i k at = absurd (cc at)
place_within (x ∷ xs) zero k at = omega arith
place_within (x ∷ xs) (suc i) k at = omega (arith, place_within xs i k at)
