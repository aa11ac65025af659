-- Where messages were sent, and of which is told what became of them: one more action, from the last one on.
use Rattle.std.proofs.Common.{◌≡◌, refl, sym, ◌∙◌, ap, subst, ℕ, ◌+◌, ◌<◌, ◌≤◌, ◌^◌, Bool, true, false, List, [], ◌∷◌, drop, length, arith}
use Rattle.std.proofs.lemmas.List.{drop_all, drop_more}
use Rattle.std.proofs.lemmas.Bool.{eq-eqb, eqb-true, false≢true, ltb-true}
use Rattle.std.specs.BTreeMap.{BTreeMap, Updates, get, is_at}
use Rattle.std.specs.BTreeSet.{BTreeSet, contains}
use Rattle.std.specs.BTreeSet as sorted
use Rattle.std.specs.List.{list_any}
use Rattle.std.specs.Map.{lookup}
use Rattle.std.specs.Ordering.{is_eq, nat_cmp}
use Rattle.std.specs.declared.cmp.Ordering.TheVariants.{Equal, Greater, Less}
use Rattle.std.specs.Prelude.{◌&&◌, ◌==◌, ◌||◌, None, nat_lt, if◌then◌else◌, Option, Some, cond, find, option_map, slice_index_or}
use Rattle.da_lang.specs.declared.event.Action.{Action}
use Rattle.da_lang.specs.declared.event.Action.TheVariants.{Again, Answer, End, Fault, Got, Kept, Lost, Out, Sent, Stop, Took}
use Rattle.trace_page.specs.declared.sheet.Place.{Place}
use Rattle.trace_page.specs.declared.spots.ActionAt.{ActionAt}
use Rattle.trace_page.specs.Arrows.{has_end, place_of, sends, sent_at, tells_end}
use Rattle.trace_page.specs.Rows.{Spot}
use Rattle.trace_page.specs.Sheets.{AddsEnd, AddsSending, HasEnds, HasSends, action_at, actions_at, ended_by, key_of, sent_by}

-- a list from a place on is the member there and the rest
from_place : (spots : List ActionAt) (place : ℕ) (s : ActionAt) → place < length spots → s ≡ slice_index_or spots place s → actions_at (drop place spots) ≡ action_at s ∷ actions_at (drop (place + 1) spots)
from_place spots place s inside is = ap actions_at (drop_more spots place s inside ∙ ap (λ x. x ∷ drop (place + 1) spots) (sym is))

mapped_first : (is : Bool) (s : Spot) (found : Option Spot) → option_map place_of (cond is (Some s) found) ≡ (if is then Some (place_of s) else option_map place_of found)
mapped_first true s found = refl
mapped_first false s found = refl

sent_first : (p t : ℕ) (s : Spot) (rest : List Spot) → sent_at (s ∷ rest) p t ≡ (if sends p t s.action then Some (place_of s) else sent_at rest p t)
sent_first p t s rest = mapped_first (sends p t s.action) s (find (λ (x : Spot). sends p t x.action) rest)

-- behind the last action there is none
pub sends_none : (spots : List ActionAt) (place : ℕ) (known : BTreeMap ℕ Place) → length spots ≤ place → known.entries ≡ [] → HasSends known (actions_at (drop place spots))
sends_none spots place known past empty p t few = ap (λ es. lookup (is_at (nat_cmp (key_of p t))) es) empty ∙ ap (λ ss. sent_at (actions_at ss) p t) (sym (drop_all place spots past))

pub ends_none : (spots : List ActionAt) (place : ℕ) (known : BTreeSet ℕ) → length spots ≤ place → known.keys ≡ [] → HasEnds known (actions_at (drop place spots))
ends_none spots place known past empty p t few = ap (λ ks. list_any (is_at (nat_cmp (key_of p t))) ks) empty ∙ ap (λ ss. has_end (actions_at ss) p t) (sym (drop_all place spots past))

pub sends_before : (spots : List ActionAt) (place before : ℕ) (s : ActionAt) (old new : BTreeMap ℕ Place) → before + 1 ≡ place → place ≤ length spots → s ≡ slice_index_or spots before s
    → HasSends old (actions_at (drop place spots)) → AddsSending old (action_at s) new → HasSends new (actions_at (drop before spots))
sends_before spots place before s old new next within is has adds p t few =
    let inside : before < length spots = omega (arith, next, within) in
    adds p t few
    ∙ ap (λ (rest : Option Place). if sends p t s.action.now then Some (place_of (action_at s)) else rest) (has p t few ∙ ap (λ n. sent_at (actions_at (drop n spots)) p t) (sym next))
    ∙ sym (sent_first p t (action_at s) (actions_at (drop (before + 1) spots)))
    ∙ ap (λ all. sent_at all p t) (sym (from_place spots before s inside is))

pub ends_before : (spots : List ActionAt) (place before : ℕ) (s : ActionAt) (old new : BTreeSet ℕ) → before + 1 ≡ place → place ≤ length spots → s ≡ slice_index_or spots before s
    → HasEnds old (actions_at (drop place spots)) → AddsEnd old (action_at s) new → HasEnds new (actions_at (drop before spots))
ends_before spots place before s old new next within is has adds p t few =
    let inside : before < length spots = omega (arith, next, within) in
    adds p t few
    ∙ ap (λ (rest : Bool). tells_end p t s.action.now || rest) (has p t few ∙ ap (λ n. has_end (actions_at (drop n spots)) p t) (sym next))
    ∙ ap (λ all. has_end all p t) (sym (from_place spots before s inside is))

-- all were looked at
pub sends_all : (spots : List ActionAt) (place : ℕ) (known : BTreeMap ℕ Place) → place ≤ 0 → HasSends known (actions_at (drop place spots)) → HasSends known (actions_at spots)
sends_all spots place known none has = subst (λ n. HasSends known (actions_at (drop n spots))) (let first : place ≡ 0 = omega (arith, none) in first) has

pub ends_all : (spots : List ActionAt) (place : ℕ) (known : BTreeSet ℕ) → place ≤ 0 → HasEnds known (actions_at (drop place spots)) → HasEnds known (actions_at spots)
ends_all spots place known none has = subst (λ n. HasEnds known (actions_at (drop n spots))) (let first : place ≡ 0 = omega (arith, none) in first) has

-- KEYS

is_eq_at : (x y : ℕ) → is_eq (nat_cmp x y) ≡ (x == y)
is_eq_at x y = at (nat_lt x y) (x == y) refl refl
  where
    at : (less same : Bool) → nat_lt x y ≡ less → (x == y) ≡ same → is_eq (cond less Less (cond same Equal Greater)) ≡ same
    at true true below is = absurd (omega (arith, ltb-true x y below, eqb-true x y is))
    at true false below is = refl
    at false true below is = refl
    at false false below is = refl

-- two messages of processes with numbers of 16 bits have the same key only where they are the same
one_key : (p q t u : ℕ) → p < 2 ^ 16 → q < 2 ^ 16 → key_of p t ≡ key_of q u → (p ≡ q) × (t ≡ u)
one_key p q t u few also same = let times : t ≡ u = omega (arith, few, also, same) in (omega (arith, same, times), times)

same_key : (p q t u : ℕ) → p < 2 ^ 16 → q < 2 ^ 16 → (key_of p t == key_of q u) ≡ ((p == q) && (t == u))
same_key p q t u few also = at (key_of p t == key_of q u) refl
  where
    neither : (key_of p t == key_of q u) ≡ false → (a b : Bool) → (p == q) ≡ a → (t == u) ≡ b → false ≡ (a && b)
    neither differs true true one two =
        let same : key_of p t ≡ key_of q u = omega (arith, eqb-true p q one, eqb-true t u two) in
        absurd (false≢true (sym differs ∙ eq-eqb (key_of p t) (key_of q u) same))
    neither differs true false one two = refl
    neither differs false b one two = refl

    at : (same : Bool) → (key_of p t == key_of q u) ≡ same → same ≡ ((p == q) && (t == u))
    at true is = let both = one_key p q t u few also (eqb-true (key_of p t) (key_of q u) is) in sym (ap (λ a. a && (t == u)) (eq-eqb p q both.0) ∙ eq-eqb t u both.1)
    at false is = neither is (p == q) (t == u) refl refl

found_at : (p q t u : ℕ) → p < 2 ^ 16 → q < 2 ^ 16 → is_eq (nat_cmp (key_of p t) (key_of q u)) ≡ ((p == q) && (t == u))
found_at p q t u few also = is_eq_at (key_of p t) (key_of q u) ∙ same_key p q t u few also

-- ONE ACTION

sends_same : (a : Action) (p t q u : ℕ) → sent_by a ≡ Some (p, t) → sends q u a ≡ ((p == q) && (t == u))
sends_same (Sent p' r t' v) p t q u is = let both : (p', t') ≡ (p, t) = cc in ap (λ (m : ℕ × ℕ). (m.0 == q) && (m.1 == u)) both
sends_same (Took r k) p t q u is = absurd (cc)
sends_same (Got r o w v) p t q u is = absurd (cc)
sends_same (Lost r o w) p t q u is = absurd (cc)
sends_same (Again r o w) p t q u is = absurd (cc)
sends_same (Out r v) p t q u is = absurd (cc)
sends_same (End r) p t q u is = absurd (cc)
sends_same (Fault r kind line) p t q u is = absurd (cc)
sends_same (Answer r n rows) p t q u is = absurd (cc)
sends_same (Kept r n) p t q u is = absurd (cc)
sends_same (Stop i) p t q u is = absurd (cc)

sends_no_other : (a : Action) (q u : ℕ) → sent_by a ≡ None → sends q u a ≡ false
sends_no_other (Sent p r t v) q u is = absurd (cc)
sends_no_other (Took r k) q u is = refl
sends_no_other (Got r o w v) q u is = refl
sends_no_other (Lost r o w) q u is = refl
sends_no_other (Again r o w) q u is = refl
sends_no_other (Out r v) q u is = refl
sends_no_other (End r) q u is = refl
sends_no_other (Fault r kind line) q u is = refl
sends_no_other (Answer r n rows) q u is = refl
sends_no_other (Kept r n) q u is = refl
sends_no_other (Stop i) q u is = refl

pub sending_added : (s : Spot) (p t : ℕ) (old new : BTreeMap ℕ Place) → p < 2 ^ 16 → sent_by s.action ≡ Some (p, t) → Updates nat_cmp old new (key_of p t) (Some (place_of s)) → AddsSending old s new
sending_added s p t old new few is updates q u also =
    updates.0 (key_of q u) ∙ ap (λ (b : Bool). if b then Some (place_of s) else get nat_cmp old (key_of q u)) (found_at p q t u few also ∙ sym (sends_same s.action p t q u is))

pub no_sending : (s : Spot) (known : BTreeMap ℕ Place) → sent_by s.action ≡ None → AddsSending known s known
no_sending s known is q u also = ap (λ (b : Bool). if b then Some (place_of s) else get nat_cmp known (key_of q u)) (sym (sends_no_other s.action q u is))

ends_same : (a : Action) (p t q u : ℕ) → ended_by a ≡ Some (p, t) → tells_end q u a ≡ ((p == q) && (t == u))
ends_same (Got r p' t' v) p t q u is = let both : (p', t') ≡ (p, t) = cc in ap (λ (m : ℕ × ℕ). (m.0 == q) && (m.1 == u)) both
ends_same (Lost p' r t') p t q u is = let both : (p', t') ≡ (p, t) = cc in ap (λ (m : ℕ × ℕ). (m.0 == q) && (m.1 == u)) both
ends_same (Took r k) p t q u is = absurd (cc)
ends_same (Sent r o w v) p t q u is = absurd (cc)
ends_same (Again r o w) p t q u is = absurd (cc)
ends_same (Out r v) p t q u is = absurd (cc)
ends_same (End r) p t q u is = absurd (cc)
ends_same (Fault r kind line) p t q u is = absurd (cc)
ends_same (Answer r n rows) p t q u is = absurd (cc)
ends_same (Kept r n) p t q u is = absurd (cc)
ends_same (Stop i) p t q u is = absurd (cc)

ends_no_other : (a : Action) (q u : ℕ) → ended_by a ≡ None → tells_end q u a ≡ false
ends_no_other (Got r p t v) q u is = absurd (cc)
ends_no_other (Lost p r t) q u is = absurd (cc)
ends_no_other (Took r k) q u is = refl
ends_no_other (Sent r o w v) q u is = refl
ends_no_other (Again r o w) q u is = refl
ends_no_other (Out r v) q u is = refl
ends_no_other (End r) q u is = refl
ends_no_other (Fault r kind line) q u is = refl
ends_no_other (Answer r n rows) q u is = refl
ends_no_other (Kept r n) q u is = refl
ends_no_other (Stop i) q u is = refl

here_or_before : (here before : Bool) → cond here true before ≡ (here || before)
here_or_before true before = refl
here_or_before false before = refl

pub end_added : (s : Spot) (p t : ℕ) (old new : BTreeSet ℕ) → p < 2 ^ 16 → ended_by s.action ≡ Some (p, t) → sorted.Updates nat_cmp old new (key_of p t) true → AddsEnd old s new
end_added s p t old new few is updates q u also =
    updates.0 (key_of q u)
    ∙ ap (λ (b : Bool). cond b true (contains nat_cmp old (key_of q u))) (found_at p q t u few also ∙ sym (ends_same s.action p t q u is))
    ∙ here_or_before (tells_end q u s.action) (contains nat_cmp old (key_of q u))

pub no_end : (s : Spot) (known : BTreeSet ℕ) → ended_by s.action ≡ None → AddsEnd known s known
no_end s known is q u also = ap (λ (b : Bool). b || contains nat_cmp known (key_of q u)) (sym (ends_no_other s.action q u is))

-- WHAT IS LOOKED UP

pub sent_found : (known : BTreeMap ℕ Place) (spots : List Spot) (p t k : ℕ) → HasSends known spots → p < 2 ^ 16 → k ≡ key_of p t → get nat_cmp known k ≡ sent_at spots p t
sent_found known spots p t k has few is = ap (λ (n : ℕ). get nat_cmp known n) is ∙ has p t few

pub end_found : (known : BTreeSet ℕ) (spots : List Spot) (p t k : ℕ) → HasEnds known spots → p < 2 ^ 16 → k ≡ key_of p t → contains nat_cmp known k ≡ has_end spots p t
end_found known spots p t k has few is = ap (λ (n : ℕ). contains nat_cmp known n) is ∙ has p t few
