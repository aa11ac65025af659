-- Marks of the slots that are in use.
use Rattle.std.specs.Prelude.{◌≡◌, refl, ℕ, zero, suc, ◌+◌, ◌==◌, ◌||◌, ◌<◌, ◌≤◌, Bool, true, false, if◌then◌else◌, List, [], ◌∷◌, ◌++◌, length, slice_set}
use Rattle.std.specs.Borrow.{Bor}
use Rattle.std.specs.List.{list_any}
use Rattle.std.proofs.Common.{◌∙◌, ap, ap₂, sym, append_assoc, append-nil, arith, subst, take, get_or}
use Rattle.std.proofs.lemmas.List.{map-append, take_more}
use Rattle.std.proofs.lemmas.Bool.{eq-eqb, eqb-true, false≢true, le-leb, lt-leb, ne_eqb}
use Rattle.std.proofs.lemmas.List.Folds.{list_any-append}
use Rattle.type_demands.specs.declared.demand.Demand.{Demand}
use Rattle.type_demands.specs.declared.demand.Demand.TheVariants as d
use Rattle.type_demands.specs.declared.demand.LineDemand.{LineDemand}
use Rattle.class_demands.specs.declared.demands.Head.{Head}
use Rattle.class_demands.specs.Marks.{Marks, Puts, is_marked}
use Rattle.class_demands.specs.Prefix.{binds, is_use, needed, seen, upto, with_head}
use Rattle.class_demands.proofs.PrefixLaws.{upto_both}

pub seen_both : (xs ys : List (Bor Demand)) → seen (xs ++ ys) ≡ seen xs ++ seen ys
seen_both xs ys = map-append (λ (x : Bor Demand). x.now) xs ys

pub ruleset parts = (seen_both, append_assoc, append-nil)

-- the first elements with one more
pub taken : {A : Type 0} (xs : List A) (i : ℕ) (x : A) → i < length xs → x ≡ get_or xs i x → take (i + 1) xs ≡ take i xs ++ x ∷ []
taken xs i x within is = take_more xs i x within ∙ ap (λ y. take i xs ++ y ∷ []) (sym is)

-- demands that are put one after the other
pub puts_none : (used : List Bool) (found : List Demand) → Puts used found used found []
puts_none used found = (sym (append-nil found), λ marks. marks)

pub puts_both : (used mid last : List Bool) (found then_found end : List Demand) (first second : List Demand) → Puts used found mid then_found first → Puts mid then_found last end second → Puts used found last end (first ++ second)
puts_both used mid last found then_found end first second a b = (
  b.0 ∙ ap (λ ds. ds ++ second) a.0 ∙ append_assoc found first second,
  λ marks. b.1 (a.1 marks),
)

-- one more of a list
pub lines_next : (line : ℕ) (xs : List LineDemand) (i : ℕ) (x : LineDemand) (used mid last : List Bool) (found then_found end : List Demand) → i < length xs → x ≡ get_or xs i x → Puts used found mid then_found (upto line (take i xs)) → Puts mid then_found last end (upto line (x ∷ []))
    → Puts used found last end (upto line (take (i + 1) xs))
lines_next line xs i x used mid last found then_found end within is a b =
    let both : Puts used found last end (upto line (take i xs) ++ upto line (x ∷ [])) = puts_both used mid last found then_found end (upto line (take i xs)) (upto line (x ∷ [])) a b in
    (both.0 ∙ ap (λ ds. found ++ ds) (sym (upto_both line (take i xs) (x ∷ [])) ∙ ap (upto line) (sym (taken xs i x within is))), both.1)

pub ruleset line_rules = (lines_next, puts_none)

pub demands_next : (xs : List Demand) (i : ℕ) (x : Demand) (used mid last : List Bool) (found then_found end : List Demand) → i < length xs → x ≡ get_or xs i x → Puts used found mid then_found (take i xs) → Puts mid then_found last end (x ∷ []) → Puts used found last end (take (i + 1) xs)
demands_next xs i x used mid last found then_found end within is a b =
    let both : Puts used found last end (take i xs ++ x ∷ []) = puts_both used mid last found then_found end (take i xs) (x ∷ []) a b in
    (both.0 ∙ ap (λ ds. found ++ ds) (sym (taken xs i x within is)), both.1)

pub ruleset list_rules = (demands_next, puts_none)

-- which slots have marks
none_uses : (x : Demand) → is_use [] x ≡ false
none_uses d.Never = refl
none_uses (d.Same a b) = refl
none_uses (d.Int a) = refl
none_uses (d.Truth a) = refl
none_uses (d.Width a n) = refl
none_uses (d.Elements a) = refl
none_uses (d.Ordered a) = refl
none_uses (d.Adds a) = refl
none_uses (d.Single a) = refl
none_uses (d.Receives a) = refl
none_uses (d.Flat a) = refl
none_uses (d.Uses slot) = refl

or_false : (a : Bool) → (a || false) ≡ a
or_false true = refl
or_false false = refl

either_uses : (b : ℕ) (bs : List ℕ) (x : Demand) → is_use (b ∷ bs) x ≡ (is_use (b ∷ []) x || is_use bs x)
either_uses b bs d.Never = refl
either_uses b bs (d.Same x y) = refl
either_uses b bs (d.Int x) = refl
either_uses b bs (d.Truth x) = refl
either_uses b bs (d.Width x n) = refl
either_uses b bs (d.Elements x) = refl
either_uses b bs (d.Ordered x) = refl
either_uses b bs (d.Adds x) = refl
either_uses b bs (d.Single x) = refl
either_uses b bs (d.Receives x) = refl
either_uses b bs (d.Flat x) = refl
either_uses b bs (d.Uses slot) = ap (λ a. a || binds bs slot) (sym (or_false (b == slot)))

no_slots : (xs : List Demand) → list_any (is_use []) xs ≡ false
no_slots [] = refl
no_slots (x ∷ xs) = ap₂ (λ a b. a || b) (none_uses x) (no_slots xs)

four : (a b c e : Bool) → ((a || b) || (c || e)) ≡ ((a || c) || (b || e))
four true b c e = refl
four false true true e = refl
four false true false e = refl
four false false true e = refl
four false false false e = refl

either_slot : (b : ℕ) (bs : List ℕ) (xs : List Demand) → list_any (is_use (b ∷ bs)) xs ≡ (list_any (is_use (b ∷ [])) xs || list_any (is_use bs) xs)
either_slot b bs [] = refl
either_slot b bs (x ∷ xs) =
    ap₂ (λ p q. p || q) (either_uses b bs x) (either_slot b bs xs)
    ∙ four (is_use (b ∷ []) x) (is_use bs x) (list_any (is_use (b ∷ [])) xs) (list_any (is_use bs) xs)

-- one of the slots has a mark where one of them is in use
marks_tell : (used : List Bool) (demands : List Demand) → Marks used demands → (bs : List ℕ) → list_any (is_marked used) bs ≡ list_any (is_use bs) demands
marks_tell used demands marks [] = sym (no_slots demands)
marks_tell used demands marks (b ∷ bs) = ap₂ (λ p q. p || q) (marks b) (marks_tell used demands marks bs) ∙ sym (either_slot b bs demands)

where_put : (holds : Bool) (found added : List Demand) → found ++ (if holds then added else []) ≡ (if holds then found ++ added else found)
where_put true found added = refl
where_put false found added = append-nil found

pub head_put : (head : Head) (used then_used : List Bool) (found then_found : List Demand) (holds : Bool) → holds ≡ list_any (is_marked used) head.binds → Puts used found then_used then_found (if holds then head.demands else [])
    → Marks used found → (then_found ≡ with_head head found) × Marks then_used then_found
head_put head used then_used found then_found holds is puts marks =
    let same : holds ≡ list_any (is_use head.binds) found = is ∙ marks_tell used found marks head.binds in (
      puts.0 ∙ ap (λ b. found ++ (if b then head.demands else [])) same ∙ where_put (list_any (is_use head.binds) found) found head.demands,
      puts.1 marks,
    )

-- the last header of a list
needed_last : (hs : List Head) (h : Head) (demands : List Demand) → needed (hs ++ h ∷ []) demands ≡ needed hs (with_head h demands)
needed_last [] h demands = refl
needed_last (x ∷ hs) h demands = ap (with_head x) (needed_last hs h demands)

-- what is needed of the headers that are left, after those that were put
abbrev pub NeedsLeft : List Head → ℕ → List Bool → List Demand → List Bool → List Demand → Type 0
NeedsLeft hs left used found then_used then_found = Marks used found → (needed (take left hs) then_found ≡ needed hs found) × Marks then_used then_found

pub needs_next : (hs : List Head) (left before : ℕ) (h : Head) (used mid last : List Bool) (found then_found end : List Demand) → left ≡ before + 1 → before < length hs → h ≡ get_or hs before h → NeedsLeft hs left used found mid then_found
    → (Marks mid then_found → (end ≡ with_head h then_found) × Marks last end) → NeedsLeft hs before used found last end
needs_next hs left before h used mid last found then_found end e within is so_far put marks =
    let here = so_far marks in
    let there = put here.1 in (
      ap (needed (take before hs)) there.0
          ∙ sym (needed_last (take before hs) h then_found)
          ∙ ap (λ (xs : List Head). needed xs then_found) (sym (taken hs before h within is) ∙ ap (λ n. take n hs) (sym e))
          ∙ here.0,
      there.1,
    )

-- a slot that is marked
not_one : (k : ℕ) (x : Demand) → ((slot : ℕ) → x ≡ d.Uses slot → ⊥) → is_use (k ∷ []) x ≡ false
not_one k d.Never none = refl
not_one k (d.Same x y) none = refl
not_one k (d.Int x) none = refl
not_one k (d.Truth x) none = refl
not_one k (d.Width x n) none = refl
not_one k (d.Elements x) none = refl
not_one k (d.Ordered x) none = refl
not_one k (d.Adds x) none = refl
not_one k (d.Single x) none = refl
not_one k (d.Receives x) none = refl
not_one k (d.Flat x) none = refl
not_one k (d.Uses slot) none = absurd (none slot refl)

one_more : (k : ℕ) (demands : List Demand) (x : Demand) → list_any (is_use (k ∷ [])) (demands ++ x ∷ []) ≡ (list_any (is_use (k ∷ [])) demands || is_use (k ∷ []) x)
one_more k demands x = list_any-append (is_use (k ∷ [])) demands (x ∷ []) ∙ ap (λ b. list_any (is_use (k ∷ [])) demands || b) (or_false (is_use (k ∷ []) x))

pub use_marks : (x : Demand) (slot : ℕ) (used then_used : List Bool) → x ≡ d.Uses slot → ((k : ℕ) → is_marked then_used k ≡ (is_marked used k || k == slot)) → (demands : List Demand) → Marks used demands → Marks then_used (demands ++ x ∷ [])
use_marks x slot used then_used is marked demands marks k =
    marked k
    ∙ ap₂ (λ a b. a || b) (marks k) (sym (or_false (k == slot)) ∙ sym (ap (is_use (k ∷ [])) is))
    ∙ sym (one_more k demands x)

pub other_marks : (x : Demand) (used : List Bool) → ((slot : ℕ) → x ≡ d.Uses slot → ⊥) → (demands : List Demand) → Marks used demands → Marks used (demands ++ x ∷ [])
other_marks x used none demands marks k =
    marks k
    ∙ sym (or_false (list_any (is_use (k ∷ [])) demands))
    ∙ ap (λ b. list_any (is_use (k ∷ [])) demands || b) (sym (not_one k x none))
    ∙ sym (one_more k demands x)

pub marked_more : (used : List Bool) (k : ℕ) → is_marked (used ++ false ∷ []) k ≡ is_marked used k
marked_more [] zero = refl
marked_more [] (suc k) = refl
marked_more (b ∷ used) zero = refl
marked_more (b ∷ used) (suc k) = marked_more used k

or_true : (a : Bool) → (a || true) ≡ true
or_true true = refl
or_true false = refl

next_same : (k at : ℕ) (same : Bool) → (k == at) ≡ same → (suc k == suc at) ≡ same
next_same k at true is = eq-eqb (suc k) (suc at) (ap suc (eqb-true k at is))
next_same k at false is = ne_eqb (suc k) (suc at) (λ s. let next : suc k ≡ suc at = s in let here : k ≡ at = omega (arith, next) in false≢true (sym is ∙ eq-eqb k at here))

zero_not : (n : ℕ) → (zero == suc n) ≡ false
zero_not n = ne_eqb zero (suc n) (λ s. let same : zero ≡ suc n = s in omega (arith, same))

not_zero : (n : ℕ) → (suc n == zero) ≡ false
not_zero n = ne_eqb (suc n) zero (λ s. let same : suc n ≡ zero = s in omega (arith, same))

pub marked_set : (used : List Bool) (at k : ℕ) → at < length used → is_marked (slice_set used at true) k ≡ (is_marked used k || k == at)
marked_set [] at k within = absurd (omega (arith, within))
marked_set (b ∷ used) zero zero within = sym (or_true b) ∙ ap (λ c. b || c) (sym (eq-eqb zero zero refl))
marked_set (b ∷ used) zero (suc k) within = sym (or_false (is_marked used k)) ∙ ap (λ c. is_marked used k || c) (sym (not_zero k))
marked_set (b ∷ used) (suc at) zero within = sym (or_false b) ∙ ap (λ c. b || c) (sym (zero_not at))
marked_set (b ∷ used) (suc at) (suc k) within = marked_set used at k (omega (arith, within)) ∙ ap (λ c. is_marked used k || c) (sym (next_same k at (k == at) refl))

pub mark_put : (old mid new : List Bool) (at : ℕ) → at < length mid → ((k : ℕ) → is_marked mid k ≡ is_marked old k) → new ≡ slice_set mid at true → (k : ℕ) → is_marked new k ≡ (is_marked old k || k == at)
mark_put old mid new at within same put k = ap (λ (u : List Bool). is_marked u k) put ∙ marked_set mid at k within ∙ ap (λ b. b || k == at) (same k)

-- a demand that is put, and the slot that it uses is marked
pub demand_put : (x : Bor Demand) (old new : List (Bor Demand)) (used then_used : List Bool) → ((demands : List Demand) → Marks used demands → Marks then_used (demands ++ x.now ∷ [])) → new ≡ old ++ x ∷ [] → Puts used (seen old) then_used (seen new) (x.now ∷ [])
demand_put x old new used then_used marks put =
    let is : seen new ≡ seen old ++ x.now ∷ [] = ap seen put ∙ seen_both old (x ∷ []) in (is, λ m. subst (Marks then_used) (sym is) (marks (seen old) m))

-- it is put where its line is at most this one
pub line_in : (line : ℕ) (x : LineDemand) (used then_used : List Bool) (found then_found : List Demand) → x.line ≤ line → Puts used found then_used then_found (x.demand ∷ []) → Puts used found then_used then_found (upto line (x ∷ []))
line_in line x used then_used found then_found early puts =
    let is : upto line (x ∷ []) ≡ x.demand ∷ [] = ap (λ b. if b then x.demand ∷ [] else []) (le-leb x.line line early) in
    (puts.0 ∙ ap (λ ds. found ++ ds) (sym is), puts.1)

pub line_out : (line : ℕ) (x : LineDemand) (used : List Bool) (found : List Demand) → line < x.line → Puts used found used found (upto line (x ∷ []))
line_out line x used found late =
    let is : upto line (x ∷ []) ≡ [] = ap (λ b. if b then x.demand ∷ [] else []) (lt-leb x.line line late) in
    (sym (append-nil found) ∙ ap (λ ds. found ++ ds) (sym is), λ marks. marks)

pub ruleset one_rules = (line_in, line_out)

-- nothing is marked at first
pub marks_none : Marks [] []
marks_none k = refl

-- what is demanded up to a line, and then what is needed of the headers
pub part_done : (heads : List Head) (start used : List Bool) (none first second shown old new : List (Bor Demand)) (added : List Demand) → start ≡ [] → none ≡ [] → Puts start (seen none) used (seen first) added → (Marks used (seen first) → seen second ≡ needed heads (seen first)) → shown ≡ second
    → seen new ≡ seen old ++ seen shown → seen new ≡ seen old ++ needed heads added
part_done heads start used none first second shown old new added start_is none_is puts needs same grown =
    let marks : Marks start (seen none) = subst (λ (u : List Bool). Marks u (seen none)) (sym start_is) (subst (λ (n : List (Bor Demand)). Marks [] (seen n)) (sym none_is) marks_none) in
    let first_is : seen first ≡ added = puts.0 ∙ ap (λ (n : List (Bor Demand)). seen n ++ added) none_is in
    grown ∙ ap (λ (xs : List (Bor Demand)). seen old ++ seen xs) same ∙ ap (λ ds. seen old ++ ds) (needs (puts.1 marks) ∙ ap (needed heads) first_is)
