-- What is left of traces, list by list, and which processes are blocked then.
use Rattle.std.specs.Prelude.{◌≡◌, ℕ, zero, suc, ◌+◌, ◌-◌, ◌<◌, ◌≤◌, Bool, true, false, cond, nat_lt, All, List, [], ◌∷◌, ◌++◌, drop, length, map, replicate, Some, slice_get, refl}
use Rattle.std.proofs.Common.{sym, ap, ◌∙◌, subst, arith}
use Rattle.std.proofs.lemmas.Bool.{lt-ltb}
use Rattle.da_lang.specs.declared.event.Action.{Action}
use Rattle.da_lang.specs.World.{at_number}
use Rattle.trace_join.specs.Blocks.{NoLonger, block_of, blocks_left}
use Rattle.trace_join.proofs.Sublists.{none_there}

-- MEMBERS BY THEIR NUMBERS

get_map : {A B : Type 0} (f : A → B) (xs : List A) (k : ℕ) (x : A) → slice_get xs k ≡ Some x → slice_get (map f xs) k ≡ Some (f x)
get_map f [] k x there = none_there there
get_map f (y ∷ ys) zero x there = ap (λ (z : _). Some (f z)) (let same : y ≡ x = cc in same)
get_map f (y ∷ ys) (suc k) x there = get_map f ys k x there

pub number_map : {A B : Type 0} (f : A → B) (xs : List A) (p : ℕ) (x : A) → at_number xs p ≡ Some x → at_number (map f xs) p ≡ Some (f x)
number_map f xs zero x there = none_there there
number_map f xs (suc k) x there = get_map f xs k x there

pub one_there : {A : Type 0} (xs : List A) (p : ℕ) (x y : A) → at_number xs p ≡ Some x → at_number xs p ≡ Some y → x ≡ y
one_there xs p x y there other = let both : Some x ≡ Some y = sym there ∙ other in cc

all_tail : {A : Type 0} (P : A → Type 0) (x : A) (xs : List A) → All P (x ∷ xs) → All P xs
all_tail P x xs all = λ k d within. all (suc k) d (omega (arith, within))

all_get : {A : Type 0} (P : A → Type 0) (xs : List A) (k : ℕ) (x : A) → All P xs → slice_get xs k ≡ Some x → P x
all_get P [] k x all there = none_there there
all_get P (y ∷ ys) zero x all there = subst P (let same : y ≡ x = cc in same) (all 0 y (omega arith))
all_get P (y ∷ ys) (suc k) x all there = all_get P ys k x (all_tail P y ys all) there

-- what holds of all holds of the member of each number
pub all_number : {A : Type 0} (P : A → Type 0) (xs : List A) (p : ℕ) (x : A) → All P xs → at_number xs p ≡ Some x → P x
all_number P xs zero x all there = none_there there
all_number P xs (suc k) x all there = all_get P xs k x all there

get_replicate : {A : Type 0} (n k : ℕ) (x y : A) → slice_get (replicate n x) k ≡ Some y → x ≡ y
get_replicate zero k x y there = none_there there
get_replicate (suc n) zero x y there = cc
get_replicate (suc n) (suc k) x y there = get_replicate n k x y there

pub number_replicate : {A : Type 0} (n p : ℕ) (x y : A) → at_number (replicate n x) p ≡ Some y → x ≡ y
number_replicate n zero x y there = none_there there
number_replicate n (suc k) x y there = get_replicate n k x y there

-- WHAT IS LEFT

pub no_longer : (traces lefts : List (List Action)) → ((k : ℕ) (trace left : List Action) → slice_get traces k ≡ Some trace → slice_get lefts k ≡ Some left
    → length left ≤ length trace) → NoLonger traces lefts
no_longer [] lefts each = tt
no_longer (trace ∷ traces) [] each = tt
no_longer (trace ∷ traces) (left ∷ lefts) each = (each 0 trace left refl refl, no_longer traces lefts (λ k t l at_t at_l. each (suc k) t l at_t at_l))

-- and the other way
pub not_longer : (traces lefts : List (List Action)) (k : ℕ) (trace left : List Action) → NoLonger traces lefts → slice_get traces k ≡ Some trace
    → slice_get lefts k ≡ Some left → length left ≤ length trace
not_longer [] lefts k trace left shorter at_trace at_left = none_there at_trace
not_longer (t ∷ traces) [] k trace left shorter at_trace at_left = none_there at_left
not_longer (t ∷ traces) (l ∷ lefts) zero trace left shorter at_trace at_left =
    let traces_same : t ≡ trace = cc in
    let lefts_same : l ≡ left = cc in
    subst (λ (x : List Action). length x ≤ length trace) lefts_same (subst (λ (x : List Action). length l ≤ length x) traces_same shorter.0)
not_longer (t ∷ traces) (l ∷ lefts) (suc k) trace left shorter at_trace at_left = not_longer traces lefts k trace left shorter.1 at_trace at_left

-- of a list whose first member is one that has something left there is a block
first_block : (first : ℕ) (trace left : List Action) (traces lefts : List (List Action))
    → blocks_left first (trace ∷ traces) (left ∷ lefts) ≡ block_of first (length trace) (length left) ++ blocks_left (first + 1) traces lefts
first_block first trace left traces lefts = of (nat_lt 0 (length left))
  where
    of : (b : Bool) → cond b ((first, length trace - length left + 1) ∷ blocks_left (first + 1) traces lefts) (blocks_left (first + 1) traces lefts)
        ≡ cond b ((first, length trace - length left + 1) ∷ []) [] ++ blocks_left (first + 1) traces lefts
    of true = refl
    of false = refl

-- the blocks from one place on are the one there and those after it
pub blocks_on : (traces lefts : List (List Action)) (first k : ℕ) (trace left : List Action) → slice_get traces k ≡ Some trace → slice_get lefts k ≡ Some left
    → blocks_left first (drop k traces) (drop k lefts) ≡ block_of first (length trace) (length left) ++ blocks_left (first + 1) (drop (suc k) traces)
    (drop (suc k) lefts)
blocks_on [] lefts first k trace left at_trace at_left = none_there at_trace
blocks_on (t ∷ traces) [] first k trace left at_trace at_left = none_there at_left
blocks_on (t ∷ traces) (l ∷ lefts) first zero trace left at_trace at_left =
    let traces_same : t ≡ trace = cc in
    let lefts_same : l ≡ left = cc in
    first_block first t l traces lefts
    ∙ ap (λ (x : List Action). block_of first (length x) (length l) ++ blocks_left (first + 1) traces lefts) traces_same
    ∙ ap (λ (x : List Action). block_of first (length trace) (length x) ++ blocks_left (first + 1) traces lefts) lefts_same
blocks_on (t ∷ traces) (l ∷ lefts) first (suc k) trace left at_trace at_left = blocks_on traces lefts first k trace left at_trace at_left

pub blocks_after : (traces lefts : List (List Action)) (first k : ℕ) → length traces ≤ k → blocks_left first (drop k traces) (drop k lefts) ≡ []
blocks_after [] lefts first zero past = refl
blocks_after [] lefts first (suc k) past = refl
blocks_after (t ∷ traces) lefts first zero past = absurd (omega (arith, past))
blocks_after (t ∷ traces) [] first (suc k) past = no_blocks (drop k traces)
  where
    no_blocks : (ts : List (List Action)) → blocks_left first ts [] ≡ []
    no_blocks [] = refl
    no_blocks (t' ∷ ts) = refl
blocks_after (t ∷ traces) (l ∷ lefts) first (suc k) past = blocks_after traces lefts first k (omega (arith, past))

-- WHERE SOMETHING IS LEFT

-- where no process is blocked nothing is left of any trace
pub none_left : (first : ℕ) (traces lefts : List (List Action)) → length lefts ≡ length traces → blocks_left first traces lefts ≡ []
    → (k : ℕ) (left : List Action) → slice_get lefts k ≡ Some left → left ≡ []
none_left first traces [] same none k left there = none_there there
none_left first [] (l ∷ lefts) same none k left there = absurd (omega (arith, same))
none_left first (t ∷ traces) ([] ∷ lefts) same none zero left there = cc
none_left first (t ∷ traces) ([] ∷ lefts) same none (suc k) left there = none_left (first + 1) traces lefts (omega (arith, same)) none k left there
none_left first (t ∷ traces) ((a ∷ l) ∷ lefts) same none k left there =
    let more : 0 < length (a ∷ l) = omega arith in
    let others : List (ℕ × ℕ) = blocks_left (first + 1) traces lefts in
    let here : [] ≡ (first, length t - length (a ∷ l) + 1) ∷ others =
    sym none ∙ ap (λ (b : Bool). cond b ((first, length t - length (a ∷ l) + 1) ∷ others) others) (lt-ltb 0 (length (a ∷ l)) more) in
    absurd (let sizes : 0 ≡ suc (length others) = ap length here in omega (arith, sizes))

-- and where one is, something is left of one
pub some_left : (first : ℕ) (traces lefts : List (List Action)) → 0 < length (blocks_left first traces lefts)
    → (k : ℕ) × (left : List Action) × (slice_get lefts k ≡ Some left) × (0 < length left)
some_left first [] lefts some = absurd (omega (arith, some))
some_left first (t ∷ traces) [] some = absurd (omega (arith, some))
some_left first (t ∷ traces) ([] ∷ lefts) some = let (k, left, there, more) = some_left (first + 1) traces lefts some in (suc k, left, there, more)
some_left first (t ∷ traces) ((a ∷ l) ∷ lefts) some = (0, a ∷ l, refl, omega arith)
