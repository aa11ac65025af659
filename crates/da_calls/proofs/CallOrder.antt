-- A walk through a graph, step by step. A stack of tasks has the next one at the front.
use Rattle.std.proofs.Common.{◌≡◌, ◌∙◌, ℕ, zero, suc, ◌+◌, ◌<◌, ◌⊎◌, Bool, true, false, List, [], ◌∷◌, ◌++◌, length, map, replicate, reverse, Contains, ◌≤◌, get_or, set, subst, sym, refl, ap, inl, inr, ⊎_elim, not, append_assoc, arith}
use Rattle.std.proofs.lemmas.Bool.{cases_eq, cases_lt}
use Rattle.std.proofs.lemmas.List.{append-nil, get_or_default, length-set, length-append, length-map, length-replicate, get_or-set_same, get_or-set_other, get_or-replicate, get_or_past, reverse-append}
use Rattle.da_calls.specs.declared.order.Visit.{Visit}
use Rattle.da_calls.specs.declared.order.Visit.TheVariants.{Enter, Leave}
use Rattle.da_calls.specs.CallPaths.{here, on, Graph, next_in, Edge, IsGraph, Leads}
use Rattle.da_calls.specs.CallOrder.{Same, AreLeft, Leaves}
use Rattle.da_calls.specs.CallTasks.{entering}
use Rattle.da_calls.proofs.CallReach.{leads_itself, leads_through, leads_once, leads_and}
use Rattle.da_calls.proofs.CallSearch.{left, left-set, row_read}

-- lists and their first element
pub has_first : (x : ℕ) (xs : List ℕ) → Contains (x ∷ xs) x
has_first x xs = (0, omega arith, refl)

pub has_later : (x : ℕ) (xs : List ℕ) (y : ℕ) → Contains xs y → Contains (x ∷ xs) y
has_later x xs y h = (suc h.0, omega (arith, h.1), h.2)

pub has_cases : (x : ℕ) (xs : List ℕ) (y : ℕ) → Contains (x ∷ xs) y → (x ≡ y) ⊎ Contains xs y
has_cases x xs y (zero, h, e) = inl e
has_cases x xs y (suc k, h, e) = inr (k, omega (arith, h), e)

pub has_none : (y : ℕ) → Contains {X = ℕ} [] y → ⊥
has_none y h = omega (arith, h.1)

pub has_or_not : (xs : List ℕ) (y : ℕ) → Contains xs y ⊎ (Contains xs y → ⊥)
has_or_not [] y = inr (has_none y)
has_or_not (x ∷ xs) y =
    ⊎_elim (λ e. inl (subst (λ z. Contains (x ∷ xs) z) e (has_first x xs)))
    (λ other. ⊎_elim (λ h. inl (has_later x xs y h)) (λ none. inr (λ h. ⊎_elim other none (has_cases x xs y h))) (has_or_not xs y))
    (cases_eq x y)

-- nodes that were entered
abbrev pub IsEntered : List Bool → ℕ → Type 0
IsEntered entered m = get_or entered m false ≡ true

-- entered and not left
abbrev pub IsOpen : List Visit → ℕ → Type 0
IsOpen [] m = ⊥
IsOpen (Enter k ∷ tasks) m = IsOpen tasks m
IsOpen (Leave k ∷ tasks) m = (k ≡ m) ⊎ IsOpen tasks m

-- to be entered
abbrev pub Waits : List Visit → ℕ → Type 0
Waits [] n = ⊥
Waits (Enter k ∷ tasks) n = (k ≡ n) ⊎ Waits tasks n
Waits (Leave k ∷ tasks) n = Waits tasks n

-- one is entered before another is left
abbrev pub Before : List Visit → ℕ → ℕ → Type 0
Before [] m n = ⊥
Before (Enter k ∷ tasks) m n = (k ≡ n) ⊎ Before tasks m n
Before (Leave k ∷ tasks) m n = (k ≡ m → ⊥) × Before tasks m n

-- each open node leads to all those whose tasks come first
abbrev pub Chained : Graph → List Visit → Type 0
Chained g [] = Unit {0}
Chained g (Enter k ∷ tasks) = (k < length g) × ((m : ℕ) → IsOpen tasks m → Leads g m k) × Chained g tasks
Chained g (Leave k ∷ tasks) = (k < length g) × ((m : ℕ) → IsOpen tasks m → Leads g m k) × (IsOpen tasks k → ⊥) × Chained g tasks

-- between two steps; `done` has the node that was left last at the front, and the nodes below `most` were told of
pub record Walk (g : Graph) (most : ℕ) (entered : List Bool) (tasks : List Visit) (done : List ℕ) : Type 0 where
  pub sized : length entered ≡ length g
  pub opened : (m : ℕ) → IsOpen tasks m → IsEntered entered m
  pub gone : (m : ℕ) → Contains done m → IsEntered entered m
  pub known : (m : ℕ) → IsEntered entered m → IsOpen tasks m ⊎ Contains done m
  pub coming : (m : ℕ) → m < most → IsEntered entered m ⊎ Waits tasks m
  pub apart : (m : ℕ) → IsOpen tasks m → Contains done m → ⊥
  pub chained : Chained g tasks
  pub covered : (m n : ℕ) → IsOpen tasks m → Edge g m n → IsEntered entered n ⊎ Before tasks m n
  pub passed : (m n : ℕ) → Contains done m → Edge g m n → IsEntered entered n
  pub held : (x y : ℕ) → Contains done x → (Contains done y → ⊥) → Leads g x y → (z : ℕ) × IsOpen tasks z × Same g x z
  pub left : AreLeft g done

-- a way out of a list of nodes has a first step out of it
pub record Exit (g : Graph) (nodes : List ℕ) (x y : ℕ) : Type 0 where
  pub last : ℕ
  pub next : ℕ
  pub inside : Contains nodes last
  pub outside : Contains nodes next → ⊥
  pub before : Leads g x last
  pub step : Edge g last next
  pub behind : Leads g next y

pub exit_of : (g : Graph) (nodes : List ℕ) (y x : ℕ) → Contains nodes x → (Contains nodes y → ⊥) → Leads g x y → Exit g nodes x y
exit_of g nodes y x has none (here m e) = absurd (none (subst (λ k. Contains nodes k) e has))
exit_of g nodes y x has none (on m k s p) =
    ⊎_elim
    (λ inside. let rest : Exit g nodes k y = exit_of g nodes y k inside none p in
    record { last = rest.last; next = rest.next; inside = rest.inside; outside = rest.outside; before = on m k s rest.before; step = rest.step; behind = rest.behind })
    (λ outside. record { last = m; next = k; inside = has; outside = outside; before = leads_itself (next_in g) m; step = s; behind = p })
    (has_or_not nodes k)

-- the node at the front is left
module _ (g : Graph) (most : ℕ) (entered : List Bool) (tasks : List Visit) (done : List ℕ) (p : ℕ) (w : Walk g most entered (Leave p ∷ tasks) done) where
  left_passed : (m n : ℕ) → Contains (p ∷ done) m → Edge g m n → IsEntered entered n
  left_passed m n has e =
      ⊎_elim
      (λ same. ⊎_elim (λ i. i) (λ b. absurd (b.0 refl)) (w.covered p n (inl refl) (subst (λ k. Edge g k n) (sym same) e)))
      (λ h. w.passed m n h e)
      (has_cases p done m has)

  left_apart : (m : ℕ) → IsOpen tasks m → Contains (p ∷ done) m → ⊥
  left_apart m o has =
      ⊎_elim (λ same. w.chained.2 (subst (IsOpen tasks) (sym same) o)) (λ h. w.apart m (inr o) h) (has_cases p done m has)

  -- who p leads to outside of those that are done is on a cycle with p
  held_by : (y : ℕ) → (Contains (p ∷ done) y → ⊥) → Leads g p y → (z : ℕ) × IsOpen tasks z × Same g p z
  held_by y none leads =
      let out : Exit g (p ∷ done) p y = exit_of g (p ∷ done) y p (has_first p done) none leads in
      ⊎_elim
      (λ o. ⊎_elim (λ same. absurd (out.outside (subst (λ k. Contains (p ∷ done) k) same (has_first p done))))
      (λ inner. (out.next, inner, (leads_and out.next out.before out.step, w.chained.1 out.next inner))) o)
      (λ h. absurd (out.outside (has_later p done out.next h)))
      (w.known out.next (left_passed out.last out.next out.inside out.step))

  left_held : (x y : ℕ) → Contains (p ∷ done) x → (Contains (p ∷ done) y → ⊥) → Leads g x y → (z : ℕ) × IsOpen tasks z × Same g x z
  left_held x y has none leads =
      ⊎_elim
      (λ same. subst (λ k. (z : ℕ) × IsOpen tasks z × Same g k z) same (held_by y none (subst (λ k. Leads g k y) (sym same) leads)))
      (λ h. let found : (z : ℕ) × IsOpen (Leave p ∷ tasks) z × Same g x z = w.held x y h (λ k. none (has_later p done y k)) leads in
      ⊎_elim
      (λ same.
      let to_p : Leads g x p = subst (λ k. Leads g x k) (sym same) found.2.0 in
      let from_p : Leads g p x = subst (λ k. Leads g k x) (sym same) found.2.1 in
      let other : (z : ℕ) × IsOpen tasks z × Same g p z = held_by y none (leads_through from_p leads) in
      (other.0, other.1, (leads_through to_p other.2.0, leads_through other.2.1 from_p)))
      (λ o. (found.0, o, found.2))
      found.1)
      (has_cases p done x has)

  pub leaves_it : Walk g most entered tasks (p ∷ done)
  leaves_it = record {
    sized = w.sized;
    opened = λ m o. w.opened m (inr o);
    gone = λ m has. ⊎_elim (λ same. subst (IsEntered entered) same (w.opened p (inl refl))) (λ h. w.gone m h) (has_cases p done m has);
    known = λ m e. ⊎_elim (λ o. ⊎_elim (λ same. inr (subst (λ k. Contains (p ∷ done) k) same (has_first p done))) (λ i. inl i) o) (λ h. inr (has_later p done m h)) (w.known m e);
    coming = w.coming;
    apart = left_apart;
    chained = w.chained.3;
    covered = λ m n o e. ⊎_elim (λ i. inl i) (λ b. inr b.1) (w.covered m n (inr o) e);
    passed = left_passed;
    held = left_held;
    left = (
      record {
        within = w.chained.0;
        fresh = λ h. w.apart p (inl refl) h;
        goes = λ n e. ⊎_elim
            (λ o. ⊎_elim (λ same. inr (subst (λ k. Leads g k p) same (leads_itself (next_in g) p))) (λ i. inr (w.chained.1 n i)) o)
            (λ h. inl h)
            (w.known n (left_passed p n (has_first p done) e));
        sealed = λ x y has none leads. let found : (z : ℕ) × IsOpen tasks z × Same g x z = left_held x y has none leads in (found.0, left_apart found.0 found.1, found.2);
      },
      w.left,
    );
  }

-- the node at the front was entered before
pub passes_it : (g : Graph) (most : ℕ) (entered : List Bool) (tasks : List Visit) (done : List ℕ) (x : ℕ) → IsEntered entered x → Walk g most entered (Enter x ∷ tasks) done → Walk g most entered tasks done
passes_it g most entered tasks done x is w = record {
  sized = w.sized;
  opened = w.opened;
  gone = w.gone;
  known = w.known;
  coming = λ m h. ⊎_elim (λ e. inl e) (λ t. ⊎_elim (λ same. inl (subst (IsEntered entered) same is)) (λ u. inr u) t) (w.coming m h);
  apart = w.apart;
  chained = w.chained.2;
  covered = λ m n o e. ⊎_elim (λ i. inl i) (λ b. ⊎_elim (λ same. inl (subst (IsEntered entered) same is)) (λ u. inr u) b) (w.covered m n o e);
  passed = w.passed;
  held = w.held;
  left = w.left;
}

-- the tasks to enter these, the last one first, before others
abbrev pub pushed : List ℕ → List Visit → List Visit
pushed [] tasks = tasks
pushed (n ∷ ns) tasks = pushed ns (Enter n ∷ tasks)

pub reverse_pushed : (row : List ℕ) (work : List Visit) → reverse (work ++ map Enter row) ≡ pushed row (reverse work)
reverse_pushed [] work = ap reverse (append-nil work)
reverse_pushed (n ∷ ns) work =
    ap reverse (sym (append_assoc work (Enter n ∷ []) (map Enter ns))) ∙ reverse_pushed ns (work ++ Enter n ∷ []) ∙ ap (pushed ns) (reverse-append work (Enter n ∷ []))

pushed_open : (row : List ℕ) (tasks : List Visit) (m : ℕ) → IsOpen (pushed row tasks) m → IsOpen tasks m
pushed_open [] tasks m o = o
pushed_open (n ∷ ns) tasks m o = pushed_open ns (Enter n ∷ tasks) m o

open_pushed : (row : List ℕ) (tasks : List Visit) (m : ℕ) → IsOpen tasks m → IsOpen (pushed row tasks) m
open_pushed [] tasks m o = o
open_pushed (n ∷ ns) tasks m o = open_pushed ns (Enter n ∷ tasks) m o

waits_pushed : (row : List ℕ) (tasks : List Visit) (n : ℕ) → Waits tasks n → Waits (pushed row tasks) n
waits_pushed [] tasks n t = t
waits_pushed (k ∷ ks) tasks n t = waits_pushed ks (Enter k ∷ tasks) n (inr t)

before_pushed : (row : List ℕ) (tasks : List Visit) (m n : ℕ) → Before tasks m n → Before (pushed row tasks) m n
before_pushed [] tasks m n b = b
before_pushed (k ∷ ks) tasks m n b = before_pushed ks (Enter k ∷ tasks) m n (inr b)

pushed_before : (row : List ℕ) (tasks : List Visit) (m n : ℕ) → Contains row n → Before (pushed row tasks) m n
pushed_before [] tasks m n has = absurd (has_none n has)
pushed_before (k ∷ ks) tasks m n has =
    ⊎_elim (λ same. before_pushed ks (Enter k ∷ tasks) m n (inl same)) (λ h. pushed_before ks (Enter k ∷ tasks) m n h) (has_cases k ks n has)

chained_pushed : (g : Graph) (row : List ℕ) (tasks : List Visit) → ((n : ℕ) → Contains row n → (n < length g) × ((m : ℕ) → IsOpen tasks m → Leads g m n)) → Chained g tasks → Chained g (pushed row tasks)
chained_pushed g [] tasks each c = c
chained_pushed g (k ∷ ks) tasks each c =
    chained_pushed g ks (Enter k ∷ tasks) (λ n h. each n (has_later k ks n h)) ((each k (has_first k ks)).0, (each k (has_first k ks)).1, c)

-- the node at the front is entered
module _ (g : Graph) (most : ℕ) (entered : List Bool) (tasks : List Visit) (done : List ℕ) (x : ℕ) (whole : IsGraph g) (new : get_or entered x false ≡ false) (w : Walk g most entered (Enter x ∷ tasks) done) where
  pub now_entered : IsEntered (set entered x true) x
  now_entered = get_or-set_same entered x true false (omega (arith, w.chained.0, w.sized))

  differ : false ≡ true → ⊥
  differ e = cc

  not_yet : IsEntered entered x → ⊥
  not_yet is = differ (sym new ∙ is)

  still : (m : ℕ) → IsEntered entered m → IsEntered (set entered x true) m
  still m is = ⊎_elim (λ same. subst (IsEntered (set entered x true)) (sym same) now_entered) (λ other. get_or-set_other entered x m true false other ∙ is) (cases_eq m x)

  was_entered : (m : ℕ) → (m ≡ x → ⊥) → IsEntered (set entered x true) m → IsEntered entered m
  was_entered m other is = sym (get_or-set_other entered x m true false other) ∙ is

  open_other : (m : ℕ) → IsOpen tasks m → x ≡ m → ⊥
  open_other m o same = not_yet (subst (IsEntered entered) (sym same) (w.opened m o))

  pub enters_it : Walk g most (set entered x true) (pushed (next_in g x) (Leave x ∷ tasks)) done
  enters_it = record {
    sized = length-set entered x true ∙ w.sized;
    opened = λ m o. ⊎_elim (λ same. subst (IsEntered (set entered x true)) same now_entered) (λ i. still m (w.opened m i)) (pushed_open (next_in g x) (Leave x ∷ tasks) m o);
    gone = λ m has. still m (w.gone m has);
    known = λ m is. ⊎_elim
        (λ same. inl (open_pushed (next_in g x) (Leave x ∷ tasks) m (inl (sym same))))
        (λ other. ⊎_elim (λ o. inl (open_pushed (next_in g x) (Leave x ∷ tasks) m (inr o))) (λ h. inr h) (w.known m (was_entered m other is)))
        (cases_eq m x);
    coming = λ m h. ⊎_elim (λ is. inl (still m is))
        (λ t. ⊎_elim (λ same. inl (subst (IsEntered (set entered x true)) same now_entered)) (λ u. inr (waits_pushed (next_in g x) (Leave x ∷ tasks) m u)) t)
        (w.coming m h);
    apart = λ m o has. ⊎_elim (λ same. not_yet (w.gone x (subst (λ k. Contains done k) (sym same) has))) (λ i. w.apart m i has) (pushed_open (next_in g x) (Leave x ∷ tasks) m o);
    chained = chained_pushed g (next_in g x) (Leave x ∷ tasks)
        (λ n h. (whole x n h, λ m o. ⊎_elim (λ same. subst (λ k. Leads g k n) same (leads_once (next_in g) x n h)) (λ i. leads_and n (w.chained.1 m i) h) o))
        (w.chained.0, w.chained.1, λ o. not_yet (w.opened x o), w.chained.2);
    covered = λ m n o e. ⊎_elim
        (λ same. inr (pushed_before (next_in g x) (Leave x ∷ tasks) m n (subst (λ k. Contains (next_in g k) n) (sym same) e)))
        (λ i. ⊎_elim (λ is. inl (still n is))
        (λ b. ⊎_elim (λ same. inl (subst (IsEntered (set entered x true)) same now_entered)) (λ u. inr (before_pushed (next_in g x) (Leave x ∷ tasks) m n (open_other m i, u))) b)
        (w.covered m n i e))
        (pushed_open (next_in g x) (Leave x ∷ tasks) m o);
    passed = λ m n has e. still n (w.passed m n has e);
    held = λ y z has none leads. let found : (k : ℕ) × IsOpen tasks k × Same g y k = w.held y z has none leads in (found.0, open_pushed (next_in g x) (Leave x ∷ tasks) found.0 (inr found.1), found.2);
    left = w.left;
  }

-- no node was entered, and all of them wait
entering_open : (count m : ℕ) → IsOpen (entering count) m → ⊥
entering_open zero m o = o
entering_open (suc n) m o = entering_open n m o

entering_waits : (count m : ℕ) → m < count → Waits (entering count) m
entering_waits zero m h = absurd (omega (arith, h))
entering_waits (suc n) m h = ⊎_elim (λ same. inl (sym same)) (λ other. inr (entering_waits n m (omega (arith, h, other)))) (cases_eq m n)

entering_chained : (g : Graph) (count : ℕ) → count ≤ length g → Chained g (entering count)
entering_chained g zero h = tt
entering_chained g (suc n) h = (omega (arith, h), λ m o. absurd (entering_open n m o), entering_chained g n (omega (arith, h)))

pub starts : (g : Graph) (entered : List Bool) (tasks : List Visit) → entered ≡ replicate (length g) false → tasks ≡ entering (length g) → Walk g (length g) entered tasks []
starts g entered tasks none wait = subst (λ t. Walk g (length g) entered t []) (sym wait) (record {
  sized = ap length none ∙ length-replicate (length g) false;
  opened = λ m o. absurd (entering_open (length g) m o);
  gone = λ m has. absurd (has_none m has);
  known = λ m is. absurd (not_one m is);
  coming = λ m h. inr (entering_waits (length g) m h);
  apart = λ m o has. has_none m has;
  chained = entering_chained g (length g) (omega arith);
  covered = λ m n o e. absurd (entering_open (length g) m o);
  passed = λ m n has e. absurd (has_none m has);
  held = λ x y has none leads. absurd (has_none x has);
  left = tt;
})
  where
    differ : false ≡ true → ⊥
    differ e = cc

    not_one : (m : ℕ) → IsEntered entered m → ⊥
    not_one m is = differ (sym (ap (λ e. get_or e m false) none ∙ ⊎_elim (λ h. get_or-replicate (length g) m false false h) (λ h. get_or_past (replicate (length g) false) m false (rw length-replicate h)) (cases_lt m (length g))) ∙ is)

-- no task is left
pub all_left : (g : Graph) (entered : List Bool) (tasks : List Visit) (order : List ℕ) → tasks ≡ [] → Walk g (length g) entered tasks (reverse order) → Leaves g order
all_left g entered tasks order none w = record {
  left = w.left;
  all = λ m h. ⊎_elim (λ is. ⊎_elim (λ o. absurd (subst (λ t. IsOpen t m) none o)) (λ has. has) (w.known m is)) (λ t. absurd (subst (λ t. Waits t m) none t)) (w.coming m h);
}

-- the steps as the code makes them
front : {A : Type 0} (work rest : List A) (last same : A) → work ≡ rest ++ last ∷ [] → last ≡ same → reverse work ≡ same ∷ reverse rest
front work rest last same is e = ap reverse is ∙ reverse-append rest (last ∷ []) ∙ ap (λ k. k ∷ reverse rest) e

entered_read : (entered : List Bool) (x : ℕ) (b v : Bool) → x < length entered → b ≡ get_or entered x b → b ≡ v → get_or entered x false ≡ v
entered_read entered x b v within is e = get_or_default entered x false b within ∙ sym is ∙ e

at_front : (g : Graph) (most : ℕ) (entered : List Bool) (work rest : List Visit) (done : List ℕ) (last same : Visit) → work ≡ rest ++ last ∷ [] → last ≡ same → Walk g most entered (reverse work) done → Walk g most entered (same ∷ reverse rest) done
at_front g most entered work rest done last same is e w = subst (λ t. Walk g most entered t done) (front work rest last same is e) w

pub enter_within : (g : Graph) (most : ℕ) (entered : List Bool) (work rest : List Visit) (done : List ℕ) (last : Visit) (x : ℕ) → work ≡ rest ++ last ∷ [] → last ≡ Enter x → Walk g most entered (reverse work) done → (x < length g) × (x < length entered)
enter_within g most entered work rest done last x is e w =
    let at : Walk g most entered (Enter x ∷ reverse rest) done = at_front g most entered work rest done last (Enter x) is e w in
    let within : x < length g = at.chained.0 in
    (within, omega (arith, within, w.sized))

pub step_leaves : (g : Graph) (most : ℕ) (entered : List Bool) (work rest : List Visit) (order longer : List ℕ) (last : Visit) (p : ℕ) → work ≡ rest ++ last ∷ [] → last ≡ Leave p → longer ≡ order ++ p ∷ [] → Walk g most entered (reverse work) (reverse order) → Walk g most entered (reverse rest) (reverse longer)
step_leaves g most entered work rest order longer last p is e more w =
    subst (λ d. Walk g most entered (reverse rest) d) (sym (front longer order p p more refl))
    (leaves_it g most entered (reverse rest) (reverse order) p (at_front g most entered work rest (reverse order) last (Leave p) is e w))

pub step_passes : (g : Graph) (most : ℕ) (entered : List Bool) (work rest : List Visit) (done : List ℕ) (last : Visit) (x : ℕ) (b : Bool) → work ≡ rest ++ last ∷ [] → last ≡ Enter x → b ≡ get_or entered x b → b ≡ true → Walk g most entered (reverse work) done → Walk g most entered (reverse rest) done
step_passes g most entered work rest done last x b is e read test w =
    passes_it g most entered (reverse rest) done x (entered_read entered x b true (enter_within g most entered work rest done last x is e w).1 read test)
    (at_front g most entered work rest done last (Enter x) is e w)

-- the row of the node, and the tasks with it
pub record Entered (g : Graph) (entered : List Bool) (work rest longer : List Visit) (last : Visit) (x : ℕ) (b : Bool) (row : List ℕ) : Type 0 where
  pub taken : work ≡ rest ++ last ∷ []
  pub enters : last ≡ Enter x
  pub read : b ≡ get_or entered x b
  pub new : b ≡ false
  pub row_is : row ≡ get_or g x row
  pub becomes : longer ≡ (rest ++ Leave x ∷ []) ++ map Enter row

pub step_enters : (g : Graph) (most : ℕ) (entered : List Bool) (work rest longer : List Visit) (done : List ℕ) (last : Visit) (x : ℕ) (b : Bool) (row : List ℕ) → IsGraph g → Entered g entered work rest longer last x b row → Walk g most entered (reverse work) done → Walk g most (set entered x true) (reverse longer) done
step_enters g most entered work rest longer done last x b row whole s w =
    let within : (x < length g) × (x < length entered) = enter_within g most entered work rest done last x s.taken s.enters w in
    let row_same : row ≡ next_in g x = row_read g x row within.0 s.row_is in
    let stack : reverse longer ≡ pushed (next_in g x) (Leave x ∷ reverse rest) =
    ap reverse s.becomes ∙ reverse_pushed row (rest ++ Leave x ∷ []) ∙ ap (pushed row) (reverse-append rest (Leave x ∷ [])) ∙ ap (λ r. pushed r (Leave x ∷ reverse rest)) row_same in
    subst (λ t. Walk g most (set entered x true) t done) (sym stack)
    (enters_it g most entered (reverse rest) done x whole (entered_read entered x b false within.1 s.read s.new) (at_front g most entered work rest done last (Enter x) s.taken s.enters w))

pub step_fewer : (g : Graph) (most : ℕ) (entered : List Bool) (work rest longer : List Visit) (done : List ℕ) (last : Visit) (x : ℕ) (b : Bool) (row : List ℕ) → Entered g entered work rest longer last x b row → Walk g most entered (reverse work) done → length longer + left not (set entered x true) g < length work + left not entered g
step_fewer g most entered work rest longer done last x b row s w =
    let within : (x < length g) × (x < length entered) = enter_within g most entered work rest done last x s.taken s.enters w in
    let row_same : row ≡ next_in g x = row_read g x row within.0 s.row_is in
    let was : not (get_or entered x false) ≡ true = ap not (entered_read entered x b false within.1 s.read s.new) in
    let step : left not entered g ≡ left not (set entered x true) g + suc (length (next_in g x)) = left-set not entered g x false true within.1 w.sized was refl in
    let long : length longer ≡ length ((rest ++ Leave x ∷ []) ++ map Enter row) = ap length s.becomes in
    let short : length work ≡ length (rest ++ last ∷ []) = ap length s.taken in
    let rows : length row ≡ length (next_in g x) = ap length row_same in
    omega (arith, step, long, short, rows, length-append (rest ++ Leave x ∷ []) (map Enter row), length-append rest (Leave x ∷ []), length-append rest (last ∷ []), length-map row Enter)
