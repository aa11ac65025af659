-- A search in a graph, step by step.
use Rattle.std.proofs.Common.{◌≡◌, ◌∙◌, ℕ, zero, suc, ◌+◌, ◌<◌, ◌⊎◌, Bool, true, false, if◌then◌else◌, List, [], ◌∷◌, ◌++◌, length, Option, Some, None, Contains, get_or, set, subst, sym, refl, ap, inl, inr, ⊎_elim, arith}
use Rattle.std.specs.Option.{is_none, is_some}
use Rattle.std.proofs.lemmas.Bool.{cases_eq}
use Rattle.std.proofs.lemmas.List.{get_or_default, length-set, length-append, get_or-set_same, get_or-set_other}
use Rattle.std.proofs.lemmas.List.Elements.{Contains-append_left, Contains-append_right, Contains-push, Contains-push_cases, Contains-append_cases}
use Rattle.da_calls.specs.CallPaths.{Graph, next_in, Edge, IsGraph, Leads, mark, IsMarked, MarkedFrom}
use Rattle.da_calls.proofs.CallReach.{leads_itself, leads_and}

-- the steps that are left, where nodes that pass a test are still to be marked
abbrev pub left : {A : Type 0} → (A → Bool) → List A → Graph → ℕ
left test [] g = 0
left test (m ∷ ms) [] = 0
left test (m ∷ ms) (row ∷ g) = (if test m then suc (length row) else 0) + left test ms g

pub left-set : {A : Type 0} (test : A → Bool) (ms : List A) (g : Graph) (i : ℕ) (d y : A) → i < length ms → length ms ≡ length g → test (get_or ms i d) ≡ true → test y ≡ false → left test ms g ≡ left test (set ms i y) g + suc (length (get_or g i []))
left-set test [] g i d y within sized was now = absurd (omega arith)
left-set test (m ∷ ms) [] i d y within sized was now = absurd (omega arith)
left-set test (m ∷ ms) (row ∷ g) zero d y within sized was now = rw (was, now) (omega arith)
left-set test (m ∷ ms) (row ∷ g) (suc i) d y within sized was now =
    let rest : left test ms g ≡ left test (set ms i y) g + suc (length (get_or g i [])) = left-set test ms g i d y (omega arith) (omega arith) was now in
    rw rest (omega arith)

-- between two steps: the nodes of `work` are still to be seen
pub record Marking (g : Graph) (from : ℕ) (old now : List (Option ℕ)) (work : List ℕ) : Type 0 where
  pub sized : length now ≡ length old
  pub kept : (m l : ℕ) → mark old m ≡ Some l → mark now m ≡ Some l
  pub start : IsMarked now from ⊎ Contains work from
  pub found : (m l : ℕ) → mark old m ≡ None → mark now m ≡ Some l → (l ≡ from) × Leads g from m
  pub closed : (m n : ℕ) → mark old m ≡ None → IsMarked now m → Edge g m n → IsMarked now n ⊎ Contains work n
  pub reached : (n : ℕ) → Contains work n → Leads g from n
  pub within : (n : ℕ) → Contains work n → n < length g

-- a number, or no number
pub mark_cases : (o : Option ℕ) → (o ≡ None) ⊎ ((l : ℕ) × (o ≡ Some l))
mark_cases None = inl refl
mark_cases (Some l) = inr (l, refl)

empty_has : (n : ℕ) → Contains {X = ℕ} [] n → ⊥
empty_has n h = omega (arith, h.1)

pub none_or_some : (o : Option ℕ) (l : ℕ) → o ≡ None → o ≡ Some l → ⊥
none_or_some o l a b = cc

pub begins : (g : Graph) (from : ℕ) (old : List (Option ℕ)) → from < length g → Marking g from old old (from ∷ [])
begins g from old within = record {
  sized = refl;
  kept = λ m l is. is;
  start = inr (Contains-push [] from);
  found = λ m l none is. absurd (none_or_some _ l none is);
  closed = λ m n none is e. absurd (none_or_some _ is.0 none is.1);
  reached = λ n has. ⊎_elim (λ h. absurd (empty_has n h)) (λ e. subst (λ n. Leads g from n) e (leads_itself (next_in g) from)) (Contains-push_cases [] from n has);
  within = λ n has. ⊎_elim (λ h. absurd (empty_has n h)) (λ e. subst (λ n. n < length g) e within) (Contains-push_cases [] from n has);
}

-- the last node that is to be seen is one of the graph
pub taken_within : (g : Graph) (from : ℕ) (old now : List (Option ℕ)) (work rest : List ℕ) (x : ℕ) → work ≡ rest ++ x ∷ [] → Marking g from old now work → x < length g
taken_within g from old now work rest x is was = was.within x (subst (λ w. Contains w x) (sym is) (Contains-push rest x))

-- it has a mark
pub skips : (g : Graph) (from : ℕ) (old now : List (Option ℕ)) (work rest : List ℕ) (x : ℕ) → work ≡ rest ++ x ∷ [] → IsMarked now x → Marking g from old now work → Marking g from old now rest
skips g from old now work rest x is marked was = record {
  sized = was.sized;
  kept = was.kept;
  start = ⊎_elim (λ s. inl s) (seen from) was.start;
  found = was.found;
  closed = λ m n none has e. ⊎_elim (λ s. inl s) (seen n) (was.closed m n none has e);
  reached = λ n has. was.reached n (before n has);
  within = λ n has. was.within n (before n has);
}
  where
    before : (n : ℕ) → Contains rest n → Contains work n
    before n has = subst (λ w. Contains w n) (sym is) (Contains-append_left rest (x ∷ []) n has)

    seen : (n : ℕ) → Contains work n → IsMarked now n ⊎ Contains rest n
    seen n has = ⊎_elim (λ h. inr h) (λ e. inl (subst (IsMarked now) e marked)) (Contains-push_cases rest x n (subst (λ w. Contains w n) is has))

-- it has none, and gets one
mark_same : (now : List (Option ℕ)) (x l : ℕ) → x < length now → mark (set now x (Some l)) x ≡ Some l
mark_same now x l within = get_or-set_same now x (Some l) None within

mark_other : (now : List (Option ℕ)) (x l m : ℕ) → (m ≡ x → ⊥) → mark (set now x (Some l)) m ≡ mark now m
mark_other now x l m other = get_or-set_other now x m (Some l) None other

pub marks_it : (g : Graph) (from : ℕ) (old now : List (Option ℕ)) (work rest : List ℕ) (x : ℕ) → IsGraph g → length old ≡ length g → work ≡ rest ++ x ∷ [] → mark now x ≡ None → Marking g from old now work → Marking g from old (set now x (Some from)) (rest ++ next_in g x)
marks_it g from old now work rest x whole size is none was = record {
  sized = length-set now x (Some from) ∙ was.sized;
  kept = λ m l e. ⊎_elim (λ same. absurd (none_or_some (mark now x) l none (ap (mark now) (sym same) ∙ was.kept m l e))) (λ other. mark_other now x from m other ∙ was.kept m l e) (cases_eq m x);
  start = ⊎_elim (λ s. inl (stays from s)) (later from) was.start;
  found = λ m l was_none e. ⊎_elim
      (λ same. (some_same l from (sym e ∙ ap (mark (set now x (Some from))) same ∙ mark_same now x from x_lt), subst (λ n. Leads g from n) (sym same) to_x))
      (λ other. was.found m l was_none (sym (mark_other now x from m other) ∙ e))
      (cases_eq m x);
  closed = λ m n was_none has e. ⊎_elim
      (λ same. inr (Contains-append_right rest (next_in g x) n (subst (λ k. Contains (next_in g k) n) same e)))
      (λ other. ⊎_elim (λ s. inl (stays n s)) (later n) (was.closed m n was_none (has.0, sym (mark_other now x from m other) ∙ has.1) e))
      (cases_eq m x);
  reached = λ n has. ⊎_elim (λ h. was.reached n (before n h)) (λ h. leads_and n to_x h) (Contains-append_cases rest (next_in g x) n has);
  within = λ n has. ⊎_elim (λ h. was.within n (before n h)) (λ h. whole x n h) (Contains-append_cases rest (next_in g x) n has);
}
  where
    some_same : (a b : ℕ) → Some a ≡ Some b → a ≡ b
    some_same a b e = cc

    at_end : Contains work x
    at_end = subst (λ w. Contains w x) (sym is) (Contains-push rest x)

    to_x : Leads g from x
    to_x = was.reached x at_end

    x_lt : x < length now
    x_lt = let h : x < length g = was.within x at_end in omega (arith, h, size, was.sized)

    before : (n : ℕ) → Contains rest n → Contains work n
    before n has = subst (λ w. Contains w n) (sym is) (Contains-append_left rest (x ∷ []) n has)

    stays : (n : ℕ) → IsMarked now n → IsMarked (set now x (Some from)) n
    stays n s = ⊎_elim (λ same. absurd (none_or_some (mark now x) s.0 none (ap (mark now) (sym same) ∙ s.1))) (λ other. (s.0, mark_other now x from n other ∙ s.1)) (cases_eq n x)

    later : (n : ℕ) → Contains work n → IsMarked (set now x (Some from)) n ⊎ Contains (rest ++ next_in g x) n
    later n has = ⊎_elim (λ h. inr (Contains-append_left rest (next_in g x) n h)) (λ e. inl (subst (IsMarked (set now x (Some from))) e (from, mark_same now x from x_lt))) (Contains-push_cases rest x n (subst (λ w. Contains w n) is has))

pub ends : (g : Graph) (from : ℕ) (old now : List (Option ℕ)) (work : List ℕ) → work ≡ [] → Marking g from old now work → MarkedFrom g from old now
ends g from old now work is was = record {
  sized = was.sized;
  kept = was.kept;
  start = ⊎_elim (λ s. s) (λ h. nothing from h) was.start;
  found = was.found;
  closed = λ m n none has e. ⊎_elim (λ s. s) (λ h. nothing n h) (was.closed m n none has e);
}
  where
    nothing : {B : Type 0} (n : ℕ) → Contains work n → B
    nothing n h = absurd (empty_has n (subst (λ w. Contains w n) is h))

-- the measure falls
pub fewer_left : (g : Graph) (now : List (Option ℕ)) (work rest : List ℕ) (x from : ℕ) → work ≡ rest ++ x ∷ [] → x < length now → length now ≡ length g → mark now x ≡ None → length (rest ++ next_in g x) + left is_none (set now x (Some from)) g < length work + left is_none now g
fewer_left g now work rest x from is within size none =
    let open_ : is_none (get_or now x None) ≡ true = ap is_none none in
    let step : left is_none now g ≡ left is_none (set now x (Some from)) g + suc (length (next_in g x)) = left-set is_none now g x None (Some from) within size open_ refl in
    let long : length work ≡ length (rest ++ x ∷ []) = ap length is in
    omega (arith, step, long, length-append rest (x ∷ []), length-append rest (next_in g x))

-- what the test says
pub none_from_test : (o : Option ℕ) → is_some o ≡ false → o ≡ None
none_from_test None e = refl
none_from_test (Some l) e = cc

pub mark_from_test : (o : Option ℕ) → is_some o ≡ true → (l : ℕ) × (o ≡ Some l)
mark_from_test None e = absurd (differ e)
  where
    differ : false ≡ true → ⊥
    differ e = cc
mark_from_test (Some l) e = (l, refl)

-- a row that was read
pub row_read : (g : Graph) (x : ℕ) (row : List ℕ) → x < length g → row ≡ get_or g x row → row ≡ next_in g x
row_read g x row within is = is ∙ get_or_default g x row [] within
