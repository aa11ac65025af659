-- Marks of cycles, step by step.
use Rattle.std.proofs.Common.{◌≡◌, ◌∙◌, ◌↔◌, ℕ, ◌+◌, ◌<◌, ◌≤◌, ◌⊎◌, List, [], ◌∷◌, ◌++◌, length, Option, Some, None, take, drop, ◌-◌, replicate, reverse, Contains, get_or, set, subst, sym, refl, ap, inl, inr, ⊎_elim, arith}
use Rattle.std.proofs.lemmas.Bool.{cases_eq, cases_lt}
use Rattle.std.proofs.lemmas.List.{length-set, length-replicate, get_or-set_same, get_or-set_other, get_or-replicate, get_or_past, reverse-append, take_more, take_all, drop_all, append-nil}
use Rattle.std.proofs.lemmas.List.Elements.{Contains-append_left, Contains-push, Contains-push_cases}
use Rattle.da_calls.specs.CallPaths.{here, on, Graph, next_in, Edge, IsGraph, Leads, mark, IsMarked, MarkedFrom}
use Rattle.da_calls.specs.CallOrder.{Same, IsSealed, AreLeft, Leaves}
use Rattle.da_calls.specs.CallCycles.{IsTurned, AddsSteps, MarksCycles}
use Rattle.da_calls.proofs.CallReach.{leads_itself, leads_through, leads_once, leads_and, leads_within}
use Rattle.da_calls.proofs.CallOrder.{has_cases, has_none, has_or_not}
use Rattle.da_calls.proofs.CallSearch.{mark_cases, none_or_some}

-- what has a step is a node
pub edge_within : (g : Graph) (m n : ℕ) → Edge g m n → m < length g
edge_within g m n e = ⊎_elim (λ h. h) (λ past. absurd (has_none n (subst (λ row. Contains row n) (get_or_past g m [] past) e))) (cases_lt m (length g))

-- ways turned round
pub turned_way : (g back : Graph) (n m : ℕ) → IsTurned g back → Leads back m n → Leads g n m
turned_way g back n m t (here k e) = here n (sym e)
turned_way g back n m t (on k j s p) = leads_and m (turned_way g back n j t p) ((t.turns j m).0 s)

pub way_turned : (g back : Graph) (n m : ℕ) → IsTurned g back → Leads g m n → Leads back n m
way_turned g back n m t (here k e) = here n (sym e)
way_turned g back n m t (on k j s p) = leads_and m (way_turned g back n j t p) ((t.turns m j).1 s)

pub turned_graph : (g back : Graph) → IsTurned g back → IsGraph back
turned_graph g back t = λ n m e. subst (λ size. m < size) (sym t.sized) (edge_within g m n ((t.turns m n).0 e))

-- the cycles of all nodes but those of `rest`, which were left before them, are marked
pub record Cycling (g : Graph) (rest : List ℕ) (marks : List (Option ℕ)) : Type 0 where
  pub sized : length marks ≡ length g
  pub outside : (m : ℕ) → m < length g → (Contains rest m → ⊥) → IsMarked marks m
  pub whole : (m k : ℕ) → IsMarked marks m → Same g m k → mark marks k ≡ mark marks m
  pub own : (m l : ℕ) → mark marks m ≡ Some l → Same g m l
  pub left : AreLeft g rest

same_back : (g : Graph) (m n : ℕ) → Same g m n → Same g n m
same_back g m n s = (s.1, s.0)

same_through : (g : Graph) (m n k : ℕ) → Same g m n → Same g n k → Same g m k
same_through g m n k s t = (leads_through s.0 t.0, leads_through t.1 s.1)

sealed_rest : (g : Graph) (rest : List ℕ) → AreLeft g rest → IsSealed g rest
sealed_rest g [] left = λ x y has none leads. absurd (has_none x has)
sealed_rest g (q ∷ rest) left = left.0.sealed

-- the next node marks its cycle
module _ (g back : Graph) (p : ℕ) (rest : List ℕ) (old new : List (Option ℕ)) (is_graph : IsGraph g) (t : IsTurned g back) (w : Cycling g (p ∷ rest) old) (s : MarkedFrom back p old new) where
  node_within : p < length g
  node_within = w.left.0.within

  not_marked : (y : ℕ) → mark old y ≡ None → IsMarked old y → ⊥
  not_marked y none is = none_or_some (mark old y) is.0 none is.1

  -- a node outside has a mark, and so has each node of its cycle
  outside_none : {B : Type 0} (y z : ℕ) → mark old y ≡ None → Same g z y → z < length g → (Contains (p ∷ rest) z → ⊥) → B
  outside_none y z none same within out =
      let is : IsMarked old z = w.outside z within out in
      absurd (not_marked y none (is.0, w.whole z y is same ∙ is.1))

  -- who gets a mark now is on the cycle of p
  on_cycle : (y : ℕ) → mark old y ≡ None → Leads back p y → Same g p y
  on_cycle y none way =
      let to_p : Leads g y p = turned_way g back y p t way in
      let y_within : y < length g = subst (λ size. y < size) t.sized (leads_within back y p (turned_graph g back t) (subst (λ size. p < size) (sym t.sized) node_within) way) in
      ⊎_elim
      (λ inside. let found : (z : ℕ) × (Contains rest z → ⊥) × Same g y z = sealed_rest g rest w.left.1 y p inside w.left.0.fresh to_p in
      ⊎_elim
      (λ same. same_back g y p (subst (λ k. Same g y k) same found.2))
      (λ other. outside_none y found.0 none (same_back g y found.0 found.2) (leads_within g found.0 y is_graph y_within found.2.0)
      (λ has. ⊎_elim (λ e. other (sym e)) found.1 (has_cases p rest found.0 has)))
      (cases_eq found.0 p))
      (λ out. ⊎_elim
      (λ same. subst (λ k. Same g p k) (sym same) (leads_itself (next_in g) p, leads_itself (next_in g) p))
      (λ other. outside_none y y none (leads_itself (next_in g) y, leads_itself (next_in g) y) y_within
      (λ has. ⊎_elim (λ e. other (sym e)) out (has_cases p rest y has)))
      (cases_eq y p))
      (has_or_not rest y)

  newly : (y : ℕ) → mark old y ≡ None → IsMarked new y → Same g p y × (mark new y ≡ Some p)
  newly y none is =
      let f : (is.0 ≡ p) × Leads back p y = s.found y is.0 none is.1 in
      (on_cycle y none f.1, is.1 ∙ ap Some f.0)

  -- a node of the cycle of one that had no mark had none
  cycle_none : (m k : ℕ) → mark old m ≡ None → Same g m k → mark old k ≡ None
  cycle_none m k none same =
      ⊎_elim (λ is. is) (λ has. absurd (not_marked m none (has.0, w.whole k m has (same_back g m k same) ∙ has.1))) (mark_cases (mark old k))

  -- the mark comes to every node of the cycle
  comes : (k a : ℕ) → IsMarked new a → mark old a ≡ None → Same g p a → Same g p k → Leads back a k → IsMarked new k
  comes k a is none to_a to_k (here b e) = subst (IsMarked new) e is
  comes k a is none to_a to_k (on b j step way) =
      let before : Edge g j a = (t.turns j a).0 step in
      let to_j : Same g p j = (leads_through to_k.0 (turned_way g back k j t way), leads_through (leads_once (next_in g) j a before) to_a.1) in
      comes k j (s.closed a j none is step) (cycle_none a j none (same_through g a p j (same_back g p a to_a) to_j)) to_j to_k way

  cycle_marked : (k : ℕ) → mark old k ≡ None → Same g p k → mark new k ≡ Some p
  cycle_marked k none same =
      (newly k none (comes k p s.start (cycle_none k p none (same_back g p k same)) (leads_itself (next_in g) p, leads_itself (next_in g) p) same (way_turned g back p k t same.1))).1

  pub marks_cycle : Cycling g rest new
  marks_cycle = record {
    sized = s.sized ∙ w.sized;
    outside = λ m within out. ⊎_elim
        (λ same. subst (IsMarked new) (sym same) s.start)
        (λ other. let is : IsMarked old m = w.outside m within (λ has. ⊎_elim (λ e. other (sym e)) out (has_cases p rest m has)) in (is.0, s.kept m is.0 is.1))
        (cases_eq m p);
    whole = λ m k is same. ⊎_elim
        (λ none. let n : Same g p m × (mark new m ≡ Some p) = newly m none is in
        cycle_marked k (cycle_none m k none same) (same_through g p m k n.0 same) ∙ sym n.1)
        (λ was. s.kept k was.0 (w.whole m k was same ∙ was.1) ∙ sym (s.kept m was.0 was.1))
        (mark_cases (mark old m));
    own = λ m l is. ⊎_elim
        (λ none. let n : Same g p m × (mark new m ≡ Some p) = newly m none (l, is) in subst (λ k. Same g m k) (some_same p l (sym n.1 ∙ is)) (same_back g p m n.0))
        (λ was. w.own m l (was.1 ∙ sym (s.kept m was.0 was.1) ∙ is))
        (mark_cases (mark old m));
    left = w.left.1;
  }
    where
      some_same : (a b : ℕ) → Some a ≡ Some b → a ≡ b
      some_same a b e = cc

-- no node has a mark, and all are left
pub cycles_begin : (g : Graph) (order : List ℕ) (marks : List (Option ℕ)) → marks ≡ replicate (length g) None → Leaves g order → Cycling g (reverse order) marks
cycles_begin g order marks none leaves = record {
  sized = ap length none ∙ length-replicate (length g) None;
  outside = λ m within out. absurd (out (leaves.all m within));
  whole = λ m k is same. absurd (no_mark m is.0 is.1);
  own = λ m l is. absurd (no_mark m l is);
  left = leaves.left;
}
  where
    unmarked : (m : ℕ) → get_or (replicate {A = Option ℕ} (length g) None) m None ≡ None
    unmarked m = ⊎_elim (λ h. get_or-replicate (length g) m None None h) (λ h. get_or_past (replicate (length g) None) m None (rw length-replicate h)) (cases_lt m (length g))

    no_mark : (m l : ℕ) → mark marks m ≡ Some l → ⊥
    no_mark m l is = none_or_some (mark marks m) l (ap (λ ms. mark ms m) none ∙ unmarked m) is

-- all the cycles are marked
pub cycles_end : (g : Graph) (rest : List ℕ) (marks : List (Option ℕ)) → rest ≡ [] → Cycling g rest marks → MarksCycles g marks
cycles_end g rest marks empty w = record {
  sized = w.sized;
  same = λ m n m_within n_within. (
    (λ e. let is : IsMarked marks m = at m m_within in same_through g m is.0 n (w.own m is.0 is.1) (same_back g n is.0 (w.own n is.0 (sym e ∙ is.1)))),
    (λ same. sym (w.whole m n (at m m_within) same)),
  );
}
  where
    at : (m : ℕ) → m < length g → IsMarked marks m
    at m within = w.outside m within (λ has. has_none m (subst (λ r. Contains r m) empty has))

-- the step of the code, which goes through the order from its end
rest_step : (order : List ℕ) (k d : ℕ) → k < length order → reverse (take (k + 1) order) ≡ get_or order k d ∷ reverse (take k order)
rest_step order k d within = ap reverse (take_more order k d within) ∙ reverse-append (take k order) (get_or order k d ∷ [])

pub front_cycles : (g : Graph) (order : List ℕ) (left d : ℕ) (marks : List (Option ℕ)) → 0 < left → left ≤ length order → Cycling g (reverse (take left order)) marks → Cycling g (get_or order (left - 1) d ∷ reverse (take (left - 1) order)) marks
front_cycles g order left d marks some within w =
    let here_ : left - 1 < length order = omega (arith, some, within) in
    let one_more : left ≡ (left - 1) + 1 = omega (arith, some) in
    subst (λ rest. Cycling g rest marks) (rest_step order (left - 1) d here_) (subst (λ k. Cycling g (reverse (take k order)) marks) one_more w)

pub next_cycles : (g back : Graph) (order : List ℕ) (left d : ℕ) (old new : List (Option ℕ)) → IsGraph g → IsTurned g back → 0 < left → left ≤ length order → MarkedFrom back (get_or order (left - 1) d) old new → Cycling g (reverse (take left order)) old → Cycling g (reverse (take (left - 1) order)) new
next_cycles g back order left d old new is_graph t some within s w =
    marks_cycle g back (get_or order (left - 1) d) (reverse (take (left - 1) order)) old new is_graph t (front_cycles g order left d old some within w) s

-- what is written back to a vector of which all elements were lent
pub written_back : {A : Type 0} (len : ℕ) (items new : List A) → len ≡ length items → length new ≡ length items → take len (new ++ drop (length new) items) ≡ new
written_back len items new whole same =
    let none_behind : drop (length new) items ≡ [] = drop_all (length new) items (omega (arith, same)) in
    ap (λ behind. take len (new ++ behind)) none_behind ∙ ap (take len) (append-nil new) ∙ take_all len new (omega (arith, whole, same))

-- the steps from the first nodes are turned
pub record Turning (g : Graph) (count : ℕ) (back : Graph) : Type 0 where
  pub sized : length back ≡ length g
  pub turns : (m n : ℕ) → Edge back n m ↔ ((m < count) × Edge g m n)

no_edge : (size m n : ℕ) → Edge (replicate size []) m n → ⊥
no_edge size m n e = has_none n (subst (λ row. Contains row n) (⊎_elim (λ h. get_or-replicate size m [] [] h) (λ h. get_or_past (replicate size []) m [] (rw length-replicate h)) (cases_lt m size)) e)

pub turning_none : (g back : Graph) → back ≡ replicate (length g) [] → Turning g 0 back
turning_none g back is = record {
  sized = ap length is ∙ length-replicate (length g) [];
  turns = λ m n. ((λ e. absurd (no_edge (length g) n m (subst (λ b. Edge b n m) is e))), (λ h. absurd (omega (arith, h.0))));
}

pub turning_more : (g old new : Graph) (node : ℕ) → AddsSteps node (next_in g node) old new → Turning g node old → Turning g (node + 1) new
turning_more g old new node added was = record {
  sized = added.sized ∙ was.sized;
  turns = λ m n. (
    (λ e. ⊎_elim
        (λ before. let h : (m < node) × Edge g m n = (was.turns m n).0 before in (omega (arith, h.0), h.1))
        (λ now. (omega (arith, now.0), subst (λ k. Edge g k n) (sym now.0) now.1))
        ((added.adds m n).0 e)),
    (λ h. ⊎_elim
        (λ same. (added.adds m n).1 (inr (same, subst (λ k. Edge g k n) same h.1)))
        (λ other. (added.adds m n).1 (inl ((was.turns m n).1 (omega (arith, h.0, other), h.1))))
        (cases_eq m node)),
  );
}

pub turning_all : (g back : Graph) → Turning g (length g) back → IsTurned g back
turning_all g back w = record {
  sized = w.sized;
  turns = λ m n. ((λ e. ((w.turns m n).0 e).1), (λ e. (w.turns m n).1 (edge_within g m n e, e)));
}

-- steps to one node
pub adds_none : (to : ℕ) (graph : Graph) → AddsSteps to [] graph graph
adds_none to graph = record { sized = refl; adds = λ m n. ((λ e. inl e), (λ h. ⊎_elim (λ e. e) (λ k. absurd (has_none n k.1)) h)) }

pub adds_more : (to : ℕ) (nodes longer : List ℕ) (node : ℕ) (old now : Graph) (row row' : List ℕ) → longer ≡ nodes ++ node ∷ [] → node < length now → row ≡ next_in now node → row' ≡ row ++ to ∷ [] → AddsSteps to nodes old now → AddsSteps to longer old (set now node row')
adds_more to nodes longer node old now row row' is within read more was = record {
  sized = length-set now node row' ∙ was.sized;
  adds = λ m n. ⊎_elim
      (λ same.
      let new_row : next_in (set now node row') n ≡ next_in now n ++ to ∷ [] =
      ap (next_in (set now node row')) same ∙ get_or-set_same now node row' [] within ∙ more ∙ ap (λ r. r ++ to ∷ []) (read ∙ ap (next_in now) (sym same)) in (
        (λ e. ⊎_elim
            (λ before. from_before m n ((was.adds m n).0 before))
            (λ last. inr (sym last, in_longer n same))
            (Contains-push_cases (next_in now n) to m (subst (λ r. Contains r m) new_row e))),
        (λ h. subst (λ r. Contains r m) (sym new_row) (⊎_elim
            (λ before. Contains-append_left (next_in now n) (to ∷ []) m ((was.adds m n).1 (inl before)))
            (λ now_. subst (λ k. Contains (next_in now n ++ to ∷ []) k) (sym now_.0) (Contains-push (next_in now n) to))
            h)),
      ))
      (λ other.
      let same_row : next_in (set now node row') n ≡ next_in now n = get_or-set_other now node n row' [] other in (
        (λ e. from_before m n ((was.adds m n).0 (subst (λ r. Contains r m) same_row e))),
        (λ h. subst (λ r. Contains r m) (sym same_row) ((was.adds m n).1 (⊎_elim (λ before. inl before) (λ now_. inr (now_.0, still n other now_.1)) h))),
      ))
      (cases_eq n node);
}
  where
    in_longer : (n : ℕ) → n ≡ node → Contains longer n
    in_longer n same = subst (λ l. Contains l n) (sym is) (subst (λ k. Contains (nodes ++ node ∷ []) k) (sym same) (Contains-push nodes node))

    from_before : (m n : ℕ) → (Edge old n m ⊎ ((m ≡ to) × Contains nodes n)) → Edge old n m ⊎ ((m ≡ to) × Contains longer n)
    from_before m n h = ⊎_elim (λ e. inl e) (λ k. inr (k.0, subst (λ l. Contains l n) (sym is) (Contains-append_left nodes (node ∷ []) n k.1))) h

    still : (n : ℕ) → (n ≡ node → ⊥) → Contains longer n → Contains nodes n
    still n other has = ⊎_elim (λ h. h) (λ e. absurd (other (sym e))) (Contains-push_cases nodes node n (subst (λ l. Contains l n) is has))
